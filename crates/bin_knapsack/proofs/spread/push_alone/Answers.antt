use Rattle.bin_knapsack.proofs.Spreads.{zero_next}
use Rattle.bin_knapsack.proofs.spread.push_alone.Goals as goal

pub loop-preserved : goal.loop-preserved
loop-preserved c =
    zero_next c.loop.numbers.items c.push-in-loop.new.self.items c.args.numbers.now.items c.args.bin c.loop.counter
    c.loop.invariant c.in-Ok-push.ensures.items
