use Rattle.bin_knapsack.proofs.Spreads.{spread_next}
use Rattle.bin_knapsack.proofs.spread.one_box_per_bin.Goals as goal

pub loop-v-preserved : goal.loop-v-preserved
loop-v-preserved c =
    spread_next c.args.instance.now c.loop-v.numbers.items c.push_alone.new.numbers.items c.dims.result c.loop-v.v
    c.loop-v.invariant c.dims.ensures.value
    c.in_ok-push_alone.ensures
