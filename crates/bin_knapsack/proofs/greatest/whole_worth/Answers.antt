use Rattle.std.proofs.Common.{arith}
use Rattle.bin_knapsack.proofs.Summing.{sum_next}
use Rattle.bin_knapsack.proofs.greatest.whole_worth.Goals as goal

pub loop-v-preserved : goal.loop-v-preserved
loop-v-preserved c =
    sum_next c.args.instance.now c.len-v-end.ensures.limits c.loop-v.v c.loop-v.sum c.value-sum.result (omega arith)
    c.loop-v.invariant c.value-sum.ensures
