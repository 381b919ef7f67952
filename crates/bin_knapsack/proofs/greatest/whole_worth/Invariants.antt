use Rattle.bin_knapsack.proofs.Summing.{IsSum}
use Rattle.bin_knapsack.proofs.greatest.whole_worth.Given as goal

abbrev pub invariant-loop-v : goal.invariant-loop-v
invariant-loop-v l = IsSum l.instance l.v l.sum
