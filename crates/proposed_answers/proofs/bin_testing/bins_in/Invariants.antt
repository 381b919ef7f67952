use Rattle.std.proofs.Common.{◌≡◌, map}
use Rattle.packing_terms.specs.Sums.{below}
use Rattle.proposed_answers.proofs.BinNumbers.{bin_at}
use Rattle.proposed_answers.proofs.bin_testing.bins_in.Given as goal

abbrev pub invariant-loop-v : goal.invariant-loop-v
invariant-loop-v l = l.bins.items ≡ map (bin_at l.instance l.numbers) (below l.v)
