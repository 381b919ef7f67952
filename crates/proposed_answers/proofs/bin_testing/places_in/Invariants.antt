use Rattle.std.proofs.Common.{◌≡◌}
use Rattle.std.specs.List.{flat_map}
use Rattle.packing_terms.specs.Sums.{below}
use Rattle.proposed_answers.proofs.BinNumbers.{row_at}
use Rattle.proposed_answers.proofs.bin_testing.places_in.Given as goal

abbrev pub invariant-loop-v : goal.invariant-loop-v
invariant-loop-v l = l.places.items ≡ flat_map (row_at l.instance l.numbers) (below l.v)
