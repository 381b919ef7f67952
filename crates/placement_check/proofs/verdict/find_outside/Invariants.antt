use Rattle.std.proofs.Common.{ℕ, ◌<◌}
use Rattle.packing_terms.specs.Packing.{dims}
use Rattle.verdict_terms.specs.Tested.{LiesWithin}
use Rattle.placement_check.proofs.verdict.find_outside.Given as goal

abbrev pub invariant-loop-box_no : goal.invariant-loop-box_no
invariant-loop-box_no l = (v i : ℕ) → v < l.box_no → i < dims l.instance → LiesWithin l.instance l.places v i
