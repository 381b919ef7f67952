use Rattle.std.proofs.Common.{◌≡◌, true, slice_index, take}
use Rattle.std.specs.List.{list_all}
use Rattle.packing_terms.specs.Exclusions.{excludes}
use Rattle.verdict_terms.specs.FamilyJudging.{is_beside}
use Rattle.refutation_check.proofs.joining.is_beside_all.Given as goal

abbrev pub invariant-loop-j : goal.invariant-loop-j
invariant-loop-j l =
    list_all (λ u. is_beside (excludes l.state.trail) l.dim u (slice_index l.family l.k)) (take l.j l.family) ≡ true
