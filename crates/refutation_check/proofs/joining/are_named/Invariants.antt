use Rattle.std.proofs.Common.{◌≡◌, drop}
use Rattle.std.specs.List.{list_all}
use Rattle.verdict_terms.specs.Judging.{names_box}
use Rattle.refutation_check.proofs.joining.are_named.Given as goal

abbrev pub invariant-loop-k : goal.invariant-loop-k
invariant-loop-k l = list_all (names_box l.instance) (drop l.begun l.family)
    ≡ list_all (names_box l.instance) (drop l.k l.family)
