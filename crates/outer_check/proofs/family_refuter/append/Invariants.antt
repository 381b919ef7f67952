use Rattle.std.proofs.Common.{◌≡◌, ◌++◌, take, vec_capacity}
use Rattle.outer_check.proofs.family_refuter.append.Given as goal

abbrev pub invariant-loop-k : goal.invariant-loop-k
invariant-loop-k l = (l.family.items ≡ l.initial.family.items ++ take l.k l.boxes)
    × (vec_capacity l.family ≡ vec_capacity l.initial.family)
