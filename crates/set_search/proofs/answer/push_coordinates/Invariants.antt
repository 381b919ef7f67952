use Rattle.std.proofs.Common.{◌≡◌, ◌≤◌, ◌+◌, ◌*◌, ◌++◌, length, map, get_or, vec_capacity}
use Rattle.packing_terms.specs.Sums.{below}
use Rattle.set_search.proofs.answer.push_coordinates.Given as goal

abbrev pub invariant-loop-i : goal.invariant-loop-i
invariant-loop-i l =
    (l.into.items ≡ l.fn.into.items ++ map (λ i. get_or l.numbers (l.k * l.dims + i) 0) (below l.i))
    × (length l.fn.into.items + l.dims ≤ vec_capacity l.into)
