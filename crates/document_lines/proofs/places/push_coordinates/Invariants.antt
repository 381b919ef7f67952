use Rattle.std.proofs.Common.{◌≡◌, ◌++◌, ◌≤◌, ◌+◌, take, length, vec_capacity}
use Rattle.document_lines.proofs.places.push_coordinates.Given as goal

abbrev pub invariant-loop-n : goal.invariant-loop-n
invariant-loop-n l = (l.places.items ≡ l.initial.places.items ++ take l.n-index l.numbers)
    × (length l.initial.places.items + length l.numbers ≤ vec_capacity l.places)
