-- The stack of all boxes.
use Rattle.std.specs.Prelude.{ℕ, ◌+◌, ◌==◌, List, map, if◌then◌else◌}
use Rattle.packing_terms.specs.Sums.{below}

-- the coordinates of a box in a stack, in d dimensions and with so much below it
abbrev pub stacked : ℕ → ℕ → List ℕ
stacked d height = map (λ i. if i + 1 == d then height else 0) (below d)
