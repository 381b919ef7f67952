-- Each box alone in a bin.
use Rattle.std.specs.Prelude.{ℕ, List, ◌∷◌, map}
use Rattle.packing_terms.specs.Sums.{below}

-- a box's bin, and the box at the origin, in d dimensions
abbrev pub alone : ℕ → ℕ → List ℕ
alone d bin = bin ∷ map (λ i. 0) (below d)
