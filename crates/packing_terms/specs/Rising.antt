-- Rising numbers, by recursion.
use Rattle.std.specs.Prelude.{ℕ, ◌<◌, List, [], ◌∷◌}
use Rattle.std.specs.List.{AllByRecursion}

-- each number is less than all behind it
abbrev pub AreRising : List ℕ → Type 0
AreRising [] = Unit {0}
AreRising (v ∷ vs) = AllByRecursion (λ u. v < u) vs × AreRising vs
