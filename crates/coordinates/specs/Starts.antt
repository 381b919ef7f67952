-- Places by heaviest chains.
use Rattle.std.specs.Prelude.{ℕ, ◌+◌, ◌<◌, List}
use Rattle.packing_terms.specs.Packing.{PlainInstance, side, place}
use Rattle.packing_terms.specs.Exclusions.{Exclusions}
use Rattle.packing_terms.specs.Runs.{IsHeaviestHead}

-- in dimension i each of the first k boxes ends where the heaviest chain that ends in it does
abbrev pub EndsInHeads : PlainInstance → Exclusions → List ℕ → ℕ → ℕ → Type 0
EndsInHeads instance X places i k =
    (v : ℕ) → v < k → IsHeaviestHead instance X i v (place instance places v i + side instance v i)
