-- Lists of exclusions that grow, the newest first.
use Rattle.std.specs.Prelude.{ℕ, ◌≡◌, List, [], ◌∷◌, length, not, false, if◌then◌else◌}
use Rattle.std.specs.List.{filter}
use Rattle.packing_terms.specs.declared.Exclusion.{Exclusion}
use Rattle.packing_terms.specs.Exclusions.{excludes, IsEdgeAmong}
use Rattle.packing_terms.specs.Rounds.{all_exclusions}

-- how many relations are open, among `d` dimensions and `n` boxes
abbrev pub open_count : ℕ → ℕ → List Exclusion → ℕ
open_count d n es = length (filter (λ e. not (excludes es e.dim e.u e.v e.rel)) (all_exclusions d n))

-- the list with one more exclusion on top, where it wasn't excluded; else the list as it was
abbrev pub with_exclusion : List Exclusion → Exclusion → List Exclusion
with_exclusion es e = if excludes es e.dim e.u e.v e.rel then es else e ∷ es

-- each exclusion of the list is at a pair of distinct boxes that are there, and wasn't excluded by
-- those below it
abbrev pub IsTrail : ℕ → ℕ → List Exclusion → Type 0
IsTrail d n [] = Unit {0}
IsTrail d n (e ∷ es) = IsEdgeAmong d n e.dim e.u e.v × (excludes es e.dim e.u e.v e.rel ≡ false) × IsTrail d n es
