-- A relation excluded at a box and each box of a row.
use Rattle.std.specs.Prelude.{ℕ, zero, suc, ◌≡◌, ◌<◌, Bool, true, List, if◌then◌else◌}
use Rattle.packing_terms.specs.declared.Rel.{Rel}
use Rattle.packing_terms.specs.declared.Exclusion.{Exclusion}
use Rattle.packing_terms.specs.Relations.{mirror}
use Rattle.packing_terms.specs.Exclusions.{Exclusions, exclusion_at}
use Rattle.packing_terms.specs.Steps.{with_exclusion}
use Rattle.edge_state.specs.Answers.{is_empty_mask}

-- the list with the relation of u and each box of the row below a bound, by rising box: one
-- exclusion after another, each where it wasn't excluded
abbrev pub with_row : List Exclusion → ℕ → ℕ → Rel → (ℕ → Bool) → ℕ → List Exclusion
with_row es i u r row zero = es
with_row es i u r row (suc v) = if row v then with_exclusion (with_row es i u r row v) (exclusion_at i u v r)
    else with_row es i u r row v

-- the edge is of u and a box of the row below the bound, or the mirror of one, and the relation is this one
pub data IsTakenAtRow (i u : ℕ) (r : Rel) (row : ℕ → Bool) (n : ℕ) : ℕ → ℕ → ℕ → Rel → Type 0 where
  taken_at : (v : ℕ) → v < n → row v ≡ true → IsTakenAtRow i u r row n i u v r
  mirror_taken_at : (v : ℕ) → v < n → row v ≡ true → IsTakenAtRow i u r row n i v u (mirror r)

-- the mask of u and some box of the row is empty
pub record HasEmptyAt (X : Exclusions) (i u : ℕ) (row : ℕ → Bool) : Type 0 where
  pub box : ℕ
  pub member : row box ≡ true
  pub empty : is_empty_mask X i u box ≡ true
