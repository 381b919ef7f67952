-- What one instance of a rule adds to a list of exclusions.
use Rattle.std.specs.Prelude.{ℕ, ◌+◌, nat_lt, ◌≡◌, ◌<◌, ◌≤◌, ◌⊎◌, ◌↔◌, List, ◌++◌, Bool, false, not, ◌&&◌, ◌||◌}
use Rattle.std.specs.Prelude.{if◌then◌else◌, IsTrue}
use Rattle.packing_terms.specs.declared.Rel.{Rel}
use Rattle.packing_terms.specs.declared.Rel.TheVariants.{Overlap, Before, After}
use Rattle.packing_terms.specs.declared.Exclusion.{Exclusion}
use Rattle.packing_terms.specs.Packing.{PlainInstance, IsPacking, HasPositiveSides, dims, box_count, container_side}
use Rattle.packing_terms.specs.Relations.{mirror}
use Rattle.packing_terms.specs.Exclusions.{Exclusions, excludes, Respects, exclusion_at}
use Rattle.packing_terms.specs.Rules.{Rule, IsRuleInstance, Premises, Concludes, dim_of, first_of, second_of}
use Rattle.packing_terms.specs.Closure.{IsDerivation, IsSubset}
use Rattle.packing_terms.specs.Steps.{open_count, with_exclusion}

-- this instance of a rule excludes this relation, in this dimension at this pair or at its mirror
pub data Adds (instance : PlainInstance) (X : Exclusions) (rule : Rule) : ℕ → ℕ → ℕ → Rel → Type 0 where
  added : (r : Rel) → IsRuleInstance instance rule → Premises instance X rule → Concludes X rule r
      → Adds instance X rule (dim_of rule) (first_of rule) (second_of rule) r
  mirror_added : (r : Rel) → IsRuleInstance instance rule → Premises instance X rule → Concludes X rule r
      → Adds instance X rule (dim_of rule) (second_of rule) (first_of rule) (mirror r)

-- Exclusions came on top, each of which follows from those below it. So undoing them gives the old
-- list back, what is new has a derivation from what was there, and nothing is lost.
pub record Extends (instance : PlainInstance) (old new : List Exclusion) : Type 0 where
  pub more : List Exclusion
  pub grown : new ≡ more ++ old
  pub derived : (E : Exclusions) → IsDerivation instance E old → IsDerivation instance E new
  pub kept : IsSubset (excludes old) (excludes new)
  pub fewer : open_count (dims instance) (box_count instance) new ≤ open_count (dims instance) (box_count instance) old

-- exclusions came on top: where `changed` is true some, so that fewer relations are open, and else
-- none
pub record IsRuleStep (instance : PlainInstance) (old new : List Exclusion) (changed : Bool) : Type 0 where
  pub extends : Extends instance old new
  pub shrinks : IsTrue changed → open_count (dims instance) (box_count instance) new < open_count (dims instance)
      (box_count instance) old
  pub same : changed ≡ false → new ≡ old

-- the instance of the rule was applied: exactly what was excluded before, or is added by it, is
-- excluded afterwards
pub record IsApplied (instance : PlainInstance) (rule : Rule) (old new : List Exclusion) (changed : Bool) : Type 0 where
  pub step : IsRuleStep instance old new changed
  pub exact : (i u v : ℕ) (r : Rel)
      → IsTrue (excludes new i u v r) ↔ (IsTrue (excludes old i u v r) ⊎ Adds instance (excludes old) rule i u v r)

-- the same in every instance with `d` dimensions and `n` boxes, whatever their sides are
abbrev pub IsAppliedAmong : ℕ → ℕ → Rule → List Exclusion → List Exclusion → Bool → Type 0
IsAppliedAmong d n rule old new changed =
    (instance : PlainInstance) → dims instance ≡ d → box_count instance ≡ n → IsApplied instance rule old new changed

-- every packing of the instance that respects the exclusions before respects those after
abbrev pub KeepsPackings : PlainInstance → List Exclusion → List Exclusion → Type 0
KeepsPackings instance old new =
    (places : List ℕ) → HasPositiveSides instance → IsPacking instance places → Respects instance places (excludes old)
    → Respects instance places (excludes new)

-- the same of every instance with `d` dimensions and `n` boxes
abbrev pub KeepsPackingsAmong : ℕ → ℕ → List Exclusion → List Exclusion → Type 0
KeepsPackingsAmong d n old new =
    (instance : PlainInstance) → dims instance ≡ d → box_count instance ≡ n → KeepsPackings instance old new

-- one relation less at a pair, if it isn't to be kept
abbrev pub narrowed_by : List Exclusion → ℕ → ℕ → ℕ → (Rel → Bool) → Rel → List Exclusion
narrowed_by es i u v keep r = if keep r then es else with_exclusion es (exclusion_at i u v r)

-- whether that is a change
abbrev pub narrows : List Exclusion → ℕ → ℕ → ℕ → (Rel → Bool) → Rel → Bool
narrows es i u v keep r = not (keep r) && not (excludes es i u v r)

-- only the relations to be kept are left at a pair
abbrev pub narrowed : List Exclusion → ℕ → ℕ → ℕ → (Rel → Bool) → List Exclusion
narrowed es i u v keep = narrowed_by (narrowed_by (narrowed_by es i u v keep Overlap) i u v keep Before) i u
    v keep After

abbrev pub is_narrowed : List Exclusion → ℕ → ℕ → ℕ → (Rel → Bool) → Bool
is_narrowed es i u v keep =
    narrows es i u v keep Overlap
    || narrows (narrowed_by es i u v keep Overlap) i u v keep Before
    || narrows (narrowed_by (narrowed_by es i u v keep Overlap) i u v keep Before) i u v keep After

-- the list with before excluded at u, v where these weights of chains together exceed the
-- container's side; else the list as it was
abbrev pub with_chain_exclusion : PlainInstance → List Exclusion → (i u v head tail : ℕ) → List Exclusion
with_chain_exclusion instance es i u v head tail =
    if nat_lt (container_side instance i) (head + tail) then with_exclusion es (exclusion_at i u v Before) else es
