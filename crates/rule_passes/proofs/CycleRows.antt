-- CYCLE by rows of boxes that are joined or not.
use Rattle.std.proofs.Common.{◌≡◌, ◌≢◌, ℕ, refl, sym, Bool, true, false, not, ◌&&◌, List}
use Rattle.std.proofs.lemmas.Bool.{true≢false}
use Rattle.packing_terms.specs.declared.Rel.TheVariants.{Before, After}
use Rattle.packing_terms.specs.declared.Exclusion.{Exclusion}
use Rattle.packing_terms.specs.Packing.{PlainInstance}
use Rattle.packing_terms.specs.Exclusions.{excludes, IsJoined}
use Rattle.packing_terms.proofs.Sets.{excludes_symmetric}
use Rattle.packing_terms.specs.Rules.{Cycle}
use Rattle.edge_state.specs.Work.{IsCovered}
use Rattle.edge_state.proofs.Filters.{covered_cycle}

-- a fourth box that isn't joined with the first, or is with the second, whatever the third
pub covered_fourth : (instance : PlainInstance) (es : List Exclusion) (i a b c d : ℕ) (free first : Bool)
    → (free && not first) ≡ false
    → (b ≢ d → free ≡ false → (excludes es i b d Before ≡ true) × (excludes es i b d After ≡ true))
    → (first ≡ true → excludes es i a d Before ≡ true → excludes es i a d After ≡ true → ⊥)
    → IsCovered instance (excludes es) es (Cycle i a b c d)
covered_fourth instance es i a b c d true first off excluded some =
    covered_cycle instance es i a b c d true false first off excluded (λ e. absurd (true≢false (sym e))) some
covered_fourth instance es i a b c d false first off excluded some =
    covered_cycle instance es i a b c d false false first refl excluded (λ e. absurd (true≢false (sym e))) some

pub joined_back : (es : List Exclusion) (i u v : ℕ) → IsJoined (excludes es) i u v → IsJoined (excludes es) i v u
joined_back es i u v h = (excludes_symmetric es i u v After h.1, excludes_symmetric es i u v Before h.0)

pub unless : (b : Bool) → (b ≡ false → ⊥) → b ≡ true
unless true h = refl
unless false h = absurd (h refl)
