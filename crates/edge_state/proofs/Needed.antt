-- Which instances are needed, and what COMPOSE adds in the place of the others.
use Rattle.std.proofs.Common.{◌≡◌, ◌⊎◌, inl, inr, ℕ, sym, ◌∙◌, Bool, true, false, List}
use Rattle.std.proofs.lemmas.Bool.{true≢false}
use Rattle.packing_terms.specs.declared.Rel.{Rel}
use Rattle.packing_terms.specs.declared.Rel.TheVariants.{Overlap}
use Rattle.packing_terms.specs.declared.Exclusion.{Exclusion}
use Rattle.packing_terms.specs.Packing.{PlainInstance}
use Rattle.packing_terms.specs.Exclusions.{Exclusions, excludes}
use Rattle.packing_terms.specs.Rules.{Rule, Pair, Apart, Triple, Chain, Compose, Cycle, Order, IsRuleInstance, Premises}
use Rattle.packing_terms.specs.Closure.{IsSubset}
use Rattle.packing_terms.specs.Applied.{Adds, added, mirror_added}
use Rattle.packing_terms.proofs.Monotone.{open_less}
use Rattle.packing_terms.proofs.Sets.{excludes_symmetric}
use Rattle.edge_state.specs.Work.{IsCovered, IsNeeded}

-- what is needed by more exclusions is needed by fewer
pub needed_less : (X Y : Exclusions) → IsSubset X Y → (rule : Rule) (r : Rel) → IsNeeded Y rule r → IsNeeded X rule r
needed_less X Y more (Pair i u v) r h = tt
needed_less X Y more (Apart i u v) r h = tt
needed_less X Y more (Triple i u v x) r h = tt
needed_less X Y more (Chain i before u v after) r h = tt
needed_less X Y more (Compose i u v x) r h = tt
needed_less X Y more (Cycle i a b c d) r h = tt
needed_less X Y more (Order i a b c d) r h = (
  h.0,
  open_less X Y more i a d Overlap h.1,
  open_less X Y more i b d Overlap h.2,
  open_less X Y more i a c Overlap h.3,
)

-- ORDER is covered where overlap of its second and its third box is excluded as far as it is needed.
pub order_shut : (instance : PlainInstance) (old new : List Exclusion) (i a b c d : ℕ)
    → (IsRuleInstance instance (Order i a b c d) → Premises instance (excludes old) (Order i a b c d)
    → excludes new i a d Overlap ≡ false → excludes new i b d Overlap ≡ false → excludes new i a c Overlap ≡ false
    → excludes new i c b Overlap ≡ true)
    → IsCovered instance (excludes old) new (Order i a b c d)
order_shut instance old new i a b c d h = record { holds = λ j u v r add need. go j u v r add need }
  where
    go : (j u v : ℕ) (r : Rel) → Adds instance (excludes old) (Order i a b c d) j u v r
        → IsNeeded (excludes new) (Order i a b c d) r → excludes new j u v r ≡ true
    go _ _ _ _ (added r is p k) need = rw need.0 (h is p need.1 need.2 need.3)
    go _ _ _ _ (mirror_added r is p k) need =
        rw need.0 (excludes_symmetric new i c b Overlap (h is p need.1 need.2 need.3))

-- one of two is excluded, and neither is
pub one_of_neither : (x y : Bool) → (x ≡ true) ⊎ (y ≡ true) → x ≡ false → y ≡ false → ⊥
one_of_neither x y (inl h) f g = true≢false (sym h ∙ f)
one_of_neither x y (inr h) f g = true≢false (sym h ∙ g)
