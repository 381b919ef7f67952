-- Where a row leaves a box out, an instance of the rule adds nothing there.
use Rattle.std.proofs.Common.{◌≡◌, ◌≢◌, ℕ, ◌<◌, ◌⊎◌, inl, inr, refl, sym, ◌∙◌, Bool, true, false, not, ◌&&◌, ◌||◌, eqb}
use Rattle.std.proofs.Common.{ltb, List}
use Rattle.std.proofs.lemmas.Bool.{true≢false, and_parts, eqb-true, ltb-true, or_parts}
use Rattle.packing_terms.specs.declared.Rel.{Rel}
use Rattle.packing_terms.specs.declared.Rel.TheVariants.{Overlap, Before, After}
use Rattle.packing_terms.specs.declared.Exclusion.{Exclusion}
use Rattle.packing_terms.specs.Packing.{PlainInstance}
use Rattle.packing_terms.specs.Exclusions.{Exclusions, excludes}
use Rattle.packing_terms.specs.Rules.{Rule, Triple, Cycle, Order, Concludes, Premises, IsRuleInstance, dim_of, first_of}
use Rattle.packing_terms.specs.Rules.{second_of}
use Rattle.packing_terms.specs.Applied.{Adds, added, mirror_added}
use Rattle.packing_terms.proofs.Sets.{excludes_symmetric}
use Rattle.edge_state.specs.Edges.{is_other_box}
use Rattle.edge_state.proofs.Needed.{order_shut}
use Rattle.edge_state.proofs.Kept.{row_open, row_shut}
use Rattle.edge_state.specs.Work.{IsCovered}
use Rattle.edge_state.proofs.Worked.{covered_if, covered_not}

pub minus_off : (a b : Bool) → (a && not b) ≡ false → (a ≡ false) ⊎ (b ≡ true)
minus_off false b h = inl refl
minus_off true true h = inr refl
minus_off true false h = absurd (true≢false h)

-- a box of a row
pub row_within : (n u v : ℕ) (x b : Bool) → b ≡ is_other_box n u v && x → b ≡ true → v < n
row_within n u v x b e h = ltb-true v n (and_parts _ _ (and_parts _ _ (sym e ∙ h)).0).0

-- a box of two rows
pub either_within : (n u v : ℕ) (a b x y e : Bool) → a ≡ is_other_box n u v && x → b ≡ is_other_box n u v && y
    → e ≡ a || b → e ≡ true → v < n
either_within n u v true b x y e ha hb he h = ltb-true v n (and_parts _ _ (and_parts _ _ (sym ha)).0).0
either_within n u v false b x y e ha hb he h = ltb-true v n (and_parts _ _ (and_parts _ _ (sym hb ∙ (sym he ∙ h))).0).0

pub either_shut : (n i u v : ℕ) (X : Exclusions) (r s : Rel) (a b e : Bool) → v < n → u ≢ v
    → a ≡ is_other_box n u v && not (X i u v r)
    → b ≡ is_other_box n u v && not (X i u v s) → e ≡ a || b → e ≡ false → (X i u v r ≡ true) × (X i u v s ≡ true)
either_shut n i u v X r s a b e small ne ha hb he off =
    let none = or_parts a b (sym he ∙ off) in
    (row_shut n i u v X r a small ne ha none.0, row_shut n i u v X s b small ne hb none.1)

pub either_some : (n i u v : ℕ) (X : Exclusions) (r s : Rel) (a b e : Bool) → a ≡ is_other_box n u v && not (X i u v r)
    → b ≡ is_other_box n u v && not (X i u v s) → e ≡ a || b → e ≡ true → X i u v r ≡ true → X i u v s ≡ true → ⊥
either_some n i u v X r s true b e ha hb he on f g = true≢false (sym f ∙ row_open n i u v X r true ha refl)
either_some n i u v X r s false b e ha hb he on f g = true≢false (sym g ∙ row_open n i u v X s b hb (sym he ∙ on))

-- all boxes but those of a row
pub gone_within : (n v : ℕ) (all e row : Bool) → all ≡ ltb v n → row ≡ all && not e → row ≡ true → v < n
gone_within n v all e row ha hr on = ltb-true v n (sym ha ∙ (and_parts _ _ (sym hr ∙ on)).0)

pub gone_other : (n v : ℕ) (all e row : Bool) → ltb v n ≡ true → all ≡ ltb v n → row ≡ all && not e
    → row ≡ false → e ≡ true
gone_other n v all e row small ha hr off = go (minus_off all e (sym hr ∙ off))
  where
    go : (all ≡ false) ⊎ (e ≡ true) → e ≡ true
    go (inl f) = absurd (true≢false (sym small ∙ (sym ha ∙ f)))
    go (inr g) = g

-- an instance whose conclusion is excluded wherever its premises hold
pub covered_by : (instance : PlainInstance) (es : List Exclusion) (rule : Rule)
    → (IsRuleInstance instance rule → Premises instance (excludes es) rule → (r : Rel) → Concludes (excludes es) rule r
    → excludes es (dim_of rule) (first_of rule) (second_of rule) r ≡ true)
    → IsCovered instance (excludes es) es rule
covered_by instance es rule h = record { holds = λ i u v r add need. go i u v r add }
  where
    go : (i u v : ℕ) (r : Rel) → Adds instance (excludes es) rule i u v r → excludes es i u v r ≡ true
    go _ _ _ _ (added r is p c) = h is p r c
    go _ _ _ _ (mirror_added r is p c) =
        excludes_symmetric es (dim_of rule) (first_of rule) (second_of rule) r (h is p r c)

-- an instance of distinct boxes whose premises fail
pub covered_never : (instance : PlainInstance) (es : List Exclusion) (rule : Rule)
    → (IsRuleInstance instance rule → Premises instance (excludes es) rule → ⊥)
    → IsCovered instance (excludes es) es rule
covered_never instance es rule fails =
    covered_if instance (excludes es) es rule (λ is. covered_not instance (excludes es) es rule (fails is))

-- a box that isn't in a row, or is the one that was taken out
pub without_off : (a : Bool) (x y : ℕ) → (a && not (eqb x y)) ≡ false → (a ≡ false) ⊎ (x ≡ y)
without_off a x y h = go (minus_off a (eqb x y) h)
  where
    go : (a ≡ false) ⊎ (eqb x y ≡ true) → (a ≡ false) ⊎ (x ≡ y)
    go (inl f) = inl f
    go (inr e) = inr (eqb-true x y e)

joined_rest : (X : Exclusions) (i u v : ℕ) (r : Rel) → r ≢ Overlap → (X i u v Before ≡ true) × (X i u v After ≡ true)
    → X i u v r ≡ true
joined_rest X i u v Overlap ne h = absurd (ne refl)
joined_rest X i u v Before ne h = h.0
joined_rest X i u v After ne h = h.1

pub covered_triple : (instance : PlainInstance) (es : List Exclusion) (i u v x : ℕ) (a b : Bool) → (a && not b) ≡ false
    → (u ≢ v → a ≡ false → (excludes es i u v Before ≡ true) × (excludes es i u v After ≡ true))
    → (b ≡ true → excludes es i x v Overlap ≡ false)
    → IsCovered instance (excludes es) es (Triple i u v x)
covered_triple instance es i u v x a b off shut near =
    covered_by instance es (Triple i u v x) (λ is p r k. go is p r k (minus_off a b off))
  where
    go : IsRuleInstance instance (Triple i u v x) → Premises instance (excludes es) (Triple i u v x) → (r : Rel)
        → r ≢ Overlap → (a ≡ false) ⊎ (b ≡ true)
        → excludes es i u v r ≡ true
    go is p r k (inl f) = joined_rest (excludes es) i u v r k (shut is.1.1.0 f)
    go is p r k (inr g) = absurd (true≢false (sym (excludes_symmetric es i v x Overlap p.1) ∙ near g))

pub covered_cycle : (instance : PlainInstance) (es : List Exclusion) (i a b c d : ℕ) (free third first : Bool)
    → ((free && not third) && not first) ≡ false
    → (b ≢ d → free ≡ false → (excludes es i b d Before ≡ true) × (excludes es i b d After ≡ true))
    → (third ≡ true → excludes es i c d Before ≡ true → excludes es i c d After ≡ true → ⊥)
    → (first ≡ true → excludes es i a d Before ≡ true → excludes es i a d After ≡ true → ⊥)
    → IsCovered instance (excludes es) es (Cycle i a b c d)
covered_cycle instance es i a b c d free third first off shut some_third some_first =
    covered_by instance es (Cycle i a b c d) (λ is p r k. go is p r k (minus_off (free && not third) first off))
  where
    inner : IsRuleInstance instance (Cycle i a b c d) → Premises instance (excludes es) (Cycle i a b c d) → (r : Rel)
        → r ≢ Overlap
        → (free ≡ false) ⊎ (third ≡ true) → excludes es i b d r ≡ true
    inner is p r k (inl f) = joined_rest (excludes es) i b d r k (shut is.1.2.1.1.0 f)
    inner is p r k (inr g) = absurd (some_third g p.2.0 p.2.1)

    go : IsRuleInstance instance (Cycle i a b c d) → Premises instance (excludes es) (Cycle i a b c d) → (r : Rel)
        → r ≢ Overlap
        → ((free && not third) ≡ false) ⊎ (first ≡ true) → excludes es i b d r ≡ true
    go is p r k (inl f) = inner is p r k (minus_off free third f)
    go is p r k (inr g) = absurd (some_first g (excludes_symmetric es i d a After p.3.1)
        (excludes_symmetric es i d a Before p.3.0))

pub covered_order_from : (instance : PlainInstance) (es : List Exclusion) (i a b c d : ℕ) (free last : Bool)
    → (free && not last) ≡ false
    → (b ≢ c → a ≢ c → free ≡ false → (excludes es i b c Overlap ≡ true) ⊎ (excludes es i a c Overlap ≡ true))
    → (last ≡ true → excludes es i d c Overlap ≡ true → excludes es i d c Before ≡ true → ⊥)
    → IsCovered instance (excludes es) es (Order i a b c d)
covered_order_from instance es i a b c d free last off shut some =
    order_shut instance es es i a b c d (λ is p ad bd ac. go is p ac (minus_off free last off))
  where
    gone : (excludes es i b c Overlap ≡ true) ⊎ (excludes es i a c Overlap ≡ true) → excludes es i a c Overlap ≡ false
        → excludes es i c b Overlap ≡ true
    gone (inl h) ac = excludes_symmetric es i b c Overlap h
    gone (inr h) ac = absurd (true≢false (sym h ∙ ac))

    go : IsRuleInstance instance (Order i a b c d) → Premises instance (excludes es) (Order i a b c d)
        → excludes es i a c Overlap ≡ false → (free ≡ false) ⊎ (last ≡ true) → excludes es i c b Overlap ≡ true
    go is p ac (inl f) = gone (shut is.1.2.1.0 is.1.1.1.0 f) ac
    go is p ac (inr g) = absurd (some g (excludes_symmetric es i c d Overlap p.1.0)
        (excludes_symmetric es i c d After p.1.1))

pub covered_order_to : (instance : PlainInstance) (es : List Exclusion) (i a b c d : ℕ) (free first : Bool)
    → (free && not first) ≡ false
    → (c ≢ b → d ≢ b → free ≡ false → (excludes es i c b Overlap ≡ true) ⊎ (excludes es i d b Overlap ≡ true))
    → (first ≡ true → excludes es i a b Overlap ≡ true → excludes es i a b After ≡ true → ⊥)
    → IsCovered instance (excludes es) es (Order i a b c d)
covered_order_to instance es i a b c d free first off shut some =
    order_shut instance es es i a b c d (λ is p ad bd ac. go is p bd (minus_off free first off))
  where
    gone : (excludes es i c b Overlap ≡ true) ⊎ (excludes es i d b Overlap ≡ true) → excludes es i b d Overlap ≡ false
        → excludes es i c b Overlap ≡ true
    gone (inl h) bd = h
    gone (inr h) bd = absurd (true≢false (sym (excludes_symmetric es i d b Overlap h) ∙ bd))

    go : IsRuleInstance instance (Order i a b c d) → Premises instance (excludes es) (Order i a b c d)
        → excludes es i b d Overlap ≡ false → (free ≡ false) ⊎ (first ≡ true) → excludes es i c b Overlap ≡ true
    go is p bd (inl f) = gone (shut (λ e. is.1.2.1.0 (sym e)) (λ e. is.1.2.1.1.0 (sym e)) f) bd
    go is p bd (inr g) = absurd (some g p.0.0 p.0.1)
