-- What is excluded by whole rows: the rules that it follows by, and the instances that it covers.
use Rattle.std.proofs.Common.{◌≡◌, ◌≢◌, ℕ, ◌<◌, ◌⊎◌, inl, inr, refl, sym, ap, subst, ◌∙◌, Bool, true, false, not, ◌&&◌, ◌||◌}
use Rattle.std.proofs.Common.{List, eqb}
use Rattle.std.proofs.lemmas.Bool.{true≢false, and_parts, or_cases, or_parts, eqb-true, cases_Bool}
use Rattle.packing_terms.specs.declared.Rel.{Rel}
use Rattle.packing_terms.specs.declared.Rel.TheVariants.{Overlap, Before, After}
use Rattle.packing_terms.specs.declared.Exclusion.{Exclusion}
use Rattle.packing_terms.specs.Relations.{allows}
use Rattle.packing_terms.specs.Packing.{PlainInstance, dims, box_count}
use Rattle.packing_terms.specs.Exclusions.{Exclusions, excludes, is_same_rel}
use Rattle.packing_terms.specs.Rules.{Rule, Triple, Compose, Cycle, Order, IsRuleInstance, Premises, Concludes, Follows}
use Rattle.packing_terms.specs.Rules.{by_rule, mirrored, dim_of, first_of, second_of}
use Rattle.packing_terms.proofs.Sets.{excludes_symmetric}
use Rattle.packing_terms.specs.Applied.{Adds, added, mirror_added}
use Rattle.edge_state.specs.Edges.{PlainEdges, is_other_box}
use Rattle.edge_state.proofs.Kept.{row_open, row_shut, open_is}
use Rattle.edge_state.proofs.RowSteps.{box_apart}
use Rattle.edge_state.proofs.Tables.{other_from}
use Rattle.edge_state.proofs.Filters.{minus_off}
use Rattle.edge_state.specs.Work.{HasApplied, IsCovered}
use Rattle.edge_state.proofs.Worked.{worked_as, worked_then}
use Rattle.rule_passes.specs.Reached.{NoRule, composed}
use Rattle.rule_passes.proofs.RowStates.{other_there}

-- exclusions came on top by which these instances are covered
pub worked_from : (instance : PlainInstance) (a b : PlainEdges) (lost : Bool) (R : Rule → Type 0)
    → (lost ≡ false → (rule : Rule) → R rule → IsCovered instance (excludes a.trail) b.trail rule)
    → HasApplied instance a b lost NoRule → HasApplied instance a b lost R
worked_from instance a b lost R f h = record {
  same_dims = h.same_dims;
  same_boxes = h.same_boxes;
  same_box_capacity = h.same_box_capacity;
  extends = h.extends;
  empty = h.empty;
  done = f;
}

-- an instance whose conclusion is excluded afterwards, if its premises held before
pub covered_shut : (instance : PlainInstance) (old new : List Exclusion) (rule : Rule)
    → (IsRuleInstance instance rule → Premises instance (excludes old) rule → (r : Rel)
    → Concludes (excludes old) rule r → excludes new (dim_of rule) (first_of rule) (second_of rule) r ≡ true)
    → IsCovered instance (excludes old) new rule
covered_shut instance old new rule h = record { holds = λ i u v r add need. go i u v r add }
  where
    go : (i u v : ℕ) (r : Rel) → Adds instance (excludes old) rule i u v r → excludes new i u v r ≡ true
    go _ _ _ _ (added r is p c) = h is p r c
    go _ _ _ _ (mirror_added r is p c) =
        excludes_symmetric new (dim_of rule) (first_of rule) (second_of rule) r (h is p r c)

-- the same of an instance that has this name
pub named_shut : (instance : PlainInstance) (old new : List Exclusion) (rule named : Rule) → rule ≡ named
    → IsCovered instance (excludes old) new named → IsCovered instance (excludes old) new rule
named_shut instance old new rule named e h =
    subst (λ (t : Rule). IsCovered instance (excludes old) new t) (sym e) h

pub before_no_overlap : Before ≢ Overlap
before_no_overlap f = true≢false (ap (λ (r : Rel). is_same_rel r Before) f)

pub after_no_overlap : After ≢ Overlap
after_no_overlap f = true≢false (ap (λ (r : Rel). is_same_rel r After) f)

pub overlap_no_before : Overlap ≢ Before
overlap_no_before f = true≢false (ap (λ (r : Rel). is_same_rel r Overlap) f)

pub after_no_before : After ≢ Before
after_no_before f = true≢false (ap (λ (r : Rel). is_same_rel r After) f)

-- all but overlap
pub shut_joined : (X : Exclusions) (i u v : ℕ) (r : Rel) → r ≢ Overlap
    → (X i u v Before ≡ true) × (X i u v After ≡ true) → X i u v r ≡ true
shut_joined X i u v Overlap ne h = absurd (ne refl)
shut_joined X i u v Before ne h = h.0
shut_joined X i u v After ne h = h.1

-- all but before
pub shut_before : (X : Exclusions) (i u v : ℕ) (r : Rel) → r ≢ Before
    → (X i u v Overlap ≡ true) × (X i u v After ≡ true) → X i u v r ≡ true
shut_before X i u v Overlap ne h = h.0
shut_before X i u v Before ne h = absurd (ne refl)
shut_before X i u v After ne h = h.1

module _ (instance : PlainInstance) (X : Exclusions) where
  pub triple_follows : (i u v x : ℕ) → IsRuleInstance instance (Triple i u v x)
      → Premises instance X (Triple i u v x)
      → Follows instance X i u v Before × Follows instance X i u v After
  triple_follows i u v x is p =
      (by_rule (Triple i u v x) Before is p before_no_overlap, by_rule (Triple i u v x) After is p after_no_overlap)

  pub cycle_follows : (i a b c d : ℕ) → IsRuleInstance instance (Cycle i a b c d)
      → Premises instance X (Cycle i a b c d)
      → Follows instance X i b d Before × Follows instance X i b d After
  cycle_follows i a b c d is p =
      (by_rule (Cycle i a b c d) Before is p before_no_overlap, by_rule (Cycle i a b c d) After is p after_no_overlap)

  pub order_follows : (i a b c d : ℕ) → IsRuleInstance instance (Order i a b c d)
      → Premises instance X (Order i a b c d)
      → Follows instance X i c b Overlap × Follows instance X i c b After
  order_follows i a b c d is p =
      (by_rule (Order i a b c d) Overlap is p overlap_no_before, by_rule (Order i a b c d) After is p after_no_before)

  -- the same with the pair turned round
  pub order_follows_back : (i a b c d : ℕ) → IsRuleInstance instance (Order i a b c d)
      → Premises instance X (Order i a b c d)
      → Follows instance X i b c Overlap × Follows instance X i b c Before
  order_follows_back i a b c d is p =
      (mirrored (Order i a b c d) Overlap is p overlap_no_before, mirrored (Order i a b c d) After is p after_no_before)

clash : (b : Bool) → b ≡ true → b ≡ false → ⊥
clash b h k = true≢false (sym h ∙ k)

-- a relation that isn't among them is allowed by no two
pub not_composed : (r q s : Rel) (left row : Rel → Bool) → left r ≡ false → left q ≡ true → row s ≡ true
    → composed r left row ≡ false → allows q s r ≡ false
not_composed Overlap Overlap s left row gone hq hs off = absurd (clash _ hq gone)
not_composed Overlap Before Overlap left row gone hq hs off =
    absurd (clash _ hs (or_parts _ _ (or_parts _ _ off).0).0)
not_composed Overlap Before Before left row gone hq hs off = refl
not_composed Overlap Before After left row gone hq hs off =
    absurd (clash (row After && left Before) (rw (hs, hq) refl) (or_parts _ _ (or_parts _ _ off).0).1)
not_composed Overlap After Overlap left row gone hq hs off =
    absurd (clash _ hs (or_parts _ _ (or_parts _ _ off).0).0)
not_composed Overlap After Before left row gone hq hs off =
    absurd (clash (row Before && left After) (rw (hs, hq) refl) (or_parts _ _ off).1)
not_composed Overlap After After left row gone hq hs off = refl
not_composed Before Overlap Overlap left row gone hq hs off =
    absurd (clash (row Overlap && left Overlap) (rw (hs, hq) refl) (or_parts _ _ off).0)
not_composed Before Overlap Before left row gone hq hs off = absurd (clash _ hs (or_parts _ _ off).1)
not_composed Before Overlap After left row gone hq hs off = refl
not_composed Before Before s left row gone hq hs off = absurd (clash _ hq gone)
not_composed Before After Overlap left row gone hq hs off = refl
not_composed Before After Before left row gone hq hs off = absurd (clash _ hs (or_parts _ _ off).1)
not_composed Before After After left row gone hq hs off = refl
not_composed After Overlap Overlap left row gone hq hs off =
    absurd (clash (row Overlap && left Overlap) (rw (hs, hq) refl) (or_parts _ _ off).0)
not_composed After Overlap Before left row gone hq hs off = refl
not_composed After Overlap After left row gone hq hs off = absurd (clash _ hs (or_parts _ _ off).1)
not_composed After Before Overlap left row gone hq hs off = refl
not_composed After Before Before left row gone hq hs off = refl
not_composed After Before After left row gone hq hs off = absurd (clash _ hs (or_parts _ _ off).1)
not_composed After After s left row gone hq hs off = absurd (clash _ hq gone)

-- two relations that are left, and allow this one
pub record IsAllowed (r : Rel) (left row : Rel → Bool) : Type 0 where
  pub one : Rel
  pub other : Rel
  pub first : left one ≡ true
  pub second : row other ≡ true
  pub allowed : allows one other r ≡ true

-- a relation of u, v may be one of u, x, whatever v and x are to one another
same_allows : (a b : Rel) → allows a b a ≡ true
same_allows Overlap Overlap = refl
same_allows Overlap Before = refl
same_allows Overlap After = refl
same_allows Before Overlap = refl
same_allows Before Before = refl
same_allows Before After = refl
same_allows After Overlap = refl
same_allows After Before = refl
same_allows After After = refl

-- what is among them is allowed, if anything is left of u, v
pub composed_allowed : (r q : Rel) (left row : Rel → Bool) → left r ≡ false → left q ≡ true
    → composed r left row ≡ true → IsAllowed r left row
composed_allowed Overlap q left row gone hq on = outer (or_cases _ _ on)
  where
    by : (q : Rel) → left q ≡ true → row Overlap ≡ true → IsAllowed Overlap left row
    by Overlap h k = record { one = Overlap; other = Overlap; first = h; second = k; allowed = refl }
    by Before h k = record { one = Before; other = Overlap; first = h; second = k; allowed = refl }
    by After h k = record { one = After; other = Overlap; first = h; second = k; allowed = refl }

    inner : (row Overlap ≡ true) ⊎ ((row After && left Before) ≡ true) → IsAllowed Overlap left row
    inner (inl h) = by q hq h
    inner (inr h) = let p = and_parts _ _ h in
        record { one = Before; other = After; first = p.1; second = p.0; allowed = refl }

    outer : ((row Overlap || (row After && left Before)) ≡ true) ⊎ ((row Before && left After) ≡ true)
        → IsAllowed Overlap left row
    outer (inl h) = inner (or_cases _ _ h)
    outer (inr h) = let p = and_parts _ _ h in
        record { one = After; other = Before; first = p.1; second = p.0; allowed = refl }
composed_allowed Before q left row gone hq on = outer (or_cases _ _ on)
  where
    by : (q : Rel) → left q ≡ true → row Before ≡ true → IsAllowed Before left row
    by Overlap h k = record { one = Overlap; other = Before; first = h; second = k; allowed = refl }
    by Before h k = record { one = Before; other = Before; first = h; second = k; allowed = refl }
    by After h k = record { one = After; other = Before; first = h; second = k; allowed = refl }

    outer : ((row Overlap && left Overlap) ≡ true) ⊎ (row Before ≡ true) → IsAllowed Before left row
    outer (inl h) = let p = and_parts _ _ h in
        record { one = Overlap; other = Overlap; first = p.1; second = p.0; allowed = refl }
    outer (inr h) = by q hq h
composed_allowed After q left row gone hq on = outer (or_cases _ _ on)
  where
    by : (q : Rel) → left q ≡ true → row After ≡ true → IsAllowed After left row
    by Overlap h k = record { one = Overlap; other = After; first = h; second = k; allowed = refl }
    by Before h k = record { one = Before; other = After; first = h; second = k; allowed = refl }
    by After h k = record { one = After; other = After; first = h; second = k; allowed = refl }

    outer : ((row Overlap && left Overlap) ≡ true) ⊎ (row After ≡ true) → IsAllowed After left row
    outer (inl h) = let p = and_parts _ _ h in
        record { one = Overlap; other = Overlap; first = p.1; second = p.0; allowed = refl }
    outer (inr h) = by q hq h

-- one after the other
pub none_then : (instance : PlainInstance) (a b c : PlainEdges) (lost : Bool) → HasApplied instance a b false NoRule
    → HasApplied instance b c lost NoRule → HasApplied instance a c lost NoRule
none_then instance a b c lost h k =
    worked_as instance a c lost (λ rule. NoRule rule ⊎ NoRule rule) NoRule (λ rule none. absurd none)
    (worked_then instance a b c lost NoRule NoRule h k)

-- a relation that isn't left follows by COMPOSE at a box that the compositions don't leave
pub compose_follows : (instance : PlainInstance) (X : Exclusions) (i u v x : ℕ) (r : Rel) (left row : Rel → Bool)
    → i < dims instance → u < box_count instance → v < box_count instance → (u ≡ v → ⊥)
    → is_other_box (box_count instance) u x ≡ true → (v ≡ x → ⊥)
    → ((q : Rel) → left q ≡ not (X i u v q)) → ((s : Rel) → row s ≡ is_other_box (box_count instance) v x && not (X i v x s))
    → left r ≡ false → composed r left row ≡ false → Follows instance X i u x r
compose_follows instance X i u v x r left row hi hu hv ne other apart is at gone off =
    by_rule (Compose i u v x) r
    (hi, (hu, (ne, (box_apart n u x other, tt)), (hv, (apart, tt), (small, tt, tt)))) tt
    (λ q s a b. not_composed r q s left row gone (is q ∙ (rw a refl))
    (at s ∙ (rw (other_from n v x small apart, b) refl)) off)
  where
    n : ℕ
    n = box_count instance

    small : x < n
    small = other_there n u x other

-- what the compositions leave is concluded by none, and what they don't is excluded
pub compose_shut : (instance : PlainInstance) (X : Exclusions) (i u v x : ℕ) (r q s : Rel) (left row : Rel → Bool)
    (free found : Bool) → IsRuleInstance instance (Compose i u v x)
    → ((q : Rel) → left q ≡ not (X i u v q))
    → ((s : Rel) → row s ≡ is_other_box (box_count instance) v x && not (X i v x s))
    → free ≡ is_other_box (box_count instance) u x && not (X i u x r)
    → left q ≡ true → X i v x s ≡ false → left r ≡ false
    → found ≡ (free && not (composed r left row)) && not (eqb x v) → found ≡ false
    → Concludes X (Compose i u v x) r → X i u x r ≡ true
compose_shut instance X i u v x r q s left row free found is ls rs os hq hs gone e off c =
    go (minus_off (free && not (composed r left row)) (eqb x v) (sym e ∙ off))
  where
    n : ℕ
    n = box_count instance

    small : x < n
    small = is.1.2.2.0

    clashes : IsAllowed r left row → ⊥
    clashes h =
        let free_one : X i u v h.one ≡ false = open_is _ _ (ls h.one) h.first in
        let free_other : X i v x h.other ≡ false = row_open n i v x X h.other _ (rs h.other) h.second in
        clash (allows h.one h.other r) h.allowed (c h.one h.other free_one free_other)

    inner : (free ≡ false) ⊎ (composed r left row ≡ true) → X i u x r ≡ true
    inner (inl f) = row_shut n i u x X r free small is.1.1.1.0 os f
    inner (inr h) = absurd (clashes (composed_allowed r q left row gone hq h))

    go : ((free && not (composed r left row)) ≡ false) ⊎ (eqb x v ≡ true) → X i u x r ≡ true
    go (inl f) = inner (minus_off free (composed r left row) f)
    go (inr f) = absurd (is.1.2.1.0 (sym (eqb-true x v f)))

-- what is left of u, v is concluded by none
pub compose_kept : (instance : PlainInstance) (X : Exclusions) (i u v x : ℕ) (r s : Rel) (left : Rel → Bool)
    → ((q : Rel) → left q ≡ not (X i u v q)) → left r ≡ true → X i v x s ≡ false
    → Concludes X (Compose i u v x) r → ⊥
compose_kept instance X i u v x r s left ls h k c =
    clash (allows r s r) (same_allows r s) (c r s (open_is _ _ (ls r) h) k)

-- Where each relation that isn't in the row of it is excluded if COMPOSE concludes it, and those of
-- the rows are excluded afterwards, COMPOSE is covered.
pub composed_covered : (instance : PlainInstance) (old new : List Exclusion) (i u v x : ℕ) (row : Rel → Bool)
    → ((r : Rel) → row r ≡ true → excludes new i u x r ≡ true)
    → ((r : Rel) → excludes old i u x r ≡ true → excludes new i u x r ≡ true)
    → ((r : Rel) → row r ≡ false → IsRuleInstance instance (Compose i u v x)
    → Concludes (excludes old) (Compose i u v x) r → excludes old i u x r ≡ true)
    → IsCovered instance (excludes old) new (Compose i u v x)
composed_covered instance old new i u v x row taken kept others =
    covered_shut instance old new (Compose i u v x) (λ is p r k. go is r k (cases_Bool (row r)))
  where
    go : IsRuleInstance instance (Compose i u v x) → (r : Rel) → Concludes (excludes old) (Compose i u v x) r
        → (row r ≡ true) ⊎ (row r ≡ false) → excludes new i u x r ≡ true
    go is r k (inl h) = taken r h
    go is r k (inr h) = kept r (others r h is k)
