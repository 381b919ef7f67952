-- Instances that are left out, since the edge doesn't have what they ask for.
use Rattle.std.proofs.Common.{◌≡◌, ℕ, ◌<◌, ◌⊎◌, inl, inr, sym, subst, refl, ◌∙◌, Bool, true, false, not}
use Rattle.std.proofs.lemmas.Bool.{true≢false, cases_Bool}
use Rattle.packing_terms.specs.declared.Rel.{Rel}
use Rattle.packing_terms.specs.declared.Rel.TheVariants.{Overlap, Before, After}
use Rattle.packing_terms.specs.Packing.{PlainInstance, dims, box_count}
use Rattle.packing_terms.specs.Places.{HasNoEmptyMask}
use Rattle.packing_terms.specs.Relations.{mirror}
use Rattle.packing_terms.specs.Exclusions.{Exclusions, excludes}
use Rattle.packing_terms.specs.Rules.{Rule, Compose, IsRuleInstance, Premises}
use Rattle.edge_state.specs.Edges.{PlainEdges}
use Rattle.edge_state.specs.Work.{HasApplied, IsCovered, IsDueAt, IsDue}
use Rattle.edge_state.specs.Instances.{DueAll, Composes, OrdersCrossed}
use Rattle.edge_state.proofs.Needed.{needed_less}
use Rattle.edge_state.proofs.Instances.{worked_reached}
use Rattle.edge_state.proofs.Members.{covered_named}
use Rattle.edge_state.proofs.Worked.{covered_if, covered_not, worked_as, worked_none}
use Rattle.rule_passes.specs.Reached.{IsReachedApart, IsReachedJoined, IsReachedOrdered, IsReachedFrom}

-- more instances, where those that come in have no premises
worked_unless : (instance : PlainInstance) (a b : PlainEdges) (lost : Bool) (R S : Rule → Type 0)
    → ((rule : Rule) → S rule → R rule ⊎ (IsRuleInstance instance rule → Premises instance (excludes a.trail) rule → ⊥))
    → HasApplied instance a b lost R → HasApplied instance a b lost S
worked_unless instance a b lost R S f h = record {
  same_dims = h.same_dims;
  same_boxes = h.same_boxes;
  same_box_capacity = h.same_box_capacity;
  extends = h.extends;
  empty = h.empty;
  done = λ e rule s. covered_if instance (excludes a.trail) b.trail rule (λ is. go e rule is (f rule s));
}
  where
    go : lost ≡ false → (rule : Rule) → IsRuleInstance instance rule
        → R rule ⊎ (IsRuleInstance instance rule → Premises instance (excludes a.trail) rule → ⊥)
        → IsCovered instance (excludes a.trail) b.trail rule
    go e rule is (inl r) = h.done e rule r
    go e rule is (inr fails) = covered_not instance (excludes a.trail) b.trail rule (fails is)

-- more instances, where those that come in had nothing to add before
pub worked_beside : (instance : PlainInstance) (a b : PlainEdges) (lost : Bool) (R S : Rule → Type 0)
    → ((rule : Rule) → S rule → R rule ⊎ IsCovered instance (excludes a.trail) a.trail rule)
    → HasApplied instance a b lost R → HasApplied instance a b lost S
worked_beside instance a b lost R S f h = record {
  same_dims = h.same_dims;
  same_boxes = h.same_boxes;
  same_box_capacity = h.same_box_capacity;
  extends = h.extends;
  empty = h.empty;
  done = λ e rule s. go e rule (f rule s);
}
  where
    go : lost ≡ false → (rule : Rule) → R rule ⊎ IsCovered instance (excludes a.trail) a.trail rule
        → IsCovered instance (excludes a.trail) b.trail rule
    go e rule (inl r) = h.done e rule r
    go e rule (inr k) = record {
      holds = λ i u v r add need. h.extends.kept i u v r
          (k.holds i u v r add (needed_less (excludes a.trail) (excludes b.trail) h.extends.kept rule r need));
    }

clash : (b x : Bool) → b ≡ not x → b ≡ true → x ≡ true → ⊥
clash b true e h g = true≢false (sym h ∙ e)
clash b false e h g = true≢false (sym g)

-- a relation that isn't left is excluded
pub shut_off : (b x : Bool) → b ≡ not x → b ≡ false → x ≡ true
shut_off b true e h = refl
shut_off b false e h = absurd (true≢false (sym e ∙ h))

-- the instances of an edge, each group where what it asks for doesn't contradict what is left there,
-- and where that isn't stale
abbrev Guarded : PlainInstance → ℕ → ℕ → ℕ → (stale : Rel → Bool) → Bool → Bool → Bool → Rule → Type 0
Guarded instance j p q stale o b a rule =
    (((Composes instance j p q rule ⊎ (((o ≡ false) × (stale Overlap ≡ false)) × IsReachedApart instance j p q rule))
    ⊎ (((b ≡ false) × (a ≡ false)) × IsReachedJoined instance j p q rule))
    ⊎ (((o ≡ false) × (a ≡ false)) × IsReachedOrdered instance j p q rule))
    ⊎ (((b ≡ false) × (stale Before ≡ false)) × OrdersCrossed instance j p q rule)

-- what is fresh isn't stale
not_stale : (b : Bool) → not b ≡ true → b ≡ false
not_stale true h = absurd (true≢false (sym h))
not_stale false h = refl

module _ (instance : PlainInstance) (X : Exclusions) (j p q : ℕ) (stale : Rel → Bool) (o b a : Bool)
    (there : j < dims instance)
    (left_o : o ≡ not (X j p q Overlap)) (left_b : b ≡ not (X j p q Before)) (left_a : a ≡ not (X j p q After)) where
  abbrev Fails : Rule → Type 0
  Fails rule = IsRuleInstance instance rule → Premises instance X rule → ⊥

  apart_fails : o ≡ true → (rule : Rule) → IsReachedApart instance j p q rule → Fails rule
  apart_fails h rule (inl (v, l, e)) = subst Fails (sym e) (λ is k. clash o _ left_o h k.0)
  apart_fails h rule (inr (x, l, (d, m, e))) = subst Fails (sym e) (λ is k. clash o _ left_o h k.4)

  joined_fails : ((X j p q Before ≡ true) × (X j p q After ≡ true) → ⊥) → (rule : Rule)
      → IsReachedJoined instance j p q rule → Fails rule
  joined_fails h rule (inl (i, l, (ne, e))) = subst Fails (sym e) (λ is k. h (k j there ne))
  joined_fails h rule (inr (c, l, (d, m, e))) = subst Fails (sym e) (λ is k. h k.0)

  ordered_fails : ((X j p q Overlap ≡ true) × (X j p q After ≡ true) → ⊥) → (rule : Rule)
      → IsReachedOrdered instance j p q rule → Fails rule
  ordered_fails h rule (inl (d, l, (c, m, e))) = subst Fails (sym e) (λ is k. h k.0)
  ordered_fails h rule (inr (x, l, (y, m, e))) = subst Fails (sym e) (λ is k. h k.1)

  crossed_fails : b ≡ true → (rule : Rule) → OrdersCrossed instance j p q rule → Fails rule
  crossed_fails h rule (x, l, (c, m, e)) = subst Fails (sym e) (λ is k. clash b _ left_b h k.2)

  sorted : (rule : Rule) → DueAll instance (λ r. not (stale r)) j p q rule
      → Guarded instance j p q stale o b a rule ⊎ Fails rule
  sorted rule (inl (inl (inl (inl r)))) = inl (inl (inl (inl (inl r))))
  sorted rule (inl (inl (inl (inr (new, r))))) = go (cases_Bool o)
    where
      go : (o ≡ true) ⊎ (o ≡ false) → Guarded instance j p q stale o b a rule ⊎ Fails rule
      go (inl h) = inr (apart_fails h rule r)
      go (inr h) = inl (inl (inl (inl (inr ((h, not_stale (stale Overlap) new), r)))))
  sorted rule (inl (inl (inr r))) = go (cases_Bool b) (cases_Bool a)
    where
      go : (b ≡ true) ⊎ (b ≡ false) → (a ≡ true) ⊎ (a ≡ false) → Guarded instance j p q stale o b a rule ⊎ Fails rule
      go (inl h) k = inr (joined_fails (λ f. clash b _ left_b h f.0) rule r)
      go (inr h) (inl k) = inr (joined_fails (λ f. clash a _ left_a k f.1) rule r)
      go (inr h) (inr k) = inl (inl (inl (inr ((h, k), r))))
  sorted rule (inl (inr r)) = go (cases_Bool o) (cases_Bool a)
    where
      go : (o ≡ true) ⊎ (o ≡ false) → (a ≡ true) ⊎ (a ≡ false) → Guarded instance j p q stale o b a rule ⊎ Fails rule
      go (inl h) k = inr (ordered_fails (λ f. clash o _ left_o h f.0) rule r)
      go (inr h) (inl k) = inr (ordered_fails (λ f. clash a _ left_a k f.1) rule r)
      go (inr h) (inr k) = inl (inl (inr ((h, k), r)))
  sorted rule (inr (new, r)) = go (cases_Bool b)
    where
      go : (b ≡ true) ⊎ (b ≡ false) → Guarded instance j p q stale o b a rule ⊎ Fails rule
      go (inl h) = inr (crossed_fails h rule r)
      go (inr h) = inl (inr ((h, not_stale (stale Before) new), r))

-- the instances of an edge in both orders of its boxes, in the order in which they are applied
abbrev pub GuardedBoth : PlainInstance → ℕ → ℕ → ℕ → (stale : Rel → Bool) → (o b a o2 b2 a2 : Bool) → Rule → Type 0
GuardedBoth instance j u v stale o b a o2 b2 a2 rule =
    (((Composes instance j u v rule ⊎ Composes instance j v u rule)
    ⊎ (((o ≡ false) × (stale Overlap ≡ false))
    × (IsReachedApart instance j u v rule ⊎ IsReachedApart instance j v u rule)))
    ⊎ IsReachedFrom instance j u v o b a (stale Before) rule) ⊎ IsReachedFrom instance j v u o2 b2 a2 (stale After) rule

module _ (instance : PlainInstance) (j u v : ℕ) (stale : Rel → Bool) (o b a o2 b2 a2 : Bool) where
  there : (rule : Rule) → Guarded instance j u v stale o b a rule
      → GuardedBoth instance j u v stale o b a o2 b2 a2 rule
  there rule (inl (inl (inl (inl r)))) = inl (inl (inl (inl r)))
  there rule (inl (inl (inl (inr (h, r))))) = inl (inl (inr (h, inl r)))
  there rule (inl (inl (inr r))) = inl (inr (inl (inl r)))
  there rule (inl (inr r)) = inl (inr (inl (inr r)))
  there rule (inr r) = inl (inr (inr r))

  back : o2 ≡ o → (rule : Rule) → Guarded instance j v u (λ r. stale (mirror r)) o2 b2 a2 rule
      → GuardedBoth instance j u v stale o b a o2 b2 a2 rule
  back e rule (inl (inl (inl (inl r)))) = inl (inl (inl (inr r)))
  back e rule (inl (inl (inl (inr (h, r))))) = inl (inl (inr ((sym e ∙ h.0, h.1), inr r)))
  back e rule (inl (inl (inr r))) = inr (inl (inl r))
  back e rule (inl (inr r)) = inr (inl (inr r))
  back e rule (inr r) = inr (inr r)

-- the instances that are due for an edge, in both orders of its boxes
abbrev DueBoth : PlainInstance → (fresh : Rel → Bool) → ℕ → ℕ → ℕ → Rule → Type 0
DueBoth instance fresh j u v rule =
    DueAll instance fresh j u v rule ⊎ DueAll instance (λ r. fresh (mirror r)) j v u rule

-- the instances that are due for the edge are those that it reaches, in both orders
worked_due_both : (instance : PlainInstance) (s t : PlainEdges) (lost : Bool) (fresh : Rel → Bool) (j u v : ℕ)
    → HasApplied instance s t lost (DueBoth instance fresh j u v)
    → HasApplied instance s t lost (IsDue fresh j u v)
worked_due_both instance s t lost fresh j u v h =
    let one = worked_reached instance s t lost fresh j u v
    (worked_as instance s t lost (DueBoth instance fresh j u v)
    (DueAll instance fresh j u v) (λ rule r. inl r) h) in
    let two = worked_reached instance s t lost (λ r. fresh (mirror r)) j v u
    (worked_as instance s t lost (DueBoth instance fresh j u v)
    (DueAll instance (λ r. fresh (mirror r)) j v u) (λ rule r. inr r) h) in
    record {
      same_dims = h.same_dims;
      same_boxes = h.same_boxes;
      same_box_capacity = h.same_box_capacity;
      extends = h.extends;
      empty = h.empty;
      done = λ e rule r. go (one.done e) (two.done e) rule r;
    }
  where
    go : ((rule : Rule) → IsDueAt fresh j u v rule → IsCovered instance (excludes s.trail) t.trail rule)
        → ((rule : Rule) → IsDueAt (λ r. fresh (mirror r)) j v u rule
        → IsCovered instance (excludes s.trail) t.trail rule)
        → (rule : Rule) → IsDue fresh j u v rule
        → IsCovered instance (excludes s.trail) t.trail rule
    go f k rule (inl r) = f rule r
    go f k rule (inr r) = k rule r

-- each instance of an edge is among them, or has no premises
pub worked_guarded : (instance : PlainInstance) (s t : PlainEdges) (lost : Bool) (j u v : ℕ) (stale : Rel → Bool)
    (o b a o2 b2 a2 : Bool) → j < dims instance
    → o ≡ not (excludes s.trail j u v Overlap) → b ≡ not (excludes s.trail j u v Before)
    → a ≡ not (excludes s.trail j u v After)
    → o2 ≡ not (excludes s.trail j v u Overlap) → b2 ≡ not (excludes s.trail j v u Before)
    → a2 ≡ not (excludes s.trail j v u After) → o2 ≡ o
    → HasApplied instance s t lost (GuardedBoth instance j u v stale o b a o2 b2 a2)
    → HasApplied instance s t lost (IsDue (λ r. not (stale r)) j u v)
worked_guarded instance s t lost j u v stale o b a o2 b2 a2 at ho hb ha ho2 hb2 ha2 e h =
    worked_due_both instance s t lost (λ r. not (stale r)) j u v
    (worked_unless instance s t lost (GuardedBoth instance j u v stale o b a o2 b2 a2)
    (DueBoth instance (λ r. not (stale r)) j u v) (λ rule r. go rule r) h)
  where
    first : (rule : Rule) → Guarded instance j u v stale o b a rule
        ⊎ (IsRuleInstance instance rule → Premises instance (excludes s.trail) rule → ⊥)
        → GuardedBoth instance j u v stale o b a o2 b2 a2 rule
        ⊎ (IsRuleInstance instance rule → Premises instance (excludes s.trail) rule → ⊥)
    first rule (inl r) = inl (there instance j u v stale o b a o2 b2 a2 rule r)
    first rule (inr f) = inr f

    second : (rule : Rule) → Guarded instance j v u (λ r. stale (mirror r)) o2 b2 a2 rule
        ⊎ (IsRuleInstance instance rule → Premises instance (excludes s.trail) rule → ⊥)
        → GuardedBoth instance j u v stale o b a o2 b2 a2 rule
        ⊎ (IsRuleInstance instance rule → Premises instance (excludes s.trail) rule → ⊥)
    second rule (inl r) = inl (back instance j u v stale o b a o2 b2 a2 e rule r)
    second rule (inr f) = inr f

    go : (rule : Rule) → DueBoth instance (λ r. not (stale r)) j u v rule
        → GuardedBoth instance j u v stale o b a o2 b2 a2 rule
        ⊎ (IsRuleInstance instance rule → Premises instance (excludes s.trail) rule → ⊥)
    go rule (inl r) = first rule (sorted instance (excludes s.trail) j u v stale o b a at ho hb ha rule r)
    go rule (inr r) = second rule
        (sorted instance (excludes s.trail) j v u (λ r. stale (mirror r)) o2 b2 a2 at ho2 hb2 ha2 rule r)

-- rules of each box of a row, and of those of another
abbrev pub Among : ℕ → (ℕ → Bool) → (ℕ → Rule) → Rule → Type 0
Among n row named rule = (x : ℕ) × (x < n) × ((row x ≡ true) × (rule ≡ named x))

-- the same of all boxes, in two orders, where the others have nothing to add
pub worked_rows : (instance : PlainInstance) (a b : PlainEdges) (lost : Bool) (n : ℕ) (row other : ℕ → Bool)
    (named also : ℕ → Rule)
    → ((x : ℕ) → x < n → row x ≡ false → IsCovered instance (excludes a.trail) a.trail (named x))
    → ((x : ℕ) → x < n → other x ≡ false → IsCovered instance (excludes a.trail) a.trail (also x))
    → HasApplied instance a b lost (λ rule. Among n row named rule ⊎ Among n other also rule)
    → HasApplied instance a b lost (λ rule. ((x : ℕ) × (x < n) × (rule ≡ named x))
    ⊎ ((x : ℕ) × (x < n) × (rule ≡ also x)))
worked_rows instance a b lost n row other named also f k h =
    worked_beside instance a b lost (λ rule. Among n row named rule ⊎ Among n other also rule)
    (λ rule. ((x : ℕ) × (x < n) × (rule ≡ named x)) ⊎ ((x : ℕ) × (x < n) × (rule ≡ also x))) (λ rule r. go rule r) h
  where
    first : (rule : Rule) (x : ℕ) → x < n → rule ≡ named x → (row x ≡ true) ⊎ (row x ≡ false)
        → (Among n row named rule ⊎ Among n other also rule) ⊎ IsCovered instance (excludes a.trail) a.trail rule
    first rule x l e (inl on) = inl (inl (x, l, (on, e)))
    first rule x l e (inr off) = inr (covered_named instance a.trail rule (named x) e (f x l off))

    second : (rule : Rule) (x : ℕ) → x < n → rule ≡ also x → (other x ≡ true) ⊎ (other x ≡ false)
        → (Among n row named rule ⊎ Among n other also rule) ⊎ IsCovered instance (excludes a.trail) a.trail rule
    second rule x l e (inl on) = inl (inr (x, l, (on, e)))
    second rule x l e (inr off) = inr (covered_named instance a.trail rule (also x) e (k x l off))

    go : (rule : Rule) → ((x : ℕ) × (x < n) × (rule ≡ named x)) ⊎ ((x : ℕ) × (x < n) × (rule ≡ also x))
        → (Among n row named rule ⊎ Among n other also rule) ⊎ IsCovered instance (excludes a.trail) a.trail rule
    go rule (inl r) = first rule r.0 r.1 r.2 (cases_Bool (row r.0))
    go rule (inr r) = second rule r.0 r.1 r.2 (cases_Bool (other r.0))

-- nothing was done where neither row has a box
pub worked_no_rows : (instance : PlainInstance) (s : PlainEdges) (n : ℕ) (row other : ℕ → Bool) (named also : ℕ → Rule)
    → ((x : ℕ) → x < n → row x ≡ false → IsCovered instance (excludes s.trail) s.trail (named x))
    → ((x : ℕ) → x < n → other x ≡ false → IsCovered instance (excludes s.trail) s.trail (also x))
    → ((x : ℕ) → (row x ≡ false) × (other x ≡ false))
    → HasApplied instance s s false (λ rule. ((x : ℕ) × (x < n) × (rule ≡ named x))
    ⊎ ((x : ℕ) × (x < n) × (rule ≡ also x)))
worked_no_rows instance s n row other named also f k none =
    worked_none instance s (λ rule. ((x : ℕ) × (x < n) × (rule ≡ named x)) ⊎ ((x : ℕ) × (x < n) × (rule ≡ also x)))
    (λ rule r. go rule r)
  where
    go : (rule : Rule) → ((x : ℕ) × (x < n) × (rule ≡ named x)) ⊎ ((x : ℕ) × (x < n) × (rule ≡ also x))
        → IsCovered instance (excludes s.trail) s.trail rule
    go rule (inl r) = covered_named instance s.trail rule (named r.0) r.2 (f r.0 r.1 (none r.0).0)
    go rule (inr r) = covered_named instance s.trail rule (also r.0) r.2 (k r.0 r.1 (none r.0).1)

-- the same of COMPOSE in both orders of two boxes, if no mask is empty
pub none_composed : (instance : PlainInstance) (s : PlainEdges) (row other : ℕ → Bool) (j u v : ℕ)
    → ((x : ℕ) → x < box_count instance → row x ≡ false → HasNoEmptyMask instance (excludes s.trail)
    → IsCovered instance (excludes s.trail) s.trail (Compose j u v x))
    → ((x : ℕ) → x < box_count instance → other x ≡ false → HasNoEmptyMask instance (excludes s.trail)
    → IsCovered instance (excludes s.trail) s.trail (Compose j v u x))
    → ((x : ℕ) → (row x ≡ false) × (other x ≡ false))
    → HasApplied instance s s false (λ rule. HasNoEmptyMask instance (excludes s.trail)
    × (Composes instance j u v rule ⊎ Composes instance j v u rule))
none_composed instance s row other j u v f k none =
    worked_none instance s (λ rule. HasNoEmptyMask instance (excludes s.trail)
    × (Composes instance j u v rule ⊎ Composes instance j v u rule)) (λ rule r. go rule r.0 r.1)
  where
    go : (rule : Rule) → HasNoEmptyMask instance (excludes s.trail)
        → Composes instance j u v rule ⊎ Composes instance j v u rule
        → IsCovered instance (excludes s.trail) s.trail rule
    go rule full (inl r) = covered_named instance s.trail rule (Compose j u v r.0) r.2 (f r.0 r.1 (none r.0).0 full)
    go rule full (inr r) = covered_named instance s.trail rule (Compose j v u r.0) r.2 (k r.0 r.1 (none r.0).1 full)
