-- A change of the state is processed: the weights of chains after it, and what is pending.
use Rattle.std.proofs.Common.{◌≡◌, ◌≢◌, ℕ, ◌+◌, ◌<◌, ◌≤◌, ◌⊎◌, inl, inr, refl, sym, ◌∙◌, arith, Bool, true}
use Rattle.std.proofs.Common.{false, ◌||◌, eqb, List}
use Rattle.std.proofs.lemmas.Bool.{true≢false, cases_Bool, cases_eq, or_parts, or_cases, eqb-true, eq-eqb}
use Rattle.packing_terms.specs.declared.Exclusion.{Exclusion}
use Rattle.packing_terms.specs.declared.Direction.{Direction}
use Rattle.packing_terms.specs.declared.Direction.TheVariants.{Forwards, Backwards}
use Rattle.packing_terms.specs.Packing.{PlainInstance, dims, box_count, side}
use Rattle.packing_terms.specs.Exclusions.{excludes, IsSurelyBefore}
use Rattle.packing_terms.specs.Runs.{Leads, HasNoHeavierRun, most_weight}
use Rattle.edge_state.specs.BitRows.{row_has}
use Rattle.edge_state.specs.Edges.{PlainEdges, oldest}
use Rattle.edge_state.specs.Answers.{IsChangeAfter}
use Rattle.edge_state.specs.Work.{IsUnordered}
use Rattle.edge_state.specs.ChainWeights.{AreSettled, AreWalks, IsSameHistory, PlainWeights, weights_in}
use Rattle.orientation_rules.specs.Pending.{AreFollowed, AreLinked, IsCalm, IsLiveIn, OtherDimsStay, PlainPending, risen_in}
use Rattle.orientation_rules.proofs.Ordering.{settled_next}

least_same : (a : ℕ) → a ≤ a
least_same a = omega arith

-- two boxes that aren't ordered raise nothing
unled : (s : PlainEdges) (i u v : ℕ) (w : ℕ → ℕ) (ks : List ℕ) → (IsSurelyBefore (excludes s.trail) i u v → ⊥)
    → (IsSurelyBefore (excludes s.trail) i v u → ⊥) → (direction : Direction)
    → HasNoHeavierRun (Leads (excludes s.trail) i direction) w ks u v
unled s i u v w ks forth back Forwards = record { below = λ ne lead. absurd (forth lead) }
unled s i u v w ks forth back Backwards = record { below = λ ne lead. absurd (back lead) }

module _ (instance : PlainInstance) (s : PlainEdges) (mark : ℕ) (e : Exclusion)
    (change : IsChangeAfter s.trail mark e (mark + 1)) where
  -- a change of another dimension, or of boxes that aren't ordered, says nothing of the weights
  live_beside : (i : ℕ) (numbers : List (List ℕ)) (heads tails : List ℕ)
      → (e.dim ≡ i → IsUnordered (excludes s.trail) e) → IsLiveIn instance s mark i numbers heads tails
      → IsLiveIn instance s (mark + 1) i numbers heads tails
  live_beside i numbers heads tails unordered was = record {
    walks = was.walks;
    settled = λ direction. settled_next s (box_count instance) i mark direction (λ u. side instance u i) e
        (weights_in numbers direction i) (weights_in numbers direction i) (λ x. false) change (λ x off. refl)
        (λ x. least_same _) (λ v x hv hx on. absurd (true≢false (sym on))) (λ d. first d direction)
        (λ d. second d direction) (was.settled direction);
    fit = was.fit;
  }
    where
      first : e.dim ≡ i → (direction : Direction) → HasNoHeavierRun (Leads (excludes s.trail) i direction)
          (λ u. side instance u i) (weights_in numbers direction i) e.u e.v
      first d direction =
          let none = unordered d in
          unled s i e.u e.v (λ u. side instance u i) (weights_in numbers direction i)
          (λ lead. none.forth (rw d lead.0) (rw d lead.1)) (λ lead. none.back (rw d lead.0) (rw d lead.1)) direction

      second : e.dim ≡ i → (direction : Direction) → HasNoHeavierRun (Leads (excludes s.trail) i direction)
          (λ u. side instance u i) (weights_in numbers direction i) e.v e.u
      second d direction =
          let none = unordered d in
          unled s i e.v e.u (λ u. side instance u i) (weights_in numbers direction i)
          (λ lead. none.back (rw d lead.0) (rw d lead.1)) (λ lead. none.forth (rw d lead.0) (rw d lead.1)) direction

  -- a change that orders nothing was followed
  pub followed_unordered : (k : PlainWeights) (p : PlainPending) → IsUnordered (excludes s.trail) e
      → AreFollowed instance s mark k p → AreFollowed instance s (mark + 1) k p
  followed_unordered k p none was = record {
    held = was.held;
    live = λ i hi known. live_beside i k.numbers _ _ (λ d. none) (was.live i hi known);
    calm = was.calm;
    within = was.within;
  }

-- b isn't surely before a, and a is before b: linking them settles both in each direction
module _ (instance : PlainInstance) (s : PlainEdges) (i a b : ℕ) (old new : List (List ℕ)) (heads tails : List ℕ)
    (back : IsSurelyBefore (excludes s.trail) i b a → ⊥) (linked : AreLinked instance s i a b old new heads tails) where
  abbrev Settled : Direction → ℕ → ℕ → Type 0
  Settled direction v x = HasNoHeavierRun (Leads (excludes s.trail) i direction) (λ u. side instance u i)
      (weights_in new direction i) v x

  pair_settled : (direction : Direction) → Settled direction a b × Settled direction b a
  pair_settled Forwards = (linked.second.pair, record { below = λ ne lead. absurd (back lead) })
  pair_settled Backwards = (record { below = λ ne lead. absurd (back lead) }, linked.first.pair)

  module _ (mark : ℕ) (e : Exclusion) (change : IsChangeAfter s.trail mark e (mark + 1))
      (at : ((a ≡ e.u) × (b ≡ e.v)) ⊎ ((a ≡ e.v) × (b ≡ e.u))) where
    ends_settled : (direction : Direction) → Settled direction e.u e.v × Settled direction e.v e.u
    ends_settled direction = go at
      where
        both : Settled direction a b × Settled direction b a
        both = pair_settled direction

        go : ((a ≡ e.u) × (b ≡ e.v)) ⊎ ((a ≡ e.v) × (b ≡ e.u))
            → Settled direction e.u e.v × Settled direction e.v e.u
        go (inl h) = rw (← h.0, ← h.1) both
        go (inr h) = rw (← h.0, ← h.1) (both.1, both.0)

    -- the weights of the dimension are live with the change
    pub live_linked : (was_heads was_tails now_heads now_tails : List ℕ)
        → IsLiveIn instance s mark i old was_heads was_tails
        → ((x : ℕ) → row_has now_heads x ≡ row_has was_heads x || row_has heads x)
        → ((x : ℕ) → row_has now_tails x ≡ row_has was_tails x || row_has tails x)
        → IsLiveIn instance s (mark + 1) i new now_heads now_tails
    live_linked was_heads was_tails now_heads now_tails was first second = record {
      walks = walks;
      settled = settled;
      fit = record {
        firsts_within = λ u on. firsts u (or_cases _ _ (sym (first u) ∙ on));
        seconds_within = λ u on. seconds u (or_cases _ _ (sym (second u) ∙ on));
        fit = λ u v hu hv off calm ne left. (
            let off_parts = or_parts _ _ (sym (first u) ∙ off) in
            let calm_parts = or_parts _ _ (sym (second v) ∙ calm) in
            let fit = was.fit.fit u v hu hv off_parts.0 calm_parts.0 ne left in
            let e = linked.first.stays u off_parts.1 in
            let f = linked.second.stays v calm_parts.1 in
            omega (arith, fit, e, f));
      };
    }
      where
        walks : (direction : Direction) → AreWalks (box_count instance) (Leads (excludes s.trail) i direction)
            (λ u. side instance u i) (weights_in new direction i)
        walks Forwards = linked.second.walks
        walks Backwards = linked.first.walks

        settled : (direction : Direction) → AreSettled (box_count instance)
            (Leads (excludes (oldest (mark + 1) s.trail)) i direction) (λ u. side instance u i)
            (weights_in new direction i)
        settled Forwards = settled_next s (box_count instance) i mark Forwards (λ u. side instance u i) e _ _
            (row_has tails) change linked.second.stays linked.second.grows linked.second.settled
            (λ d. (ends_settled Forwards).0) (λ d. (ends_settled Forwards).1) (was.settled Forwards)
        settled Backwards = settled_next s (box_count instance) i mark Backwards (λ u. side instance u i) e _ _
            (row_has heads) change linked.first.stays linked.first.grows linked.first.settled
            (λ d. (ends_settled Backwards).0) (λ d. (ends_settled Backwards).1) (was.settled Backwards)

        firsts : (u : ℕ) → (row_has was_heads u ≡ true) ⊎ (row_has heads u ≡ true) → u < box_count instance
        firsts u (inl on) = was.fit.firsts_within u on
        firsts u (inr on) = linked.first.within u on

        seconds : (u : ℕ) → (row_has was_tails u ≡ true) ⊎ (row_has tails u ≡ true) → u < box_count instance
        seconds u (inl on) = was.fit.seconds_within u on
        seconds u (inr on) = linked.second.within u on

-- only what is pending in one dimension changed, and CHAIN is to be looked at in it
pub record IsMarked (i : ℕ) (old new : PlainPending) : Type 0 where
  pub dirty : (j : ℕ) → row_has new.dirty j ≡ row_has old.dirty j || eqb j i
  pub unknown : (j : ℕ) → (j ≡ i → ⊥) → row_has new.unknown j ≡ row_has old.unknown j
  pub heads : (j : ℕ) → (j ≡ i → ⊥) → risen_in new.heads j ≡ risen_in old.heads j
  pub tails : (j : ℕ) → (j ≡ i → ⊥) → risen_in new.tails j ≡ risen_in old.tails j

-- a change was followed that may have raised weights of its dimension
pub followed_ordered : (instance : PlainInstance) (s : PlainEdges) (mark : ℕ) (e : Exclusion)
    (old new : PlainWeights) (p q : PlainPending) → IsChangeAfter s.trail mark e (mark + 1) → dims instance ≤ 4
    → e.dim < dims instance → IsSameHistory old new → OtherDimsStay e.dim old.numbers new.numbers → IsMarked e.dim p q
    → (row_has q.unknown e.dim ≡ false
    → IsLiveIn instance s (mark + 1) e.dim new.numbers (risen_in q.heads e.dim) (risen_in q.tails e.dim))
    → AreFollowed instance s mark old p → AreFollowed instance s (mark + 1) new q
followed_ordered instance s mark e old new p q change few there same stay marked here was = record {
  held = record {
    back = same.held (dims instance) (box_count instance) s.trail was.held.back;
    same = record {
      limits = rw same.limits was.held.same.limits;
      sides = rw same.sides was.held.same.sides;
    };
  };
  live = λ i hi known. live i hi known (cases_eq i e.dim);
  calm = λ i hi off. calm i hi (or_parts _ _ (sym (marked.dirty i) ∙ off)) (cases_eq i e.dim);
  within = λ i on. within i (or_cases _ _ (sym (marked.dirty i) ∙ on));
}
  where
    live : (i : ℕ) → i < dims instance → row_has q.unknown i ≡ false → (i ≡ e.dim) ⊎ (i ≢ e.dim)
        → IsLiveIn instance s (mark + 1) i new.numbers (risen_in q.heads i) (risen_in q.tails i)
    live i hi known (inl d) = rw d (here (rw d at known))
    live i hi known (inr ne) =
        let before = live_beside instance s mark e change i old.numbers (risen_in p.heads i) (risen_in p.tails i)
        (λ d. absurd (ne (sym d))) (was.live i hi (sym (marked.unknown i ne) ∙ known)) in
        let few_i : i < 4 = omega (arith, hi, few) in
        rw (marked.heads i ne, marked.tails i ne) (record {
          walks = λ direction. rw (stay direction i few_i ne) (before.walks direction);
          settled = λ direction. rw (stay direction i few_i ne) (before.settled direction);
          fit = record {
            firsts_within = before.fit.firsts_within;
            seconds_within = before.fit.seconds_within;
            fit = rw (stay Backwards i few_i ne, stay Forwards i few_i ne) before.fit.fit;
          };
        })

    calm : (i : ℕ) → i < dims instance → (row_has p.dirty i ≡ false) × (eqb i e.dim ≡ false)
        → (i ≡ e.dim) ⊎ (i ≢ e.dim) → IsCalm q i
    calm i hi off (inl d) = absurd (true≢false (sym (eq-eqb i e.dim d) ∙ off.1))
    calm i hi off (inr ne) =
        let before = was.calm i hi off.0 in record {
          known = marked.unknown i ne ∙ before.known;
          heads = rw (marked.heads i ne) before.heads;
          tails = rw (marked.tails i ne) before.tails;
        }

    within : (i : ℕ) → (row_has p.dirty i ≡ true) ⊎ (eqb i e.dim ≡ true) → i < dims instance
    within i (inl on) = was.within i on
    within i (inr d) = rw (eqb-true i e.dim d) there

-- nothing was raised
pub same_history : (k : PlainWeights) → IsSameHistory k k
same_history k = record { limits = refl; sides = refl; held = λ d n es h. h }

-- a dimension became dirty, and nothing else changed
pub marked_dirty : (i : ℕ) (heads tails : List (List ℕ)) (unknown dirty now : List ℕ)
    → ((j : ℕ) → row_has now j ≡ row_has dirty j || eqb j i)
    → IsMarked i (record { heads = heads; tails = tails; unknown = unknown; dirty = dirty })
    (record { heads = heads; tails = tails; unknown = unknown; dirty = now })
marked_dirty i heads tails unknown dirty now joined = record {
  dirty = joined;
  unknown = λ j ne. refl;
  heads = λ j ne. refl;
  tails = λ j ne. refl;
}

-- and its weights became unknown
pub newly_unknown : (i : ℕ) (heads tails : List (List ℕ)) (unknown dirty lost now : List ℕ)
    → ((j : ℕ) → row_has now j ≡ row_has dirty j || eqb j i) → ((j : ℕ) → row_has lost j ≡ row_has unknown j || eqb j i)
    → IsMarked i (record { heads = heads; tails = tails; unknown = unknown; dirty = dirty })
    (record { heads = heads; tails = tails; unknown = lost; dirty = now })
newly_unknown i heads tails unknown dirty lost now joined grown = record {
  dirty = joined;
  unknown = λ j ne. other j (cases_eq j i) ne;
  heads = λ j ne. refl;
  tails = λ j ne. refl;
}
  where
    or_none : (a b : Bool) → b ≡ false → (a || b) ≡ a
    or_none true b e = refl
    or_none false b e = e

    apart : (j : ℕ) → (j ≡ i → ⊥) → eqb j i ≡ false
    apart j ne = go (cases_Bool (eqb j i))
      where
        go : (eqb j i ≡ true) ⊎ (eqb j i ≡ false) → eqb j i ≡ false
        go (inl on) = absurd (ne (eqb-true j i on))
        go (inr off) = off

    other : (j : ℕ) → (j ≡ i) ⊎ (j ≢ i) → (j ≡ i → ⊥) → row_has lost j ≡ row_has unknown j
    other j either ne = grown j ∙ or_none _ _ (apart j ne)

-- a dimension that isn't dirty isn't the one that became so
pub unordered_dirty : (i : ℕ) (old new : PlainPending) → IsMarked i old new → (j : ℕ) → row_has new.dirty j ≡ false
    → i ≡ j → ⊥
unordered_dirty i old new marked j off d =
    true≢false (sym (eq-eqb j i (sym d)) ∙ (or_parts _ _ (sym (marked.dirty j) ∙ off)).1)

pub within_dirty : (i : ℕ) (old new : PlainPending) → IsMarked i old new → (j : ℕ) → row_has new.dirty j ≡ true
    → (j ≡ i) ⊎ (row_has old.dirty j ≡ true)
within_dirty i old new marked j on = go (or_cases _ _ (sym (marked.dirty j) ∙ on))
  where
    go : (row_has old.dirty j ≡ true) ⊎ (eqb j i ≡ true) → (j ≡ i) ⊎ (row_has old.dirty j ≡ true)
    go (inl old_on) = inr old_on
    go (inr d) = inl (eqb-true j i d)

-- a dimension became dirty, and boxes of it rose
pub marked_risen : (i : ℕ) (heads tails : List (List ℕ)) (unknown dirty now : List ℕ) (q : PlainPending)
    → ((j : ℕ) → row_has now j ≡ row_has dirty j || eqb j i) → q.unknown ≡ unknown → q.dirty ≡ now
    → ((j : ℕ) → (j ≡ i → ⊥) → (risen_in q.heads j ≡ risen_in heads j) × (risen_in q.tails j ≡ risen_in tails j))
    → IsMarked i (record { heads = heads; tails = tails; unknown = unknown; dirty = dirty }) q
marked_risen i heads tails unknown dirty now q joined known is others = record {
  dirty = rw is joined;
  unknown = λ j ne. rw known refl;
  heads = λ j ne. (others j ne).0;
  tails = λ j ne. (others j ne).1;
}

-- a weight is written where it is small enough and there is memory
pub written_if : (result : Bool) (weight count : ℕ)
    → (result ≡ false → (most_weight < weight) ⊎ (4096 ≤ count)) → weight ≤ most_weight → count < 4096 → result ≡ true
written_if result weight count full small room = go (cases_Bool result)
  where
    go : (result ≡ true) ⊎ (result ≡ false) → result ≡ true
    go (inl on) = on
    go (inr off) = out (full off)
      where
        out : (most_weight < weight) ⊎ (4096 ≤ count) → result ≡ true
        out (inl heavy) = absurd (omega (arith, heavy, small))
        out (inr many) = absurd (omega (arith, many, room))
