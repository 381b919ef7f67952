-- The weights of chains in a closing: they stay walks when exclusions are added, two boxes fit after
-- CHAIN, and at the end the weights are good.
use Rattle.std.proofs.Common.{◌≡◌, ℕ, ◌+◌, ◌<◌, ◌≤◌, ◌⊎◌, inl, inr, refl, sym, ap, ◌∙◌, subst, arith, true, false, not}
use Rattle.std.proofs.Common.{◌&&◌, eqb, List, [], ◌∷◌, ◌++◌, length}
use Rattle.std.proofs.lemmas.Bool.{true≢false, cases_eq, and_parts}
use Rattle.packing_terms.specs.declared.Rel.{Rel}
use Rattle.packing_terms.specs.declared.Rel.TheVariants.{Overlap, Before, After}
use Rattle.packing_terms.specs.declared.Direction.TheVariants.{Forwards, Backwards}
use Rattle.packing_terms.specs.declared.Exclusion.{Exclusion}
use Rattle.packing_terms.specs.Packing.{PlainInstance, dims, box_count, side, container_side}
use Rattle.packing_terms.specs.Exclusions.{Exclusions, excludes, IsEdge}
use Rattle.packing_terms.specs.Applied.{Extends}
use Rattle.packing_terms.specs.Runs.{Leads}
use Rattle.packing_terms.proofs.Monotone.{open_less}
use Rattle.relation_table.specs.Masks.{mask_has}
use Rattle.edge_state.specs.BitRows.{row_has}
use Rattle.edge_state.specs.Edges.{PlainEdges}
use Rattle.edge_state.specs.States.{HasRelationLeft}
use Rattle.edge_state.specs.ChainWeights.{AreSettled, AreOf, AreGoodFor, FitsBefore, PlainWeights, weights_in}
use Rattle.edge_state.proofs.Oldest.{oldest_grown, oldest_all}
use Rattle.edge_state.proofs.Histories.{of_more}
use Rattle.orientation_rules.proofs.Ordering.{leads_more}
use Rattle.orientation_rules.proofs.KnownWeights.{walk_more}
use Rattle.rule_passes.proofs.Members.{off_left}
use Rattle.orientation_rules.specs.Pending.{AreFollowed, AreHeld, IsCalm, IsLiveIn, PlainPending, risen_in}

-- what held at the ends of earlier closings holds with more exclusions on top
of_grown : (d n : ℕ) (more es : List Exclusion) (k : PlainWeights) → AreOf d n es k → AreOf d n (more ++ es) k
of_grown d n [] es k h = h
of_grown d n (e ∷ more) es k h = of_more d n e (more ++ es) k (of_grown d n more es k h)

-- some relation is left, so the mask isn't empty
pub some_left : (instance : PlainInstance) (X : Exclusions) (i u v left : ℕ) → IsEdge instance i u v
    → HasRelationLeft instance X i u v → ((r : Rel) → mask_has left r ≡ not (X i u v r)) → left ≡ 0 → ⊥
some_left instance X i u v left edge some has e =
    let it = some.some edge in
    let on : mask_has left it.0 ≡ true = has it.0 ∙ ap not it.1 in
    true≢false (sym on ∙ (ap (λ (m : ℕ). mask_has m it.0) e ∙ none it.0))
  where
    none : (r : Rel) → mask_has 0 r ≡ false
    none Overlap = refl
    none Before = refl
    none After = refl

module _ (instance : PlainInstance) (s t : PlainEdges) (more : Extends instance s.trail t.trail) where
  pub held_grown : (k : PlainWeights) → AreHeld instance s k → AreHeld instance t k
  held_grown k h = record {
    back = subst (λ (es : List Exclusion). AreOf (dims instance) (box_count instance) es k) (sym more.grown)
        (of_grown (dims instance) (box_count instance) more.more s.trail k h.back);
    same = h.same;
  }

  -- two boxes that may be before one another now might be so before
  fits_grown : (i : ℕ) (limit : ℕ) (head tail : List ℕ) (u v : ℕ) → FitsBefore i (excludes s.trail) limit head tail u v
      → FitsBefore i (excludes t.trail) limit head tail u v
  fits_grown i limit head tail u v fit ne off =
      fit ne (open_less (excludes s.trail) (excludes t.trail) more.kept i u v Before off)

  live_in : (mark i : ℕ) (numbers : List (List ℕ)) (heads tails : List ℕ) → mark ≤ length s.trail
      → IsLiveIn instance s mark i numbers heads tails → IsLiveIn instance t mark i numbers heads tails
  live_in mark i numbers heads tails l h = record {
    walks = λ direction v hv. walk_more (box_count instance) _ _ _
        (leads_more (excludes s.trail) (excludes t.trail) i more.kept direction) v _ (h.walks direction v hv);
    settled = λ direction. subst
        (λ (es : List Exclusion). AreSettled (box_count instance) (Leads (excludes es) i direction)
        (λ u. side instance u i) (weights_in numbers direction i))
        (sym (oldest_grown more.more s.trail t.trail mark more.grown l)) (h.settled direction);
    fit = record {
      firsts_within = h.fit.firsts_within;
      seconds_within = h.fit.seconds_within;
      fit = λ u v hu hv first second. fits_grown i _ _ _ u v (h.fit.fit u v hu hv first second);
    };
  }

  -- changes that are processed stay so with more exclusions
  pub followed_grown : (mark : ℕ) (k : PlainWeights) (p : PlainPending) → mark ≤ length s.trail
      → AreFollowed instance s mark k p → AreFollowed instance t mark k p
  followed_grown mark k p l h = record {
    held = held_grown k h.held;
    live = λ i hi known. live_in mark i k.numbers _ _ l (h.live i hi known);
    calm = h.calm;
    within = h.within;
  }

  -- CHAIN was applied in a dimension: each two boxes fit in it, and no raise is pending there
  pub followed_after : (dim : ℕ) (k : PlainWeights) (p q : PlainPending)
      → AreFollowed instance s (length s.trail) k p → row_has p.unknown dim ≡ false
      → ((u v : ℕ) → u < box_count instance → v < box_count instance
      → FitsBefore dim (excludes t.trail) (container_side instance dim) (weights_in k.numbers Backwards dim)
      (weights_in k.numbers Forwards dim) u v)
      → ((i : ℕ) → row_has q.dirty i ≡ row_has p.dirty i && not (eqb i dim))
      → q.unknown ≡ p.unknown
      → ((u : ℕ) → row_has (risen_in q.heads dim) u ≡ false)
      → ((u : ℕ) → row_has (risen_in q.tails dim) u ≡ false)
      → ((i : ℕ) → (i ≡ dim → ⊥) → (risen_in q.heads i ≡ risen_in p.heads i) × (risen_in q.tails i ≡ risen_in p.tails i))
      → AreFollowed instance t (length s.trail) k q
  followed_after dim k p q h known fit dirty same heads tails others = record {
    held = held_grown k h.held;
    live = λ i hi on. live i hi (ap (λ (z : List ℕ). row_has z i) (sym same) ∙ on) (cases_eq i dim);
    calm = λ i hi off. calm i hi off (cases_eq i dim);
    within = λ i on. h.within i (and_parts _ _ (sym (dirty i) ∙ on)).0;
  }
    where
      here : IsLiveIn instance s (length s.trail) dim k.numbers (risen_in p.heads dim) (risen_in p.tails dim)
          → IsLiveIn instance t (length s.trail) dim k.numbers (risen_in q.heads dim) (risen_in q.tails dim)
      here old =
          let new = live_in (length s.trail) dim k.numbers _ _ (omega arith) old in
          record {
            walks = new.walks;
            settled = new.settled;
            fit = record {
              firsts_within = λ u on. absurd (true≢false (sym on ∙ heads u));
              seconds_within = λ v on. absurd (true≢false (sym on ∙ tails v));
              fit = λ u v hu hv first second. fit u v hu hv;
            };
          }

      live : (i : ℕ) → i < dims instance → row_has p.unknown i ≡ false → (i ≡ dim) ⊎ (i ≡ dim → ⊥)
          → IsLiveIn instance t (length s.trail) i k.numbers (risen_in q.heads i) (risen_in q.tails i)
      live i hi on (inl e) = rw e (here (h.live dim (rw e at hi) (rw e at on)))
      live i hi on (inr ne) =
          let rows = others i ne in
          rw (rows.0, rows.1) (live_in (length s.trail) i k.numbers _ _ (omega arith) (h.live i hi on))

      calm : (i : ℕ) → i < dims instance → row_has q.dirty i ≡ false → (i ≡ dim) ⊎ (i ≡ dim → ⊥) → IsCalm q i
      calm i hi off (inl e) = rw e (record { known = ap (λ (z : List ℕ). row_has z dim) same ∙ known; heads = heads; tails = tails })
      calm i hi off (inr ne) =
          let rows = others i ne in
          let old = h.calm i hi (off_left (row_has p.dirty) (row_has q.dirty) dim dirty i ne off) in
          record {
            known = ap (λ (z : List ℕ). row_has z i) same ∙ old.known;
            heads = λ u. ap (λ (z : List ℕ). row_has z u) rows.0 ∙ old.heads u;
            tails = λ u. ap (λ (z : List ℕ). row_has z u) rows.1 ∙ old.tails u;
          }

-- one change more is processed, and exclusions were added
pub followed_step : (instance : PlainInstance) (s m t : PlainEdges) (mark next : ℕ) (k : PlainWeights) (p : PlainPending)
    → m ≡ s → Extends instance m.trail t.trail → mark < length s.trail → next ≡ mark + 1
    → AreFollowed instance m (mark + 1) k p → AreFollowed instance t next k p
followed_step instance s m t mark next k p same more before e h =
    rw e (followed_grown instance m t more (mark + 1) k p
    (omega (arith, before, ap (λ (z : PlainEdges). length z.trail) same)) h)

-- all changes are processed, and CHAIN is applied in every dimension: the weights are good
pub good_at_end : (instance : PlainInstance) (s : PlainEdges) (k : PlainWeights) (p : PlainPending)
    → AreFollowed instance s (length s.trail) k p → ((i : ℕ) → row_has p.dirty i ≡ false)
    → AreGoodFor instance (excludes s.trail) k.numbers
good_at_end instance s k p h clean i hi =
    let calm = h.calm i hi (clean i) in
    let live = h.live i hi calm.known in
    record {
      walks = live.walks;
      settled = λ direction. subst
          (λ (es : List Exclusion). AreSettled (box_count instance) (Leads (excludes es) i direction)
          (λ u. side instance u i) (weights_in k.numbers direction i)) (oldest_all s.trail (length s.trail) refl)
          (live.settled direction);
      fit = λ u v hu hv. live.fit.fit u v hu hv (calm.heads u) (calm.tails v);
    }
