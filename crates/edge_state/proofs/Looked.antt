-- What is propagated, and what is left to do.
use Rattle.std.proofs.Common.{◌≡◌, ℕ, ◌+◌, ◌-◌, ◌*◌, ◌<◌, ◌≤◌, ◌⊎◌, inl, inr, refl, sym, ap, ◌∙◌, arith, Bool, true}
use Rattle.std.proofs.Common.{false, not, ◌&&◌, eqb, List, length}
use Rattle.std.proofs.lemmas.Bool.{true≢false, cases_Bool, cases_eq, and_parts, eqb-true}
use Rattle.std.proofs.lemmas.List.{length-append}
use Rattle.packing_terms.specs.declared.Rel.{Rel}
use Rattle.packing_terms.specs.declared.Exclusion.{Exclusion}
use Rattle.packing_terms.specs.Packing.{PlainInstance, dims}
use Rattle.packing_terms.specs.Exclusions.{excludes, IsEdge}
use Rattle.packing_terms.specs.Applied.{Extends}
use Rattle.packing_terms.specs.Places.{HasNoEmptyMask}
use Rattle.edge_state.specs.BitRows.{row_has, members_below}
use Rattle.edge_state.specs.Edges.{PlainEdges, oldest}
use Rattle.edge_state.specs.Answers.{IsChangeAfter}
use Rattle.edge_state.proofs.RowBits.{members_fewer}
use Rattle.edge_state.specs.States.{HasRelationLeft}
use Rattle.edge_state.specs.Work.{IsChainIn, IsDue, HasApplied, IsChainUpToDate, IsUnordered, IsNextMark}
use Rattle.edge_state.proofs.Chained.{chained_grown}
use Rattle.edge_state.proofs.Settled.{settled_step, chained_step, settled_after, chained_after}
use Rattle.edge_state.specs.Work.{IsWorklistDone}

-- the changes at one edge are propagated
pub looked_step : (instance : PlainInstance) (s t : PlainEdges) (e : Exclusion) (fresh : Rel → Bool) (mark next : ℕ)
    (dirty more : List ℕ)
    → IsEdge instance e.dim e.u e.v
    → HasRelationLeft instance (excludes s.trail) e.dim e.u e.v
    → HasApplied instance s t false (λ rule. HasNoEmptyMask instance (excludes s.trail)
    × IsDue fresh e.dim e.u e.v rule)
    → IsChangeAfter s.trail mark e (mark + 1) → IsNextMark mark e fresh next
    → ((i : ℕ) → row_has more i ≡ false → row_has dirty i ≡ false)
    → ((i : ℕ) → row_has more i ≡ false → e.dim ≡ i → IsUnordered (excludes s.trail) e)
    → ((i : ℕ) → row_has more i ≡ true → (i ≡ e.dim) ⊎ (row_has dirty i ≡ true))
    → IsWorklistDone instance (oldest mark s.trail) s.trail dirty
    → IsWorklistDone instance (oldest next t.trail) t.trail more
looked_step instance s t e fresh mark next dirty more edge left work change behind clean free within looked = record {
  settled = settled_step instance s t e edge left fresh work mark next looked.settled change behind;
  chained = λ i h off. chained_step instance s t e edge left fresh work i mark next (free i off)
      (looked.chained i h (clean i off)) change behind;
  within = λ i on. there i (within i on);
}
  where
    there : (i : ℕ) → (i ≡ e.dim) ⊎ (row_has dirty i ≡ true) → i < dims instance
    there i (inl is) = rw is edge.dim
    there i (inr on) = looked.within i on

-- CHAIN was applied in one dimension, after all was propagated
pub looked_after : (instance : PlainInstance) (s t : PlainEdges) (k dim : ℕ) (dirty less : List ℕ)
    → IsWorklistDone instance s.trail s.trail dirty
    → HasApplied instance s t false (IsChainIn dim) → k ≡ length s.trail
    → ((x : ℕ) → row_has less x ≡ row_has dirty x && not (eqb x dim))
    → IsWorklistDone instance (oldest k t.trail) t.trail less
looked_after instance s t k dim dirty less looked work e one = record {
  settled = settled_after instance s.trail t.trail k work.extends e looked.settled;
  chained = λ i h off. chained_after instance i s.trail t.trail k work.extends e
      (go i h (sym (one i) ∙ off) (cases_Bool (eqb i dim)));
  within = λ i on. looked.within i (and_parts _ _ (sym (one i) ∙ on)).0;
}
  where
    kept : (a b : Bool) → (a && not b) ≡ false → b ≡ false → a ≡ false
    kept false b h f = refl
    kept true false h f = absurd (true≢false h)
    kept true true h f = absurd (true≢false f)

    here : (i : ℕ) → i ≡ dim → IsChainUpToDate instance i s.trail t.trail
    here i same = rw same (record { covered = work.done refl })

    go : (i : ℕ) → i < dims instance → (row_has dirty i && not (eqb i dim)) ≡ false
        → (eqb i dim ≡ true) ⊎ (eqb i dim ≡ false) → IsChainUpToDate instance i s.trail t.trail
    go i h off (inl is) = here i (eqb-true i dim is)
    go i h off (inr is) = chained_grown instance i s.trail s.trail t.trail work.extends.kept
        (looked.chained i h (kept (row_has dirty i) (eqb i dim) off is))

-- the list is longer, or it is the same and one dimension less is to be looked at
less_left : (room old new before after : ℕ) → old ≤ new → new ≤ room → after ≤ 64 → (old ≡ new → after < before)
    → 65 * (room - new) + after < 65 * (room - old) + before
less_left room old new before after more short few same = go (cases_eq old new)
  where
    go : (old ≡ new) ⊎ (old ≡ new → ⊥) → 65 * (room - new) + after < 65 * (room - old) + before
    go (inl e) = omega (arith, e, same e)
    go (inr ne) = let longer : old < new = omega (arith, more, ne) in omega (arith, longer, short, few)

pub less_to_do : (instance : PlainInstance) (old mid new : List Exclusion) (room k dim : ℕ) (dirty less more : List ℕ)
    → Extends instance old mid → Extends instance mid new
    → k ≡ length old → length new ≤ room → members_below (row_has more) 64 ≤ 64 → (k ≡ length new → more ≡ less)
    → ((x : ℕ) → row_has less x ≡ row_has dirty x && not (eqb x dim)) → row_has dirty dim ≡ true → dim < 64
    → 65 * (room - length new) + members_below (row_has more) 64 < 65 * (room - length old) + members_below
    (row_has dirty) 64
less_to_do instance old mid new room k dim dirty less more first second e short few still one on small =
    less_left room (length old) (length new) (members_below (row_has dirty) 64) (members_below (row_has more) 64)
    (omega (arith, grown_first, grown_second)) short few
    (λ same. rw (still (e ∙ same)) (members_fewer (row_has dirty) (row_has less) dim 64 one on small))
  where
    grown_first : length mid ≡ length first.more + length old
    grown_first = rw first.grown (length-append first.more old)

    grown_second : length new ≡ length second.more + length mid
    grown_second = rw second.grown (length-append second.more mid)

-- a position of the list stays one where exclusions come on top
pub marked : (instance : PlainInstance) (k : ℕ) (old new : List Exclusion) → k ≡ length old → Extends instance old new
    → k ≤ length new
marked instance k old new e more = omega (arith, e, ap length more.grown ∙ length-append more.more old)
