-- Weights along a list of exclusions that is followed: what one change more orders.
use Rattle.std.proofs.Common.{◌≡◌, ◌≢◌, ℕ, ◌+◌, ◌<◌, ◌≤◌, ◌⊎◌, inl, inr, sym, subst, arith, Bool, true}
use Rattle.std.proofs.Common.{false, List, [], ◌∷◌, slice_index, zero, suc, drop}
use Rattle.std.proofs.lemmas.Bool.{or_right, cases_Bool}
use Rattle.packing_terms.specs.declared.Rel.TheVariants.{Overlap, After}
use Rattle.packing_terms.specs.declared.Exclusion.{Exclusion}
use Rattle.packing_terms.specs.declared.Direction.{Direction}
use Rattle.packing_terms.specs.Packing.{PlainInstance, dims, box_count}
use Rattle.packing_terms.specs.declared.Direction.TheVariants.{Forwards, Backwards}
use Rattle.packing_terms.specs.Exclusions.{excludes, Exclusions, IsSurelyBefore}
use Rattle.packing_terms.specs.Closure.{IsSubset}
use Rattle.packing_terms.specs.Places.{HasNoEmptyMask}
use Rattle.packing_terms.specs.Runs.{Leads, HasNoHeavierRun, IsTransitive}
use Rattle.packing_terms.proofs.Sets.{excludes_symmetric}
use Rattle.packing_terms.proofs.Turned.{one_way, transitive_back}
use Rattle.edge_state.specs.Edges.{PlainEdges, oldest}
use Rattle.edge_state.specs.Answers.{IsChangeAfter}
use Rattle.edge_state.specs.ChainWeights.{AreSettled}
use Rattle.edge_state.proofs.Touched.{IsAt, decide_at, only_old}
use Rattle.orientation_rules.specs.Weights.{HasOneWayChains}

-- what leads on by some exclusions does so by more
pub leads_more : (X Y : Exclusions) (i : ℕ) → IsSubset X Y → (direction : Direction) (u v : ℕ)
    → Leads X i direction u v → Leads Y i direction u v
leads_more X Y i sub Forwards u v lead = (sub i u v Overlap lead.0, sub i u v After lead.1)
leads_more X Y i sub Backwards u v lead = (sub i v u Overlap lead.0, sub i v u After lead.1)

-- the older part of a list excludes no more than the list
drop_less : (k : ℕ) (es : List Exclusion) → IsSubset (excludes (drop k es)) (excludes es)
drop_less zero es i u v r h = h
drop_less (suc k) [] i u v r h = h
drop_less (suc k) (e ∷ es) i u v r h = or_right _ _ (drop_less k es i u v r h)

pub oldest_less : (mark : ℕ) (es : List Exclusion) → IsSubset (excludes (oldest mark es)) (excludes es)
oldest_less mark es = drop_less _ es

module _ (e : Exclusion) (es more : List Exclusion) (i : ℕ) (sub : IsSubset (excludes (e ∷ es)) (excludes more)) where
  -- what leads on by one exclusion more led on before, or is the pair of that exclusion
  led_before : (direction : Direction) (u v : ℕ) → Leads (excludes (e ∷ es)) i direction u v
      → IsAt e i u v ⊎ Leads (excludes es) i direction u v
  led_before direction u v lead = go (decide_at e i u v)
    where
      old : (direction : Direction) → (IsAt e i u v → ⊥) → (IsAt e i v u → ⊥)
          → Leads (excludes (e ∷ es)) i direction u v → Leads (excludes es) i direction u v
      old Forwards off turned h = (only_old e es i u v Overlap off h.0, only_old e es i u v After off h.1)
      old Backwards off turned h = (only_old e es i v u Overlap turned h.0, only_old e es i v u After turned h.1)

      turn : IsAt e i v u → IsAt e i u v
      turn (d, inl h) = (d, inr h)
      turn (d, inr h) = (d, inl h)

      go : IsAt e i u v ⊎ (IsAt e i u v → ⊥) → IsAt e i u v ⊎ Leads (excludes es) i direction u v
      go (inl at) = inl at
      go (inr off) = inr (old direction off (λ h. off (turn h)) lead)

  module _ (direction : Direction) (w : ℕ → ℕ) (b c : List ℕ) (rose : ℕ → Bool)
      (stays : (x : ℕ) → rose x ≡ false → slice_index c x ≡ slice_index b x)
      (grows : (x : ℕ) → slice_index b x ≤ slice_index c x) where
    -- numbers that were settled along a list are so with one exclusion more, but beside those that rose
    settled_since : (n : ℕ)
        → ((v x : ℕ) → v < n → x < n → HasNoHeavierRun (Leads (excludes es) i direction) w b v x)
        → (e.dim ≡ i → HasNoHeavierRun (Leads (excludes more) i direction) w c e.u e.v)
        → (e.dim ≡ i → HasNoHeavierRun (Leads (excludes more) i direction) w c e.v e.u)
        → (v x : ℕ) → v < n → x < n → rose x ≡ false
        → HasNoHeavierRun (Leads (excludes (e ∷ es)) i direction) w c v x
    settled_since n old first second v x hv hx calm =
        record { below = λ ne lead. go ne lead (led_before direction v x lead) }
      where
        at : v ≢ x → Leads (excludes (e ∷ es)) i direction v x → IsAt e i v x
            → w v + slice_index c x ≤ slice_index c v
        at ne lead (d, inl h) = (rw (h.0, h.1) at (first d)).below ne
            (leads_more (excludes (e ∷ es)) (excludes more) i sub direction v x lead)
        at ne lead (d, inr h) = (rw (h.0, h.1) at (second d)).below ne
            (leads_more (excludes (e ∷ es)) (excludes more) i sub direction v x lead)

        go : v ≢ x → Leads (excludes (e ∷ es)) i direction v x
            → IsAt e i v x ⊎ Leads (excludes es) i direction v x
            → w v + slice_index c x ≤ slice_index c v
        go ne lead (inl here) = at ne lead here
        go ne lead (inr led) =
            let h = (old v x hv hx).below ne led in
            let e = stays x calm in
            let f = grows v in
            omega (arith, h, e, f)

-- one change more is processed: the raises are propagated, and the pair of the change is settled
pub settled_next : (s : PlainEdges) (n i mark : ℕ) (direction : Direction) (w : ℕ → ℕ) (e : Exclusion) (b c : List ℕ)
    (rose : ℕ → Bool) → IsChangeAfter s.trail mark e (mark + 1)
    → ((x : ℕ) → rose x ≡ false → slice_index c x ≡ slice_index b x)
    → ((x : ℕ) → slice_index b x ≤ slice_index c x)
    → ((v x : ℕ) → v < n → x < n → rose x ≡ true → HasNoHeavierRun (Leads (excludes s.trail) i direction) w c v x)
    → (e.dim ≡ i → HasNoHeavierRun (Leads (excludes s.trail) i direction) w c e.u e.v)
    → (e.dim ≡ i → HasNoHeavierRun (Leads (excludes s.trail) i direction) w c e.v e.u)
    → AreSettled n (Leads (excludes (oldest mark s.trail)) i direction) w b
    → AreSettled n (Leads (excludes (oldest (mark + 1) s.trail)) i direction) w c
settled_next s n i mark direction w e b c rose change stays grows propagated first second old v x hv hx =
    go (cases_Bool (rose x))
  where
    go : (rose x ≡ true) ⊎ (rose x ≡ false)
        → HasNoHeavierRun (Leads (excludes (oldest (mark + 1) s.trail)) i direction) w c v x
    go (inl on) = record {
      below = λ ne lead. (propagated v x hv hx on).below ne
          (leads_more (excludes (oldest (mark + 1) s.trail)) (excludes s.trail) i (oldest_less (mark + 1) s.trail)
          direction v x lead);
    }
    go (inr off) = subst (λ (l : List Exclusion). HasNoHeavierRun (Leads (excludes l) i direction) w c v x)
        (sym change.newest)
        (settled_since e (oldest mark s.trail) s.trail i
        (subst (λ (l : List Exclusion). IsSubset (excludes l) (excludes s.trail)) change.newest
        (oldest_less (mark + 1) s.trail))
        direction w b c rose stays grows n old first second v x hv hx off)

-- where no mask is empty and surely before is transitive, chains go one way, read in both directions
pub one_way_chains : (instance : PlainInstance) (s : PlainEdges) (i : ℕ) (direction : Direction)
    → s.dims ≡ dims instance → s.boxes ≡ box_count instance → i < s.dims
    → HasNoEmptyMask instance (excludes s.trail)
    → IsTransitive (box_count instance) (IsSurelyBefore (excludes s.trail) i)
    → HasOneWayChains instance s i direction
one_way_chains instance s i direction same_dims same_boxes there full trans = record {
  same_dims = same_dims;
  same_boxes = same_boxes;
  dim = there;
  transitive = transitive_back (excludes s.trail) i instance trans direction;
  one_way = one_way (excludes s.trail) i instance (omega (arith, there, same_dims)) (excludes_symmetric s.trail) full
      direction;
}
