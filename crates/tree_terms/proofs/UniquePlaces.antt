-- The places of a settled node are the only ones with the greatest ends.
use Rattle.std.proofs.Common.{◌≡◌, ℕ, ◌*◌, ◌<◌, ap, ◌∙◌, List, [], ◌∷◌, length, map}
use Rattle.std.proofs.lemmas.List.FromFn.{length-map-range_with_len, length-range_with_len}
use Rattle.packing_terms.specs.declared.Rel.TheVariants.{Overlap}
use Rattle.packing_terms.specs.declared.Exclusion.{Exclusion}
use Rattle.packing_terms.specs.Packing.{PlainInstance, dims, box_count}
use Rattle.packing_terms.specs.Limits.{IsInternalInstance}
use Rattle.packing_terms.specs.Scales.{SidesFit}
use Rattle.packing_terms.specs.Exclusions.{Exclusions, excludes, AreAtEdges}
use Rattle.packing_terms.specs.Closure.{IsStable}
use Rattle.packing_terms.proofs.Sets.{excludes_symmetric}
use Rattle.packing_terms.proofs.Internal.{internal_sides, some_dimension}
use Rattle.packing_terms.proofs.Lengths.{length_parts}
use Rattle.packing_terms.specs.Sums.{below}
use Rattle.packing_terms.specs.Places.{HasNoEmptyMask, IsGreatestEnd}
use Rattle.packing_terms.specs.Steps.{IsTrail}
use Rattle.packing_terms.proofs.UniqueEnds.{same_ends}
use Rattle.tree_terms.specs.InnerTree.{place_by, settled_places}
use Rattle.tree_terms.proofs.Nodes.{excluded_edge}
use Rattle.tree_terms.proofs.SettledPlaces.{settled_ends}

-- a trail is of dimensions and boxes that are there
pub trail_edges : (instance : PlainInstance) (d n : ℕ) (es : List Exclusion) → d ≡ dims instance
    → n ≡ box_count instance → IsTrail d n es → AreAtEdges instance es
trail_edges instance d n [] e f t = tt
trail_edges instance d n (x ∷ es) e f t = (rw (e, f) at t.0, trail_edges instance d n es e f t.2)

pub length_settled : (instance : PlainInstance) (X : Exclusions)
    → length (settled_places instance X) ≡ box_count instance * dims instance
length_settled instance X =
    length_parts (λ u. map (λ j. place_by instance X j (box_count instance) u) (below (dims instance))) (dims instance)
    (λ u. length-map-range_with_len (λ j. place_by instance X j (box_count instance) u) 0 (dims instance))
    (below (box_count instance))
    ∙ ap (λ n. n * dims instance) (length-range_with_len 0 (box_count instance))

module _ (instance : PlainInstance) (es : List Exclusion) (limits : IsInternalInstance instance)
    (placed : AreAtEdges instance es)
    (stable : IsStable instance (excludes es)) (full : HasNoEmptyMask instance (excludes es))
    (fit : SidesFit instance) where
  pub settled_only : (places : List ℕ) → length places ≡ box_count instance * dims instance
      → ((v i : ℕ) → v < box_count instance → i < dims instance → IsGreatestEnd instance (excludes es) places i v)
      → places ≡ settled_places instance (excludes es)
  settled_only places count ends =
      same_ends instance (internal_sides instance limits) (excludes es) (some_dimension instance limits) places
      (settled_places instance (excludes es))
      count (length_settled instance (excludes es)) ends
      (settled_ends instance (excludes es) stable (excludes_symmetric es) full (internal_sides instance limits) fit
      (λ i u v h. excluded_edge instance es placed i u v Overlap h))

-- the same of a state whose trail this is
pub places_are : (instance : PlainInstance) (d n : ℕ) (es : List Exclusion) (places : List ℕ)
    → IsInternalInstance instance → d ≡ dims instance → n ≡ box_count instance
    → IsTrail d n es → IsStable instance (excludes es) → HasNoEmptyMask instance (excludes es) → SidesFit instance
    → length places ≡ box_count instance * dims instance
    → ((v i : ℕ) → v < box_count instance → i < dims instance → IsGreatestEnd instance (excludes es) places i v)
    → places ≡ settled_places instance (excludes es)
places_are instance d n es places limits e f trail stable full fit count ends =
    settled_only instance es limits (trail_edges instance d n es e f trail) stable full fit places count ends
