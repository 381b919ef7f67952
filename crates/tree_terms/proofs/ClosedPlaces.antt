-- The places of a closed node without conflict.
use Rattle.std.proofs.Common.{◌≡◌, ℕ, ◌<◌, ◌⊎◌, inl, inr, true, false, List}
use Rattle.std.proofs.lemmas.Bool.{cases_Bool}
use Rattle.packing_terms.specs.declared.Rel.TheVariants.{Overlap}
use Rattle.packing_terms.specs.declared.Exclusion.{Exclusion}
use Rattle.packing_terms.specs.Packing.{PlainInstance, IsPacking, HasPositiveSides, dims, box_count}
use Rattle.packing_terms.specs.Scales.{SidesFit}
use Rattle.packing_terms.specs.Exclusions.{excludes, AreAtEdges}
use Rattle.packing_terms.specs.Closure.{HasConflict}
use Rattle.packing_terms.proofs.Sets.{excludes_symmetric}
use Rattle.packing_terms.specs.Rounds.{closure, has_empty_mask}
use Rattle.packing_terms.specs.Places.{IsOrdered, IsGreatestEnd}
use Rattle.packing_terms.proofs.RoundsLemmas.{closure_stable}
use Rattle.tree_terms.specs.InnerTree.{settled_places}
use Rattle.tree_terms.proofs.Nodes.{excluded_edge, closure_edges}
use Rattle.packing_terms.proofs.Conflicts.{stormy, full_masks}
use Rattle.tree_terms.proofs.SettledPlaces.{settled_ends, settled_pack}

module _ (instance : PlainInstance) (es : List Exclusion) (sides : HasPositiveSides instance) (fit : SidesFit instance)
    (placed : AreAtEdges instance es)
    (calm : ¬ HasConflict instance (excludes es)) where
  no_conflict : has_empty_mask (excludes (closure instance es)) (dims instance) (box_count instance) ≡ false
  no_conflict = go (cases_Bool (has_empty_mask (excludes (closure instance es)) (dims instance) (box_count instance)))
    where
      go : (has_empty_mask (excludes (closure instance es)) (dims instance) (box_count instance) ≡ true)
          ⊎ (has_empty_mask (excludes (closure instance es)) (dims instance) (box_count instance) ≡ false)
          → has_empty_mask (excludes (closure instance es)) (dims instance) (box_count instance) ≡ false
      go (inl k) = absurd (calm (stormy instance es k))
      go (inr k) = k

  pub closed_ends : (v i : ℕ) → v < box_count instance → i < dims instance
      → IsGreatestEnd instance (excludes (closure instance es))
      (settled_places instance (excludes (closure instance es))) i v
  closed_ends = settled_ends instance (excludes (closure instance es)) (closure_stable instance es)
      (excludes_symmetric (closure instance es))
      (full_masks instance es no_conflict) sides fit
      (λ i u v h. excluded_edge instance (closure instance es) (closure_edges instance es placed) i u v Overlap h)

  pub closed_pack : ((u v : ℕ) → u < v → v < box_count instance
      → IsOrdered instance (excludes (closure instance es)) u v)
      → IsPacking instance (settled_places instance (excludes (closure instance es)))
  closed_pack = settled_pack instance (excludes (closure instance es)) (closure_stable instance es)
      (excludes_symmetric (closure instance es))
      (full_masks instance es no_conflict) sides fit
      (λ i u v h. excluded_edge instance (closure instance es) (closure_edges instance es placed) i u v Overlap h)
