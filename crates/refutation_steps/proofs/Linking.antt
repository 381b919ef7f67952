-- The edges of three boxes, and sizes that stay.
use Rattle.std.proofs.Common.{ℕ, sym, subst, List, [], ◌∷◌}
use Rattle.packing_terms.specs.Packing.{PlainInstance, dims, box_count}
use Rattle.packing_terms.specs.Exclusions.{IsEdgeAmong}
use Rattle.packing_terms.specs.Rules.{AreBoxesAmong}
use Rattle.edge_state.specs.Edges.{PlainEdges}
use Rattle.edge_state.specs.States.{IsSized}
use Rattle.verdict_terms.specs.Steps.{PlainStep}
use Rattle.refutation_steps.specs.Goes.{Goes}

module _ (instance : PlainInstance) (s : PlainEdges) (i : ℕ) where
  back : (u v : ℕ) → IsSized instance s i → IsEdgeAmong (dims instance) (box_count instance) i u v
      → IsEdgeAmong s.dims s.boxes i u v
  back u v h e = subst (λ (d : ℕ). IsEdgeAmong d s.boxes i u v) (sym h.same_dims)
      (subst (λ (n : ℕ). IsEdgeAmong (dims instance) n i u v) (sym h.same_boxes) e)

  pub edge_uv : (u v x : ℕ) → IsSized instance s i → AreBoxesAmong (box_count instance) (u ∷ v ∷ x ∷ [])
      → IsEdgeAmong s.dims s.boxes i u v
  edge_uv u v x h b = back u v h (record { dim = h.there; first = b.0; second = b.2.0; distinct = b.1.0 })

  pub edge_vx : (u v x : ℕ) → IsSized instance s i → AreBoxesAmong (box_count instance) (u ∷ v ∷ x ∷ [])
      → IsEdgeAmong s.dims s.boxes i v x
  edge_vx u v x h b = back v x h (record { dim = h.there; first = b.2.0; second = b.2.2.0; distinct = b.2.1.0 })

  pub edge_ux : (u v x : ℕ) → IsSized instance s i → AreBoxesAmong (box_count instance) (u ∷ v ∷ x ∷ [])
      → IsEdgeAmong s.dims s.boxes i u x
  edge_ux u v x h b = back u x h (record { dim = h.there; first = b.0; second = b.2.2.0; distinct = b.1.1.0 })

  pub boxes_there : (vs : List ℕ) → IsSized instance s i → AreBoxesAmong (box_count instance) vs
      → AreBoxesAmong s.boxes vs
  boxes_there vs h b = subst (λ (n : ℕ). AreBoxesAmong n vs) (sym h.same_boxes) b

module _ (instance : PlainInstance) where
  pub sized_on : (a b : PlainEdges) (x y : List PlainStep) (i : ℕ) → Goes instance a b x y → IsSized instance a i
      → IsSized instance b i
  sized_on a b x y i g h = subst (λ (s : PlainEdges). IsSized instance s i) (sym g.sizes)
      (record { same_dims = h.same_dims; same_boxes = h.same_boxes; there = h.there })
