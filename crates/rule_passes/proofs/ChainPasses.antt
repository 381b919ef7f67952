-- CHAIN in some rows and some columns is CHAIN at all pairs, where each other two boxes fit.
use Rattle.std.proofs.Common.{◌≡◌, ℕ, ◌+◌, ◌<◌, ◌≤◌, ◌∙◌, sym, ◌⊎◌, inl, inr, arith, Bool, true, false, List, slice_index, IsTrue, refl}
use Rattle.std.proofs.lemmas.Bool.{true≢false, cases_Bool, cases_lt}
use Rattle.packing_terms.specs.declared.Rel.TheVariants.{Before}
use Rattle.packing_terms.specs.declared.Exclusion.{Exclusion}
use Rattle.packing_terms.specs.Packing.{PlainInstance, box_count, container_side}
use Rattle.packing_terms.specs.Exclusions.{excludes}
use Rattle.packing_terms.specs.Runs.{AreHeaviestHeads, AreHeaviestTails}
use Rattle.packing_terms.proofs.Applied.{extends_trans}
use Rattle.edge_state.specs.States.{HasEmptyMask}
use Rattle.edge_state.specs.Work.{IsChainIn, HasApplied}
use Rattle.edge_state.specs.BitRows.{row_has}
use Rattle.edge_state.specs.Edges.{PlainEdges}
use Rattle.edge_state.specs.Passes.{IsPass, IsChainChecked}
use Rattle.edge_state.proofs.Passes.{pass_as, pass_none, pass_then, shut_kept, worked_heaviest}
use Rattle.packing_terms.specs.declared.Direction.TheVariants.{Forwards, Backwards}
use Rattle.edge_state.specs.ChainWeights.{FitsBefore, weights_in}
use Rattle.orientation_rules.specs.Pending.{FitOutside}

module _ (instance : PlainInstance) (i : ℕ) (numbers : List (List ℕ)) (firsts seconds : List ℕ) where
  abbrev head : List ℕ
  head = weights_in numbers Backwards i

  abbrev tail : List ℕ
  tail = weights_in numbers Forwards i

  abbrev Checked : ℕ → ℕ → List Exclusion → Type 0
  Checked u v es = IsChainChecked instance i head tail u v es

  abbrev Others : List Exclusion → Type 0
  Others es = (u : ℕ) → u < box_count instance → row_has firsts u ≡ false → (v : ℕ) → v < box_count instance
      → row_has seconds v ≡ false → Checked u v es

  abbrev Rows : List Exclusion → Type 0
  Rows es = (u : ℕ) → row_has firsts u ≡ true → (v : ℕ) → v < box_count instance → Checked u v es

  abbrev Columns : List Exclusion → Type 0
  Columns es = (v : ℕ) → row_has seconds v ≡ true → (u : ℕ) → u < box_count instance → Checked u v es

  -- two boxes that fit have nothing to be excluded
  others : (s : PlainEdges) → FitOutside instance s i numbers firsts seconds → Others s.trail
  others s outside u hu first v hv second = record {
    shut = λ ne wide. decide ne wide (cases_Bool (excludes s.trail i u v Before));
  }
    where
      decide : (u ≡ v → ⊥) → container_side instance i < slice_index head u + slice_index tail v
          → (excludes s.trail i u v Before ≡ true) ⊎ (excludes s.trail i u v Before ≡ false)
          → IsTrue (excludes s.trail i u v Before)
      decide ne wide (inl on) = on
      decide ne wide (inr off) =
          let fit = outside.fit u v hu hv first second ne off in absurd (omega (arith, fit, wide))

  pub chains_passed : (a b c : PlainEdges) (lost : Bool) → FitOutside instance a i numbers firsts seconds
      → IsPass instance a b Rows → IsPass instance b c (λ es. lost ≡ false → Columns es)
      → IsPass instance a c (λ es. lost ≡ false → (u : ℕ) → u < box_count instance → (v : ℕ) → v < box_count instance
      → Checked u v es)
  chains_passed a b c lost outside rows columns =
      pass_as instance a c (λ es. (Others es × Rows es) × (lost ≡ false → Columns es)) _
      (λ es p e u hu v hv. go es p.0.0 p.0.1 (p.1 e) u hu v hv (cases_Bool (row_has firsts u)) (cases_Bool (row_has seconds v)))
      (pass_then instance a b c (λ es. Others es × Rows es) (λ es. lost ≡ false → Columns es)
      (λ es fs more p. (
        λ u hu first v hv second. shut_kept instance i head tail u v es fs more (p.0 u hu first v hv second),
        λ u on v hv. shut_kept instance i head tail u v es fs more (p.1 u on v hv),
      ))
      (pass_then instance a a b Others Rows
      (λ es fs more p u hu first v hv second. shut_kept instance i head tail u v es fs more
      (p u hu first v hv second)) (pass_none instance a Others (others a outside)) rows) columns)
    where
      go : (es : List Exclusion) → Others es → Rows es → Columns es → (u : ℕ) → u < box_count instance → (v : ℕ)
          → v < box_count instance → (row_has firsts u ≡ true) ⊎ (row_has firsts u ≡ false)
          → (row_has seconds v ≡ true) ⊎ (row_has seconds v ≡ false) → Checked u v es
      go es other row column u hu v hv (inl on) _ = row u on v hv
      go es other row column u hu v hv (inr off) (inl on) = column v on u hu
      go es other row column u hu v hv (inr off) (inr none) = other u hu off v hv none

-- where CHAIN was looked at in all pairs, each two boxes fit of which one may be before the other
pub all_fit : (instance : PlainInstance) (i : ℕ) (head tail : List ℕ) (es : List Exclusion)
    → ((u : ℕ) → u < box_count instance → (v : ℕ) → v < box_count instance → IsChainChecked instance i head tail u v es)
    → (u v : ℕ) → u < box_count instance → v < box_count instance
    → FitsBefore i (excludes es) (container_side instance i) head tail u v
all_fit instance i head tail es checked u v hu hv ne off =
    go (cases_lt (container_side instance i) (slice_index head u + slice_index tail v))
  where
    go : (container_side instance i < slice_index head u + slice_index tail v)
        ⊎ (slice_index head u + slice_index tail v ≤ container_side instance i)
        → slice_index head u + slice_index tail v ≤ container_side instance i
    go (inl wide) = absurd (true≢false (sym ((checked u hu v hv).shut ne wide) ∙ off))
    go (inr fits) = fits

-- a pass that ends at an empty mask says nothing of what is done
pub pass_lost : (instance : PlainInstance) (a b c : PlainEdges) (lost : Bool) (P Q R : List Exclusion → Type 0)
    → lost ≡ true → IsPass instance a b P → IsPass instance b c Q
    → IsPass instance a c (λ es. lost ≡ false → R es)
pass_lost instance a b c lost P Q R e h k = record {
  same_dims = k.same_dims ∙ h.same_dims;
  same_boxes = k.same_boxes ∙ h.same_boxes;
  same_box_capacity = k.same_box_capacity ∙ h.same_box_capacity;
  extends = extends_trans _ _ _ _ h.extends k.extends;
  done = λ f. absurd (true≢false (sym e ∙ f));
}

-- with the weights of heaviest chains a pass over all pairs covers what CHAIN adds, or ends at an empty mask
pub worked_chains : (instance : PlainInstance) (a b : PlainEdges) (lost : Bool) (i : ℕ) (head tail : List ℕ)
    → AreHeaviestHeads instance (excludes a.trail) i head → AreHeaviestTails instance (excludes a.trail) i tail
    → IsPass instance a b (λ es. lost ≡ false → (u : ℕ) → u < box_count instance → (v : ℕ) → v < box_count instance
    → IsChainChecked instance i head tail u v es)
    → (lost ≡ true → HasEmptyMask instance (excludes b.trail)) → HasApplied instance a b lost (IsChainIn i)
worked_chains instance a b true i ends starts heads tails h empty = record {
  same_dims = h.same_dims;
  same_boxes = h.same_boxes;
  same_box_capacity = h.same_box_capacity;
  extends = h.extends;
  empty = λ e. empty e;
  done = λ e. absurd (true≢false e);
}
worked_chains instance a b false i ends starts heads tails h empty =
    worked_heaviest instance i a b ends starts heads tails (pass_as _ _ _ _ _ (λ es f. f refl) h)
