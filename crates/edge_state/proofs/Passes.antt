-- Passes follow one another.
use Rattle.std.proofs.Common.{◌≡◌, ℕ, ◌+◌, ◌<◌, ◌≤◌, ◌⊎◌, inl, inr, refl, sym, subst, ◌∙◌, arith, false, List}
use Rattle.std.proofs.Common.{slice_index}
use Rattle.std.proofs.lemmas.Bool.{true≢false, cases_lt}
use Rattle.packing_terms.specs.declared.Rel.TheVariants.{Before}
use Rattle.packing_terms.specs.declared.Exclusion.{Exclusion}
use Rattle.packing_terms.specs.Packing.{PlainInstance, box_count, container_side}
use Rattle.packing_terms.specs.Exclusions.{excludes}
use Rattle.packing_terms.specs.Closure.{IsSubset}
use Rattle.packing_terms.specs.Runs.{AreHeads, AreTails, AreHeaviestHeads, AreHeaviestTails}
use Rattle.packing_terms.proofs.Applied.{extends_refl, extends_trans}
use Rattle.packing_terms.proofs.ChainsMore.{head_more, tail_more}
use Rattle.edge_state.specs.Edges.{PlainEdges}
use Rattle.edge_state.specs.States.{IsSized}
use Rattle.edge_state.specs.Work.{IsChainIn, HasApplied}
use Rattle.edge_state.specs.Passes.{IsPass, IsChainChecked}
use Rattle.edge_state.proofs.Chained.{chained_heaviest}

-- what is done stays so when exclusions come on top
abbrev pub IsKept : (List Exclusion → Type 0) → Type 0
IsKept P = (es fs : List Exclusion) → IsSubset (excludes es) (excludes fs) → P es → P fs

pub pass_none : (instance : PlainInstance) (s : PlainEdges) (P : List Exclusion → Type 0) → P s.trail
    → IsPass instance s s P
pass_none instance s P p = record {
  same_dims = refl;
  same_boxes = refl;
  same_box_capacity = refl;
  extends = extends_refl instance s.trail;
  done = p;
}

-- one after another, both are done
pub pass_then : (instance : PlainInstance) (a b c : PlainEdges) (P Q : List Exclusion → Type 0) → IsKept P
    → IsPass instance a b P → IsPass instance b c Q
    → IsPass instance a c (λ es. P es × Q es)
pass_then instance a b c P Q kept h k = record {
  same_dims = k.same_dims ∙ h.same_dims;
  same_boxes = k.same_boxes ∙ h.same_boxes;
  same_box_capacity = k.same_box_capacity ∙ h.same_box_capacity;
  extends = extends_trans instance a.trail b.trail c.trail h.extends k.extends;
  done = (kept b.trail c.trail k.extends.kept h.done, k.done);
}

pub pass_as : (instance : PlainInstance) (a b : PlainEdges) (P Q : List Exclusion → Type 0)
    → ((es : List Exclusion) → P es → Q es)
    → IsPass instance a b P → IsPass instance a b Q
pass_as instance a b P Q f h =
    record {
      same_dims = h.same_dims;
      same_boxes = h.same_boxes;
      same_box_capacity = h.same_box_capacity;
      extends = h.extends;
      done = f b.trail h.done;
    }

-- one more of a range
pub pass_next : (instance : PlainInstance) (a b c : PlainEdges) (k : ℕ) (P : ℕ → List Exclusion → Type 0)
    → ((j : ℕ) → IsKept (P j))
    → IsPass instance a b (λ es. (j : ℕ) → j < k → P j es) → IsPass instance b c (P k)
    → IsPass instance a c (λ es. (j : ℕ) → j < k + 1 → P j es)
pass_next instance a b c k P kept h here =
    pass_as instance a c (λ es. ((j : ℕ) → j < k → P j es) × P k es) (λ es. (j : ℕ) → j < k + 1 → P j es)
    (λ es p j l. go es p j (cases_lt j k) l)
    (pass_then instance a b c (λ es. (j : ℕ) → j < k → P j es) (P k)
    (λ es fs more f j l. kept j es fs more (f j l)) h here)
  where
    go : (es : List Exclusion) → ((j : ℕ) → j < k → P j es) × P k es → (j : ℕ) → (j < k) ⊎ (k ≤ j) → j < k + 1 → P j es
    go es p j (inl f) l = p.0 j f
    go es p j (inr f) l = let same : j ≡ k = omega arith in subst (λ (z : ℕ). P z es) (sym same) p.1

pub pass_start : (instance : PlainInstance) (s : PlainEdges) (P : ℕ → List Exclusion → Type 0)
    → IsPass instance s s (λ es. (j : ℕ) → j < 0 → P j es)
pass_start instance s P = pass_none instance s (λ es. (j : ℕ) → j < 0 → P j es) (λ j l. absurd (omega arith))

-- the sizes stay
pub sizes_passed : (instance : PlainInstance) (a b : PlainEdges) (i : ℕ) (P : List Exclusion → Type 0)
    → IsPass instance a b P → IsSized instance a i → IsSized instance b i
sizes_passed instance a b i P h sizes =
    record {
      same_dims = h.same_dims ∙ sizes.same_dims;
      same_boxes = h.same_boxes ∙ sizes.same_boxes;
      there = sizes.there;
    }

module _ (instance : PlainInstance) (i : ℕ) where
  -- weights of chains stay weights of chains
  pub heads_more : (es fs : List Exclusion) (ks : List ℕ) → IsSubset (excludes es) (excludes fs)
      → AreHeads instance (excludes es) i ks → AreHeads instance (excludes fs) i ks
  heads_more es fs ks more h v hv = head_more instance (excludes es) (excludes fs) more i v (slice_index ks v) (h v hv)

  pub tails_more : (es fs : List Exclusion) (ks : List ℕ) → IsSubset (excludes es) (excludes fs)
      → AreTails instance (excludes es) i ks → AreTails instance (excludes fs) i ks
  tails_more es fs ks more h v hv = tail_more instance (excludes es) (excludes fs) more i v (slice_index ks v) (h v hv)

  pub shut_kept : (head tail : List ℕ) (u v : ℕ) → IsKept (IsChainChecked instance i head tail u v)
  shut_kept head tail u v es fs more h = record { shut = λ ne wide. more i u v Before (h.shut ne wide) }

  -- no chain is too heavy where the heaviest isn't
  pub shut_fits : (head tail : List ℕ) (u v most : ℕ) (es : List Exclusion)
      → slice_index head u + most ≤ container_side instance i
      → slice_index tail v ≤ most → IsChainChecked instance i head tail u v es
  shut_fits head tail u v most es fit less = record { shut = λ ne heavy. absurd (omega (arith, heavy, fit, less)) }

  -- with the weights of heaviest chains a pass over all pairs covers what CHAIN adds
  pub worked_heaviest : (a b : PlainEdges) (head tail : List ℕ)
      → AreHeaviestHeads instance (excludes a.trail) i head
      → AreHeaviestTails instance (excludes a.trail) i tail
      → IsPass instance a b (λ es. (u : ℕ) → u < box_count instance → (v : ℕ) → v < box_count instance
      → IsChainChecked instance i head tail u v es)
      → HasApplied instance a b false (IsChainIn i)
  worked_heaviest a b head tail heads tails h = record {
    same_dims = h.same_dims;
    same_boxes = h.same_boxes;
    same_box_capacity = h.same_box_capacity;
    extends = h.extends;
    empty = λ e. absurd (true≢false (sym e));
    done = λ e. (chained_heaviest instance i a.trail b.trail head tail heads tails h.done).covered;
  }
