-- Rule instances applied one after another.
use Rattle.std.proofs.Common.{◌≡◌, ℕ, ◌+◌, ◌<◌, ◌≤◌, ◌⊎◌, inl, inr, refl, sym, ap, subst, ◌∙◌, arith, Bool, true, false}
use Rattle.std.proofs.Common.{List}
use Rattle.std.proofs.lemmas.Bool.{true≢false, cases_lt}
use Rattle.packing_terms.specs.declared.Rel.{Rel}
use Rattle.packing_terms.specs.declared.Exclusion.{Exclusion}
use Rattle.packing_terms.specs.Packing.{PlainInstance}
use Rattle.packing_terms.specs.Exclusions.{Exclusions, excludes}
use Rattle.packing_terms.specs.Rules.{Rule, IsRuleInstance, Premises}
use Rattle.packing_terms.specs.Applied.{Adds, added, mirror_added, IsApplied}
use Rattle.packing_terms.proofs.Applied.{extends_refl, extends_trans}
use Rattle.edge_state.specs.Edges.{PlainEdges}
use Rattle.edge_state.specs.States.{IsSized}
use Rattle.edge_state.specs.Work.{IsCovered, IsNeeded, HasApplied}
use Rattle.edge_state.proofs.Touched.{adds_more}
use Rattle.edge_state.proofs.Needed.{needed_less}

-- nothing was done, and nothing was to be done
pub worked_none : (instance : PlainInstance) (s : PlainEdges) (R : Rule → Type 0)
    → ((rule : Rule) → R rule → IsCovered instance (excludes s.trail) s.trail rule) → HasApplied instance s s false R
worked_none instance s R h = record {
  same_dims = refl;
  same_boxes = refl;
  same_box_capacity = refl;
  extends = extends_refl instance s.trail;
  empty = λ e. absurd (true≢false (sym e));
  done = λ e. h;
}

-- what is no instance of a rule adds nothing
pub covered_no_instance : (instance : PlainInstance) (X : Exclusions) (es : List Exclusion) (rule : Rule)
    → (IsRuleInstance instance rule → ⊥)
    → IsCovered instance X es rule
covered_no_instance instance X es rule fails = record { holds = λ i u v r add need. go i u v r add }
  where
    go : (i u v : ℕ) (r : Rel) → Adds instance X rule i u v r → excludes es i u v r ≡ true
    go _ _ _ _ (added r is p c) = absurd (fails is)
    go _ _ _ _ (mirror_added r is p c) = absurd (fails is)

-- nor does one whose premises fail
pub covered_not : (instance : PlainInstance) (X : Exclusions) (es : List Exclusion) (rule : Rule)
    → (Premises instance X rule → ⊥) → IsCovered instance X es rule
covered_not instance X es rule fails = record { holds = λ i u v r add need. go i u v r add }
  where
    go : (i u v : ℕ) (r : Rel) → Adds instance X rule i u v r → excludes es i u v r ≡ true
    go _ _ _ _ (added r is p c) = absurd (fails p)
    go _ _ _ _ (mirror_added r is p c) = absurd (fails p)

-- the numbers of an instance are in range
pub covered_if : (instance : PlainInstance) (X : Exclusions) (es : List Exclusion) (rule : Rule)
    → (IsRuleInstance instance rule → IsCovered instance X es rule)
    → IsCovered instance X es rule
covered_if instance X es rule h = record { holds = λ i u v r add need. go i u v r add need }
  where
    go : (i u v : ℕ) (r : Rel) → Adds instance X rule i u v r → IsNeeded (excludes es) rule r
        → excludes es i u v r ≡ true
    go i u v r (added s is p c) need = (h is).holds _ _ _ _ (added s is p c) need
    go i u v r (mirror_added s is p c) need = (h is).holds _ _ _ _ (mirror_added s is p c) need

-- a rule was applied, and no mask of its edge is lost
pub worked_applied : (instance : PlainInstance) (a b : PlainEdges) (x : Bool) (rule : Rule)
    → b ≡ record a { trail = b.trail }
    → IsApplied instance rule a.trail b.trail x → HasApplied instance a b false (λ s. s ≡ rule)
worked_applied instance a b x rule e h = record {
  same_dims = ap (λ (s : PlainEdges). s.dims) e;
  same_boxes = ap (λ (s : PlainEdges). s.boxes) e;
  same_box_capacity = ap (λ (s : PlainEdges). s.room) e;
  extends = h.step.extends;
  empty = λ f. absurd (true≢false (sym f));
  done = λ f s is. subst (λ (t : Rule). IsCovered instance (excludes a.trail) b.trail t) (sym is)
      (record { holds = λ i u v r add need. (h.exact i u v r).1 (inr add) });
}

-- fewer instances
pub worked_as : (instance : PlainInstance) (a b : PlainEdges) (lost : Bool) (R S : Rule → Type 0)
    → ((rule : Rule) → S rule → R rule)
    → HasApplied instance a b lost R → HasApplied instance a b lost S
worked_as instance a b lost R S f h = record {
  same_dims = h.same_dims;
  same_boxes = h.same_boxes;
  same_box_capacity = h.same_box_capacity;
  extends = h.extends;
  empty = h.empty;
  done = λ e rule s. h.done e rule (f rule s);
}

-- one after the other, where the first lost no mask
pub worked_then : (instance : PlainInstance) (a b c : PlainEdges) (lost : Bool) (R S : Rule → Type 0)
    → HasApplied instance a b false R → HasApplied instance b c lost S
    → HasApplied instance a c lost (λ rule. R rule ⊎ S rule)
worked_then instance a b c lost R S h k = record {
  same_dims = k.same_dims ∙ h.same_dims;
  same_boxes = k.same_boxes ∙ h.same_boxes;
  same_box_capacity = k.same_box_capacity ∙ h.same_box_capacity;
  extends = extends_trans instance a.trail b.trail c.trail h.extends k.extends;
  empty = k.empty;
  done = λ e rule is. go e rule is;
}
  where
    go : lost ≡ false → (rule : Rule) → R rule ⊎ S rule → IsCovered instance (excludes a.trail) c.trail rule
    go e rule (inl r) = record {
      holds = λ i u v x add need. k.extends.kept i u v x
          ((h.done refl rule r).holds i u v x add
          (needed_less (excludes b.trail) (excludes c.trail) k.extends.kept rule x need));
    }
    go e rule (inr s) = record {
      holds = λ i u v x add need. (k.done e rule s).holds i u v x
          (adds_more instance (excludes a.trail) (excludes b.trail) h.extends.kept rule i u v x add) need;
    }

-- one more of a range
pub worked_next : (instance : PlainInstance) (a b c : PlainEdges) (lost : Bool) (k : ℕ) (P : ℕ → Rule → Type 0)
    → HasApplied instance a b false (λ rule. (j : ℕ) × (j < k) × P j rule) → HasApplied instance b c lost (P k)
    → HasApplied instance a c lost (λ rule. (j : ℕ) × (j < k + 1) × P j rule)
worked_next instance a b c lost k P h here =
    worked_as instance a c lost (λ rule. ((j : ℕ) × (j < k) × P j rule) ⊎ P k rule)
    (λ rule. (j : ℕ) × (j < k + 1) × P j rule)
    (λ rule s. go rule s.0 s.1 s.2 (cases_lt s.0 k))
    (worked_then instance a b c lost (λ rule. (j : ℕ) × (j < k) × P j rule) (P k) h here)
  where
    go : (rule : Rule) (j : ℕ) → j < k + 1 → P j rule → (j < k) ⊎ (k ≤ j) → ((i : ℕ) × (i < k) × P i rule) ⊎ P k rule
    go rule j l p (inl f) = inl (j, f, p)
    go rule j l p (inr f) = let same : j ≡ k = omega arith in inr (subst (λ (i : ℕ). P i rule) same p)

pub worked_start : (instance : PlainInstance) (s : PlainEdges) (P : ℕ → Rule → Type 0)
    → HasApplied instance s s false (λ rule. (j : ℕ) × (j < 0) × P j rule)
worked_start instance s P = worked_none instance s (λ rule. (j : ℕ) × (j < 0) × P j rule)
    (λ rule h. absurd (omega (arith, h.1)))

-- a mask was lost on the way
pub worked_lost : (instance : PlainInstance) (a b c : PlainEdges) (lost : Bool) (R S T : Rule → Type 0) → lost ≡ true
    → HasApplied instance a b false R → HasApplied instance b c lost S → HasApplied instance a c true T
worked_lost instance a b c lost R S T e h k = record {
  same_dims = k.same_dims ∙ h.same_dims;
  same_boxes = k.same_boxes ∙ h.same_boxes;
  same_box_capacity = k.same_box_capacity ∙ h.same_box_capacity;
  extends = extends_trans instance a.trail b.trail c.trail h.extends k.extends;
  empty = λ f. k.empty e;
  done = λ f. absurd (true≢false f);
}

-- the same where nothing was done before
pub worked_lost_first : (instance : PlainInstance) (a b : PlainEdges) (lost : Bool) (S T : Rule → Type 0) → lost ≡ true
    → HasApplied instance a b lost S → HasApplied instance a b true T
worked_lost_first instance a b lost S T e k = record {
  same_dims = k.same_dims;
  same_boxes = k.same_boxes;
  same_box_capacity = k.same_box_capacity;
  extends = k.extends;
  empty = λ f. k.empty e;
  done = λ f. absurd (true≢false f);
}

pub worked_kept : (instance : PlainInstance) (a b : PlainEdges) (lost : Bool) (R : Rule → Type 0) → lost ≡ false
    → HasApplied instance a b lost R → HasApplied instance a b false R
worked_kept instance a b lost R e h = subst (λ (x : Bool). HasApplied instance a b x R) e h

-- the sizes stay
pub sizes_worked : (instance : PlainInstance) (a b : PlainEdges) (i : ℕ) (x : Bool) (R : Rule → Type 0)
    → HasApplied instance a b x R → IsSized instance a i → IsSized instance b i
sizes_worked instance a b i x R h sizes =
    record {
      same_dims = h.same_dims ∙ sizes.same_dims;
      same_boxes = h.same_boxes ∙ sizes.same_boxes;
      there = sizes.there;
    }
