-- Surely before, made transitive by COMPOSE.
use Rattle.std.proofs.Common.{◌≡◌, ◌<◌, ◌≤◌, ◌+◌, ◌*◌, ℕ, ◌⊎◌, inl, inr, refl, sym, ap, subst, ◌∙◌, arith, true, false}
use Rattle.std.proofs.Common.{cond, Bool, List, [], ◌∷◌, IsTrue}
use Rattle.std.proofs.lemmas.Bool.{true≢false, cases_lt, and_parts, and_from}
use Rattle.packing_terms.specs.declared.Rel.{Rel}
use Rattle.packing_terms.specs.declared.Rel.TheVariants.{Overlap, Before, After}
use Rattle.packing_terms.specs.declared.Exclusion.{Exclusion}
use Rattle.packing_terms.specs.Packing.{PlainInstance, dims, box_count}
use Rattle.packing_terms.specs.Relations.{allows}
use Rattle.packing_terms.specs.Exclusions.{Exclusions, excludes, exclusion_at, IsSurelyBefore}
use Rattle.packing_terms.specs.Rules.{Rule, Compose, AreBoxesAmong}
use Rattle.packing_terms.specs.Rounds.{is_surely_before}
use Rattle.packing_terms.specs.Runs.{IsTransitive}
use Rattle.edge_state.specs.Edges.{PlainEdges}
use Rattle.verdict_terms.specs.Steps.{PlainStep}
use Rattle.verdict_terms.specs.Explaining.{IsStep, after_rule}
use Rattle.verdict_terms.specs.Stepping.{StepsTo}
use Rattle.verdict_terms.specs.Kept.{opens}
use Rattle.verdict_terms.proofs.Leaves.{applied, step_changes}
use Rattle.refutation_steps.specs.Goes.{Goes, Gives, IsStepped}
use Rattle.refutation_steps.specs.Links.{IsLinkedAt, IsLinkTry}
use Rattle.refutation_steps.proofs.Going.{goes_nowhere, goes_on}

module _ (instance : PlainInstance) where
  step_fewer : (es : List Exclusion) (rule : Rule) → IsStep instance es rule
      → opens instance (after_rule es rule) < opens instance es
  step_fewer es rule s = (applied instance es rule s.is s.premises).step.shrinks (step_changes instance es rule s)

  steps_fewer : (rules : List Rule) (es fs : List Exclusion) → StepsTo instance es rules fs
      → opens instance fs ≤ opens instance es
  steps_fewer [] es fs h = subst (λ (l : List Exclusion). opens instance l ≤ opens instance es) h (omega arith)
  steps_fewer (rule ∷ rules) es fs h = let a = step_fewer es rule h.0 in let b =
      steps_fewer rules (after_rule es rule) fs h.1 in omega (arith, a, b)

  -- the lists are one, or fewer relations are open
  moves : (rules : List Rule) (es fs : List Exclusion) → StepsTo instance es rules fs
      → (es ≡ fs) ⊎ (opens instance fs < opens instance es)
  moves [] es fs h = inl h
  moves (rule ∷ rules) es fs h = inr (let a = step_fewer es rule h.0 in let b =
      steps_fewer rules (after_rule es rule) fs h.1 in omega (arith, a, b))

  pub not_tried : (s : PlainEdges) (x : List PlainStep) (linked : Type 0) → linked
      → IsLinkTry instance s s x x linked false
  not_tried s x linked h = record {
    goes = goes_nowhere instance s x;
    shrinks = λ e. absurd (true≢false (sym e));
    same =
        λ e. (refl, refl, h);
  }

  not_sure : (X : Exclusions) (i u v : ℕ) (b : Bool) → b ≡ is_surely_before X i u v → b ≡ false → IsSurelyBefore X i u v
      → ⊥
  not_sure X i u v b e f h = true≢false (sym (and_from _ _ h.0 h.1) ∙ (sym e ∙ f))

  pub not_first : (s : PlainEdges) (x : List PlainStep) (n i u v w : ℕ) (b : Bool)
      → b ≡ is_surely_before (excludes s.trail) i u v → b ≡ false
      → IsLinkTry instance s s x x (IsLinkedAt n (excludes s.trail) i u v w) false
  not_first s x n i u v w b e f = not_tried s x _ (λ boxes h k. absurd (not_sure (excludes s.trail) i u v b e f h))

  pub not_second : (s : PlainEdges) (x : List PlainStep) (n i u v w : ℕ) (b : Bool)
      → b ≡ is_surely_before (excludes s.trail) i v w → b ≡ false
      → IsLinkTry instance s s x x (IsLinkedAt n (excludes s.trail) i u v w) false
  not_second s x n i u v w b e f = not_tried s x _ (λ boxes h k. absurd (not_sure (excludes s.trail) i v w b e f k))

  pub not_three : (s : PlainEdges) (x : List PlainStep) (n i u v w : ℕ) (b : Bool)
      → (AreBoxesAmong n (u ∷ v ∷ w ∷ []) → IsTrue b) → b ≡ false
      → IsLinkTry instance s s x x (IsLinkedAt n (excludes s.trail) i u v w) false
  not_three s x n i u v w b f e = not_tried s x _ (λ boxes h k. absurd (true≢false (sym (f boxes) ∙ e)))

  pub linked_yet : (s : PlainEdges) (x : List PlainStep) (n i u v w : ℕ) (b : Bool)
      → b ≡ is_surely_before (excludes s.trail) i u w → b ≡ true
      → IsLinkTry instance s s x x (IsLinkedAt n (excludes s.trail) i u v w) false
  linked_yet s x n i u v w b e f = not_tried s x _ (λ boxes h k. and_parts _ _ (sym e ∙ f))

  -- COMPOSE at two sure pairs excludes all but before
  pub link_made : (a b : PlainEdges) (x y : List PlainStep) (i u v w : ℕ) (one two three : Bool) (linked : Type 0)
      → i < dims instance
      → AreBoxesAmong (box_count instance) (u ∷ v ∷ w ∷ []) → one ≡ is_surely_before (excludes a.trail) i u v
      → one ≡ true
      → two ≡ is_surely_before (excludes a.trail) i v w → two ≡ true → three ≡ is_surely_before (excludes a.trail) i u w
      → three ≡ false
      → IsStepped instance a b x y (Compose i u v w) → IsLinkTry instance a b x y linked true
  link_made a b x y i u v w one two three linked hi boxes e1 f1 e2 f2 e3 f3 s = record {
    goes = s.goes;
    shrinks = λ e. fewer (moves s.goes.rules a.trail b.trail s.goes.steps);
    same = λ e. absurd (true≢false e);
  }
    where
      X : Exclusions
      X = excludes a.trail

      first : IsSurelyBefore X i u v
      first = and_parts _ _ (sym e1 ∙ f1)

      second : IsSurelyBefore X i v w
      second = and_parts _ _ (sym e2 ∙ f2)

      only_before : (j p q : ℕ) (r : Rel) → IsSurelyBefore X j p q → X j p q r ≡ false → r ≡ Before
      only_before j p q Overlap h k = absurd (true≢false (sym h.0 ∙ k))
      only_before j p q Before h k = refl
      only_before j p q After h k = absurd (true≢false (sym h.1 ∙ k))

      gives : (r : Rel) → allows Before Before r ≡ false → Gives instance X (Compose i u v w) (exclusion_at i u w r)
      gives r none = record {
        is = (hi, boxes);
        premises = tt;
        dim = refl;
        first = refl;
        second = refl;
        concluded = λ q t hq ht. subst (λ (p : Rel). allows p t r ≡ false) (sym (only_before i u v q first hq))
            (subst (λ (p : Rel). allows Before p r ≡ false) (sym (only_before i v w t second ht)) none);
      }

      there : (r : Rel) → allows Before Before r ≡ false → IsTrue (excludes b.trail i u w r)
      there r none = s.tried (exclusion_at i u w r) (gives r none)

      fewer : (a.trail ≡ b.trail) ⊎ (opens instance b.trail < opens instance a.trail)
          → opens instance b.trail < opens instance a.trail
      fewer (inr l) = l
      fewer (inl e) =
          let back : (r : Rel) → allows Before Before r ≡ false → IsTrue (X i u w r) =
          λ r none. subst (λ (l : List Exclusion). IsTrue (excludes l i u w r)) (sym e) (there r none) in
          absurd (not_sure X i u w three e3 f3 (back Overlap refl, back After refl))

  -- ---- one after another

  pub record IsTrying (old now : PlainEdges) (before after : List PlainStep) (Q : PlainEdges → ℕ → Type 0)
      (n : ℕ) : Type 0 where
    pub same : now ≡ old
    pub lines : after ≡ before
    pub each : (k : ℕ) → k < n → Q old k

  pub trying_start : (s : PlainEdges) (x : List PlainStep) (Q : PlainEdges → ℕ → Type 0) → IsTrying s s x x Q 0
  trying_start s x Q = record { same = refl; lines = refl; each = λ k l. absurd (omega (arith, l)) }

  pub trying_next : (a b c : PlainEdges) (x y z : List PlainStep) (Q : PlainEdges → ℕ → Type 0) (n : ℕ) (changed : Bool)
      → IsTrying a b x y Q n
      → IsLinkTry instance b c y z (Q b n) changed → changed ≡ false → IsTrying a c x z Q (n + 1)
  trying_next a b c x y z Q n changed s t e =
      let h = t.same e in record {
        same = h.0 ∙ s.same;
        lines = h.1 ∙ s.lines;
        each = λ k l. go k l (subst (λ (p : PlainEdges). Q p n) s.same h.2) (cases_lt k n);
      }
    where
      go : (k : ℕ) → k < n + 1 → Q a n → (k < n) ⊎ (n ≤ k) → Q a k
      go k l q (inl m) = s.each k m
      go k l q (inr m) = let f : k ≡ n = omega (arith, l, m) in subst (λ (j : ℕ). Q a j) (sym f) q

  pub trying_stop : (a b c : PlainEdges) (x y z : List PlainStep) (Q : PlainEdges → ℕ → Type 0) (n : ℕ)
      (one linked : Type 0) (changed : Bool) → IsTrying a b x y Q n
      → IsLinkTry instance b c y z one changed → changed ≡ true → IsLinkTry instance a c x z linked true
  trying_stop a b c x y z Q n one linked changed s t e = record {
    goes = subst (λ (p : PlainEdges). Goes instance p c x z) s.same
        (subst (λ (l : List PlainStep). Goes instance b c l z) s.lines t.goes);
    shrinks = λ f. subst (λ (p : PlainEdges). opens instance c.trail < opens instance p.trail) s.same (t.shrinks e);
    same = λ f. absurd (true≢false f);
  }

  pub trying_end : (a b : PlainEdges) (x y : List PlainStep) (Q : PlainEdges → ℕ → Type 0) (n m : ℕ) → m ≤ n
      → IsTrying a b x y Q n
      → IsLinkTry instance a b x y ((k : ℕ) → k < m → Q a k) false
  trying_end a b x y Q n m l s = record {
    goes = subst (λ (p : PlainEdges). Goes instance a p x y) (sym s.same)
        (subst (λ (k : List PlainStep). Goes instance a a x k) (sym s.lines) (goes_nowhere instance a x));
    shrinks = λ e. absurd (true≢false (sym e));
    same = λ e. (s.same, s.lines, λ k h. s.each k (omega (arith, h, l)));
  }

  -- ---- until nothing changes

  pub record IsLinking (dim : ℕ) (old now : PlainEdges) (before after : List PlainStep) (changed : Bool) : Type 0 where
    pub goes : Goes instance old now before after
    pub done : changed ≡ false → IsTransitive (box_count instance) (IsSurelyBefore (excludes now.trail) dim)

  pub linking_start : (dim : ℕ) (s : PlainEdges) (x : List PlainStep) → IsLinking dim s s x x true
  linking_start dim s x = record { goes = goes_nowhere instance s x; done = λ e. absurd (true≢false e) }

  pub linking_next : (dim : ℕ) (a b c : PlainEdges) (x y z : List PlainStep) (was changed : Bool)
      → IsLinking dim a b x y was
      → IsLinkTry instance b c y z ((u : ℕ) → u < box_count instance → (v : ℕ) → v < box_count instance → (w : ℕ)
      → w < box_count instance
      → IsLinkedAt (box_count instance) (excludes b.trail) dim u v w) changed → IsLinking dim a c x z changed
  linking_next dim a b c x y z was changed s t = record {
    goes = goes_on instance a b c x y z s.goes t.goes;
    done = λ e. let h = t.same e in
        subst (λ (p : PlainEdges). IsTransitive (box_count instance) (IsSurelyBefore (excludes p.trail) dim)) (sym h.0)
        (λ u v w boxes k l. h.2 u boxes.0 v boxes.2.0 w boxes.2.2.0 boxes k l);
  }

  pub linking_smaller : (b c : PlainEdges) (y z : List PlainStep) (linked : Type 0) (was changed : Bool)
      → IsLinkTry instance b c y z linked changed → was ≡ true
      → 2 * opens instance c.trail + cond changed 1 0 < 2 * opens instance b.trail + cond was 1 0
  linking_smaller b c y z linked was true t e = let l = t.shrinks refl in rw e (omega (arith, l))
  linking_smaller b c y z linked was false t e =
      let f : opens instance c.trail ≡ opens instance b.trail =
      ap (λ (p : PlainEdges). opens instance p.trail) (t.same refl).0 in rw e (omega (arith, f))
