-- A line isn't refused exactly where its node accepts it.
use Rattle.std.proofs.Common.{◌≡◌, ◌≢◌, ℕ, suc, pred, ◌<◌, ◌≤◌, ◌⊎◌, inl, inr, refl, sym, ap, subst, ◌∙◌}
use Rattle.std.proofs.Common.{arith, Bool, true, false, not, ◌||◌, ◌==◌, List, [], ◌∷◌, map, Option, Some, None}
use Rattle.std.specs.Prelude.{◌↔◌}
use Rattle.std.specs.List.{list_any, AllByRecursion}
use Rattle.std.proofs.lemmas.Bool.{true≢false, and_parts, and_from, or_cases, or_left, or_right, eqb-true}
use Rattle.std.proofs.lemmas.Bool.{eq-eqb, ltb-true, lt-ltb, not-true, false_from_ne_true, not_from_false, or_from}
use Rattle.std.proofs.lemmas.Bool.{or_parts}
use Rattle.packing_terms.specs.declared.Rel.{Rel}
use Rattle.packing_terms.specs.declared.Rel.TheVariants.{Overlap, Before, After}
use Rattle.packing_terms.specs.declared.Exclusion.{Exclusion}
use Rattle.packing_terms.specs.Packing.{PlainInstance, dims, box_count}
use Rattle.packing_terms.specs.Exclusions.{Exclusions, excludes}
use Rattle.packing_terms.specs.Rules.{Rule, AreBoxes, IsRuleInstance}
use Rattle.packing_terms.specs.Rules.Rule.{Pair as PairRule, Apart as ApartRule, Triple as TripleRule}
use Rattle.packing_terms.specs.Rules.Rule.{Compose as ComposeRule, Cycle as CycleRule, Order as OrderRule}
use Rattle.packing_terms.specs.Tokens.{PlainToken}
use Rattle.packing_terms.specs.Tokens.PlainToken.{Apart as ApartToken, Order as OrderToken, Rules, TooLarge, Scales}
use Rattle.packing_terms.specs.Tokens.PlainToken.{Assign, Choose, SetRefuted, ValueShort, GlobalScales}
use Rattle.verdict_terms.specs.declared.check_answers.RefuseCode.{RefuseCode}
use Rattle.verdict_terms.specs.Judging.{names_dim, names_box, refusal}
use Rattle.verdict_terms.proofs.Judged.{within, is_within, named, is_named, inner_exact}
use Rattle.verdict_terms.specs.Steps.{PlainStep}
use Rattle.verdict_terms.specs.Steps.PlainStep.{Pair, Apart, Triple, Compose, Cycle, Order, Chain, On, Clash, Plain}
use Rattle.verdict_terms.specs.Explaining.{IsStep, IsClash, MayPart, MayOrder}
use Rattle.verdict_terms.specs.ExplainedJudging.{BegunChain, AuditNode, names_boxes, step_refusal, last_of, leads_to, part_of}
use Rattle.verdict_terms.specs.ExplainedJudging.{with_box, has_all, chain_changes, on_refusal, as_audit, token_refusal}
use Rattle.verdict_terms.specs.ExplainedJudging.{rest_refusal, refusal_at, audit_refusal}
use Rattle.verdict_terms.specs.Accepting.{AcceptsStep, IsLed, IsChainEnd, AcceptsBox, AcceptsToken, AcceptsAtRest}
use Rattle.verdict_terms.specs.Accepting.{AcceptsAt, AcceptsLine}
use Rattle.verdict_terms.proofs.Leaves.{step_by, step_changes}
use Rattle.verdict_terms.proofs.Tests.{premises_from, premises_test, box_named, dim_named, names_that, boxes_from}
use Rattle.verdict_terms.proofs.Tests.{boxes_test}
use Rattle.verdict_terms.proofs.ExplainedFed.{passed, passes}

-- numbers from 1 on are those of boxes that count from 0
text_numbers : (vs : List ℕ) → AllByRecursion (λ v. 1 ≤ v) vs → map suc (map pred vs) ≡ vs
text_numbers [] h = refl
text_numbers (v ∷ vs) h =
    let e : suc (pred v) ≡ v = (let k = h.0 in omega (arith, k)) in
    let f = text_numbers vs h.1 in
    cc (e, f)

module _ (instance : PlainInstance) where
  numbers_from : (vs : List ℕ) → names_boxes instance vs ≡ true → AllByRecursion (λ v. 1 ≤ v) vs
  numbers_from [] h = tt
  numbers_from (v ∷ vs) h =
      let a = and_parts _ _ h in
      let b = and_parts _ _ a.0 in
      ((within 1 (box_count instance) v b.0).0, numbers_from vs a.1)

  -- ---- a step that isn't a chain

  step_from : (es : List Exclusion) (dim : ℕ) (boxes : List ℕ) (rule : Rule)
      → (pred dim < dims instance → AreBoxes instance (map pred boxes) → IsRuleInstance instance rule)
      → step_refusal instance es dim boxes rule ≡ None → AcceptsStep instance es dim boxes rule
  step_from es dim boxes rule is h =
      let a = passed _ _ _ h in
      let b = passed _ _ _ a.1 in
      let c = and_parts _ _ a.0 in
      let d = and_parts _ _ b.0 in
      record {
        dim_number = (within 1 (dims instance) dim c.0).0;
        box_numbers = numbers_from boxes c.1;
        step = step_by instance es rule (is (dim_named instance dim c.0).1 (boxes_from instance boxes c.1))
            (premises_from instance (excludes es) rule d.0) d.1;
      }

  step_taken : (es : List Exclusion) (dim : ℕ) (boxes : List ℕ) (rule : Rule)
      → (IsRuleInstance instance rule → (pred dim < dims instance) × AreBoxes instance (map pred boxes))
      → AcceptsStep instance es dim boxes rule → step_refusal instance es dim boxes rule ≡ None
  step_taken es dim boxes rule of h =
      let k = of h.step.is in
      let e : suc (pred dim) ≡ dim = (let l = h.dim_number in omega (arith, l)) in
      passes _ _ _ (and_from _ _ (subst (λ i. names_dim instance i ≡ true) e (names_that instance (pred dim) k.0))
      (subst (λ vs. names_boxes instance vs ≡ true) (text_numbers boxes h.box_numbers)
      (boxes_test instance (map pred boxes) k.1)))
      (passes _ _ _ (and_from _ _ (premises_test instance (excludes es) rule h.step.premises)
      (step_changes instance es rule h.step)) refl)

  -- ---- the next box of a chain

  others_from : (v : ℕ) (vs : List ℕ) → list_any (λ u. u == v) vs ≡ false → AllByRecursion (λ u. u ≢ v) vs
  others_from v [] h = tt
  others_from v (u ∷ us) h =
      let p = or_parts _ _ h in
      (λ e. true≢false (sym (eq-eqb u v e) ∙ p.0), others_from v us p.1)

  others_test : (v : ℕ) (vs : List ℕ) → AllByRecursion (λ u. u ≢ v) vs → list_any (λ u. u == v) vs ≡ false
  others_test v [] h = refl
  others_test v (u ∷ us) h =
      or_from _ _ (false_from_ne_true _ (λ e. h.0 (eqb-true u v e))) (others_test v us h.1)

  led_from : (X : Exclusions) (i : ℕ) (vs : List ℕ) (v : ℕ) → leads_to X i vs v ≡ true → IsLed X i vs v
  led_from X i [] v h = tt
  led_from X i (u ∷ us) v h = and_parts _ _ h

  led_test : (X : Exclusions) (i : ℕ) (vs : List ℕ) (v : ℕ) → IsLed X i vs v → leads_to X i vs v ≡ true
  led_test X i [] v h = refl
  led_test X i (u ∷ us) v h = and_from _ _ h.0 h.1

  end_from : (es : List Exclusion) (c : BegunChain) → chain_changes instance es c ≡ true → IsChainEnd instance es c
  end_from es c h =
      let a = and_parts _ _ h in
      let b = and_parts _ _ a.0 in
      record {
        distinct = λ e. true≢false (sym (eq-eqb _ _ e) ∙ not-true _ b.0);
        heavy = ltb-true _ _ b.1;
        fresh = not-true _ a.1;
      }

  end_test : (es : List Exclusion) (c : BegunChain) → IsChainEnd instance es c → chain_changes instance es c ≡ true
  end_test es c h = and_from _ _ (and_from _ _
      (not_from_false _ (false_from_ne_true _ (λ e. h.distinct (eqb-true _ _ e)))) (lt-ltb _ _ h.heavy))
      (not_from_false _ h.fresh)

  box_from : (es : List Exclusion) (c : BegunChain) (v : ℕ) → on_refusal instance es c v ≡ None
      → AcceptsBox instance es c v
  box_from es c v h =
      let a = passed _ _ _ h in
      let b = passed _ _ _ a.1 in
      let d = passed _ _ _ b.1 in
      let g = and_parts _ _ b.0 in
      record {
        number = within 1 (box_count instance) v a.0;
        other = others_from (pred v) (part_of c) (not-true _ g.0);
        led = led_from (excludes es) c.dim (part_of c) (pred v) g.1;
        last = λ k. end_from es (with_box c (pred v)) (must _ _ k (or_cases _ _ d.0));
      }
    where
      must : (x y : Bool) → x ≡ true → (not x ≡ true) ⊎ (y ≡ true) → y ≡ true
      must x y k (inl l) = absurd (true≢false (sym k ∙ not-true x l))
      must x y k (inr l) = l

  box_taken : (es : List Exclusion) (c : BegunChain) (v : ℕ) → AcceptsBox instance es c v
      → on_refusal instance es c v ≡ None
  box_taken es c v h =
      passes _ _ _ (is_within 1 (box_count instance) v h.number.0 h.number.1)
      (passes _ _ _ (and_from _ _ (not_from_false _ (others_test (pred v) (part_of c) h.other))
      (led_test (excludes es) c.dim (part_of c) (pred v) h.led))
      (passes _ _ _ (ends (has_all (with_box c (pred v))) refl) refl))
    where
      ends : (b : Bool) → has_all (with_box c (pred v)) ≡ b
          → (not b || chain_changes instance es (with_box c (pred v))) ≡ true
      ends true k = end_test es (with_box c (pred v)) (h.last k)
      ends false k = refl

  -- ---- tokens

  plain_none : (o : Option RefuseCode) → as_audit o ≡ None → o ≡ None
  plain_none None e = refl
  plain_none (Some code) e = absurd (cc (e))

  token_from : (es : List Exclusion) (t : PlainToken) → token_refusal instance es t ≡ None → AcceptsToken instance es t
  token_from es (ApartToken i u v) h =
      let a = passed _ _ _ h in
      let b = passed _ _ _ a.1 in
      let c = and_parts _ _ b.0 in
      record {
        named = named instance i u v a.0;
        overlap = not-true _ c.0;
        other = either _ _ (or_cases _ _ c.1);
      }
    where
      either : (a b : Bool) → (not a ≡ true) ⊎ (not b ≡ true) → (a ≡ false) ⊎ (b ≡ false)
      either a b (inl k) = inl (not-true a k)
      either a b (inr k) = inr (not-true b k)
  token_from es (OrderToken i u v) h =
      let a = passed _ _ _ h in
      let b = passed _ _ _ a.1 in
      let c = and_parts _ _ b.0 in
      let d = and_parts _ _ c.0 in
      record {
        named = named instance i u v a.0;
        overlap = d.0;
        before = not-true _ d.1;
        after = not-true _ c.1;
      }
  token_from es (TooLarge v i) h = (inner_exact instance es (TooLarge v i)).0 (plain_none _ h)
  token_from es (Scales fs) h = (inner_exact instance es (Scales fs)).0 (plain_none _ h)
  token_from es Rules h = absurd (cc (h))
  token_from es (Assign v) h = absurd (cc (h))
  token_from es (Choose v) h = absurd (cc (h))
  token_from es (SetRefuted b) h = absurd (cc (h))
  token_from es ValueShort h = absurd (cc (h))
  token_from es (GlobalScales fs) h = absurd (cc (h))

  token_taken : (es : List Exclusion) (t : PlainToken) → AcceptsToken instance es t → token_refusal instance es t ≡ None
  token_taken es (ApartToken i u v) h =
      passes _ _ _ (is_named instance i u v h.named)
      (passes _ _ _ (and_from _ _ (not_from_false _ h.overlap) (either _ _ h.other)) refl)
    where
      either : (a b : Bool) → (a ≡ false) ⊎ (b ≡ false) → (not a || not b) ≡ true
      either a b (inl e) = or_left _ _ (not_from_false a e)
      either a b (inr e) = or_right _ _ (not_from_false b e)
  token_taken es (OrderToken i u v) h =
      passes _ _ _ (is_named instance i u v h.named)
      (passes _ _ _ (and_from _ _ (and_from _ _ h.overlap (not_from_false _ h.before)) (not_from_false _ h.after)) refl)
  token_taken es (TooLarge v i) h = ap as_audit ((inner_exact instance es (TooLarge v i)).1 h)
  token_taken es (Scales fs) h = ap as_audit ((inner_exact instance es (Scales fs)).1 h)
  token_taken es Rules h = elim h [ ]
  token_taken es (Assign v) h = elim h [ ]
  token_taken es (Choose v) h = elim h [ ]
  token_taken es (SetRefuted b) h = elim h [ ]
  token_taken es ValueShort h = elim h [ ]
  token_taken es (GlobalScales fs) h = elim h [ ]

  -- ---- a line

  rest_from : (es : List Exclusion) (line : PlainStep) → rest_refusal instance es line ≡ None
      → AcceptsAtRest instance es line
  rest_from es (Pair i u v) h =
      step_from es i (u ∷ v ∷ []) (PairRule (pred i) (pred u) (pred v)) (λ d b. (d, b)) h
  rest_from es (Apart i u v) h =
      step_from es i (u ∷ v ∷ []) (ApartRule (pred i) (pred u) (pred v)) (λ d b. (d, b)) h
  rest_from es (Triple i u v x) h =
      step_from es i (u ∷ v ∷ x ∷ []) (TripleRule (pred i) (pred u) (pred v) (pred x)) (λ d b. (d, b)) h
  rest_from es (Compose i u v x) h =
      step_from es i (u ∷ v ∷ x ∷ []) (ComposeRule (pred i) (pred u) (pred v) (pred x)) (λ d b. (d, b)) h
  rest_from es (Cycle i a b c d) h =
      step_from es i (a ∷ b ∷ c ∷ d ∷ []) (CycleRule (pred i) (pred a) (pred b) (pred c) (pred d)) (λ k l. (k, l)) h
  rest_from es (Order i a b c d) h =
      step_from es i (a ∷ b ∷ c ∷ d ∷ []) (OrderRule (pred i) (pred a) (pred b) (pred c) (pred d)) (λ k l. (k, l)) h
  rest_from es (Chain i p q) h =
      let a = passed _ _ _ h in
      let b = and_parts _ _ a.0 in
      let c = and_parts _ _ b.0 in
      (within 1 (dims instance) i c.0, within 1 (box_count instance) p c.1, within 1 (box_count instance) q b.1)
  rest_from es (On v) h = absurd (cc (h))
  rest_from es (Clash i u v) h =
      let a = passed _ _ _ h in
      let b = passed _ _ _ a.1 in
      let c = and_parts _ _ b.0 in
      let d = and_parts _ _ c.0 in
      record { named = named instance i u v a.0; each = λ r. three r d.0 d.1 c.1 }
    where
      three : (r : Rel) → excludes es (pred i) (pred u) (pred v) Overlap ≡ true
          → excludes es (pred i) (pred u) (pred v) Before ≡ true
          → excludes es (pred i) (pred u) (pred v) After ≡ true → excludes es (pred i) (pred u) (pred v) r ≡ true
      three Overlap x y w = x
      three Before x y w = y
      three After x y w = w
  rest_from es (Plain t) h = token_from es t h

  rest_taken : (es : List Exclusion) (line : PlainStep) → AcceptsAtRest instance es line
      → rest_refusal instance es line ≡ None
  rest_taken es (Pair i u v) h =
      step_taken es i (u ∷ v ∷ []) (PairRule (pred i) (pred u) (pred v)) (λ s. (s.0, s.1)) h
  rest_taken es (Apart i u v) h =
      step_taken es i (u ∷ v ∷ []) (ApartRule (pred i) (pred u) (pred v)) (λ s. (s.0, s.1)) h
  rest_taken es (Triple i u v x) h =
      step_taken es i (u ∷ v ∷ x ∷ []) (TripleRule (pred i) (pred u) (pred v) (pred x)) (λ s. (s.0, s.1)) h
  rest_taken es (Compose i u v x) h =
      step_taken es i (u ∷ v ∷ x ∷ []) (ComposeRule (pred i) (pred u) (pred v) (pred x)) (λ s. (s.0, s.1)) h
  rest_taken es (Cycle i a b c d) h =
      step_taken es i (a ∷ b ∷ c ∷ d ∷ []) (CycleRule (pred i) (pred a) (pred b) (pred c) (pred d))
      (λ s. (s.0, s.1)) h
  rest_taken es (Order i a b c d) h =
      step_taken es i (a ∷ b ∷ c ∷ d ∷ []) (OrderRule (pred i) (pred a) (pred b) (pred c) (pred d))
      (λ s. (s.0, s.1)) h
  rest_taken es (Chain i p q) h =
      passes _ _ _ (and_from _ _ (and_from _ _ (is_within 1 (dims instance) i h.0.0 h.0.1)
      (is_within 1 (box_count instance) p h.1.0 h.1.1)) (is_within 1 (box_count instance) q h.2.0 h.2.1)) refl
  rest_taken es (On v) h = elim h [ ]
  rest_taken es (Clash i u v) h =
      passes _ _ _ (is_named instance i u v h.named)
      (passes _ _ _ (and_from _ _ (and_from _ _ (h.each Overlap) (h.each Before)) (h.each After)) refl)
  rest_taken es (Plain t) h = token_taken es t h

  from_at : (es : List Exclusion) (chain : Option BegunChain) (line : PlainStep)
      → refusal_at instance es chain line ≡ None → AcceptsAt instance es chain line
  from_at es None line h = rest_from es line h
  from_at es (Some c) (On v) h = box_from es c v h
  from_at es (Some c) (Pair i u v) h = absurd (cc (h))
  from_at es (Some c) (Apart i u v) h = absurd (cc (h))
  from_at es (Some c) (Triple i u v x) h = absurd (cc (h))
  from_at es (Some c) (Compose i u v x) h = absurd (cc (h))
  from_at es (Some c) (Cycle i a b c' d) h = absurd (cc (h))
  from_at es (Some c) (Order i a b c' d) h = absurd (cc (h))
  from_at es (Some c) (Chain i p q) h = absurd (cc (h))
  from_at es (Some c) (Clash i u v) h = absurd (cc (h))
  from_at es (Some c) (Plain t) h = absurd (cc (h))

  taken_at : (es : List Exclusion) (chain : Option BegunChain) (line : PlainStep)
      → AcceptsAt instance es chain line → refusal_at instance es chain line ≡ None
  taken_at es None line h = rest_taken es line h
  taken_at es (Some c) (On v) h = box_taken es c v h
  taken_at es (Some c) (Pair i u v) h = elim h [ ]
  taken_at es (Some c) (Apart i u v) h = elim h [ ]
  taken_at es (Some c) (Triple i u v x) h = elim h [ ]
  taken_at es (Some c) (Compose i u v x) h = elim h [ ]
  taken_at es (Some c) (Cycle i a b c' d) h = elim h [ ]
  taken_at es (Some c) (Order i a b c' d) h = elim h [ ]
  taken_at es (Some c) (Chain i p q) h = elim h [ ]
  taken_at es (Some c) (Clash i u v) h = elim h [ ]
  taken_at es (Some c) (Plain t) h = elim h [ ]

  pub line_exact : (n : AuditNode) (line : PlainStep)
      → (audit_refusal instance n line ≡ None) ↔ AcceptsLine instance n line
  line_exact n line = (from_at n.exclusions n.chain line, taken_at n.exclusions n.chain line)
