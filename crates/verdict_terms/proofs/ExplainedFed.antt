-- An explanation, audited line by line, takes its node away.
use Rattle.std.proofs.Common.{◌≡◌, ◌≢◌, ℕ, zero, suc, ◌+◌, ◌<◌, ◌≤◌, ◌⊎◌, inl, inr, refl, sym, ap, subst, ◌∙◌}
use Rattle.std.proofs.Common.{arith, Bool, true, false, not, cond, ◌||◌, ◌==◌, nat_lt, List, [], ◌∷◌, ◌++◌}
use Rattle.std.proofs.Common.{length, append_assoc, append-nil, map, Option, Some, None}
use Rattle.std.specs.List.{list_any, AllByRecursion}
use Rattle.std.proofs.lemmas.Bool.{true≢false, and_parts, and_from, or_left, or_right}
use Rattle.std.proofs.lemmas.Bool.{eqb-true, eq-eqb, ltb-true, lt-ltb, false_from_ne_true, not_from_false}
use Rattle.std.proofs.lemmas.Bool.{or_from}
use Rattle.std.proofs.lemmas.List.{length-append}
use Rattle.packing_terms.specs.Results.{◌>>=◌}
use Rattle.packing_terms.specs.declared.Rel.{Rel}
use Rattle.packing_terms.specs.declared.Rel.TheVariants.{Overlap, Before, After}
use Rattle.packing_terms.specs.declared.Exclusion.{Exclusion}
use Rattle.packing_terms.specs.declared.ScaleFn.{ScaleFn}
use Rattle.packing_terms.specs.Packing.{PlainInstance, dims, box_count, container_side}
use Rattle.packing_terms.specs.Exclusions.{Exclusions, excludes, exclusion_at}
use Rattle.packing_terms.specs.Rules.{Rule, Pair, Apart, Triple, Chain, Compose, Cycle, Order, AreBoxes, IsChain}
use Rattle.packing_terms.specs.Rules.{weight}
use Rattle.packing_terms.specs.Tokens.PlainToken.{Apart as ApartToken, Order as OrderToken, TooLarge, Scales}
use Rattle.packing_terms.specs.Scales.{Exceeds}
use Rattle.packing_terms.specs.Refutation.{IsTooLarge}
use Rattle.packing_terms.proofs.Boxes.{boxes_few}
use Rattle.packing_terms.specs.Steps.{with_exclusion}
use Rattle.verdict_terms.specs.Judging.{names_box, refusal}
use Rattle.verdict_terms.proofs.Judged.{named, is_named, inner_exact}
use Rattle.verdict_terms.specs.declared.explained_answers.AuditCode.{AuditCode}
use Rattle.verdict_terms.specs.Steps.{PlainStep, box_lines, lines_of}
use Rattle.verdict_terms.specs.Steps.PlainStep.{On, Clash, Plain, Pair as PairLine, Apart as ApartLine}
use Rattle.verdict_terms.specs.Steps.PlainStep.{Triple as TripleLine, Compose as ComposeLine, Cycle as CycleLine}
use Rattle.verdict_terms.specs.Steps.PlainStep.{Order as OrderLine, Chain as ChainLine}
use Rattle.verdict_terms.specs.Explaining.{IsStep, after_rule, Explains, by_clash}
use Rattle.verdict_terms.specs.Explaining.{by_side, by_scales, by_step, by_apart, by_order, with_text}
use Rattle.verdict_terms.specs.ExplainedJudging.{BegunChain, AuditNode, at_rest, unless}
use Rattle.verdict_terms.specs.ExplainedJudging.{step_refusal, last_of, front_of, leads_to, goes_on, part_of}
use Rattle.verdict_terms.specs.ExplainedJudging.{with_box, has_all, chain_changes, on_refusal}
use Rattle.verdict_terms.specs.ExplainedJudging.{as_audit, audit_refusal, chain_child, audit_children}
use Rattle.verdict_terms.specs.Auditing.{left_by, audited_after_all}
use Rattle.verdict_terms.proofs.Leaves.{step_changes}
use Rattle.verdict_terms.proofs.Tests.{premises_test, names_it, names_that, boxes_test}

pub passes : (b : Bool) (code : AuditCode) (rest : Option AuditCode) → b ≡ true → rest ≡ None
    → unless b code rest ≡ None
passes true code rest h e = e
passes false code rest h e = absurd (true≢false (sym h))

pub passed : (b : Bool) (code : AuditCode) (rest : Option AuditCode) → unless b code rest ≡ None
    → (b ≡ true) × (rest ≡ None)
passed true code rest e = (refl, e)
passed false code rest e = absurd (cc)

-- ---- boxes that go on with a chain

pub leads_chain : (X : Exclusions) (i : ℕ) (vs : List ℕ) (v : ℕ) → IsChain X i (vs ++ v ∷ []) → leads_to X i vs v ≡ true
leads_chain X i [] v h = refl
leads_chain X i (u ∷ []) v h = and_from _ _ h.0.0 h.0.1
leads_chain X i (u ∷ x ∷ vs) v h = leads_chain X i (x ∷ vs) v h.1

-- the front of a chain is one
pub chain_front : (X : Exclusions) (i : ℕ) (vs ws : List ℕ) → IsChain X i (vs ++ ws) → IsChain X i vs
chain_front X i [] ws h = tt
chain_front X i (u ∷ []) ws h = tt
chain_front X i (u ∷ x ∷ vs) ws h = (h.0, chain_front X i (x ∷ vs) ws h.1)

pub apart_there : (v : ℕ) (vs ws : List ℕ) (w : ℕ) → AllByRecursion (λ u. v ≢ u) (vs ++ w ∷ ws) → v ≢ w
apart_there v [] ws w h = h.0
apart_there v (u ∷ vs) ws w h = apart_there v vs ws w h.1

pub not_among : (instance : PlainInstance) (vs ws : List ℕ) (v : ℕ) → AreBoxes instance (vs ++ v ∷ ws)
    → list_any (λ u. u == v) vs ≡ false
not_among instance [] ws v h = refl
not_among instance (u ∷ vs) ws v h =
    or_from _ _ (false_from_ne_true _ (λ e. apart_there u vs ws v h.1 (eqb-true u v e))) (not_among instance vs ws v h.2)

pub box_there : (instance : PlainInstance) (vs ws : List ℕ) (v : ℕ) → AreBoxes instance (vs ++ v ∷ ws)
    → v < box_count instance
box_there instance [] ws v h = h.0
box_there instance (u ∷ vs) ws v h = box_there instance vs ws v h.2

-- what a chain is of in the end
pub record IsChainStep (instance : PlainInstance) (es : List Exclusion) (i : ℕ) (xs ys : List ℕ) : Type 0 where
  pub dim : i < dims instance
  pub boxes_before : AreBoxes instance xs
  pub boxes_after : AreBoxes instance ys
  pub chain_before : IsChain (excludes es) i xs
  pub chain_after : IsChain (excludes es) i ys
  pub distinct : last_of xs ≢ front_of ys
  pub heavy : container_side instance i < weight instance i xs + weight instance i ys
  pub fresh : excludes es i (last_of xs) (front_of ys) Before ≡ false

-- a node where a chain is begun
abbrev pub begun : List Exclusion → ℕ → ℕ → ℕ → List ℕ → List ℕ → AuditNode
begun es i p q before after = record {
  exclusions = es;
  chain = Some (record { dim = i; first = p; second = q; before = before; after = after });
}

abbrev pub shut : List Exclusion → ℕ → List ℕ → List ℕ → List Exclusion
shut es i xs ys = with_exclusion es (exclusion_at i (last_of xs) (front_of ys) Before)

one_line : (instance : PlainInstance) (n : AuditNode) (nodes : List AuditNode) (line : PlainStep)
    (lines : List PlainStep) (children : List AuditNode)
    → audit_refusal instance n line ≡ None → audit_children n line ≡ children
    → audited_after_all instance (n ∷ nodes) (line ∷ lines) ≡ audited_after_all instance (children ++ nodes) lines
one_line instance n nodes line lines children e f =
    ap (λ o. (left_by o (audit_children n line) nodes >>= λ left. audited_after_all instance left lines)) e
    ∙ ap (λ c. audited_after_all instance (c ++ nodes) lines) f

lt_false : (a b : ℕ) → b ≤ a → nat_lt a b ≡ false
lt_false a b h = false_from_ne_true _ (λ e. let l = ltb-true a b e in absurd (omega (arith, l, h)))

eq_false : (a b : ℕ) → a ≢ b → (a == b) ≡ false
eq_false a b h = false_from_ne_true _ (λ e. h (eqb-true a b e))

pub length_more : (xs ys : List ℕ) (v : ℕ) → length (xs ++ v ∷ ys) ≡ length xs + suc (length ys)
length_more xs ys v = length-append xs (v ∷ ys)

module _ (instance : PlainInstance) (es : List Exclusion) (i p q : ℕ) (xs ys : List ℕ)
    (step : IsChainStep instance es i xs ys)
    (first : length xs ≡ p) (second : length ys ≡ q) (nodes : List AuditNode) (lines : List PlainStep) where
  abbrev X : Exclusions
  X = excludes es

  abbrev chain_at : List ℕ → List ℕ → BegunChain
  chain_at before after = record { dim = i; first = p; second = q; before = before; after = after }

  -- one box of the second chain
  take_later : (before : List ℕ) → before ≡ xs → (after : List ℕ) (v : ℕ) (more : List ℕ) → after ++ v ∷ more ≡ ys
      → (not (has_all (chain_at before (after ++ v ∷ [])))
      || chain_changes instance es (chain_at before (after ++ v ∷ []))) ≡ true
      → (child : AuditNode) → chain_child es (chain_at before (after ++ v ∷ [])) ≡ child → (left : List PlainStep)
      → audited_after_all instance (begun es i p q before after ∷ nodes) (On (suc v) ∷ left)
      ≡ audited_after_all instance (child ∷ nodes) left
  take_later before e after v more f h child g left =
      one_line instance (begun es i p q before after) nodes (On (suc v)) left (child ∷ []) refused
      (ap (λ k. chain_child es k ∷ []) with_v ∙ ap (λ k. k ∷ []) g)
    where
      there : AreBoxes instance (after ++ v ∷ more)
      there = subst (λ l. AreBoxes instance l) (sym f) step.boxes_after

      chained : IsChain X i (after ++ v ∷ more)
      chained = subst (λ l. IsChain X i l) (sym f) step.chain_after

      here : IsChain X i (after ++ v ∷ [])
      here = chain_front X i (after ++ v ∷ []) more
          (subst (λ l. IsChain X i l) (sym (append_assoc after (v ∷ []) more)) chained)

      full : nat_lt (length before) p ≡ false
      full = lt_false (length before) p (omega (arith, ap length e, first))

      goes : goes_on X i after v ≡ true
      goes = and_from _ _ (not_from_false _ (not_among instance after more v there)) (leads_chain X i after v here)

      with_v : with_box (chain_at before after) v ≡ chain_at before (after ++ v ∷ [])
      with_v = rw full refl

      part : part_of (chain_at before after) ≡ after
      part = rw full refl

      refused : on_refusal instance es (chain_at before after) (suc v) ≡ None
      refused = passes _ _ _ (names_it instance v (box_there instance after more v there))
          (passes _ _ _ (ap (λ l. goes_on X i l v) part ∙ goes)
          (passes _ _ _ (ap (λ k. not (has_all k) || chain_changes instance es k) with_v ∙ h) refl))

  abbrev child_by : Bool → List ℕ → List ℕ → AuditNode
  child_by b before after = cond b (at_rest (shut es i before after))
      (record { exclusions = es; chain = Some (chain_at before after) })

  -- the boxes of the second chain
  feed_later : (more before : List ℕ) → before ≡ xs → (after : List ℕ) → after ++ more ≡ ys → 1 ≤ length more
      → audited_after_all instance (begun es i p q before after ∷ nodes) (box_lines more ++ lines)
      ≡ audited_after_all instance (at_rest (shut es i xs ys) ∷ nodes) lines
  feed_later [] before e after f some = absurd (omega (arith, some))
  feed_later (v ∷ []) before e after f some =
      take_later before e after v [] f (or_right _ _ changes) (at_rest (shut es i xs ys)) child lines
    where
      all : has_all (chain_at before (after ++ v ∷ [])) ≡ true
      all = and_from _ _ (eq-eqb _ _ (ap length e ∙ first)) (eq-eqb _ _ (ap length f ∙ second))

      changes : chain_changes instance es (chain_at before (after ++ v ∷ [])) ≡ true
      changes = subst (λ l. chain_changes instance es (chain_at l (after ++ v ∷ [])) ≡ true) (sym e)
          (subst (λ l. chain_changes instance es (chain_at xs l) ≡ true) (sym f)
          (and_from _ _ (and_from _ _ (not_from_false _ (eq_false _ _ step.distinct)) (lt-ltb _ _ step.heavy))
          (not_from_false _ step.fresh)))

      child : chain_child es (chain_at before (after ++ v ∷ [])) ≡ at_rest (shut es i xs ys)
      child = ap (λ b. child_by b before (after ++ v ∷ [])) all
          ∙ (ap (λ l. at_rest (shut es i l (after ++ v ∷ []))) e ∙ ap (λ l. at_rest (shut es i xs l)) f)
  feed_later (v ∷ w ∷ more) before e after f some =
      take_later before e after v (w ∷ more) f (or_left _ _ (not_from_false _ open_))
      (begun es i p q before (after ++ v ∷ []))
      (ap (λ b. child_by b before (after ++ v ∷ [])) open_) (box_lines (w ∷ more) ++ lines)
      ∙ feed_later (w ∷ more) before e (after ++ v ∷ []) (append_assoc after (v ∷ []) (w ∷ more) ∙ f) (omega arith)
    where
      len : length (after ++ v ∷ []) ≢ q
      len d = let a = length_more after (w ∷ more) v in let b = ap length f in let s = length_more after [] v in
          omega (arith, a, b, s, d, second)

      open_ : has_all (chain_at before (after ++ v ∷ [])) ≡ false
      open_ = false_from_ne_true _ (λ d. len (eqb-true _ _ (and_parts _ _ d).1))

  -- the boxes of the first chain, and then those of the second
  pub feed_chain : (more before : List ℕ) → before ++ more ≡ xs → 1 ≤ q
      → audited_after_all instance (begun es i p q before [] ∷ nodes) (box_lines more ++ (box_lines ys ++ lines))
      ≡ audited_after_all instance (at_rest (shut es i xs ys) ∷ nodes) lines
  feed_chain [] before e some = feed_later ys before (sym (append-nil before) ∙ e) [] refl (omega (arith, second, some))
  feed_chain (v ∷ more) before e some =
      one_line instance (begun es i p q before []) nodes (On (suc v)) (box_lines more ++ (box_lines ys ++ lines))
      (begun es i p q (before ++ v ∷ []) [] ∷ []) refused child
      ∙ feed_chain more (before ++ v ∷ []) (append_assoc before (v ∷ []) more ∙ e) some
    where
      there : AreBoxes instance (before ++ v ∷ more)
      there = subst (λ l. AreBoxes instance l) (sym e) step.boxes_before

      chained : IsChain X i (before ++ v ∷ more)
      chained = subst (λ l. IsChain X i l) (sym e) step.chain_before

      here : IsChain X i (before ++ v ∷ [])
      here = chain_front X i (before ++ v ∷ []) more
          (subst (λ l. IsChain X i l) (sym (append_assoc before (v ∷ []) more)) chained)

      open_ : nat_lt (length before) p ≡ true
      open_ = lt-ltb _ _ (let a = length_more before more v in let b = ap length e in omega (arith, a, b, first))

      goes : goes_on X i before v ≡ true
      goes = and_from _ _ (not_from_false _ (not_among instance before more v there)) (leads_chain X i before v here)

      with_v : with_box (chain_at before []) v ≡ chain_at (before ++ v ∷ []) []
      with_v = rw open_ refl

      part : part_of (chain_at before []) ≡ before
      part = rw open_ refl

      not_all : has_all (chain_at (before ++ v ∷ []) []) ≡ false
      not_all = false_from_ne_true _
          (λ d. let k : 0 ≡ q = eqb-true 0 q (and_parts (length (before ++ v ∷ []) == p) (0 == q) d).1 in
          omega (arith, k, some))

      refused : on_refusal instance es (chain_at before []) (suc v) ≡ None
      refused = passes _ _ _ (names_it instance v (box_there instance before more v there))
          (passes _ _ _ (ap (λ l. goes_on X i l v) part ∙ goes)
          (passes _ _ _ (ap (λ k. not (has_all k) || chain_changes instance es k) with_v
          ∙ or_left _ _ (not_from_false _ not_all)) refl))

      child : audit_children (begun es i p q before []) (On (suc v)) ≡ begun es i p q (before ++ v ∷ []) [] ∷ []
      child = ap (λ k. chain_child es k ∷ []) with_v
          ∙ ap (λ b. (cond b (at_rest (with_exclusion es
          (exclusion_at i (last_of (before ++ v ∷ [])) (front_of []) Before)))
          (record { exclusions = es; chain = Some (chain_at (before ++ v ∷ []) []) })) ∷ []) not_all

pub last_is : (before : List ℕ) (u : ℕ) → last_of (before ++ u ∷ []) ≡ u
last_is [] u = refl
last_is (v ∷ []) u = refl
last_is (v ∷ w ∷ vs) u = last_is (w ∷ vs) u

module _ (instance : PlainInstance) (es : List Exclusion) (nodes : List AuditNode) (more : List PlainStep) where
  one_step : (line : PlainStep) (i : ℕ) (boxes : List ℕ) (rule : Rule) → i < dims instance → AreBoxes instance boxes
      → IsStep instance es rule
      → audit_refusal instance (at_rest es) line ≡ step_refusal instance es (suc i) (map suc boxes) rule
      → audit_children (at_rest es) line ≡ at_rest (after_rule es rule) ∷ []
      → audited_after_all instance (at_rest es ∷ nodes) (line ∷ more)
      ≡ audited_after_all instance (at_rest (after_rule es rule) ∷ nodes) more
  one_step line i boxes rule hi b s e f =
      one_line instance (at_rest es) nodes line more (at_rest (after_rule es rule) ∷ [])
      (e ∙ passes _ _ _ (and_from _ _ (names_that instance i hi) (boxes_test instance boxes b))
      (passes _ _ _ (and_from _ _ (premises_test instance (excludes es) rule s.premises)
      (step_changes instance es rule s)) refl)) f

  check_chain : (i : ℕ) (before : List ℕ) (u v : ℕ) (after : List ℕ) → IsStep instance es (Chain i before u v after)
      → IsChainStep instance es i (before ++ u ∷ []) (v ∷ after)
  check_chain i before u v after s = record {
    dim = s.is.0;
    boxes_before = s.is.1;
    boxes_after = s.is.2;
    chain_before = s.premises.0;
    chain_after = s.premises.1;
    distinct = λ e. s.is.3 (sym (last_is before u) ∙ e);
    heavy = s.premises.2;
    fresh = subst (λ w. excludes es i w v Before ≡ false) (sym (last_is before u))
        (subst (λ (r : Rel). excludes es i u v r ≡ false) s.concluded s.fresh);
  }

  pub step_fed : (rule : Rule) → IsStep instance es rule
      → audited_after_all instance (at_rest es ∷ nodes) (lines_of rule ++ more)
      ≡ audited_after_all instance (at_rest (after_rule es rule) ∷ nodes) more
  step_fed (Pair i u v) s = one_step (PairLine (suc i) (suc u) (suc v)) i (u ∷ v ∷ []) (Pair i u v) s.is.0
      s.is.1 s refl refl
  step_fed (Apart i u v) s = one_step (ApartLine (suc i) (suc u) (suc v)) i (u ∷ v ∷ []) (Apart i u v) s.is.0
      s.is.1 s refl refl
  step_fed (Triple i u v x) s = one_step (TripleLine (suc i) (suc u) (suc v) (suc x)) i (u ∷ v ∷ x ∷ [])
      (Triple i u v x) s.is.0 s.is.1 s refl refl
  step_fed (Compose i u v x) s =
      one_step (ComposeLine (suc i) (suc u) (suc v) (suc x)) i (u ∷ v ∷ x ∷ []) (Compose i u v x) s.is.0
      s.is.1 s refl refl
  step_fed (Cycle i a b c d) s =
      one_step (CycleLine (suc i) (suc a) (suc b) (suc c) (suc d)) i (a ∷ b ∷ c ∷ d ∷ []) (Cycle i a b c d) s.is.0
      s.is.1 s refl refl
  step_fed (Order i a b c d) s =
      one_step (OrderLine (suc i) (suc a) (suc b) (suc c) (suc d)) i (a ∷ b ∷ c ∷ d ∷ []) (Order i a b c d) s.is.0
      s.is.1 s refl refl
  step_fed (Chain i before u v after) s =
      one_line instance (at_rest es) nodes (ChainLine (suc i) (length (before ++ u ∷ [])) (length (v ∷ after)))
      ((box_lines (before ++ u ∷ []) ++ box_lines (v ∷ after)) ++ more)
      (begun es i (length (before ++ u ∷ [])) (length (v ∷ after)) [] [] ∷ [])
      (passes _ _ _ (and_from _ _ (and_from _ _ (names_that instance i s.is.0)
      (count_named (before ++ u ∷ []) (omega (arith, length_more before [] u)) s.is.1))
      (count_named (v ∷ after) (omega arith) s.is.2)) refl) refl
      ∙ ap (λ l. audited_after_all instance (begun es i (length (before ++ u ∷ [])) (length (v ∷ after)) [] [] ∷ nodes)
      l) (append_assoc (box_lines (before ++ u ∷ [])) (box_lines (v ∷ after)) more)
      ∙ feed_chain instance es i (length (before ++ u ∷ [])) (length (v ∷ after)) (before ++ u ∷ []) (v ∷ after)
      (check_chain i before u v after s) refl refl nodes more (before ++ u ∷ []) [] refl (omega arith)
      ∙ ap (λ w. audited_after_all instance (at_rest (with_exclusion es (exclusion_at i w v Before)) ∷ nodes) more)
      (last_is before u)
    where
      count_named : (vs : List ℕ) → 1 ≤ length vs → AreBoxes instance vs → names_box instance (length vs) ≡ true
      count_named vs some b = let few = boxes_few (box_count instance) vs b in go (length vs) some few
        where
          go : (k : ℕ) → 1 ≤ k → k ≤ box_count instance → names_box instance k ≡ true
          go zero l m = absurd (omega (arith, l))
          go (suc k) l m = names_it instance k (omega (arith, m))

module _ (instance : PlainInstance) where
  tuple_taken : (es : List Exclusion) (fs : List ScaleFn) → Exceeds instance fs 1
      → as_audit (refusal instance es (Scales fs)) ≡ None
  tuple_taken es fs h = ap as_audit ((inner_exact instance es (Scales fs)).1 h)

  side_taken : (es : List Exclusion) (v i : ℕ) → IsTooLarge instance v i
      → as_audit (refusal instance es (TooLarge v i)) ≡ None
  side_taken es v i h = ap as_audit ((inner_exact instance es (TooLarge v i)).1 h)

  other_test : (a b : Bool) → (a ≡ false) ⊎ (b ≡ false) → (not a || not b) ≡ true
  other_test a b (inl e) = or_left _ _ (not_from_false a e)
  other_test a b (inr e) = or_right _ _ (not_from_false b e)

  pub explained_fed : {es : List Exclusion} {z : List PlainStep} → Explains instance es z
      → (nodes : List AuditNode) (tail : List PlainStep)
      → audited_after_all instance (at_rest es ∷ nodes) (z ++ tail) ≡ audited_after_all instance nodes tail
  explained_fed (by_clash {es = es} {i = i} {u = u} {v = v} h) nodes tail =
      one_line instance (at_rest es) nodes (Clash i u v) tail []
      (passes _ _ _ (is_named instance i u v h.named)
      (passes _ _ _ (and_from _ _ (and_from _ _ (h.each Overlap) (h.each Before)) (h.each After)) refl)) refl
  explained_fed (by_side {es = es} {v = v} {i = i} h) nodes tail =
      one_line instance (at_rest es) nodes (Plain (TooLarge v i)) tail [] (side_taken es v i h) refl
  explained_fed (by_scales {es = es} {fs = fs} h) nodes tail =
      one_line instance (at_rest es) nodes (Plain (Scales fs)) tail [] (tuple_taken es fs h) refl
  explained_fed (by_step {es = es} {rule = rule} {z = z} {rest = rest} s e more) nodes tail =
      ap (λ l. audited_after_all instance (at_rest es ∷ nodes) (l ++ tail)) e
      ∙ ap (λ l. audited_after_all instance (at_rest es ∷ nodes) l) (append_assoc (lines_of rule) rest tail)
      ∙ step_fed instance es nodes (rest ++ tail) rule s
      ∙ explained_fed more nodes tail
  explained_fed (by_apart {es = es} {i = i} {u = u} {v = v} {l = l} {r = r} {z = z} h e first second) nodes tail =
      one_line instance (at_rest es) nodes (Plain (ApartToken i u v)) (z ++ tail)
      (at_rest (with_text es i u v Overlap) ∷ at_rest (with_text (with_text es i u v After) i u v Before) ∷ [])
      (passes _ _ _ (is_named instance i u v h.named)
      (passes _ _ _ (and_from _ _ (not_from_false _ h.overlap) (other_test _ _ h.other)) refl)) refl
      ∙ ap (λ k. audited_after_all instance
      (at_rest (with_text es i u v Overlap) ∷ at_rest (with_text (with_text es i u v After) i u v Before) ∷ nodes)
      k) (ap (λ k. k ++ tail) e ∙ append_assoc l r tail)
      ∙ explained_fed first (at_rest (with_text (with_text es i u v After) i u v Before) ∷ nodes) (r ++ tail)
      ∙ explained_fed second nodes tail
  explained_fed (by_order {es = es} {i = i} {u = u} {v = v} {l = l} {r = r} {z = z} h e first second) nodes tail =
      one_line instance (at_rest es) nodes (Plain (OrderToken i u v)) (z ++ tail)
      (at_rest (with_text es i u v After) ∷ at_rest (with_text es i u v Before) ∷ [])
      (passes _ _ _ (is_named instance i u v h.named)
      (passes _ _ _ (and_from _ _ (and_from _ _ h.overlap (not_from_false _ h.before))
      (not_from_false _ h.after)) refl)) refl
      ∙ ap (λ k. audited_after_all instance
      (at_rest (with_text es i u v After) ∷ at_rest (with_text es i u v Before) ∷ nodes) k)
      (ap (λ k. k ++ tail) e ∙ append_assoc l r tail)
      ∙ explained_fed first (at_rest (with_text es i u v Before) ∷ nodes) (r ++ tail)
      ∙ explained_fed second nodes tail
