-- Lines that are audited and leave no node are an explanation for each node.
use Rattle.std.proofs.Common.{◌≡◌, ◌≢◌, ℕ, suc, pred, ◌+◌, ◌<◌, ◌≤◌, ◌⊎◌, inl, inr, refl, sym, ap, subst, ◌∙◌}
use Rattle.std.proofs.Common.{arith, Bool, true, false, not, cond, ◌==◌, nat_lt, List, [], ◌∷◌, ◌++◌}
use Rattle.std.proofs.Common.{length, append_assoc, append-nil, map, Option, Some, None, Ok}
use Rattle.std.specs.List.{list_any}
use Rattle.std.proofs.lemmas.Bool.{true≢false, and_parts, or_cases, eqb-true, eq-eqb, ltb-true}
use Rattle.std.proofs.lemmas.Bool.{ltb-false, not-true}
use Rattle.packing_terms.specs.declared.Rel.{Rel}
use Rattle.packing_terms.specs.declared.Rel.TheVariants.{Overlap, Before, After}
use Rattle.packing_terms.specs.declared.Exclusion.{Exclusion}
use Rattle.packing_terms.specs.Packing.{PlainInstance, dims, box_count, container_side}
use Rattle.packing_terms.specs.Exclusions.{Exclusions, excludes}
use Rattle.packing_terms.specs.Rules.{Rule, AreBoxes, IsChain, weight, IsRuleInstance}
use Rattle.packing_terms.specs.Rules.Rule.{Pair as PairRule, Apart as ApartRule, Triple as TripleRule}
use Rattle.packing_terms.specs.Rules.Rule.{Chain as ChainRule, Compose as ComposeRule, Cycle as CycleRule}
use Rattle.packing_terms.specs.Rules.Rule.{Order as OrderRule}
use Rattle.packing_terms.specs.Tokens.{PlainToken}
use Rattle.packing_terms.specs.Tokens.PlainToken.{Apart as ApartToken, Order as OrderToken, Rules, TooLarge, Scales}
use Rattle.packing_terms.specs.Tokens.PlainToken.{Assign, Choose, SetRefuted, ValueShort, GlobalScales}
use Rattle.packing_terms.proofs.Found.{any_false}
use Rattle.packing_terms.proofs.Drawn.{ended}
use Rattle.verdict_terms.specs.declared.check_answers.RefuseCode.{RefuseCode}
use Rattle.verdict_terms.specs.Judging.{refusal}
use Rattle.verdict_terms.proofs.Judged.{named, inner_exact}
use Rattle.verdict_terms.specs.Steps.{PlainStep, box_lines, lines_of}
use Rattle.verdict_terms.specs.Steps.PlainStep.{Pair, Apart, Triple, Compose, Cycle, Order, Chain, On, Clash, Plain}
use Rattle.verdict_terms.specs.Explaining.{IsStep, after_rule, Explains, by_clash, by_side, by_scales}
use Rattle.verdict_terms.specs.Explaining.{by_step, by_apart, by_order}
use Rattle.verdict_terms.specs.ExplainedJudging.{BegunChain, AuditNode, at_rest, names_boxes, last_of, front_of, leads_to}
use Rattle.verdict_terms.specs.ExplainedJudging.{goes_on, is_first, part_of, with_box, has_all, chain_changes, step_refusal}
use Rattle.verdict_terms.specs.ExplainedJudging.{as_audit, on_refusal, chain_child, children_at, refusal_at}
use Rattle.verdict_terms.specs.ExplainedJudging.{audit_children}
use Rattle.verdict_terms.specs.Kept.{IsGrown as IsGrownIn, IsSoundAt as IsSoundIn, AreSound as AreSoundIn}
use Rattle.verdict_terms.specs.Auditing.{audited_after_all}
use Rattle.verdict_terms.proofs.Leaves.{step_by}
use Rattle.verdict_terms.proofs.Tests.{premises_from, box_named, dim_named, boxes_from}
use Rattle.verdict_terms.proofs.ExplainedFed.{IsChainStep, shut, passed, length_more}
use Rattle.verdict_terms.proofs.Few.{taken}

chain_longer : (X : Exclusions) (i : ℕ) (vs : List ℕ) (v : ℕ) → IsChain X i vs → leads_to X i vs v ≡ true
    → IsChain X i (vs ++ v ∷ [])
chain_longer X i [] v h l = tt
chain_longer X i (u ∷ []) v h l = (and_parts _ _ l, tt)
chain_longer X i (u ∷ x ∷ vs) v h l = (h.0, chain_longer X i (x ∷ vs) v h.1 l)

pub boxes_longer : (instance : PlainInstance) (vs : List ℕ) (v : ℕ) → AreBoxes instance vs → v < box_count instance
    → list_any (λ u. u == v) vs ≡ false → AreBoxes instance (vs ++ v ∷ [])
boxes_longer instance vs v b h none =
    ended instance vs v b h (λ x i e. true≢false (sym (eq-eqb x v e) ∙ any_false (λ u. u == v) x vs none i))

-- all boxes but the last, and all but the first
front_part : List ℕ → List ℕ
front_part [] = []
front_part (u ∷ []) = []
front_part (u ∷ v ∷ vs) = u ∷ front_part (v ∷ vs)

parts_before : (xs : List ℕ) → 1 ≤ length xs → front_part xs ++ last_of xs ∷ [] ≡ xs
unfolding front_part
parts_before [] h = absurd (omega (arith, h))
parts_before (u ∷ []) h = refl
parts_before (u ∷ v ∷ vs) h = ap (λ l. u ∷ l) (parts_before (v ∷ vs) (omega arith))

later_part : List ℕ → List ℕ
later_part [] = []
later_part (u ∷ us) = us

parts_after : (ys : List ℕ) → 1 ≤ length ys → front_of ys ∷ later_part ys ≡ ys
unfolding later_part
parts_after [] h = absurd (omega (arith, h))
parts_after (u ∷ us) h = refl

none_more : (before more : List ℕ) (k : ℕ) → length (before ++ more) ≡ k → k ≤ length before → more ≡ []
none_more before [] k e h = refl
none_more before (v ∷ more) k e h = let l = length_more before more v in absurd (omega (arith, l, e, h))

module _ (instance : PlainInstance) where
  abbrev IsGrown : List Exclusion → BegunChain → Type 0
  IsGrown es c = IsGrownIn instance es c

  -- the lines go on with the chain, and explain the node that it leaves
  record GoesOn (es : List Exclusion) (c : BegunChain) (z : List PlainStep) : Type 0 where
    pub more : List ℕ
    pub later : List ℕ
    pub rest : List PlainStep
    pub lines : z ≡ box_lines more ++ (box_lines later ++ rest)
    pub first : length (c.before ++ more) ≡ c.first
    pub second : length (c.after ++ later) ≡ c.second
    pub step : IsChainStep instance es c.dim (c.before ++ more) (c.after ++ later)
    pub explained : Explains instance (shut es c.dim (c.before ++ more) (c.after ++ later)) rest

  -- ---- one box of a chain

  grown_by : (es : List Exclusion) (c : BegunChain) (b : Bool) → is_first c ≡ b → IsGrown es c → (v : ℕ)
      → v < box_count instance
      → goes_on (excludes es) c.dim (cond b c.before c.after) v ≡ true
      → IsGrown es (cond b (record c { before = c.before ++ v ∷ [] }) (record c { after = c.after ++ v ∷ [] }))
  grown_by es c true f g v h on = record {
    dim = g.dim;
    few_before = let l = ltb-true _ _ f in let k = length_more c.before [] v in omega (arith, l, k);
    some_first = g.some_first;
    some_second = g.some_second;
    boxes_before = boxes_longer instance c.before v g.boxes_before h (not-true _ (and_parts _ _ on).0);
    boxes_after = g.boxes_after;
    chain_before = chain_longer (excludes es) c.dim c.before v g.chain_before (and_parts _ _ on).1;
    chain_after = g.chain_after;
  }
  grown_by es c false f g v h on = record {
    dim = g.dim;
    few_before = g.few_before;
    some_first = g.some_first;
    some_second = g.some_second;
    boxes_before = g.boxes_before;
    boxes_after = boxes_longer instance c.after v g.boxes_after h (not-true _ (and_parts _ _ on).0);
    chain_before = g.chain_before;
    chain_after = chain_longer (excludes es) c.dim c.after v g.chain_after (and_parts _ _ on).1;
  }

  pub grown : (es : List Exclusion) (c : BegunChain) → IsGrown es c → (v : ℕ) → v < box_count instance
      → goes_on (excludes es) c.dim (part_of c) v ≡ true → IsGrown es (with_box c v)
  grown es c g v h on = grown_by es c (is_first c) refl g v h on

  back_by : (es : List Exclusion) (c : BegunChain) (b : Bool) → is_first c ≡ b → (v : ℕ) (z : List PlainStep)
      → GoesOn es (cond b (record c { before = c.before ++ v ∷ [] }) (record c { after = c.after ++ v ∷ [] })) z
      → GoesOn es c (On (suc v) ∷ z)
  back_by es c true f v z g =
      let e : (c.before ++ v ∷ []) ++ g.more ≡ c.before ++ v ∷ g.more = append_assoc c.before (v ∷ []) g.more in
      record {
        more = v ∷ g.more;
        later = g.later;
        rest = g.rest;
        lines = ap (λ l. On (suc v) ∷ l) g.lines;
        first = sym (ap length e) ∙ g.first;
        second = g.second;
        step = subst (λ l. IsChainStep instance es c.dim l (c.after ++ g.later)) e g.step;
        explained = subst (λ l. Explains instance (shut es c.dim l (c.after ++ g.later)) g.rest) e g.explained;
      }
  back_by es c false f v z g =
      let full : c.first ≤ length c.before = not_less (length c.before) c.first f in
      let none : g.more ≡ [] = none_more c.before g.more c.first g.first full in
      let e : (c.after ++ v ∷ []) ++ g.later ≡ c.after ++ v ∷ g.later = append_assoc c.after (v ∷ []) g.later in
      let h : c.before ++ g.more ≡ c.before ++ [] = ap (λ l. c.before ++ l) none in
      record {
        more = [];
        later = v ∷ g.later;
        rest = g.rest;
        lines = ap (λ l. On (suc v) ∷ l) (g.lines ∙ ap (λ l. box_lines l ++ (box_lines g.later ++ g.rest)) none);
        first = sym (ap length h) ∙ g.first;
        second = sym (ap length e) ∙ g.second;
        step = subst (λ l. IsChainStep instance es c.dim l (c.after ++ v ∷ g.later)) h
            (subst (λ l. IsChainStep instance es c.dim (c.before ++ g.more) l) e g.step);
        explained = subst (λ l. Explains instance (shut es c.dim l (c.after ++ v ∷ g.later)) g.rest) h
            (subst (λ l. Explains instance (shut es c.dim (c.before ++ g.more) l) g.rest) e g.explained);
      }
    where
      not_less : (a b : ℕ) → nat_lt a b ≡ false → b ≤ a
      not_less a b k = omega (arith, ltb-false a b k)

  -- the last box
  ends : (es : List Exclusion) (c : BegunChain) (z : List PlainStep) → IsGrown es c → has_all c ≡ true
      → chain_changes instance es c ≡ true
      → Explains instance (shut es c.dim c.before c.after) z → GoesOn es c z
  ends es c z g all changes h =
      let a = and_parts _ _ all in
      let b = and_parts _ _ changes in
      let d = and_parts _ _ b.0 in
      let p : c.before ++ [] ≡ c.before = append-nil c.before in
      let q : c.after ++ [] ≡ c.after = append-nil c.after in
      let s : IsChainStep instance es c.dim c.before c.after = record {
        dim = g.dim;
        boxes_before = g.boxes_before;
        boxes_after = g.boxes_after;
        chain_before = g.chain_before;
        chain_after = g.chain_after;
        distinct = λ e. true≢false (sym (eq-eqb _ _ e) ∙ not-true _ d.0);
        heavy = ltb-true _ _ d.1;
        fresh = not-true _ b.1;
      } in
      record {
        more = [];
        later = [];
        rest = z;
        lines = refl;
        first = ap length p ∙ eqb-true _ _ a.0;
        second = ap length q ∙ eqb-true _ _ a.1;
        step = subst (λ l. IsChainStep instance es c.dim l (c.after ++ [])) (sym p)
            (subst (λ l. IsChainStep instance es c.dim c.before l) (sym q) s);
        explained = subst (λ l. Explains instance (shut es c.dim l (c.after ++ [])) z) (sym p)
            (subst (λ l. Explains instance (shut es c.dim c.before l) z) (sym q) h);
      }

  -- ---- nodes

  abbrev IsSoundAt : List Exclusion → Option BegunChain → Type 0
  IsSoundAt es chain = IsSoundIn instance es chain

  abbrev AreSound : List AuditNode → Type 0
  AreSound ns = AreSoundIn instance ns

  abbrev ExplainsAt : List Exclusion → Option BegunChain → List PlainStep → Type 0
  ExplainsAt es None z = Explains instance es z
  ExplainsAt es (Some c) z = GoesOn es c z

  -- the lines are one explanation for each node
  abbrev ExplainsAll : List AuditNode → List PlainStep → Type 0
  ExplainsAll [] z = z ≡ []
  ExplainsAll (n ∷ ns) z = (l : List PlainStep) × (r : List PlainStep) × (z ≡ l ++ r)
      × ExplainsAt n.exclusions n.chain l × ExplainsAll ns r

  same_numbers : (vs : List ℕ) → names_boxes instance vs ≡ true → map (λ v. suc (pred v)) vs ≡ vs
  same_numbers [] h = refl
  same_numbers (v ∷ vs) h =
      let a = and_parts _ _ h in
      let b : suc (pred v) ≡ v = (box_named instance v (and_parts _ _ a.0).0).0 in
      let c = same_numbers vs a.1 in
      cc

  record IsTakenStep (es : List Exclusion) (dim : ℕ) (boxes : List ℕ) (rule : Rule) : Type 0 where
    pub step : IsStep instance es rule
    pub same_dim : suc (pred dim) ≡ dim
    pub same_boxes : map (λ v. suc (pred v)) boxes ≡ boxes

  taken_step : (es : List Exclusion) (dim : ℕ) (boxes : List ℕ) (rule : Rule)
      → step_refusal instance es dim boxes rule ≡ None
      → ((pred dim < dims instance) → AreBoxes instance (map pred boxes) → IsRuleInstance instance rule)
      → IsTakenStep es dim boxes rule
  taken_step es dim boxes rule h is =
      let a = passed _ _ _ h in
      let b = passed _ _ _ a.1 in
      let c = and_parts _ _ a.0 in
      let d = and_parts _ _ b.0 in
      let i = dim_named instance dim c.0 in
      record {
        step = step_by instance es rule (is i.1 (boxes_from instance boxes c.1))
            (premises_from instance (excludes es) rule d.0) d.1;
        same_dim = i.0;
        same_boxes = same_numbers boxes c.1;
      }

  rule_back : (es : List Exclusion) (ns : List AuditNode) (line : PlainStep) (z : List PlainStep) (rule : Rule)
      → IsStep instance es rule → lines_of rule ≡ line ∷ []
      → ExplainsAll (at_rest (after_rule es rule) ∷ ns) z → ExplainsAll (at_rest es ∷ ns) (line ∷ z)
  rule_back es ns line z rule s e (l, r, f, h, more) =
      (line ∷ l, r, ap (λ k. line ∷ k) f, by_step s (sym (ap (λ k. k ++ l) e)) h, more)

  token_back : (es : List Exclusion) (ns : List AuditNode) (t : PlainToken) (z : List PlainStep)
      → refusal_at instance es None (Plain t) ≡ None
      → ExplainsAll (children_at es None (Plain t) ++ ns) z → ExplainsAll (at_rest es ∷ ns) (Plain t ∷ z)
  token_back es ns (ApartToken i u v) z h (x, y, e, first, (y1, y2, f, second, rest)) =
      let a = passed _ _ _ h in
      let b = passed _ _ _ a.1 in
      let c = and_parts _ _ b.0 in (
        Plain (ApartToken i u v) ∷ (x ++ y1),
        y2,
        ap (λ w. Plain (ApartToken i u v) ∷ w) (e ∙ ap (λ w. x ++ w) f ∙ sym (append_assoc x y1 y2)),
        by_apart (record {
          named = named instance i u v a.0;
          overlap = not-true _ c.0;
          other = either _ _ (or_cases _ _ c.1);
        }) refl first second,
        rest,
      )
    where
      either : (a b : Bool) → (not a ≡ true) ⊎ (not b ≡ true) → (a ≡ false) ⊎ (b ≡ false)
      either a b (inl k) = inl (not-true a k)
      either a b (inr k) = inr (not-true b k)
  token_back es ns (OrderToken i u v) z h (x, y, e, first, (y1, y2, f, second, rest)) =
      let a = passed _ _ _ h in
      let b = passed _ _ _ a.1 in
      let c = and_parts _ _ b.0 in
      let d = and_parts _ _ c.0 in (
        Plain (OrderToken i u v) ∷ (x ++ y1),
        y2,
        ap (λ w. Plain (OrderToken i u v) ∷ w) (e ∙ ap (λ w. x ++ w) f ∙ sym (append_assoc x y1 y2)),
        by_order (record {
          named = named instance i u v a.0;
          overlap = d.0;
          before = not-true _ d.1;
          after = not-true _ c.1;
        }) refl first second,
        rest,
      )
  token_back es ns (TooLarge v i) z h rest = (
    Plain (TooLarge v i) ∷ [],
    z,
    refl,
    by_side ((inner_exact instance es (TooLarge v i)).0
        (plain_none (refusal instance es (TooLarge v i)) h)),
    rest,
  )
    where
      plain_none : (o : Option RefuseCode) → as_audit o ≡ None → o ≡ None
      plain_none None e = refl
      plain_none (Some code) e = absurd (cc (e))
  token_back es ns (Scales fs) z h rest = (
    Plain (Scales fs) ∷ [],
    z,
    refl,
    by_scales ((inner_exact instance es (Scales fs)).0 (plain_none (refusal instance es (Scales fs)) h)),
    rest,
  )
    where
      plain_none : (o : Option RefuseCode) → as_audit o ≡ None → o ≡ None
      plain_none None e = refl
      plain_none (Some code) e = absurd (cc (e))
  token_back es ns Rules z h rest = absurd (cc (h))
  token_back es ns (Assign v) z h rest = absurd (cc (h))
  token_back es ns (Choose v) z h rest = absurd (cc (h))
  token_back es ns (SetRefuted b) z h rest = absurd (cc (h))
  token_back es ns ValueShort z h rest = absurd (cc (h))
  token_back es ns (GlobalScales fs) z h rest = absurd (cc (h))

  module _ (es : List Exclusion) (i : ℕ) (xs ys : List ℕ) (some_before : 1 ≤ length xs)
      (some_after : 1 ≤ length ys) where
    abbrev rule_of : Rule
    rule_of = ChainRule i (front_part xs) (last_of xs) (front_of ys) (later_part ys)

    chain_rule : IsChainStep instance es i xs ys → IsStep instance es rule_of
    chain_rule s = record {
      is = (
        s.dim,
        subst (λ l. AreBoxes instance l) (sym (parts_before xs some_before)) s.boxes_before,
        subst (λ l. AreBoxes instance l) (sym (parts_after ys some_after)) s.boxes_after,
        s.distinct,
      );
      premises = (
        subst (λ l. IsChain (excludes es) i l) (sym (parts_before xs some_before)) s.chain_before,
        subst (λ l. IsChain (excludes es) i l) (sym (parts_after ys some_after)) s.chain_after,
        subst (λ l. container_side instance i < weight instance i l + weight instance i (front_of ys ∷ later_part ys))
            (sym (parts_before xs some_before))
            (subst (λ l. container_side instance i < weight instance i xs + weight instance i l)
            (sym (parts_after ys some_after)) s.heavy),
      );
      rel = Before;
      concluded = refl;
      fresh = s.fresh;
    }

    chain_lines : (rest : List PlainStep)
        → Chain (suc i) (length xs) (length ys) ∷ (box_lines xs ++ (box_lines ys ++ rest)) ≡ lines_of rule_of ++ rest
    chain_lines rest =
        ap (λ l. Chain (suc i) (length xs) (length ys) ∷ l) (sym (append_assoc (box_lines xs) (box_lines ys) rest))
        ∙ (ap (λ l. Chain (suc i) (length l) (length ys) ∷ ((box_lines l ++ box_lines ys) ++ rest))
        (sym (parts_before xs some_before))
        ∙ ap (λ l. Chain (suc i) (length (front_part xs ++ last_of xs ∷ [])) (length l)
        ∷ ((box_lines (front_part xs ++ last_of xs ∷ []) ++ box_lines l) ++ rest))
        (sym (parts_after ys some_after)))

  chain_back : (es : List Exclusion) (ns : List AuditNode) (i p q : ℕ) (z : List PlainStep)
      → refusal_at instance es None (Chain i p q) ≡ None
      → ExplainsAll (children_at es None (Chain i p q) ++ ns) z → ExplainsAll (at_rest es ∷ ns) (Chain i p q ∷ z)
  chain_back es ns i p q z h (l, r, f, g, more) =
      let a = passed _ _ _ h in
      let b = and_parts _ _ a.0 in
      let c = and_parts _ _ b.0 in
      let d = dim_named instance i c.0 in
      let m : 1 ≤ length g.more = let k = (box_named instance p c.1).0 in let e = g.first in omega (arith, k, e) in
      let n : 1 ≤ length g.later = let k = (box_named instance q b.1).0 in let e = g.second in omega (arith, k, e) in
      let same : Chain i p q ∷ l ≡ Chain (suc (pred i)) (length g.more) (length g.later)
      ∷ (box_lines g.more ++ (box_lines g.later ++ g.rest)) =
      ap (λ k. Chain i p q ∷ k) g.lines
      ∙ (ap (λ k. Chain k p q ∷ (box_lines g.more ++ (box_lines g.later ++ g.rest))) (sym d.0)
      ∙ (ap (λ k. Chain (suc (pred i)) k q ∷ (box_lines g.more ++ (box_lines g.later ++ g.rest))) (sym g.first)
      ∙ ap (λ k. Chain (suc (pred i)) (length g.more) k ∷ (box_lines g.more ++ (box_lines g.later ++ g.rest)))
      (sym g.second))) in (
        Chain i p q ∷ l,
        r,
        ap (λ k. Chain i p q ∷ k) f,
        by_step (chain_rule es (pred i) g.more g.later m n g.step)
            (same ∙ chain_lines es (pred i) g.more g.later m n g.rest) g.explained,
        more,
      )

  -- ---- one line

  abbrev children_by : Bool → List Exclusion → BegunChain → AuditNode
  children_by b es c = cond b (at_rest (shut es c.dim c.before c.after)) (record { exclusions = es; chain = Some c })

  -- what an accepted box of a chain says
  record IsTakenBox (es : List Exclusion) (c : BegunChain) (v : ℕ) : Type 0 where
    pub same : suc (pred v) ≡ v
    pub grows : IsGrown es (with_box c (pred v))
    pub changes : has_all (with_box c (pred v)) ≡ true → chain_changes instance es (with_box c (pred v)) ≡ true

  taken_box : (es : List Exclusion) (c : BegunChain) (v : ℕ) → IsGrown es c → on_refusal instance es c v ≡ None
      → IsTakenBox es c v
  taken_box es c v g h =
      let a = passed _ _ _ h in
      let b = passed _ _ _ a.1 in
      let d = passed _ _ _ b.1 in
      let e = box_named instance v a.0 in
      record {
        same = e.0;
        grows = grown es c g (pred v) e.1 b.0;
        changes = λ k. must (has_all (with_box c (pred v))) _ k (or_cases _ _ d.0);
      }
    where
      must : (x y : Bool) → x ≡ true → (not x ≡ true) ⊎ (y ≡ true) → y ≡ true
      must x y k (inl l) = absurd (true≢false (sym k ∙ not-true x l))
      must x y k (inr l) = l

  on_back : (es : List Exclusion) (c : BegunChain) (ns : List AuditNode) (v : ℕ) (z : List PlainStep) → IsGrown es c
      → on_refusal instance es c v ≡ None
      → ExplainsAll (chain_child es (with_box c (pred v)) ∷ ns) z
      → ExplainsAll (record { exclusions = es; chain = Some c } ∷ ns) (On v ∷ z)
  on_back es c ns v z g h (l, r, f, e, more) = (
    On v ∷ l,
    r,
    ap (λ k. On v ∷ k) f,
    subst (λ k. GoesOn es c (On k ∷ l)) t.same
        (back_by es c (is_first c) refl (pred v) l (go (has_all (with_box c (pred v))) refl e)),
    more,
  )
    where
      t : IsTakenBox es c v
      t = taken_box es c v g h

      go : (b : Bool) → has_all (with_box c (pred v)) ≡ b
          → ExplainsAt (children_by b es (with_box c (pred v))).exclusions
          (children_by b es (with_box c (pred v))).chain l
          → GoesOn es (with_box c (pred v)) l
      go true k e = ends es (with_box c (pred v)) l t.grows k (t.changes k) e
      go false k e = e

  line_back : (es : List Exclusion) (chain : Option BegunChain) (ns : List AuditNode) (line : PlainStep)
      (z : List PlainStep) → IsSoundAt es chain
      → refusal_at instance es chain line ≡ None → ExplainsAll (children_at es chain line ++ ns) z
      → ExplainsAll (record { exclusions = es; chain = chain } ∷ ns) (line ∷ z)
  line_back es None ns (Pair i u v) z s h rest =
      let t = taken_step es i (u ∷ v ∷ []) (PairRule (pred i) (pred u) (pred v)) h (λ d b. (d, b)) in
      let a = t.same_dim in let b = t.same_boxes in
      rule_back es ns (Pair i u v) z (PairRule (pred i) (pred u) (pred v)) t.step (cc) rest
  line_back es None ns (Apart i u v) z s h rest =
      let t = taken_step es i (u ∷ v ∷ []) (ApartRule (pred i) (pred u) (pred v)) h (λ d b. (d, b)) in
      let a = t.same_dim in let b = t.same_boxes in
      rule_back es ns (Apart i u v) z (ApartRule (pred i) (pred u) (pred v)) t.step (cc) rest
  line_back es None ns (Triple i u v x) z s h rest =
      let t = taken_step es i (u ∷ v ∷ x ∷ []) (TripleRule (pred i) (pred u) (pred v) (pred x)) h (λ d b. (d, b)) in
      let a = t.same_dim in let b = t.same_boxes in
      rule_back es ns (Triple i u v x) z (TripleRule (pred i) (pred u) (pred v) (pred x)) t.step (cc) rest
  line_back es None ns (Compose i u v x) z s h rest =
      let t = taken_step es i (u ∷ v ∷ x ∷ []) (ComposeRule (pred i) (pred u) (pred v) (pred x)) h (λ d b. (d, b)) in
      let a = t.same_dim in let b = t.same_boxes in
      rule_back es ns (Compose i u v x) z (ComposeRule (pred i) (pred u) (pred v) (pred x)) t.step (cc) rest
  line_back es None ns (Cycle i a b c d) z s h rest =
      let t = taken_step es i (a ∷ b ∷ c ∷ d ∷ []) (CycleRule (pred i) (pred a) (pred b) (pred c) (pred d)) h
      (λ k l. (k, l)) in
      let m = t.same_dim in let n = t.same_boxes in
      rule_back es ns (Cycle i a b c d) z (CycleRule (pred i) (pred a) (pred b) (pred c) (pred d)) t.step (cc) rest
  line_back es None ns (Order i a b c d) z s h rest =
      let t = taken_step es i (a ∷ b ∷ c ∷ d ∷ []) (OrderRule (pred i) (pred a) (pred b) (pred c) (pred d)) h
      (λ k l. (k, l)) in
      let m = t.same_dim in let n = t.same_boxes in
      rule_back es ns (Order i a b c d) z (OrderRule (pred i) (pred a) (pred b) (pred c) (pred d)) t.step (cc) rest
  line_back es None ns (Chain i p q) z s h rest = chain_back es ns i p q z h rest
  line_back es None ns (On v) z s h rest = absurd (cc (h))
  line_back es None ns (Clash i u v) z s h rest =
      let a = passed _ _ _ h in
      let b = passed _ _ _ a.1 in
      let c = and_parts _ _ b.0 in
      let d = and_parts _ _ c.0 in (
        Clash i u v ∷ [],
        z,
        refl,
        by_clash
            (record { named = named instance i u v a.0; each = λ r. three r d.0 d.1 c.1 }),
        rest,
      )
    where
      three : (r : Rel) → excludes es (pred i) (pred u) (pred v) Overlap ≡ true
          → excludes es (pred i) (pred u) (pred v) Before ≡ true
          → excludes es (pred i) (pred u) (pred v) After ≡ true → excludes es (pred i) (pred u) (pred v) r ≡ true
      three Overlap x y w = x
      three Before x y w = y
      three After x y w = w
  line_back es None ns (Plain t) z s h rest = token_back es ns t z h rest
  line_back es (Some c) ns (On v) z s h rest = on_back es c ns v z s h rest
  line_back es (Some c) ns (Pair i u v) z s h rest = absurd (cc (h))
  line_back es (Some c) ns (Apart i u v) z s h rest = absurd (cc (h))
  line_back es (Some c) ns (Triple i u v x) z s h rest = absurd (cc (h))
  line_back es (Some c) ns (Compose i u v x) z s h rest = absurd (cc (h))
  line_back es (Some c) ns (Cycle i a b c' d) z s h rest = absurd (cc (h))
  line_back es (Some c) ns (Order i a b c' d) z s h rest = absurd (cc (h))
  line_back es (Some c) ns (Chain i p q) z s h rest = absurd (cc (h))
  line_back es (Some c) ns (Clash i u v) z s h rest = absurd (cc (h))
  line_back es (Some c) ns (Plain t) z s h rest = absurd (cc (h))

  token_sound : (es : List Exclusion) (ns : List AuditNode) (t : PlainToken) → AreSound ns
      → AreSound (children_at es None (Plain t) ++ ns)
  token_sound es ns (ApartToken i u v) s = (tt, (tt, s))
  token_sound es ns (OrderToken i u v) s = (tt, (tt, s))
  token_sound es ns Rules s = s
  token_sound es ns (TooLarge v i) s = s
  token_sound es ns (Scales fs) s = s
  token_sound es ns (Assign v) s = s
  token_sound es ns (Choose v) s = s
  token_sound es ns (SetRefuted b) s = s
  token_sound es ns ValueShort s = s
  token_sound es ns (GlobalScales fs) s = s

  pub line_sound : (es : List Exclusion) (chain : Option BegunChain) (ns : List AuditNode) (line : PlainStep)
      → IsSoundAt es chain
      → refusal_at instance es chain line ≡ None → AreSound ns → AreSound (children_at es chain line ++ ns)
  line_sound es None ns (Pair i u v) s h rest = (tt, rest)
  line_sound es None ns (Apart i u v) s h rest = (tt, rest)
  line_sound es None ns (Triple i u v x) s h rest = (tt, rest)
  line_sound es None ns (Compose i u v x) s h rest = (tt, rest)
  line_sound es None ns (Cycle i a b c d) s h rest = (tt, rest)
  line_sound es None ns (Order i a b c d) s h rest = (tt, rest)
  line_sound es None ns (Chain i p q) s h rest =
      let a = passed _ _ _ h in
      let b = and_parts _ _ a.0 in
      let c = and_parts _ _ b.0 in (
        record {
          dim = (dim_named instance i c.0).1;
          few_before = omega arith;
          some_first = let k = (box_named instance p c.1).0 in omega (arith, k);
          some_second = let k = (box_named instance q b.1).0 in omega (arith, k);
          boxes_before = tt;
          boxes_after = tt;
          chain_before = tt;
          chain_after = tt;
        },
        rest,
      )
  line_sound es None ns (On v) s h rest = rest
  line_sound es None ns (Clash i u v) s h rest = rest
  line_sound es None ns (Plain t) s h rest = token_sound es ns t rest
  line_sound es (Some c) ns (On v) s h rest = (go (has_all (with_box c (pred v))), rest)
    where
      go : (b : Bool) → IsSoundAt (children_by b es (with_box c (pred v))).exclusions
          (children_by b es (with_box c (pred v))).chain
      go true = tt
      go false = (taken_box es c v s h).grows
  line_sound es (Some c) ns (Pair i u v) s h rest = rest
  line_sound es (Some c) ns (Apart i u v) s h rest = rest
  line_sound es (Some c) ns (Triple i u v x) s h rest = rest
  line_sound es (Some c) ns (Compose i u v x) s h rest = rest
  line_sound es (Some c) ns (Cycle i a b c' d) s h rest = rest
  line_sound es (Some c) ns (Order i a b c' d) s h rest = rest
  line_sound es (Some c) ns (Chain i p q) s h rest = rest
  line_sound es (Some c) ns (Clash i u v) s h rest = rest
  line_sound es (Some c) ns (Plain t) s h rest = rest

  splits : (z : List PlainStep) (nodes : List AuditNode) → AreSound nodes → audited_after_all instance nodes z ≡ Ok []
      → ExplainsAll nodes z
  splits [] [] s e = refl
  splits [] (n ∷ ns) s e = absurd (cc (e))
  splits (line ∷ z) [] s e = absurd (cc (e))
  splits (line ∷ z) (n ∷ ns) s e =
      let t = taken instance n ns line z [] e in
      line_back n.exclusions n.chain ns line z s.0 t.accepted
      (splits z (audit_children n line ++ ns) (line_sound n.exclusions n.chain ns line s.0 t.accepted s.1) t.later)

  -- lines that take one node away explain it
  pub fed_explains : (es : List Exclusion) (z : List PlainStep) → audited_after_all instance (at_rest es ∷ []) z ≡ Ok []
      → Explains instance es z
  fed_explains es z e = go (splits z (at_rest es ∷ []) (tt, tt) e)
    where
      go : ExplainsAll (at_rest es ∷ []) z → Explains instance es z
      go (l, r, f, h, g) = subst (λ w. Explains instance es w) (sym (f ∙ (ap (λ w. l ++ w) g ∙ append-nil l))) h
