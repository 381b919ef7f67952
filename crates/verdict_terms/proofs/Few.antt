-- Each split leaves fewer relations open in both children, so the number of open nodes is bounded.
use Rattle.std.proofs.Common.{◌≡◌, ◌≢◌, ℕ, zero, suc, pred, ◌+◌, ◌<◌, ◌≤◌, ◌⊎◌, inl, inr, refl, sym, subst, ◌∙◌}
use Rattle.std.proofs.Common.{arith, Bool, true, false, not, cond, List, [], ◌∷◌, ◌++◌, length, Option, Some}
use Rattle.std.proofs.Common.{None, Ok}
use Rattle.std.proofs.lemmas.Bool.{true≢false, cases_Bool, and_parts, not-true, or_cases}
use Rattle.packing_terms.specs.Results.{◌>>=◌}
use Rattle.packing_terms.specs.declared.Rel.{Rel}
use Rattle.packing_terms.specs.declared.Rel.TheVariants.{Overlap, Before, After}
use Rattle.packing_terms.specs.declared.Exclusion.{Exclusion}
use Rattle.packing_terms.specs.Packing.{PlainInstance, dims, box_count}
use Rattle.packing_terms.specs.Exclusions.{excludes, exclusion_at, IsEdgeAmong}
use Rattle.packing_terms.specs.Closure.{IsSubset}
use Rattle.packing_terms.specs.Rules.{Rule, dim_of, first_of, second_of}
use Rattle.packing_terms.specs.Rules.Rule.{Pair as PairRule, Apart as ApartRule, Triple as TripleRule}
use Rattle.packing_terms.specs.Rules.Rule.{Compose as ComposeRule, Cycle as CycleRule, Order as OrderRule}
use Rattle.packing_terms.specs.Tokens.{PlainToken}
use Rattle.packing_terms.specs.Tokens.PlainToken.{Apart as ApartToken, Order as OrderToken, Rules, TooLarge, Scales}
use Rattle.packing_terms.specs.Tokens.PlainToken.{Assign, Choose, SetRefuted, ValueShort, GlobalScales}
use Rattle.packing_terms.specs.Refutation.{IsNamed, exclusion_in_text}
use Rattle.packing_terms.specs.Rounds.{all_exclusions}
use Rattle.packing_terms.specs.Steps.{with_exclusion}
use Rattle.packing_terms.proofs.RoundsLemmas.{length_filter_less}
use Rattle.packing_terms.proofs.Drawn.{is_not, not_so}
use Rattle.packing_terms.proofs.Steps.{few_open, fewer_open}
use Rattle.packing_terms.proofs.Applied.{with_keeps}
use Rattle.verdict_terms.proofs.Judged.{named}
use Rattle.verdict_terms.specs.declared.explained_answers.AuditCode.{AuditCode}
use Rattle.verdict_terms.specs.Steps.{PlainStep}
use Rattle.verdict_terms.specs.Steps.PlainStep.{Pair, Apart, Triple, Compose, Cycle, Order, Chain, On, Clash, Plain}
use Rattle.verdict_terms.specs.Explaining.{leaves, after_rule, with_text}
use Rattle.verdict_terms.specs.ExplainedJudging.{BegunChain, AuditNode, at_rest, has_all, last_of, front_of, with_box}
use Rattle.verdict_terms.specs.ExplainedJudging.{chain_child, children_at, refusal_at, audit_refusal, audit_children}
use Rattle.verdict_terms.specs.Kept.{opens as opens_in, all_relations as relations_in, AreFew as AreFewIn}
use Rattle.verdict_terms.specs.Auditing.{left_by, audited_after_all, most_open_nodes}
use Rattle.verdict_terms.proofs.Leaves.{narrowed_more}
use Rattle.verdict_terms.proofs.ExplainedFed.{passed}

module _ (instance : PlainInstance) where
  abbrev opens : List Exclusion → ℕ
  opens es = opens_in instance es

  abbrev all_relations : ℕ
  all_relations = relations_in instance

  no_more : (es fs : List Exclusion) → IsSubset (excludes es) (excludes fs) → opens fs ≤ opens es
  no_more es fs more =
      length_filter_less (λ e. not (excludes es e.dim e.u e.v e.rel)) (λ e. not (excludes fs e.dim e.u e.v e.rel))
      (all_exclusions (dims instance) (box_count instance))
      (λ e k. is_not (excludes es e.dim e.u e.v e.rel)
      (λ l. not_so (excludes fs e.dim e.u e.v e.rel) k (more e.dim e.u e.v e.rel l)))

  with_no_more : (es : List Exclusion) (e : Exclusion) → opens (with_exclusion es e) ≤ opens es
  with_no_more es e = no_more es (with_exclusion es e) (with_keeps es e)

  pub edge_of : (i u v : ℕ) → IsNamed instance i u v
      → IsEdgeAmong (dims instance) (box_count instance) (pred i) (pred u) (pred v)
  edge_of (suc i) (suc u) (suc v) n =
      let i1 = n.dim_to in
      let l = n.rising in
      let v1 = n.v_to in
      record {
        dim = omega (arith, i1);
        first = omega (arith, l, v1);
        second = omega (arith, v1);
        distinct = λ e. omega (arith, l, e);
      }
  edge_of zero u v n = absurd (omega (arith, n.dim_from))
  edge_of i zero v n = absurd (omega (arith, n.u_from))
  edge_of i u zero n = absurd (omega (arith, n.rising))

  one_less : (es : List Exclusion) (i u v : ℕ) (r : Rel) → IsNamed instance i u v
      → excludes es (pred i) (pred u) (pred v) r ≡ false → opens (with_text es i u v r) < opens es
  one_less es i u v r n h = rw h
      (fewer_open (dims instance) (box_count instance) es (exclusion_in_text i u v r) (edge_of i u v n) h)

  two_less : (es : List Exclusion) (i u v : ℕ) → IsNamed instance i u v
      → (excludes es (pred i) (pred u) (pred v) Before ≡ false) ⊎ (excludes es (pred i) (pred u) (pred v) After ≡ false)
      → opens (with_text (with_text es i u v After) i u v Before) < opens es
  two_less es i u v n h = go h (cases_Bool (excludes es (pred i) (pred u) (pred v) After))
    where
      go : (excludes es (pred i) (pred u) (pred v) Before ≡ false)
          ⊎ (excludes es (pred i) (pred u) (pred v) After ≡ false)
          → (excludes es (pred i) (pred u) (pred v) After ≡ true)
          ⊎ (excludes es (pred i) (pred u) (pred v) After ≡ false)
          → opens (with_text (with_text es i u v After) i u v Before) < opens es
      go _ (inr k) =
          let a = one_less es i u v After n k in
          let b = with_no_more (with_text es i u v After) (exclusion_in_text i u v Before) in
          omega (arith, a, b)
      go (inl k) (inl l) =
          let a = one_less es i u v Before n k in
          let same : with_text es i u v After ≡ es = rw l refl in
          subst (λ fs. opens (with_text fs i u v Before) < opens es) (sym same) a
      go (inr k) (inl l) = absurd (true≢false (sym l ∙ k))

  abbrev AreFew : List AuditNode → Type 0
  AreFew ns = AreFewIn instance ns

  abbrev IsRoom : List Exclusion → List AuditNode → Type 0
  IsRoom es ns = length ns + opens es ≤ all_relations

  less_room : (es fs : List Exclusion) (ns : List AuditNode) → opens fs ≤ opens es → IsRoom es ns → IsRoom fs ns
  less_room es fs ns h r = omega (arith, h, r)

  token_few : (es : List Exclusion) (ns : List AuditNode) (t : PlainToken)
      → refusal_at instance es None (Plain t) ≡ None → IsRoom es ns → AreFew ns
      → AreFew (children_at es None (Plain t) ++ ns)
  token_few es ns (ApartToken i u v) h r few =
      let a = passed _ _ _ h in
      let b = passed _ _ _ a.1 in
      let c = and_parts _ _ b.0 in
      let n = named instance i u v a.0 in
      let one = one_less es i u v Overlap n (not-true _ c.0) in
      let two = two_less es i u v n (either (or_cases _ _ c.1)) in
      (omega (arith, one, r), (omega (arith, two, r), few))
    where
      either : {a b : Bool} → (not a ≡ true) ⊎ (not b ≡ true) → (a ≡ false) ⊎ (b ≡ false)
      either (inl k) = inl (not-true _ k)
      either (inr k) = inr (not-true _ k)
  token_few es ns (OrderToken i u v) h r few =
      let a = passed _ _ _ h in
      let b = passed _ _ _ a.1 in
      let c = and_parts _ _ b.0 in
      let d = and_parts _ _ c.0 in
      let n = named instance i u v a.0 in
      let one = one_less es i u v After n (not-true _ c.1) in
      let two = one_less es i u v Before n (not-true _ d.1) in
      (omega (arith, one, r), (omega (arith, two, r), few))
  token_few es ns Rules h r few = few
  token_few es ns (TooLarge v i) h r few = few
  token_few es ns (Scales fs) h r few = few
  token_few es ns (Assign v) h r few = few
  token_few es ns (Choose v) h r few = few
  token_few es ns (SetRefuted b) h r few = few
  token_few es ns ValueShort h r few = few
  token_few es ns (GlobalScales fs) h r few = few

  rule_few : (es : List Exclusion) (ns : List AuditNode) (rule : Rule) → IsRoom es ns → AreFew ns
      → AreFew (at_rest (after_rule es rule) ∷ ns)
  rule_few es ns rule r few = (
    less_room es (after_rule es rule) ns
        (no_more es (after_rule es rule)
        (narrowed_more es (dim_of rule) (first_of rule) (second_of rule) (leaves (excludes es) rule))) r,
    few,
  )

  chain_few : (es : List Exclusion) (ns : List AuditNode) (c : BegunChain) → IsRoom es ns → AreFew ns
      → AreFew (chain_child es c ∷ ns)
  chain_few es ns c r few = go (has_all c)
    where
      go : (b : Bool) → AreFew ((cond b
          (at_rest (with_exclusion es (exclusion_at c.dim (last_of c.before) (front_of c.after) Before)))
          (record { exclusions = es; chain = Some c })) ∷ ns)
      go true = (
        less_room es (with_exclusion es (exclusion_at c.dim (last_of c.before) (front_of c.after) Before)) ns
            (with_no_more es (exclusion_at c.dim (last_of c.before) (front_of c.after) Before)) r,
        few,
      )
      go false = (r, few)

  pub line_few : (es : List Exclusion) (chain : Option BegunChain) (ns : List AuditNode) (line : PlainStep)
      → refusal_at instance es chain line ≡ None → IsRoom es ns → AreFew ns
      → AreFew (children_at es chain line ++ ns)
  line_few es None ns (Pair i u v) h r few = rule_few es ns (PairRule (pred i) (pred u) (pred v)) r few
  line_few es None ns (Apart i u v) h r few = rule_few es ns (ApartRule (pred i) (pred u) (pred v)) r few
  line_few es None ns (Triple i u v x) h r few = rule_few es ns (TripleRule (pred i) (pred u) (pred v) (pred x)) r few
  line_few es None ns (Compose i u v x) h r few = rule_few es ns (ComposeRule (pred i) (pred u) (pred v) (pred x)) r few
  line_few es None ns (Cycle i a b c d) h r few =
      rule_few es ns (CycleRule (pred i) (pred a) (pred b) (pred c) (pred d)) r few
  line_few es None ns (Order i a b c d) h r few =
      rule_few es ns (OrderRule (pred i) (pred a) (pred b) (pred c) (pred d)) r few
  line_few es None ns (Chain i p q) h r few = (r, few)
  line_few es None ns (On v) h r few = few
  line_few es None ns (Clash i u v) h r few = few
  line_few es None ns (Plain t) h r few = token_few es ns t h r few
  line_few es (Some c) ns (On v) h r few = chain_few es ns (with_box c (pred v)) r few
  line_few es (Some c) ns (Pair i u v) h r few = few
  line_few es (Some c) ns (Apart i u v) h r few = few
  line_few es (Some c) ns (Triple i u v x) h r few = few
  line_few es (Some c) ns (Compose i u v x) h r few = few
  line_few es (Some c) ns (Cycle i a b c' d) h r few = few
  line_few es (Some c) ns (Order i a b c' d) h r few = few
  line_few es (Some c) ns (Chain i p q) h r few = few
  line_few es (Some c) ns (Clash i u v) h r few = few
  line_few es (Some c) ns (Plain t) h r few = few

  -- an accepted line, and what is left behind it
  pub record IsTaken (n : AuditNode) (nodes : List AuditNode) (line : PlainStep) (z : List PlainStep)
      (left : List AuditNode) : Type 0 where
    pub accepted : audit_refusal instance n line ≡ None
    pub later : audited_after_all instance (audit_children n line ++ nodes) z ≡ Ok left

  pub taken : (n : AuditNode) (nodes : List AuditNode) (line : PlainStep) (z : List PlainStep) (left : List AuditNode)
      → audited_after_all instance (n ∷ nodes) (line ∷ z) ≡ Ok left → IsTaken n nodes line z left
  taken n nodes line z left e = go (audit_refusal instance n line) refl e
    where
      go : (o : Option AuditCode) → audit_refusal instance n line ≡ o
          → (left_by o (audit_children n line) nodes >>= λ more. audited_after_all instance more z) ≡ Ok left
          → IsTaken n nodes line z left
      go None f k = record { accepted = f; later = k }
      go (Some code) f k = absurd (cc (k))

  pub few_left : (z : List PlainStep) (nodes left : List AuditNode) → AreFew nodes
      → audited_after_all instance nodes z ≡ Ok left → AreFew left
  few_left [] nodes left few e = let s : nodes ≡ left = cc (e) in subst (λ ns. AreFew ns) s few
  few_left (line ∷ z) [] left few e = absurd (cc (e))
  few_left (line ∷ z) (n ∷ nodes) left few e =
      let t = taken n nodes line z left e in
      few_left z (audit_children n line ++ nodes) left
      (line_few n.exclusions n.chain nodes line t.accepted few.0 few.1) t.later

  pub few_nodes : (left : List AuditNode) → AreFew left → length left ≤ most_open_nodes instance
  few_nodes [] few = omega arith
  few_nodes (n ∷ ns) few = let r = few.0 in omega (arith, r)

  pub few_at_start : (es : List Exclusion) → AreFew (at_rest es ∷ [])
  few_at_start es = let h = few_open (dims instance) (box_count instance) es in (omega (arith, h), tt)
