-- Every refutation can be explained: what a rule derives, a step adds.
use Rattle.std.proofs.Common.{◌≡◌, ◌≢◌, ℕ, suc, pred, ◌+◌, ◌<◌, ◌≤◌, ◌⊎◌, inl, inr, refl, sym, ap, ap₂, subst, ◌∙◌}
use Rattle.std.proofs.Common.{arith, true, false, List, [], ◌∷◌, ◌++◌, append_assoc, IsTrue}
use Rattle.std.proofs.lemmas.Bool.{true≢false, cases_Bool, cases_lt}
use Rattle.packing_terms.specs.declared.Rel.{Rel}
use Rattle.packing_terms.specs.declared.Rel.TheVariants.{Overlap, Before, After}
use Rattle.packing_terms.specs.declared.Exclusion.{Exclusion}
use Rattle.packing_terms.specs.Packing.{PlainInstance, dims, box_count}
use Rattle.packing_terms.specs.Relations.{mirror}
use Rattle.packing_terms.specs.Exclusions.{Exclusions, excludes, is_of, IsEdge}
use Rattle.packing_terms.specs.Rules.{Rule, Follows, by_rule, mirrored, dim_of, first_of, second_of}
use Rattle.packing_terms.specs.Rules.Rule.{Pair, Apart, Triple, Chain, Compose, Cycle, Order}
use Rattle.packing_terms.specs.Closure.{IsDerivation, IsDerived, IsSubset, AreDerived}
use Rattle.packing_terms.specs.Tokens.{PlainToken}
use Rattle.packing_terms.specs.Tokens.PlainToken.{Apart as ApartToken, Order as OrderToken, Rules, TooLarge, Scales}
use Rattle.packing_terms.specs.Refutation.{Refutes, by_rules, by_side, by_scales, by_apart, by_order, exclusion_in_text}
use Rattle.packing_terms.specs.Refutation.{LeavesOpen}
use Rattle.packing_terms.proofs.Sets.{or_true, mirror_twice, excludes_symmetric, own_first}
use Rattle.packing_terms.proofs.Closures.{derives_from, given_derived}
use Rattle.packing_terms.proofs.Monotone.{follows_more}
use Rattle.packing_terms.specs.Steps.{with_exclusion}
use Rattle.packing_terms.specs.Applied.{Adds, added, mirror_added}
use Rattle.packing_terms.proofs.Steps.{open_mirrored}
use Rattle.packing_terms.proofs.Applied.{with_cases, with_keeps, with_own}
use Rattle.packing_terms.proofs.TableLaws.{rule_derived}
use Rattle.verdict_terms.specs.Steps.{PlainStep, lines_of, tokens_among, box_lines}
use Rattle.verdict_terms.specs.Steps.PlainStep.{On, Clash, Plain, Pair as PairLine, Apart as ApartLine}
use Rattle.verdict_terms.specs.Steps.PlainStep.{Triple as TripleLine, Compose as ComposeLine, Cycle as CycleLine}
use Rattle.verdict_terms.specs.Steps.PlainStep.{Order as OrderLine, Chain as ChainLine}
use Rattle.verdict_terms.specs.Explaining.{IsStep, leaves, after_rule, with_text, Explains, by_clash}
use Rattle.verdict_terms.specs.Explaining.{by_side as side_leaf, by_scales as scales_leaf, by_step, by_apart as part}
use Rattle.verdict_terms.specs.Explaining.{by_order as order}
use Rattle.verdict_terms.specs.Stepping.{StepsTo, lines_of_all, IsExplained}
use Rattle.verdict_terms.proofs.Leaves.{applied, narrowed_more}

-- ---- tokens among lines

pub tokens_joined : (x y : List PlainStep) → tokens_among (x ++ y) ≡ tokens_among x ++ tokens_among y
tokens_joined [] y = refl
tokens_joined (Clash i u v ∷ x) y = ap (λ l. Rules ∷ l) (tokens_joined x y)
tokens_joined (Plain t ∷ x) y = ap (λ l. t ∷ l) (tokens_joined x y)
tokens_joined (PairLine i u v ∷ x) y = tokens_joined x y
tokens_joined (ApartLine i u v ∷ x) y = tokens_joined x y
tokens_joined (TripleLine i u v w ∷ x) y = tokens_joined x y
tokens_joined (ComposeLine i u v w ∷ x) y = tokens_joined x y
tokens_joined (CycleLine i a b c d ∷ x) y = tokens_joined x y
tokens_joined (OrderLine i a b c d ∷ x) y = tokens_joined x y
tokens_joined (ChainLine i p q ∷ x) y = tokens_joined x y
tokens_joined (On v ∷ x) y = tokens_joined x y

pub no_tokens_on : (vs : List ℕ) → tokens_among (box_lines vs) ≡ []
no_tokens_on [] = refl
no_tokens_on (v ∷ vs) = no_tokens_on vs

pub no_tokens : (rule : Rule) → tokens_among (lines_of rule) ≡ []
no_tokens (Pair i u v) = refl
no_tokens (Apart i u v) = refl
no_tokens (Triple i u v x) = refl
no_tokens (Compose i u v x) = refl
no_tokens (Cycle i a b c d) = refl
no_tokens (Order i a b c d) = refl
no_tokens (Chain i before u v after) =
    tokens_joined (box_lines (before ++ u ∷ [])) (box_lines (v ∷ after))
    ∙ ap₂ (λ a b. a ++ b) (no_tokens_on (before ++ u ∷ [])) (no_tokens_on (v ∷ after))

pub steps_tokens : (rules : List Rule) (z : List PlainStep) → tokens_among (lines_of_all rules ++ z) ≡ tokens_among z
steps_tokens [] z = refl
steps_tokens (rule ∷ rules) z =
    ap tokens_among (append_assoc (lines_of rule) (lines_of_all rules) z)
    ∙ tokens_joined (lines_of rule) (lines_of_all rules ++ z)
    ∙ ap (λ l. l ++ tokens_among (lines_of_all rules ++ z)) (no_tokens rule)
    ∙ steps_tokens rules z

module _ (instance : PlainInstance) where
  -- ---- steps one after another

  pub steps_then : (rules : List Rule) (es fs : List Exclusion) (more : List Rule) (gs : List Exclusion)
      → StepsTo instance es rules fs → StepsTo instance fs more gs
      → StepsTo instance es (rules ++ more) gs
  steps_then [] es fs more gs h k = subst (λ l. StepsTo instance l more gs) (sym h) k
  steps_then (rule ∷ rules) es fs more gs h k = (h.0, steps_then rules (after_rule es rule) fs more gs h.1 k)

  pub steps_explain : (rules : List Rule) (es fs : List Exclusion) (z : List PlainStep) → StepsTo instance es rules fs
      → Explains instance fs z
      → Explains instance es (lines_of_all rules ++ z)
  steps_explain [] es fs z h k = subst (λ l. Explains instance l z) (sym h) k
  steps_explain (rule ∷ rules) es fs z h k =
      by_step h.0 (append_assoc (lines_of rule) (lines_of_all rules) z)
      (steps_explain rules (after_rule es rule) fs z h.1 k)

  rule_keeps : (es : List Exclusion) (rule : Rule) → IsSubset (excludes es) (excludes (after_rule es rule))
  rule_keeps es rule = narrowed_more es (dim_of rule) (first_of rule) (second_of rule) (leaves (excludes es) rule)

  pub steps_keep : (rules : List Rule) (es fs : List Exclusion) → StepsTo instance es rules fs
      → IsSubset (excludes es) (excludes fs)
  steps_keep [] es fs h i u v r k = subst (λ l. IsTrue (excludes l i u v r)) h k
  steps_keep (rule ∷ rules) es fs h i u v r k =
      steps_keep rules (after_rule es rule) fs h.1 i u v r (rule_keeps es rule i u v r k)

  step_derived : (E : Exclusions) (es : List Exclusion) (rule : Rule) → IsStep instance es rule
      → AreDerived instance E (excludes es)
      → AreDerived instance E (excludes (after_rule es rule))
  step_derived E es rule s d i u v r h = go i u v r (((applied instance es rule s.is s.premises).exact i u v r).0 h)
    where
      go : (i u v : ℕ) (r : Rel) → IsTrue (excludes es i u v r) ⊎ Adds instance (excludes es) rule i u v r
          → IsDerived instance E i u v r
      go i u v r (inl k) = d i u v r k
      go _ _ _ _ (inr (added r is p c)) =
          rule_derived instance E es d (dim_of rule) (first_of rule) (second_of rule) r (by_rule rule r is p c)
      go _ _ _ _ (inr (mirror_added r is p c)) =
          rule_derived instance E es d (dim_of rule) (second_of rule) (first_of rule) (mirror r) (mirrored rule r is p c)

  pub steps_derived : (E : Exclusions) (rules : List Rule) (es fs : List Exclusion) → StepsTo instance es rules fs
      → AreDerived instance E (excludes es) → AreDerived instance E (excludes fs)
  steps_derived E [] es fs h d = subst (λ l. AreDerived instance E (excludes l)) h d
  steps_derived E (rule ∷ rules) es fs h d =
      steps_derived E rules (after_rule es rule) fs h.1 (step_derived E es rule h.0 d)

  -- what follows by one rule is added by one step
  record IsAdded (es : List Exclusion) (i u v : ℕ) (r : Rel) : Type 0 where
    pub rule : Rule
    pub step : IsStep instance es rule
    pub there : IsTrue (excludes (after_rule es rule) i u v r)

  adds : (es : List Exclusion) (i u v : ℕ) (r : Rel) → Follows instance (excludes es) i u v r
      → excludes es i u v r ≡ false → IsAdded es i u v r
  adds es _ _ _ r (by_rule rule _ is p c) open_ = record {
    rule = rule;
    step = record { is = is; premises = p; rel = r; concluded = c; fresh = open_ };
    there = ((applied instance es rule is p).exact (dim_of rule) (first_of rule) (second_of rule) r).1
        (inr (added r is p c));
  }
  adds es _ _ _ _ (mirrored rule s is p c) open_ = record {
    rule = rule;
    step = record {
      is = is;
      premises = p;
      rel = s;
      concluded = c;
      fresh = subst (λ (q : Rel). excludes es (dim_of rule) (first_of rule) (second_of rule) q ≡ false) (mirror_twice s)
          (open_mirrored es (dim_of rule) (second_of rule) (first_of rule) (mirror s) open_);
    };
    there = ((applied instance es rule is p).exact (dim_of rule) (second_of rule) (first_of rule) (mirror s)).1
        (inr (mirror_added s is p c));
  }

  -- steps that lead to what a derivation has
  pub record Leads (es : List Exclusion) (ds : List Exclusion) : Type 0 where
    pub rules : List Rule
    pub left : List Exclusion
    pub steps : StepsTo instance es rules left
    pub holds : IsSubset (excludes ds) (excludes left)

  pub leads : (E : Exclusions) (es : List Exclusion) → IsSubset E (excludes es) → (ds : List Exclusion)
      → IsDerivation instance E ds → Leads es ds
  leads E es there [] h = record {
    rules = [];
    left = es;
    steps = refl;
    holds = λ i u v r k. absurd (true≢false (sym k));
  }
  leads E es there (d ∷ ds) h = go (leads E es there ds h.1) h.0
    where
      more : (l : Leads es ds) → IsAdded l.left d.dim d.u d.v d.rel → Leads es (d ∷ ds)
      more l a = record {
        rules = l.rules ++ a.rule ∷ [];
        left = after_rule l.left a.rule;
        steps = steps_then l.rules es l.left (a.rule ∷ []) (after_rule l.left a.rule) l.steps (a.step, refl);
        holds = own_first (after_rule l.left a.rule) d ds a.there
            (λ i u v r k. rule_keeps l.left a.rule i u v r (l.holds i u v r k));
      }

      done : (l : Leads es ds) → IsTrue (excludes l.left d.dim d.u d.v d.rel) → Leads es (d ∷ ds)
      done l k = record { rules = l.rules; left = l.left; steps = l.steps; holds = own_first l.left d ds k l.holds }

      go : (l : Leads es ds) → IsTrue (E d.dim d.u d.v d.rel) ⊎ Follows instance (excludes ds) d.dim d.u d.v d.rel
          → Leads es (d ∷ ds)
      go l (inl k) = done l (steps_keep l.rules es l.left l.steps d.dim d.u d.v d.rel (there d.dim d.u d.v d.rel k))
      go l (inr k) = by_open (cases_Bool (excludes l.left d.dim d.u d.v d.rel))
        where
          by_open : (excludes l.left d.dim d.u d.v d.rel ≡ true) ⊎ (excludes l.left d.dim d.u d.v d.rel ≡ false)
              → Leads es (d ∷ ds)
          by_open (inl o) = done l o
          by_open (inr o) = more l (adds l.left d.dim d.u d.v d.rel
              (follows_more instance (excludes ds) (excludes l.left) l.holds d.dim d.u d.v d.rel k) o)

  -- steps that lead to one derived exclusion
  pub record LeadsTo (es : List Exclusion) (i u v : ℕ) (r : Rel) : Type 0 where
    pub rules : List Rule
    pub left : List Exclusion
    pub steps : StepsTo instance es rules left
    pub there : IsTrue (excludes left i u v r)

  pub leads_to_derived : (E : Exclusions) (es : List Exclusion) → IsSubset E (excludes es) → (i u v : ℕ) (r : Rel)
      → IsDerived instance E i u v r → LeadsTo es i u v r
  leads_to_derived E es there i u v r d =
      let l = leads E es there d.steps d.derivation in
      record { rules = l.rules; left = l.left; steps = l.steps; there = l.holds i u v r d.stands }

  -- ---- the two children of a split

  pub child_there : (es X : List Exclusion) (e : Exclusion) → IsSubset (excludes es) (excludes X)
      → IsSubset (excludes (e ∷ es)) (excludes (with_exclusion X e))
  child_there es X e there = own_first (with_exclusion X e) e es (with_own X e)
      (λ i u v r k. with_keeps X e i u v r (there i u v r k))

  pub child_derived : (es X : List Exclusion) (e : Exclusion) → AreDerived instance (excludes es) (excludes X)
      → AreDerived instance (excludes (e ∷ es)) (excludes (with_exclusion X e))
  child_derived es X e derived i u v r h = go (with_cases X e i u v r h)
    where
      go : (excludes X i u v r ≡ true) ⊎ (is_of e i u v r ≡ true) → IsDerived instance (excludes (e ∷ es)) i u v r
      go (inl k) = derives_from instance (excludes es) (excludes (e ∷ es))
          (λ j a b s l. given_derived instance (e ∷ es) j a b s (or_true _ _ (inr l))) i u v r (derived i u v r k)
      go (inr k) = given_derived instance (e ∷ es) i u v r (or_true _ _ (inl k))

  open_of : (E : Exclusions) (X : List Exclusion) → AreDerived instance E (excludes X) → (i u v : ℕ) (r : Rel)
      → ¬ IsDerived instance E i u v r → excludes X i u v r ≡ false
  open_of E X derived i u v r h = go (cases_Bool (excludes X i u v r))
    where
      go : (excludes X i u v r ≡ true) ⊎ (excludes X i u v r ≡ false) → excludes X i u v r ≡ false
      go (inl k) = absurd (h (derived i u v r k))
      go (inr k) = k

  -- ---- a conflict

  three_steps : (E : Exclusions) (es : List Exclusion) → IsSubset E (excludes es) → (i u v : ℕ)
      → ((r : Rel) → IsDerived instance E i u v r)
      → (rules : List Rule) × (left : List Exclusion) × StepsTo instance es rules left
      × ((r : Rel) → IsTrue (excludes left i u v r))
  three_steps E es there i u v each =
      let a = leads_to_derived E es there i u v Overlap (each Overlap) in
      let keep_a = steps_keep a.rules es a.left a.steps in
      let b = leads_to_derived E a.left (λ j x y s k. keep_a j x y s (there j x y s k)) i u v Before (each Before) in
      let keep_b = steps_keep b.rules a.left b.left b.steps in
      let c = leads_to_derived E b.left (λ j x y s k. keep_b j x y s (keep_a j x y s (there j x y s k))) i u v After
      (each After) in
      let keep_c = steps_keep c.rules b.left c.left c.steps in (
        a.rules ++ (b.rules ++ c.rules),
        c.left,
        steps_then a.rules es a.left (b.rules ++ c.rules) c.left a.steps
            (steps_then b.rules a.left b.left c.rules c.left b.steps c.steps),
        λ r. three c.left r (keep_c i u v Overlap (keep_b i u v Overlap a.there)) (keep_c i u v Before b.there) c.there,
      )
    where
      three : (X : List Exclusion) (r : Rel) → IsTrue (excludes X i u v Overlap) → IsTrue (excludes X i u v Before)
          → IsTrue (excludes X i u v After) → IsTrue (excludes X i u v r)
      three X Overlap x y z = x
      three X Before x y z = y
      three X After x y z = z

  clash : (X : List Exclusion) (i u v : ℕ) → IsEdge instance i u v → ((r : Rel) → IsTrue (excludes X i u v r))
      → (a : ℕ) × (b : ℕ) × Explains instance X (Clash (suc i) (suc a) (suc b) ∷ [])
  clash X i u v edge each = go (cases_lt u v)
    where
      di : i < dims instance
      di = edge.dim

      hu : u < box_count instance
      hu = edge.first

      hv : v < box_count instance
      hv = edge.second

      ne : u ≢ v
      ne = edge.distinct

      turned : (r : Rel) → IsTrue (excludes X i v u r)
      turned r = subst (λ (q : Rel). IsTrue (excludes X i v u q)) (mirror_twice r)
          (excludes_symmetric X i u v (mirror r) (each (mirror r)))

      go : (u < v) ⊎ (v ≤ u) → (a : ℕ) × (b : ℕ) × Explains instance X (Clash (suc i) (suc a) (suc b) ∷ [])
      go (inl l) = (
        u,
        v,
        by_clash (record {
          named = record {
            dim_from = omega arith;
            dim_to = omega (arith, di);
            u_from = omega arith;
            rising = omega (arith, l);
            v_to = omega (arith, hv);
          };
          each = each;
        }),
      )
      go (inr l) = (
        v,
        u,
        by_clash (record {
          named = record {
            dim_from = omega arith;
            dim_to = omega (arith, di);
            u_from = omega arith;
            rising = omega (arith, l, ne);
            v_to = omega (arith, hu);
          };
          each = turned;
        }),
      )

  -- ---- every refutation can be explained

  pub explainable : {es : List Exclusion} {z : List PlainToken} → Refutes instance es z → (X : List Exclusion)
      → IsSubset (excludes es) (excludes X)
      → AreDerived instance (excludes es) (excludes X) → IsExplained instance X z
  explainable (by_rules {es = es} c) X there derived =
      let s = three_steps (excludes es) X there c.dim c.u c.v c.each in
      let k = clash s.1 c.dim c.u c.v c.edge s.3 in
      record {
        lines = lines_of_all s.0 ++ Clash (suc c.dim) (suc k.0) (suc k.1) ∷ [];
        explained = steps_explain s.0 X s.1 (Clash (suc c.dim) (suc k.0) (suc k.1) ∷ []) s.2 k.2;
        same = steps_tokens s.0 (Clash (suc c.dim) (suc k.0) (suc k.1) ∷ []);
      }
  explainable (by_side {v = v} {i = i} h) X there derived =
      record { lines = Plain (TooLarge v i) ∷ []; explained = side_leaf h; same = refl }
  explainable (by_scales {fs = fs} h) X there derived =
      record { lines = Plain (Scales fs) ∷ []; explained = scales_leaf h; same = refl }
  explainable (by_apart {es = es} {i = i} {u = u} {v = v} {l = l} {r = r} h e first second) X there derived =
      let a = explainable first (with_text X i u v Overlap) (child_there es X (exclusion_in_text i u v Overlap) there)
      (child_derived es X (exclusion_in_text i u v Overlap) derived) in
      let b = explainable second (with_text (with_text X i u v After) i u v Before)
      (child_there (exclusion_in_text i u v After ∷ es) (with_text X i u v After) (exclusion_in_text i u v Before)
      (child_there es X (exclusion_in_text i u v After) there))
      (child_derived (exclusion_in_text i u v After ∷ es) (with_text X i u v After) (exclusion_in_text i u v Before)
      (child_derived es X (exclusion_in_text i u v After) derived)) in
      record {
        lines = Plain (ApartToken i u v) ∷ (a.lines ++ b.lines);
        explained = part (record {
          named = h.named;
          overlap = open_of (excludes es) X derived _ _ _ Overlap h.overlap;
          other = other h.other;
        }) refl a.explained b.explained;
        same = ap (λ k. ApartToken i u v ∷ k)
            (tokens_joined a.lines b.lines ∙ ap₂ (λ x y. x ++ y) a.same b.same ∙ sym e);
      }
    where
      other : LeavesOpen instance es (exclusion_in_text i u v Before)
          ⊎ LeavesOpen instance es (exclusion_in_text i u v After)
          → (excludes X (pred i) (pred u) (pred v) Before ≡ false)
          ⊎ (excludes X (pred i) (pred u) (pred v) After ≡ false)
      other (inl k) = inl (open_of (excludes es) X derived _ _ _ Before k)
      other (inr k) = inr (open_of (excludes es) X derived _ _ _ After k)
  explainable (by_order {es = es} {i = i} {u = u} {v = v} {l = l} {r = r} h e first second) X there derived =
      let s = leads_to_derived (excludes es) X there _ _ _ Overlap h.overlap in
      let later = λ (j x y : ℕ) (q : Rel) (k : IsTrue (excludes es j x y q)). steps_keep s.rules X s.left s.steps j x y
      q (there j x y q k) in
      let more = steps_derived (excludes es) s.rules X s.left s.steps derived in
      let a = explainable first (with_text s.left i u v After)
      (child_there es s.left (exclusion_in_text i u v After) later)
      (child_derived es s.left (exclusion_in_text i u v After) more) in
      let b = explainable second (with_text s.left i u v Before)
      (child_there es s.left (exclusion_in_text i u v Before) later)
      (child_derived es s.left (exclusion_in_text i u v Before) more) in
      record {
        lines = lines_of_all s.rules ++ Plain (OrderToken i u v) ∷ (a.lines ++ b.lines);
        explained = steps_explain s.rules X s.left (Plain (OrderToken i u v) ∷ (a.lines ++ b.lines)) s.steps
            (order (record {
              named = h.named;
              overlap = s.there;
              before = open_of (excludes es) s.left more _ _ _ Before h.before;
              after =
                  open_of (excludes es) s.left more _ _ _ After h.after;
            }) refl a.explained b.explained);
        same = steps_tokens s.rules (Plain (OrderToken i u v) ∷ (a.lines ++ b.lines))
            ∙ ap (λ k. OrderToken i u v ∷ k)
            (tokens_joined a.lines b.lines ∙ ap₂ (λ x y. x ++ y) a.same b.same ∙ sym e);
      }
