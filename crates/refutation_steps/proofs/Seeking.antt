-- What is sought at a place, one rule after another.
use Rattle.std.proofs.Common.{◌≡◌, ◌≢◌, ◌<◌, ◌≤◌, ◌+◌, ℕ, ◌⊎◌, inl, inr, refl, sym, subst, ◌∙◌, arith, true, false}
use Rattle.std.proofs.Common.{Bool, List, IsTrue}
use Rattle.std.proofs.lemmas.Bool.{true≢false, cases_lt}
use Rattle.packing_terms.specs.declared.Exclusion.{Exclusion}
use Rattle.packing_terms.specs.Packing.{PlainInstance, box_count}
use Rattle.packing_terms.specs.Exclusions.{Exclusions, excludes, IsJoined, IsSurelyBefore}
use Rattle.packing_terms.specs.Rules.{Rule, IsRuleInstance}
use Rattle.packing_terms.specs.Rules.Rule.{Pair, Apart, Triple, Chain, Compose, Cycle, Order}
use Rattle.packing_terms.proofs.Monotone.{premises_more, concludes_more}
use Rattle.edge_state.specs.Edges.{PlainEdges}
use Rattle.verdict_terms.specs.Steps.{PlainStep}
use Rattle.refutation_steps.specs.Goes.{Goes, IsThere, Gives, IsStepped}
use Rattle.refutation_steps.specs.Places.{IsPlaced, IsSought, IsPlain}
use Rattle.refutation_steps.proofs.Going.{goes_nowhere, goes_on, goes_keeps}

module _ (instance : PlainInstance) where
  -- what is there stays
  pub there_on : (a b : PlainEdges) (x y : List PlainStep) (e : Exclusion) → Goes instance a b x y → IsThere a.trail e
      → IsThere b.trail e
  there_on a b x y e g h = goes_keeps instance a b x y g e.dim e.u e.v e.rel h

  -- what a rule gives it gives later too
  pub gives_on : (a b : PlainEdges) (x y : List PlainStep) (rule : Rule) (e : Exclusion) → Goes instance a b x y
      → Gives instance (excludes a.trail) rule e
      → Gives instance (excludes b.trail) rule e
  gives_on a b x y rule e g h = record {
    is = h.is;
    premises = premises_more instance (excludes a.trail) (excludes b.trail) (goes_keeps instance a b x y g) rule
        h.premises;
    dim = h.dim;
    first = h.first;
    second = h.second;
    concluded = concludes_more instance (excludes a.trail) (excludes b.trail) (goes_keeps instance a b x y g) rule e.rel
        h.concluded;
  }

  pub sought_there : (s : PlainEdges) (x : List PlainStep) (e : Exclusion) (kind : Rule → Type 0) (b : Bool)
      → b ≡ excludes s.trail e.dim e.u e.v e.rel → b ≡ true
      → IsSought instance s s x x e kind
  sought_there s x e kind b f h = record { goes = goes_nowhere instance s x; tried = λ rule k g. sym f ∙ h }

  pub sought_other : (s : PlainEdges) (x : List PlainStep) (e : Exclusion) (kind : Rule → Type 0)
      → ((rule : Rule) → kind rule → Gives instance (excludes s.trail) rule e → ⊥) → IsSought instance s s x x e kind
  sought_other s x e kind h = record { goes = goes_nowhere instance s x; tried = λ rule k g. absurd (h rule k g) }

  pub no_cycle_first : (s : PlainEdges) (x : List PlainStep) (e : Exclusion) (a : ℕ) (b : Bool)
      → (a ≢ e.u → IsJoined (excludes s.trail) e.dim a e.u → IsTrue b) → b ≡ false
      → IsSought instance s s x x e (λ rule. (c : ℕ) × (c < box_count instance) × (rule ≡ Cycle e.dim a e.u c e.v))
  no_cycle_first s x e a b f h = sought_other s x e _ (λ rule k g.
      let gives = subst (λ (q : Rule). Gives instance (excludes s.trail) q e) k.2 g in
      true≢false (sym (f gives.is.1.1.0 gives.premises.0) ∙ h))

  pub no_cycle_last : (s : PlainEdges) (x : List PlainStep) (e : Exclusion) (a : ℕ) (b : Bool)
      → (e.v ≢ a → IsJoined (excludes s.trail) e.dim e.v a → IsTrue b) → b ≡ false
      → IsSought instance s s x x e (λ rule. (c : ℕ) × (c < box_count instance) × (rule ≡ Cycle e.dim a e.u c e.v))
  no_cycle_last s x e a b f h = sought_other s x e _ (λ rule k g.
      let gives = subst (λ (q : Rule). Gives instance (excludes s.trail) q e) k.2 g in
      true≢false (sym (f (λ same. gives.is.1.1.1.1.0 (sym same)) gives.premises.3) ∙ h))

  pub no_order_first : (s : PlainEdges) (x : List PlainStep) (e : Exclusion) (a : ℕ) (b : Bool)
      → (a ≢ e.v → IsSurelyBefore (excludes s.trail) e.dim a e.v → IsTrue b) → b ≡ false
      → IsSought instance s s x x e (λ rule. (d : ℕ) × (d < box_count instance) × (rule ≡ Order e.dim a e.v e.u d))
  no_order_first s x e a b f h = sought_other s x e _ (λ rule k g.
      let gives = subst (λ (q : Rule). Gives instance (excludes s.trail) q e) k.2 g in
      true≢false (sym (f gives.is.1.1.0 gives.premises.0) ∙ h))

  pub sought_step : (a b : PlainEdges) (x y : List PlainStep) (rule : Rule) (e : Exclusion)
      → IsStepped instance a b x y rule → IsSought instance a b x y e (λ r. r ≡ rule)
  sought_step a b x y rule e s = record {
    goes = s.goes;
    tried =
        λ r k g. s.tried e (subst (λ (q : Rule). Gives instance (excludes a.trail) q e) k g);
  }

  pub sought_none : (s : PlainEdges) (x : List PlainStep) (e : Exclusion) (rule : Rule) (b : Bool)
      → (IsRuleInstance instance rule → IsTrue b) → b ≡ false
      → IsSought instance s s x x e (λ r. r ≡ rule)
  sought_none s x e rule b f h = record {
    goes = goes_nowhere instance s x;
    tried = λ r k g. absurd (true≢false (sym (f (subst (λ (q : Rule). IsRuleInstance instance q) k g.is)) ∙ h));
  }

  pub placed_by : (a b : PlainEdges) (x y : List PlainStep) (e : Exclusion) → IsPlaced instance a e
      → Goes instance a b x y → IsPlaced instance b e
  placed_by a b x y e p g = subst (λ (s : PlainEdges). IsPlaced instance s e) (sym g.sizes)
      (record { dims = p.dims; boxes = p.boxes; edge = p.edge })

  pub placed_on : (a b : PlainEdges) (x y : List PlainStep) (e : Exclusion) (kind : Rule → Type 0)
      → IsPlaced instance a e → IsSought instance a b x y e kind
      → IsPlaced instance b e
  placed_on a b x y e kind p s = placed_by a b x y e p s.goes

  -- one kind after another
  pub sought_on : (a b c : PlainEdges) (x y z : List PlainStep) (e : Exclusion) (one two both : Rule → Type 0)
      → IsSought instance a b x y e one
      → IsSought instance b c y z e two → ((rule : Rule) → both rule → one rule ⊎ two rule)
      → IsSought instance a c x z e both
  sought_on a b c x y z e one two both s t h =
      record { goes = goes_on instance a b c x y z s.goes t.goes; tried = λ rule k g. pick rule g (h rule k) }
    where
      pick : (rule : Rule) → Gives instance (excludes a.trail) rule e → one rule ⊎ two rule → IsThere c.trail e
      pick rule g (inl k) = there_on b c y z e t.goes (s.tried rule k g)
      pick rule g (inr k) = t.tried rule k (gives_on a b x y rule e s.goes g)

  pub sought_start : (s : PlainEdges) (x : List PlainStep) (e : Exclusion) (kind : ℕ → Rule → Type 0)
      → IsSought instance s s x x e (λ rule. (k : ℕ) × (k < 0) × kind k rule)
  sought_start s x e kind = record {
    goes = goes_nowhere instance s x;
    tried =
        λ rule k g. absurd (let l = k.1 in omega (arith, l));
  }

  pub sought_next : (a b c : PlainEdges) (x y z : List PlainStep) (e : Exclusion) (kind : ℕ → Rule → Type 0) (n : ℕ)
      → IsSought instance a b x y e (λ rule. (k : ℕ) × (k < n) × kind k rule) → IsSought instance b c y z e (kind n)
      → IsSought instance a c x z e (λ rule. (k : ℕ) × (k < n + 1) × kind k rule)
  sought_next a b c x y z e kind n s t = sought_on a b c x y z e (λ rule. (k : ℕ) × (k < n) × kind k rule) (kind n)
      (λ rule. (k : ℕ) × (k < n + 1) × kind k rule) s t
      (λ rule h. go rule h.0 h.1 h.2 (cases_lt h.0 n))
    where
      go : (rule : Rule) (k : ℕ) → k < n + 1 → kind k rule → (k < n) ⊎ (n ≤ k)
          → ((k : ℕ) × (k < n) × kind k rule) ⊎ kind n rule
      go rule k l h (inl m) = inl (k, m, h)
      go rule k l h (inr m) = inr (let e : k ≡ n = omega (arith, l, m) in subst (λ (j : ℕ). kind j rule) e h)

  pub sought_all : (a b : PlainEdges) (x y : List PlainStep) (e : Exclusion) (kind : ℕ → Rule → Type 0) (n m : ℕ)
      → m ≤ n
      → IsSought instance a b x y e (λ rule. (k : ℕ) × (k < n) × kind k rule)
      → IsSought instance a b x y e (λ rule. (k : ℕ) × (k < m) × kind k rule)
  sought_all a b x y e kind n m l s = record {
    goes = s.goes;
    tried =
        λ rule k g. s.tried rule (k.0, (let j = k.1 in omega (arith, j, l)), k.2) g;
  }

  pub sought_both : (a b c : PlainEdges) (x y z : List PlainStep) (e : Exclusion) (one two : Rule → Type 0)
      → IsSought instance a b x y e one
      → IsSought instance b c y z e two → IsSought instance a c x z e (λ rule. one rule ⊎ two rule)
  sought_both a b c x y z e one two s t = sought_on a b c x y z e one two (λ rule. one rule ⊎ two rule) s t
      (λ rule k. k)

three_same : (f : ℕ → ℕ → ℕ → Rule) (a b c i j k : ℕ) → a ≡ i → b ≡ j → c ≡ k → f a b c ≡ f i j k
three_same f a b c i j k p q r = rw (p, q, r) refl

module _ (instance : PlainInstance) (e : Exclusion) where
  abbrev pub PairKind : Rule → Type 0
  PairKind rule = rule ≡ Pair e.dim e.u e.v

  abbrev pub ApartKind : Rule → Type 0
  ApartKind rule = rule ≡ Apart e.dim e.u e.v

  abbrev pub TripleKind : Rule → Type 0
  TripleKind rule = (x : ℕ) × (x < box_count instance) × (rule ≡ Triple e.dim e.u e.v x)

  abbrev pub ComposeKind : Rule → Type 0
  ComposeKind rule = (x : ℕ) × (x < box_count instance) × (rule ≡ Compose e.dim e.u x e.v)

  abbrev pub CycleKind : Rule → Type 0
  CycleKind rule = (a : ℕ) × (a < box_count instance) ×
      ((c : ℕ) × (c < box_count instance) × (rule ≡ Cycle e.dim a e.u c e.v))

  abbrev pub OrderKind : Rule → Type 0
  OrderKind rule = (a : ℕ) × (a < box_count instance) ×
      ((d : ℕ) × (d < box_count instance) × (rule ≡ Order e.dim a e.v e.u d))

  abbrev pub AnyKind : Rule → Type 0
  AnyKind rule = ((((PairKind rule ⊎ ApartKind rule) ⊎ TripleKind rule) ⊎ ComposeKind rule) ⊎ CycleKind rule) ⊎
      OrderKind rule

  pub kind_of : (X : Exclusions) (rule : Rule) → IsPlain rule → Gives instance X rule e → AnyKind rule
  kind_of X (Pair i u v) p g = inl (inl (inl
      (inl (inl (three_same (λ i u v. Pair i u v) i u v e.dim e.u e.v g.dim g.first g.second)))))
  kind_of X (Apart i u v) p g = inl (inl (inl
      (inl (inr (three_same (λ i u v. Apart i u v) i u v e.dim e.u e.v g.dim g.first g.second)))))
  kind_of X (Triple i u v x) p g = inl (inl
      (inl (inr (x, g.is.1.2.2.0, three_same (λ i u v. Triple i u v x) i u v e.dim e.u e.v g.dim g.first g.second))))
  kind_of X (Compose i u v x) p g = inl (inl
      (inr (v, g.is.1.2.0, three_same (λ i u x. Compose i u v x) i u x e.dim e.u e.v g.dim g.first g.second)))
  kind_of X (Cycle i a b c d) p g = inl (inr (
    a,
    g.is.1.0,
    (
      c,
      g.is.1.2.2.0,
      three_same (λ i b d. Cycle i a b c d) i b d e.dim e.u e.v g.dim g.first
          g.second,
    ),
  ))
  kind_of X (Order i a b c d) p g = inr (
    a,
    g.is.1.0,
    (d, g.is.1.2.2.2.0, three_same (λ i c b. Order i a b c d) i c b e.dim e.u e.v g.dim g.first g.second),
  )
  kind_of X (Chain i before u v after) p g = absurd p

  pub sought_plain : (s0 s1 s2 s3 s4 s5 s6 : PlainEdges) (x0 x1 x2 x3 x4 x5 x6 : List PlainStep)
      → IsSought instance s0 s1 x0 x1 e PairKind → IsSought instance s1 s2 x1 x2 e ApartKind
      → IsSought instance s2 s3 x2 x3 e TripleKind
      → IsSought instance s3 s4 x3 x4 e ComposeKind → IsSought instance s4 s5 x4 x5 e CycleKind
      → IsSought instance s5 s6 x5 x6 e OrderKind
      → IsSought instance s0 s6 x0 x6 e (λ rule. IsPlain rule)
  sought_plain s0 s1 s2 s3 s4 s5 s6 x0 x1 x2 x3 x4 x5 x6 a b c d f g =
      let ab = sought_both instance s0 s1 s2 x0 x1 x2 e PairKind ApartKind a b in
      let ac = sought_both instance s0 s2 s3 x0 x2 x3 e (λ rule. PairKind rule ⊎ ApartKind rule) TripleKind ab c in
      let ad = sought_both instance s0 s3 s4 x0 x3 x4 e (λ rule. (PairKind rule ⊎ ApartKind rule) ⊎ TripleKind rule)
      ComposeKind ac d in
      let af = sought_both instance s0 s4 s5 x0 x4 x5 e
      (λ rule. ((PairKind rule ⊎ ApartKind rule) ⊎ TripleKind rule) ⊎ ComposeKind rule) CycleKind ad f in
      let ag = sought_both instance s0 s5 s6 x0 x5 x6 e
      (λ rule. (((PairKind rule ⊎ ApartKind rule) ⊎ TripleKind rule) ⊎ ComposeKind rule) ⊎ CycleKind rule) OrderKind
      af g in
      record { goes = ag.goes; tried = λ rule p h. ag.tried rule (kind_of (excludes s0.trail) rule p h) h }
