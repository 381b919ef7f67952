-- CHAIN by heaviest chains, as a step.
use Rattle.std.proofs.Common.{◌≡◌, ◌≢◌, ◌+◌, ◌<◌, ◌≤◌, ℕ, suc, refl, sym, ap, ap₂, subst, ◌∙◌, arith, true, false, Bool}
use Rattle.std.proofs.Common.{List, [], ◌∷◌, ◌++◌, append-nil, length, slice_index, IsTrue}
use Rattle.std.proofs.lemmas.Bool.{true≢false}
use Rattle.packing_terms.specs.declared.Rel.TheVariants.{Before}
use Rattle.packing_terms.specs.declared.Exclusion.{Exclusion}
use Rattle.packing_terms.specs.Packing.{PlainInstance, dims, box_count, container_side}
use Rattle.packing_terms.specs.Exclusions.{Exclusions, excludes, exclusion_at}
use Rattle.packing_terms.specs.Rules.{Rule, Pair, Apart, Triple, Chain, Compose, Cycle, Order}
use Rattle.packing_terms.specs.declared.Direction.TheVariants.{Forwards, Backwards}
use Rattle.packing_terms.specs.Steps.{with_exclusion}
use Rattle.packing_terms.specs.Places.{HasNoEmptyMask}
use Rattle.packing_terms.proofs.Applied.{with_own}
use Rattle.packing_terms.proofs.Turned.{head_of, tail_of}
use Rattle.edge_state.specs.Edges.{PlainEdges}
use Rattle.edge_state.specs.States.{HasEmptyMask}
use Rattle.verdict_terms.specs.Steps.{PlainStep, lines_of, box_lines}
use Rattle.verdict_terms.specs.Steps.PlainStep.{Chain as ChainLine}
use Rattle.verdict_terms.specs.Explaining.{IsStep}
use Rattle.refutation_steps.specs.Goes.{Goes, Gives}
use Rattle.refutation_steps.specs.Places.{IsPlaced, IsSought}
use Rattle.refutation_steps.specs.Replays.{IsChainRule}
use Rattle.refutation_steps.specs.Empties.{IsLeft, IsEmptyPlace}
use Rattle.refutation_steps.specs.Chains.{AreWeighed, IsChainTo, IsChainFrom, IsChainFound, IsChainStepped, IsChainTry}
use Rattle.refutation_steps.specs.declared.empties.Place.{Place}
use Rattle.refutation_steps.proofs.Going.{goes_nowhere, goes_on}
use Rattle.refutation_steps.proofs.Chaining.{last_there}
use Rattle.refutation_steps.proofs.Emptied.{none_empty}
use Rattle.refutation_steps.proofs.Seeking.{gives_on, placed_by}

abbrev chain_lines : ℕ → List ℕ → List ℕ → List PlainStep
chain_lines i to from = ChainLine (suc i) (length to) (length from) ∷ (box_lines to ++ box_lines from)

module _ (instance : PlainInstance) where
  pub chain_found : (s : PlainEdges) (i u v h t : ℕ) (to from : List ℕ) → i < dims instance → u ≢ v
      → IsChainTo instance s i u h to → IsChainFrom instance s i v t from
      → container_side instance i < h + t → IsChainFound instance s.trail i u v to from
  chain_found s i u v h t to from hi ne a b wide = record {
    before = a.before;
    after = b.after;
    to_items = a.items;
    from_items = b.items;
    is = (hi, a.boxes, b.boxes, ne);
    premises = (a.chain, b.chain, (let x = a.heavy in let y = b.heavy in omega (arith, x, y, wide)));
  }

  pub chain_stepped : (old new : PlainEdges) (i u v : ℕ) (x y : List PlainStep) (to from : List ℕ)
      → IsChainFound instance old.trail i u v to from
      → excludes old.trail i u v Before ≡ false
      → new ≡ record old { trail = with_exclusion old.trail (exclusion_at i u v Before) }
      → y ≡ x ++ chain_lines i to from → IsChainStepped instance old new x y i u v
  chain_stepped old new i u v x y to from f left e lines = record {
    goes = record {
      rules = rule ∷ [];
      steps = (step, trails);
      sizes = e ∙ ap (λ (l : List Exclusion). record old { trail = l }) trails;
      lines = lines ∙ (ap₂ (λ a b. x ++ chain_lines i a b) f.to_items f.from_items ∙ ap (λ l. x ++ l)
          (sym (append-nil (lines_of rule))));
    };
    there = subst (λ (l : List Exclusion). IsTrue (excludes l i u v Before)) trails
        (with_own old.trail (exclusion_at i u v Before));
  }
    where
      rule : Rule
      rule = Chain i f.before u v f.after

      step : IsStep instance old.trail rule
      step = record { is = f.is; premises = f.premises; rel = Before; concluded = refl; fresh = left }

      trails : with_exclusion old.trail (exclusion_at i u v Before) ≡ new.trail
      trails = ap (λ (s : PlainEdges). s.trail) (sym e)

  -- chains weigh too little for CHAIN to give the exclusion
  too_light : (s : PlainEdges) (e : Exclusion) (head tail : List ℕ) → AreWeighed instance s e.dim Backwards head
      → AreWeighed instance s e.dim Forwards tail
      → slice_index head e.u + slice_index tail e.v ≤ container_side instance e.dim → (rule : Rule) → IsChainRule rule
      → Gives instance (excludes s.trail) rule e → ⊥
  too_light s e head tail heads tails low (Pair i u v) k g = k
  too_light s e head tail heads tails low (Apart i u v) k g = k
  too_light s e head tail heads tails low (Triple i u v x) k g = k
  too_light s e head tail heads tails low (Compose i u v x) k g = k
  too_light s e head tail heads tails low (Cycle i a b c d) k g = k
  too_light s e head tail heads tails low (Order i a b c d) k g = k
  too_light s e head tail heads tails low (Chain i before u v after) k g =
      go e.dim e.u e.v g.dim g.first g.second heads tails low
    where
      go : (j a b : ℕ) → i ≡ j → u ≡ a → v ≡ b → AreWeighed instance s j Backwards head
          → AreWeighed instance s j Forwards tail
          → slice_index head a + slice_index tail b ≤ container_side instance j → ⊥
      go j a b p q r hs ts l =
          let hs' = subst (λ (m : ℕ). AreWeighed instance s m Backwards head) (sym p) hs in
          let ts' = subst (λ (m : ℕ). AreWeighed instance s m Forwards tail) (sym p) ts in
          let l' : slice_index head u + slice_index tail v ≤ container_side instance i = rw (p, q, r) l in
          let hu = last_there instance before u g.is.1 in
          let one = (head_of (excludes s.trail) i instance u (slice_index head u) (hs'.heaviest u hu)).most before
          g.is.1 g.premises.0 in
          let two = (tail_of (excludes s.trail) i instance v (slice_index tail v) (ts'.heaviest v g.is.2.0)).most after
          g.is.2 g.premises.1 in
          let wide = g.premises.2 in
          omega (arith, l', one, two, wide)

  pub light_sought : (s : PlainEdges) (x : List PlainStep) (e : Exclusion) (head tail : List ℕ)
      → AreWeighed instance s e.dim Backwards head → AreWeighed instance s e.dim Forwards tail
      → slice_index head e.u + slice_index tail e.v ≤ container_side instance e.dim
      → IsSought instance s s x x e (λ rule. IsChainRule rule)
  light_sought s x e head tail heads tails low = record {
    goes = goes_nowhere instance s x;
    tried = λ rule k g. absurd (too_light s e head tail heads tails low rule k g);
  }

  pub heavy_sought : (a b : PlainEdges) (x y : List PlainStep) (e : Exclusion) → e.rel ≡ Before
      → IsChainStepped instance a b x y e.dim e.u e.v
      → IsSought instance a b x y e (λ rule. IsChainRule rule)
  heavy_sought a b x y e f s = record { goes = s.goes; tried = λ rule k g. rw f s.there }

module _ (instance : PlainInstance) where
  -- CHAIN gives nothing but before
  not_before : (X : Exclusions) (e : Exclusion) (rule : Rule) → IsChainRule rule → Gives instance X rule e
      → e.rel ≡ Before
  not_before X e (Pair i u v) k g = absurd k
  not_before X e (Apart i u v) k g = absurd k
  not_before X e (Triple i u v x) k g = absurd k
  not_before X e (Compose i u v x) k g = absurd k
  not_before X e (Cycle i a b c d) k g = absurd k
  not_before X e (Order i a b c d) k g = absurd k
  not_before X e (Chain i before u v after) k g = g.concluded

  pub try_other : (s : PlainEdges) (x : List PlainStep) (e : Exclusion) (b : Bool) → (e.rel ≡ Before → IsTrue b)
      → b ≡ false → IsChainTry instance s s x x e false
  try_other s x e b f h = record {
    goes = goes_nowhere instance s x;
    empty = λ k. absurd (true≢false (sym k));
    tried = λ _ rule k g. absurd (true≢false (sym (f (not_before (excludes s.trail) e rule k g)) ∙ h));
  }

  pub try_there : (a b : PlainEdges) (x y : List PlainStep) (e : Exclusion) (there : Bool) → Goes instance a b x y
      → there ≡ excludes b.trail e.dim e.u e.v e.rel → there ≡ true
      → IsChainTry instance a b x y e false
  try_there a b x y e there g f h = record {
    goes = g;
    empty = λ k. absurd (true≢false (sym k));
    tried =
        λ _ rule k given. sym f ∙ h;
  }

  pub empty_mask : (s : PlainEdges) (p : Place) → s.dims ≡ dims instance → s.boxes ≡ box_count instance
      → IsEmptyPlace s p → HasEmptyMask instance (excludes s.trail)
  empty_mask s p d n h = record {
    dim = p.dim;
    u = p.u;
    v = p.v;
    edge = record {
      dim = subst (λ (k : ℕ). p.dim < k) d h.dim;
      first = (let l = h.rising in let m = h.second in omega (arith, l, m, n));
      second = subst (λ (k : ℕ). p.v < k) n h.second;
      distinct = (let l = h.rising in omega (arith, l));
    };
    each = h.each;
  }

  pub try_empty : (a b : PlainEdges) (x y : List PlainStep) (e : Exclusion) (p : Place) → IsPlaced instance a e
      → Goes instance a b x y → IsEmptyPlace b p
      → IsChainTry instance a b x y e true
  try_empty a b x y e p placed g h =
      let later = placed_by instance a b x y e placed g in
      record { goes = g; empty = λ _. empty_mask b p later.dims later.boxes h; tried = λ k. absurd (true≢false k) }

  pub try_taken : (a b c : PlainEdges) (x y z : List PlainStep) (e : Exclusion) → Goes instance a b x y
      → IsSought instance b c y z e (λ rule. IsChainRule rule)
      → IsChainTry instance a c x z e false
  try_taken a b c x y z e g s = record {
    goes = goes_on instance a b c x y z g s.goes;
    empty = λ k. absurd (true≢false (sym k));
    tried = λ _ rule k given. s.tried rule k (gives_on instance a b x y rule e g given);
  }

  pub no_empty : (s : PlainEdges) → s.dims ≡ dims instance → s.boxes ≡ box_count instance
      → ((i : ℕ) → i < s.dims → (v : ℕ) → v < s.boxes → (u : ℕ) → u < v → IsLeft (excludes s.trail) i u v)
      → HasNoEmptyMask instance (excludes s.trail)
  no_empty s d n h = none_empty instance s.trail
      (λ i hi v hv. h i (subst (λ (k : ℕ). i < k) (sym d) hi) v (subst (λ (k : ℕ). v < k) (sym n) hv))
