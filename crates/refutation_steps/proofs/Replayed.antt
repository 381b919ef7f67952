-- What a derivation has, one exclusion after another.
use Rattle.std.proofs.Common.{◌≡◌, ◌≤◌, ◌-◌, ℕ, zero, suc, ◌⊎◌, inl, inr, refl, sym, subst, ◌∙◌, arith, true, false}
use Rattle.std.proofs.Common.{Bool, List, [], ◌∷◌, length, drop, IsTrue}
use Rattle.std.proofs.lemmas.Bool.{true≢false}
use Rattle.packing_terms.specs.declared.Rel.{Rel}
use Rattle.packing_terms.specs.declared.Exclusion.{Exclusion}
use Rattle.packing_terms.specs.Packing.{PlainInstance, dims, box_count}
use Rattle.packing_terms.specs.Relations.{mirror}
use Rattle.packing_terms.specs.Exclusions.{Exclusions, excludes, exclusion_at, IsEdgeAmong}
use Rattle.packing_terms.specs.Rules.{Rule, Pair, Apart, Triple, Chain, Compose, Cycle, Order, Concludes, Follows}
use Rattle.packing_terms.specs.Rules.{by_rule, mirrored}
use Rattle.packing_terms.specs.Closure.{IsSubset, IsDerivation}
use Rattle.packing_terms.proofs.Sets.{mirror_twice, excludes_symmetric, own_first}
use Rattle.packing_terms.proofs.Monotone.{follows_more}
use Rattle.edge_state.specs.Edges.{PlainEdges, oldest}
use Rattle.edge_state.specs.Answers.{IsChangeAfter}
use Rattle.verdict_terms.specs.Steps.{PlainStep}
use Rattle.refutation_steps.specs.Goes.{Goes, IsThere, Gives}
use Rattle.refutation_steps.specs.Places.{IsPlaced, IsSought, IsPlain}
use Rattle.refutation_steps.specs.Replays.{turned_of, IsPlainSought, IsChainRule, AreChainsTried, IsMade, IsReplayed}
use Rattle.refutation_steps.specs.Chains.{IsChainTry}
use Rattle.edge_state.proofs.Oldest.{oldest_all}
use Rattle.refutation_steps.proofs.Going.{goes_nowhere, goes_on, goes_keeps}
use Rattle.refutation_steps.proofs.Seeking.{there_on, gives_on, placed_by}

pub plain_or_chain : (rule : Rule) → IsPlain rule ⊎ IsChainRule rule
plain_or_chain (Pair i u v) = inl tt
plain_or_chain (Apart i u v) = inl tt
plain_or_chain (Triple i u v x) = inl tt
plain_or_chain (Chain i before u v after) = inr tt
plain_or_chain (Compose i u v x) = inl tt
plain_or_chain (Cycle i a b c d) = inl tt
plain_or_chain (Order i a b c d) = inl tt

-- an exclusion is there with its mirror
pub turned_there : (es : List Exclusion) (e : Exclusion) → IsThere es (turned_of e) → IsThere es e
turned_there es e h = subst (λ (q : Rel). IsTrue (excludes es e.dim e.u e.v q)) (mirror_twice e.rel)
    (excludes_symmetric es e.dim e.v e.u (mirror e.rel) h)

pub turned_edge : (d n : ℕ) (e : Exclusion) → IsEdgeAmong d n e.dim e.u e.v → IsEdgeAmong d n e.dim e.v e.u
turned_edge d n e h = record { dim = h.dim; first = h.second; second = h.first; distinct = λ k. h.distinct (sym k) }

module _ (instance : PlainInstance) where
  -- a rule that gives it, or its mirror
  pub record GivenBy (X : Exclusions) (e : Exclusion) : Type 0 where
    pub rule : Rule
    pub gives : Gives instance X rule e ⊎ Gives instance X rule (turned_of e)

  pub given_by : (X : Exclusions) (i u v : ℕ) (r : Rel) → Follows instance X i u v r → GivenBy X (exclusion_at i u v r)
  given_by X _ _ _ r (by_rule rule _ is p c) =
      record {
        rule = rule;
        gives = inl (record {
          is = is;
          premises = p;
          dim = refl;
          first = refl;
          second =
              refl;
          concluded = c;
        });
      }
  given_by X _ _ _ _ (mirrored rule s is p c) =
      record {
        rule = rule;
        gives = inr (record {
          is = is;
          premises = p;
          dim = refl;
          first = refl;
          second =
              refl;
          concluded = subst (λ (q : Rel). Concludes X rule q) (sym (mirror_twice s)) c;
        });
      }

  pub derivation_drop : (E : Exclusions) (n : ℕ) (es : List Exclusion) → IsDerivation instance E es
      → IsDerivation instance E (drop n es)
  derivation_drop E n [] h = subst (λ (l : List Exclusion). IsDerivation instance E l) (sym (drop_nil n)) tt
    where
      drop_nil : (m : ℕ) → drop {A = Exclusion} m [] ≡ []
      drop_nil zero = refl
      drop_nil (suc m) = refl
  derivation_drop E zero (e ∷ es) h = h
  derivation_drop E (suc n) (e ∷ es) h = derivation_drop E n es h.1

  -- the next one is given, or follows from those below it
  pub next_follows : (E : Exclusions) (closed : List Exclusion) (at : ℕ) (e : Exclusion) (next : ℕ)
      → IsDerivation instance E closed → IsChangeAfter closed at e next
      → IsTrue (E e.dim e.u e.v e.rel) ⊎ Follows instance (excludes (oldest at closed)) e.dim e.u e.v e.rel
  next_follows E closed at e next h change =
      (subst (λ (l : List Exclusion). IsDerivation instance E l) change.newest
      (derivation_drop E (length closed - next) closed h)).0

  pub plain_sought : (a b c : PlainEdges) (x y z : List PlainStep) (e : Exclusion)
      → IsSought instance a b x y e (λ rule. IsPlain rule)
      → IsSought instance b c y z (turned_of e) (λ rule. IsPlain rule) → IsPlainSought instance a c x z e
  plain_sought a b c x y z e s t = record {
    goes = goes_on instance a b c x y z s.goes t.goes;
    here = λ rule p g. there_on instance b c y z e t.goes (s.tried rule p g);
    mirrored = λ rule p g. t.tried rule p (gives_on instance a b x y rule (turned_of e) s.goes g);
  }

  pub chains_tried : (a b c : PlainEdges) (x y z : List PlainStep) (e : Exclusion) (stopped : Bool)
      → IsChainTry instance a b x y e false
      → IsChainTry instance b c y z (turned_of e) stopped → AreChainsTried instance a c x z e stopped
  chains_tried a b c x y z e stopped s t = record {
    goes = goes_on instance a b c x y z s.goes t.goes;
    empty = t.empty;
    here = λ k rule p g. there_on instance b c y z e t.goes (s.tried refl rule p g);
    mirrored = λ k rule p g. t.tried k rule p (gives_on instance a b x y rule (turned_of e) s.goes g);
  }

  pub chains_stopped : (a b : PlainEdges) (x y : List PlainStep) (e : Exclusion) (stopped : Bool) → stopped ≡ true
      → IsChainTry instance a b x y e stopped
      → AreChainsTried instance a b x y e true
  chains_stopped a b x y e stopped h s = record {
    goes = s.goes;
    empty = λ _. s.empty h;
    here = λ k. absurd (true≢false k);
    mirrored = λ k. absurd (true≢false k);
  }

  pub made_there : (a b : PlainEdges) (x y : List PlainStep) (e : Exclusion) (there : Bool) → Goes instance a b x y
      → there ≡ excludes b.trail e.dim e.u e.v e.rel → there ≡ true
      → IsMade instance a b x y e false
  made_there a b x y e there g f h = record {
    goes = g;
    empty = λ k. absurd (true≢false (sym k));
    made =
        λ _ _. sym f ∙ h;
  }

  -- what is made after steps is made by them too
  pub made_on : (a b c : PlainEdges) (x y z : List PlainStep) (e : Exclusion) (stopped : Bool) → Goes instance a b x y
      → IsMade instance b c y z e stopped
      → IsMade instance a c x z e stopped
  made_on a b c x y z e stopped g t = record {
    goes = goes_on instance a b c x y z g t.goes;
    empty = t.empty;
    made =
        λ k h. t.made k (given h);
  }
    where
      given : IsTrue (excludes a.trail e.dim e.u e.v e.rel) ⊎ Follows instance (excludes a.trail) e.dim e.u e.v e.rel
          → IsTrue (excludes b.trail e.dim e.u e.v e.rel) ⊎ Follows instance (excludes b.trail) e.dim e.u e.v e.rel
      given (inl k) = inl (there_on instance a b x y e g k)
      given (inr f) = inr (follows_more instance (excludes a.trail) (excludes b.trail) (goes_keeps instance a b x y g)
          e.dim e.u e.v e.rel f)

  -- what follows is there after all rules were sought
  pub made_later : (a b c : PlainEdges) (x y z : List PlainStep) (e : Exclusion)
      → AreChainsTried instance a b x y e false → IsPlainSought instance b c y z e
      → IsMade instance a c x z e false
  made_later a b c x y z e t s =
      record {
        goes = goes_on instance a b c x y z t.goes s.goes;
        empty = λ k. absurd (true≢false (sym k));
        made =
            λ _. made;
      }
    where
      go : (rule : Rule) → IsPlain rule ⊎ IsChainRule rule
          → Gives instance (excludes a.trail) rule e ⊎ Gives instance (excludes a.trail) rule (turned_of e)
          → IsThere c.trail e
      go rule (inl p) (inl g) = s.here rule p (gives_on instance a b x y rule e t.goes g)
      go rule (inl p) (inr g) = turned_there c.trail e
          (s.mirrored rule p (gives_on instance a b x y rule (turned_of e) t.goes g))
      go rule (inr p) (inl g) = there_on instance b c y z e s.goes (t.here refl rule p g)
      go rule (inr p) (inr g) = there_on instance b c y z e s.goes (turned_there b.trail e (t.mirrored refl rule p g))

      made : IsTrue (excludes a.trail e.dim e.u e.v e.rel) ⊎ Follows instance (excludes a.trail) e.dim e.u e.v e.rel
          → IsThere c.trail e
      made (inl there) = there_on instance b c y z e s.goes (there_on instance a b x y e t.goes there)
      made (inr f) = let g = given_by (excludes a.trail) e.dim e.u e.v e.rel f in go g.rule (plain_or_chain g.rule)
          g.gives

  -- what was explained so far
  pub record IsSoFar (old now : PlainEdges) (before after : List PlainStep) (closed : List Exclusion)
      (from at : ℕ) : Type 0 where
    pub goes : Goes instance old now before after
    pub later : from ≤ at
    pub within : at ≤ length closed
    pub holds : IsSubset (excludes (oldest at closed)) (excludes now.trail)

  pub so_far_start : (s : PlainEdges) (x : List PlainStep) (closed : List Exclusion) (from : ℕ) → from ≤ length closed
      → IsSubset (excludes (oldest from closed)) (excludes s.trail) → IsSoFar s s x x closed from from
  so_far_start s x closed from l h = record {
    goes = goes_nowhere instance s x;
    later = omega arith;
    within = l;
    holds =
        h;
  }

  pub so_far_next : (a b c : PlainEdges) (x y z : List PlainStep) (closed : List Exclusion) (from at next : ℕ)
      (e : Exclusion) (stopped : Bool)
      → IsDerivation instance (excludes a.trail) closed → IsSoFar a b x y closed from at
      → IsChangeAfter closed at e next → IsMade instance b c y z e stopped → stopped ≡ false
      → IsSoFar a c x z closed from next
  so_far_next a b c x y z closed from at next e stopped d s change t h = record {
    goes = goes_on instance a b c x y z s.goes t.goes;
    later = let l = s.later in let n = change.counted in omega (arith, l, n);
    within = let l = change.before_last in let n = change.counted in omega (arith, l, n);
    holds = subst (λ (l : List Exclusion). IsSubset (excludes l) (excludes c.trail)) (sym change.newest)
        (own_first c.trail e (oldest at closed) (t.made h
        (given (next_follows (excludes a.trail) closed at e next d change)))
        (λ i u v r k. goes_keeps instance b c y z t.goes i u v r (s.holds i u v r k)));
  }
    where
      given : IsTrue (excludes a.trail e.dim e.u e.v e.rel) ⊎ Follows instance (excludes (oldest at closed)) e.dim e.u
          e.v e.rel
          → IsTrue (excludes b.trail e.dim e.u e.v e.rel) ⊎ Follows instance (excludes b.trail) e.dim e.u e.v e.rel
      given (inl k) = inl (goes_keeps instance a b x y s.goes e.dim e.u e.v e.rel k)
      given (inr k) = inr (follows_more instance (excludes (oldest at closed)) (excludes b.trail) s.holds e.dim e.u e.v
          e.rel k)

  pub replayed_end : (a b : PlainEdges) (x y : List PlainStep) (closed : List Exclusion) (from at : ℕ)
      → IsSoFar a b x y closed from at → at ≡ length closed
      → IsReplayed instance a b x y closed false
  replayed_end a b x y closed from at s h = record {
    goes = s.goes;
    empty = λ k. absurd (true≢false (sym k));
    holds = λ _. subst (λ (l : List Exclusion). IsSubset (excludes l) (excludes b.trail)) (oldest_all closed at h)
        s.holds;
  }

  pub replayed_stop : (a b c : PlainEdges) (x y z : List PlainStep) (closed : List Exclusion) (from at : ℕ)
      (e : Exclusion) (stopped : Bool) → IsSoFar a b x y closed from at
      → IsMade instance b c y z e stopped → stopped ≡ true → IsReplayed instance a c x z closed true
  replayed_stop a b c x y z closed from at e stopped s t h = record {
    goes = goes_on instance a b c x y z s.goes t.goes;
    empty = λ _. t.empty h;
    holds = λ k. absurd (true≢false k);
  }

  pub place_of : (a b : PlainEdges) (x y : List PlainStep) (e : Exclusion) → a.dims ≡ dims instance
      → a.boxes ≡ box_count instance → Goes instance a b x y
      → (closed : PlainEdges) → closed.dims ≡ dims instance → closed.boxes ≡ box_count instance
      → IsEdgeAmong closed.dims closed.boxes e.dim e.u e.v → IsPlaced instance b e
  place_of a b x y e d n g closed f m edge = placed_by instance a b x y e
      (record {
        dims = d;
        boxes = n;
        edge = subst (λ (k : ℕ). IsEdgeAmong k a.boxes e.dim e.u e.v) (f ∙ sym d)
            (subst (λ (k : ℕ). IsEdgeAmong closed.dims k e.dim e.u e.v) (m ∙ sym n) edge);
      }) g
