-- The tests of a step say what the rules say.
use Rattle.std.proofs.Common.{◌≡◌, ◌≢◌, ℕ, suc, pred, ◌+◌, ◌<◌, ◌⊎◌, inl, inr, refl, sym, ap, ◌∙◌, arith}
use Rattle.std.proofs.Common.{true, false, not, ◌||◌, ◌==◌, List, [], ◌∷◌, ◌++◌, map}
use Rattle.std.specs.List.{list_any, AllByRecursion}
use Rattle.std.proofs.lemmas.Bool.{true≢false, and_parts, and_from, or_cases, or_left, or_right, eqb-true}
use Rattle.std.proofs.lemmas.Bool.{eq-eqb, ltb-true, lt-ltb, not-true, cases_eq, false_from_ne_true, not_from_false}
use Rattle.std.proofs.lemmas.Bool.{or_from, or_parts}
use Rattle.packing_terms.specs.Packing.{PlainInstance, dims, box_count}
use Rattle.packing_terms.specs.Exclusions.{Exclusions, IsJoined}
use Rattle.packing_terms.specs.Rules.{Rule, Pair, Apart, Triple, Chain, Compose, Cycle, Order, Premises, IsChain}
use Rattle.packing_terms.specs.Rules.{AreBoxes}
use Rattle.packing_terms.specs.Sums.{below}
use Rattle.packing_terms.proofs.Members.{all_at, all_from, in_range, range_in}
use Rattle.packing_terms.specs.Rounds.{is_joined, is_chain}
use Rattle.verdict_terms.specs.Judging.{names_dim, names_box}
use Rattle.verdict_terms.proofs.Judged.{within, is_within}
use Rattle.verdict_terms.specs.ExplainedJudging.{applies, names_boxes}

module _ (X : Exclusions) where
  pub chain_test : (i : ℕ) (c : List ℕ) → IsChain X i c → is_chain X i c ≡ true
  chain_test i [] h = refl
  chain_test i (u ∷ []) h = refl
  chain_test i (u ∷ v ∷ vs) h = and_from _ _ (and_from _ _ h.0.0 h.0.1) (chain_test i (v ∷ vs) h.1)

  pub chain_from : (i : ℕ) (c : List ℕ) → is_chain X i c ≡ true → IsChain X i c
  chain_from i [] h = tt
  chain_from i (u ∷ []) h = tt
  chain_from i (u ∷ v ∷ vs) h = let k = and_parts _ _ h in (and_parts _ _ k.0, chain_from i (v ∷ vs) k.1)

module _ (instance : PlainInstance) (X : Exclusions) where
  pub premises_from : (rule : Rule) → applies instance X rule ≡ true → Premises instance X rule
  premises_from (Pair i u v) h = ltb-true _ _ h
  premises_from (Apart i u v) h =
      λ j l ne. go j ne (or_cases _ _
      (all_at (λ j. (j == i) || is_joined X j u v) j (below (dims instance)) h
      (in_range 0 (dims instance) j (omega arith) (omega arith))))
    where
      go : (j : ℕ) → j ≢ i → ((j == i) ≡ true) ⊎ (is_joined X j u v ≡ true) → IsJoined X j u v
      go j ne (inl e) = absurd (ne (eqb-true _ _ e))
      go j ne (inr e) = and_parts _ _ e
  premises_from (Triple i u v x) h = let a = and_parts _ _ h in let b = and_parts _ _ a.0 in
      (b.0, b.1, ltb-true _ _ a.1)
  premises_from (Chain i before u v after) h =
      let a = and_parts _ _ h in let b = and_parts _ _ a.0 in
      (chain_from X i (before ++ u ∷ []) b.0, chain_from X i (v ∷ after) b.1, ltb-true _ _ a.1)
  premises_from (Compose i u v x) h = tt
  premises_from (Cycle i a b c d) h =
      let p = and_parts _ _ h in let q = and_parts _ _ p.0 in let r = and_parts _ _ q.0 in let s = and_parts _ _ r.0 in
      (and_parts _ _ s.0, and_parts _ _ s.1, and_parts _ _ r.1, and_parts _ _ q.1, p.1)
  premises_from (Order i a b c d) h =
      let p = and_parts _ _ h in let q = and_parts _ _ p.0 in (and_parts _ _ q.0, and_parts _ _ q.1, p.1)

  pub premises_test : (rule : Rule) → Premises instance X rule → applies instance X rule ≡ true
  premises_test (Pair i u v) h = lt-ltb _ _ h
  premises_test (Apart i u v) h = all_from (λ j. (j == i) || is_joined X j u v) (below (dims instance)) (λ j k.
      let l = range_in 0 (dims instance) j k in each j (cases_eq j i) (omega (arith, l)))
    where
      each : (j : ℕ) → (j ≡ i) ⊎ (j ≡ i → ⊥) → j < dims instance → ((j == i) || is_joined X j u v) ≡ true
      each j (inl f) l = or_left _ _ (eq-eqb j i f)
      each j (inr ne) l = let k = h j l ne in or_right _ _ (and_from _ _ k.0 k.1)
  premises_test (Triple i u v x) h = and_from _ _ (and_from _ _ h.0 h.1) (lt-ltb _ _ h.2)
  premises_test (Chain i before u v after) h =
      and_from _ _ (and_from _ _ (chain_test X i (before ++ u ∷ []) h.0) (chain_test X i (v ∷ after) h.1))
      (lt-ltb _ _ h.2)
  premises_test (Compose i u v x) h = refl
  premises_test (Cycle i a b c d) h =
      and_from _ _ (and_from _ _ (and_from _ _ (and_from _ _ (and_from _ _ h.0.0 h.0.1) (and_from _ _ h.1.0 h.1.1))
      (and_from _ _ h.2.0 h.2.1)) (and_from _ _ h.3.0 h.3.1)) h.4
  premises_test (Order i a b c d) h =
      and_from _ _ (and_from _ _ (and_from _ _ h.0.0 h.0.1) (and_from _ _ h.1.0 h.1.1)) h.2

-- ---- boxes by the numbers of the text

pub box_named : (instance : PlainInstance) (v : ℕ) → names_box instance v ≡ true
    → (suc (pred v) ≡ v) × (pred v < box_count instance)
box_named instance v h = let w = within 1 (box_count instance) v h in (omega (arith, w), omega (arith, w))

pub names_it : (instance : PlainInstance) (v : ℕ) → v < box_count instance → names_box instance (suc v) ≡ true
names_it instance v h = is_within 1 (box_count instance) (suc v) (omega arith) (omega (arith, h))

pub dim_named : (instance : PlainInstance) (i : ℕ) → names_dim instance i ≡ true
    → (suc (pred i) ≡ i) × (pred i < dims instance)
dim_named instance i h = let w = within 1 (dims instance) i h in (omega (arith, w), omega (arith, w))

pub names_that : (instance : PlainInstance) (i : ℕ) → i < dims instance → names_dim instance (suc i) ≡ true
names_that instance i h = is_within 1 (dims instance) (suc i) (omega arith) (omega (arith, h))

-- the numbers are those of boxes that count from 0
abbrev pub AreTextOf : List ℕ → Type 0
AreTextOf vs = map suc (map pred vs) ≡ vs

module _ (instance : PlainInstance) where
  pub boxes_from : (vs : List ℕ) → names_boxes instance vs ≡ true → AreBoxes instance (map pred vs)
  boxes_from [] h = tt
  boxes_from (v ∷ vs) h =
      let a = and_parts _ _ h in let b = and_parts _ _ a.0 in
      ((box_named instance v b.0).1, away vs (not-true _ b.1) a.1, boxes_from vs a.1)
    where
      one : suc (pred v) ≡ v
      one = (box_named instance v (and_parts _ _ (and_parts _ _ h).0).0).0

      away : (us : List ℕ) → list_any (λ u. v == u) us ≡ false → names_boxes instance us ≡ true
          → AllByRecursion (λ u. pred v ≢ u) (map pred us)
      away [] f n = tt
      away (u ∷ us) f n =
          let a = and_parts _ _ n in let b = and_parts _ _ a.0 in let w = (box_named instance u b.0).0 in (
            λ e. true≢false (sym (or_left _ _ (eq-eqb v u (sym one ∙ (ap suc e ∙ w)))) ∙ f),
            away us (or_parts _ _ f).1 a.1,
          )

  pub boxes_test : (vs : List ℕ) → AreBoxes instance vs → names_boxes instance (map suc vs) ≡ true
  boxes_test [] h = refl
  boxes_test (v ∷ vs) h =
      and_from _ _ (and_from _ _ (names_it instance v h.0) (not_from_false _ (away vs h.1))) (boxes_test vs h.2)
    where
      away : (us : List ℕ) → AllByRecursion (λ u. v ≢ u) us → list_any (λ u. suc v == u) (map suc us) ≡ false
      away [] k = refl
      away (u ∷ us) k = or_from _ _ (false_from_ne_true _ (λ e. k.0 (ap pred (eqb-true (suc v) (suc u) e))))
          (away us k.1)
