-- Tests of all numbers below one, and what a tuple is refused for.
use Rattle.std.proofs.Common.{◌≡◌, ℕ, ◌<◌, ◌≤◌, ◌⊎◌, inl, inr, refl, sym, subst, ◌+◌, ◌∙◌, arith, Bool, true, false}
use Rattle.std.proofs.Common.{◌&&◌, List, length, Some, None, IsTrue}
use Rattle.std.specs.Prelude.{◌↔◌}
use Rattle.std.specs.List.{list_all}
use Rattle.std.proofs.lemmas.Bool.{true≢false, cases_Bool, cases_lt, and_parts, eq-eqb}
use Rattle.packing_terms.specs.declared.ScaleFn.{ScaleFn}
use Rattle.packing_terms.specs.Packing.{PlainInstance, dims, container_side}
use Rattle.packing_terms.specs.Scales.{IsLegalScale, IsTuple, Exceeds, SidesFit, function_at}
use Rattle.packing_terms.specs.Tuples.{has_excess}
use Rattle.packing_terms.proofs.Members.{all_at, all_from, in_range, range_in}
use Rattle.packing_terms.specs.Sums.{below}
use Rattle.verdict_terms.specs.declared.check_answers.RefuseCode.TheVariants.{Kind, Range, Excess}
use Rattle.verdict_terms.specs.Judging.{is_legal, are_legal, sides_fit, tuple_refusal}
use Rattle.verdict_terms.proofs.Judged.{unless_true, unless_false, legal, legal_is, sides_are, tuple_exact}

pub all_below : (p : ℕ → Bool) (n : ℕ) → ((i : ℕ) → i < n → p i ≡ true) → true ≡ list_all p (below n)
all_below p n h = sym (all_from p (below n) (λ i a. let q = range_in 0 n i a in h i (omega (arith, q.1))))

pub not_all_below : (p : ℕ → Bool) (n i : ℕ) → i < n → p i ≡ false → false ≡ list_all p (below n)
not_all_below p n i there no_more = go (cases_Bool (list_all p (below n)))
  where
    go : (list_all p (below n) ≡ true) ⊎ (list_all p (below n) ≡ false) → false ≡ list_all p (below n)
    go (inl h) = absurd (true≢false
        (sym (all_at p i (below n) h (in_range 0 n i (omega arith) (omega arith))) ∙ no_more))
    go (inr h) = sym h

pub next_below : (p : ℕ → Bool) (n : ℕ) → ((i : ℕ) → i < n → p i ≡ true) → p n ≡ true → (i : ℕ) → i < n + 1 → p i ≡ true
next_below p n h last i l = go (cases_lt i n)
  where
    go : (i < n) ⊎ (n ≤ i) → p i ≡ true
    go (inl k) = h i k
    go (inr k) = let e : n ≡ i = omega (arith, k, l) in subst (λ (m : ℕ). p m ≡ true) e last

pub legal_told : (instance : PlainInstance) (W : ℕ) (f : ScaleFn) (b : Bool) → (IsTrue b ↔ IsLegalScale f W)
    → is_legal W f ≡ b
legal_told instance W f true h = legal_is instance W f (h.0 refl)
legal_told instance W f false h = go (cases_Bool (is_legal W f))
  where
    go : (is_legal W f ≡ true) ⊎ (is_legal W f ≡ false) → is_legal W f ≡ false
    go (inl e) = absurd (true≢false (sym (h.1 (legal instance W f e))))
    go (inr e) = e

pub legal_tuple : (instance : PlainInstance) (fs : List ScaleFn) → length fs ≡ dims instance
    → are_legal instance fs ≡ true → IsTuple instance fs
legal_tuple instance fs count h = record {
  count = count;
  legal = λ i l. legal instance (container_side instance i) (function_at fs i)
      (all_at (λ i. is_legal (container_side instance i) (function_at fs i)) i (below (dims instance)) h
      (in_range 0 (dims instance) i (omega arith) (omega arith)));
}

module _ (instance : PlainInstance) (fs : List ScaleFn) (copies : ℕ) where
  excess_refused : (sides_fit instance && has_excess instance copies fs) ≡ false → length fs ≡ dims instance
      → are_legal instance fs ≡ true → Some Excess ≡ tuple_refusal instance copies fs
  excess_refused e count legal =
      unless_false _ Excess None e
      ∙ (unless_true _ Range _ legal ∙ unless_true _ Kind _ (eq-eqb (length fs) (dims instance) count))

  pub not_fitting : (b : Bool) → (IsTrue b ↔ SidesFit instance) → b ≡ false → length fs ≡ dims instance
      → are_legal instance fs ≡ true → Some Excess ≡ tuple_refusal instance copies fs
  not_fitting b exactly h count legal = go (cases_Bool (sides_fit instance && has_excess instance copies fs))
    where
      go : ((sides_fit instance && has_excess instance copies fs) ≡ true)
          ⊎ ((sides_fit instance && has_excess instance copies fs) ≡ false)
          → Some Excess ≡ tuple_refusal instance copies fs
      go (inr e) = excess_refused e count legal
      go (inl e) = absurd (true≢false (sym (exactly.1 (sides_are instance (and_parts _ _ e).0)) ∙ h))

  module _ (b : Bool) (exactly : IsTrue b ↔ Exceeds instance fs copies) where
    pub accepted : b ≡ true → None ≡ tuple_refusal instance copies fs
    accepted h = sym ((tuple_exact instance copies fs).1 (exactly.0 h))

    pub not_exceeding : b ≡ false → length fs ≡ dims instance → are_legal instance fs ≡ true
        → Some Excess ≡ tuple_refusal instance copies fs
    not_exceeding h count legal = go (cases_Bool (sides_fit instance && has_excess instance copies fs))
      where
        go : ((sides_fit instance && has_excess instance copies fs) ≡ true)
            ⊎ ((sides_fit instance && has_excess instance copies fs) ≡ false)
            → Some Excess ≡ tuple_refusal instance copies fs
        go (inr e) = excess_refused e count legal
        go (inl e) = absurd (true≢false (sym (exactly.1 ((tuple_exact instance copies fs).0
            (sym (unless_true _ Excess None e ∙ (unless_true _ Range _ legal
            ∙ unless_true _ Kind _ (eq-eqb (length fs) (dims instance) count)))))) ∙ h))
