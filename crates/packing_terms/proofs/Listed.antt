-- The tuples of the list are legal where no container side is 0, so the first that is found exceeds.
use Rattle.std.proofs.Common.{◌≡◌, ℕ, zero, suc, ◌+◌, ◌-◌, ◌*◌, ◌/◌, ◌<◌, ◌≤◌, ◌⊎◌, inl, inr, refl, sym, subst, ◌∙◌}
use Rattle.std.proofs.Common.{arith, List, [], ◌∷◌, ◌++◌, map, length, get_or, Some, None, nat_le}
use Rattle.std.specs.List.{range_with_len, count_by, All}
use Rattle.std.proofs.lemmas.Bool.{ltb-true, lt-ltb, true≢false, cases_eq}
use Rattle.packing_terms.specs.declared.ScaleFn.{ScaleFn}
use Rattle.packing_terms.specs.declared.ScaleFn.TheVariants.{Step, Cut, Count}
use Rattle.packing_terms.specs.Packing.{PlainInstance, HasPositiveSides, dims, box_count, container_side}
use Rattle.packing_terms.specs.Scales.{IsLegalScale, IsTuple, function_at, SidesFit, HasExcess, Exceeds}
use Rattle.packing_terms.specs.Tuples.{is_threshold, thresholds_above, functions_of, choices, is_other_function, tuples}
use Rattle.packing_terms.specs.Tuples.{has_excess, first_excess}
use Rattle.packing_terms.proofs.Members.{IsIn, append_in, map_in, flat_map_in, filter_in, range_in, index_in}
use Rattle.packing_terms.proofs.Found.{find_some, find_none}

module _ (instance : PlainInstance) (wide : (i : ℕ) → i < dims instance → 1 ≤ container_side instance i) where
  edge_legal : (i low e : ℕ) → IsIn e (thresholds_above instance i low) → (1 ≤ e) × (2 * e ≤ container_side instance i)
  edge_legal i low e h =
      let k = filter_in (λ x. is_threshold instance i x) e
      (range_with_len (low + 1) (container_side instance i / 2 - low)) h in
      let r = range_in (low + 1) (container_side instance i / 2 - low) e k.0 in
      (omega (arith, r), omega (arith, r))

  function_legal : (i : ℕ) → i < dims instance → (f : ScaleFn) → IsIn f (functions_of instance i)
      → IsLegalScale f (container_side instance i)
  function_legal i l f (inl e) = subst (λ g. IsLegalScale g (container_side instance i)) (sym e) tt
  function_legal i l f (inr h) = go (append_in f (map (λ k. Step k) (range_with_len 1 4)) _ h)
    where
      step : (k : ℕ) × IsIn k (range_with_len 1 4) × (f ≡ Step k) → IsLegalScale f (container_side instance i)
      step (k, m, e) =
          let r = range_in 1 4 k m in
          let w = wide i l in
          subst (λ g. IsLegalScale g (container_side instance i)) (sym e) (omega (arith, r), omega (arith, r), w)

      cut : (e : ℕ) × IsIn e (thresholds_above instance i 0) × (f ≡ Cut e) → IsLegalScale f (container_side instance i)
      cut (x, m, e) = subst (λ g. IsLegalScale g (container_side instance i)) (sym e) (edge_legal i 0 x m)

      count : (e : ℕ) × IsIn e (thresholds_above instance i 0) × (f ≡ Count e)
          → IsLegalScale f (container_side instance i)
      count (x, m, e) = subst (λ g. IsLegalScale g (container_side instance i)) (sym e) (edge_legal i 0 x m)

      rest : IsIn f (map (λ e. Cut e) (thresholds_above instance i 0))
          ⊎ IsIn f (map (λ e. Count e) (thresholds_above instance i 0)) → IsLegalScale f (container_side instance i)
      rest (inl m) = cut (map_in (λ e. Cut e) f (thresholds_above instance i 0) m)
      rest (inr m) = count (map_in (λ e. Count e) f (thresholds_above instance i 0) m)

      go : IsIn f (map (λ k. Step k) (range_with_len 1 4))
          ⊎ IsIn f (map (λ e. Cut e) (thresholds_above instance i 0)
          ++ map (λ e. Count e) (thresholds_above instance i 0))
          → IsLegalScale f (container_side instance i)
      go (inl m) = step (map_in (λ k. Step k) f (range_with_len 1 4) m)
      go (inr m) = rest (append_in f (map (λ e. Cut e) (thresholds_above instance i 0))
          (map (λ e. Count e) (thresholds_above instance i 0)) m)

  -- a choice for the first dimensions, before the given functions
  record IsChoice (d : ℕ) (rest fs : List ScaleFn) : Type 0 where
    count : length fs ≡ d + length rest
    legal : (j : ℕ) → j < d → IsLegalScale (function_at fs j) (container_side instance j)
    later : (m : ℕ) → function_at fs (d + m) ≡ function_at rest m

  choice_legal : (d : ℕ) → d ≤ dims instance → (rest fs : List ScaleFn) → IsIn fs (choices instance d rest)
      → IsChoice d rest fs
  choice_legal zero l rest fs (inl e) = record {
    count = subst (λ (x : List ScaleFn). length x ≡ 0 + length rest) (sym e) (omega arith);
    legal = λ j m. absurd (omega (arith, m));
    later = λ m. (let z : 0 + m ≡ m = omega arith in
        rw z (subst (λ (x : List ScaleFn). function_at x m ≡ function_at rest m) (sym e) refl));
  }
  choice_legal zero l rest fs (inr h) = absurd h
  choice_legal (suc d) l rest fs h =
      go (flat_map_in (λ f. choices instance d (f ∷ rest)) fs (functions_of instance d) h)
      (λ f m. choice_legal d (omega arith) (f ∷ rest) fs m)
    where
      go : (f : ScaleFn) × IsIn f (functions_of instance d) × IsIn fs (choices instance d (f ∷ rest))
          → ((f : ScaleFn) → IsIn fs (choices instance d (f ∷ rest)) → IsChoice d (f ∷ rest) fs)
          → IsChoice (suc d) rest fs
      go (f, m, n) more = record {
        count = (let c = (more f n).count in omega (arith, c));
        legal = λ j k. at j k (cases_eq j d);
        later = λ x. (let e : suc d + x ≡ d + suc x = omega arith in rw e ((more f n).later (suc x)));
      }
        where
          at : (j : ℕ) → j < suc d → (j ≡ d) ⊎ (j ≡ d → ⊥) → IsLegalScale (function_at fs j) (container_side instance j)
          at j k (inr ne) = (more f n).legal j (omega (arith, k, ne))
          at j k (inl e) =
              let own : function_at fs d ≡ f =
              (let z : d ≡ d + 0 = omega arith in
              subst (λ (x : ℕ). function_at fs x ≡ f) (sym z) ((more f n).later 0)) in
              let legal : IsLegalScale (function_at fs d) (container_side instance d) =
              subst (λ (g : ScaleFn). IsLegalScale g (container_side instance d)) (sym own)
              (function_legal d (omega (arith, l)) f m) in
              subst (λ (x : ℕ). IsLegalScale (function_at fs x) (container_side instance x)) (sym e) legal

  pub listed_legal : (fs : List ScaleFn) → IsIn fs (tuples instance) → IsTuple instance fs
  listed_legal fs h =
      let k = filter_in (λ t. nat_le (count_by is_other_function t) 2) fs (choices instance (dims instance) []) h in
      let c = choice_legal (dims instance) (omega arith) [] fs k.0 in
      record { count = (let e = c.count in omega (arith, e)); legal = c.legal }

  pub first_exceeds : SidesFit instance → (c : ℕ) (fs : List ScaleFn) → first_excess instance c ≡ Some fs
      → Exceeds instance fs c
  first_exceeds fit c fs e =
      let h = find_some (λ t. has_excess instance c t) (tuples instance) fs e in
      record { tuple = listed_legal fs h.0; fit = fit; more = ltb-true _ _ h.1 }

-- where a box fits in, no container side is 0
pub container_wide : (instance : PlainInstance) → HasPositiveSides instance → SidesFit instance → 1 ≤ box_count instance
    → (i : ℕ) → i < dims instance → 1 ≤ container_side instance i
container_wide instance sides fit some i l =
    let a = sides 0 i (omega arith) l in
    let b = fit 0 i (omega arith) l in
    omega (arith, a, b)

-- where none is found, none of the list has excess
pub none_exceed : (instance : PlainInstance) (c : ℕ) → first_excess instance c ≡ None
    → All (λ fs. ¬ HasExcess instance fs c) (tuples instance)
none_exceed instance c e k d l more =
    true≢false (sym (lt-ltb _ _ more) ∙ find_none (λ t. has_excess instance c t) (tuples instance) e
    (get_or (tuples instance) k d) (index_in d (tuples instance) k l))
