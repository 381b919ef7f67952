-- The list of tuples, as the search goes through it.
use Rattle.std.proofs.Common.{◌≡◌, ℕ, zero, suc, ◌+◌, ◌<◌, ◌≤◌, refl, ap, ◌∙◌, arith, Bool, true, cond, leb, List, []}
use Rattle.std.proofs.Common.{◌∷◌, ◌++◌, map, drop, take, zero-add, append-nil}
use Rattle.std.specs.List.{filter, flat_map, range_with_len, find, count_by}
use Rattle.std.proofs.lemmas.Bool.{le-leb, lt-leb}
use Rattle.std.proofs.lemmas.List.Sums.{sum_by-cons}
use Rattle.std.proofs.lemmas.List.Elements.{filter-append}
use Rattle.packing_terms.specs.Packing.{PlainInstance, dims}
use Rattle.packing_terms.specs.declared.ScaleFn.{ScaleFn}
use Rattle.packing_terms.specs.declared.ScaleFn.TheVariants.{Id, Step, Cut, Count}
use Rattle.packing_terms.specs.Tuples.{thresholds_above, functions_after, functions_of, choices, is_other_function}
use Rattle.packing_terms.specs.Tuples.{tuples, has_excess, first_excess}
use Rattle.conservative_scales.specs.Within.{within}

-- functions other than id
AllOther : List ScaleFn → Type 0
AllOther [] = Unit {0}
AllOther (f ∷ fs) = (is_other_function f ≡ true) × AllOther fs

abbrev small : List ScaleFn → Bool
small t = leb (count_by is_other_function t) 2

others_map : (g : ℕ → ScaleFn) → ((k : ℕ) → is_other_function (g k) ≡ true) → (ks : List ℕ) → AllOther (map g ks)
unfolding AllOther
others_map g h [] = tt
others_map g h (k ∷ ks) = (h k, others_map g h ks)

others_append : (fs gs : List ScaleFn) → AllOther fs → AllOther gs → AllOther (fs ++ gs)
unfolding AllOther
others_append [] gs h k = k
others_append (f ∷ fs) gs h k = (h.0, others_append fs gs h.1 k)

others_after_id : (instance : PlainInstance) (i : ℕ) → AllOther (functions_after instance i Id)
others_after_id instance i =
    others_append _ _ (others_append _ _ (others_map (λ k. Step k) (λ k. refl) (range_with_len 1 4))
    (others_map (λ e. Cut e) (λ k. refl) (thresholds_above instance i 0)))
    (others_map (λ e. Count e) (λ k. refl) (thresholds_above instance i 0))

flat_filter : (p : List ScaleFn → Bool) (g : ScaleFn → List (List ScaleFn)) (fs : List ScaleFn)
    → filter p (flat_map g fs) ≡ flat_map (λ f. filter p (g f)) fs
flat_filter p g [] = refl
flat_filter p g (f ∷ fs) = filter-append p (g f) (flat_map g fs) ∙ ap (λ z. filter p (g f) ++ z) (flat_filter p g fs)

flat_same : (g h : ScaleFn → List (List ScaleFn)) (fs : List ScaleFn) → AllOther fs
    → ((f : ScaleFn) → is_other_function f ≡ true → g f ≡ h f)
    → flat_map g fs ≡ flat_map h fs
unfolding AllOther
flat_same g h [] a e = refl
flat_same g h (f ∷ fs) a e = let i = flat_same g h fs a.1 e in let j = e f a.0 in cc

flat_empty : (g : ScaleFn → List (List ScaleFn)) (fs : List ScaleFn) → ((f : ScaleFn) → g f ≡ []) → flat_map g fs ≡ []
flat_empty g [] h = refl
flat_empty g (f ∷ fs) h = rw (h f) (flat_empty g fs h)

others_empty : (g : ScaleFn → List (List ScaleFn)) (fs : List ScaleFn) → AllOther fs
    → ((f : ScaleFn) → is_other_function f ≡ true → g f ≡ []) → flat_map g fs ≡ []
unfolding AllOther
others_empty g [] a h = refl
others_empty g (f ∷ fs) a h = rw (h f a.0) (others_empty g fs a.1 h)

one_more : (f : ScaleFn) (rest : List ScaleFn) → is_other_function f ≡ true
    → count_by is_other_function (f ∷ rest) ≡ 1 + count_by is_other_function rest
one_more f rest e = sum_by-cons (λ g. cond {A = ℕ} (is_other_function g) 1 0) f rest
    ∙ ap (λ b. cond {A = ℕ} b 1 0 + count_by is_other_function rest) e

no_more : (rest : List ScaleFn) → count_by is_other_function (Id ∷ rest) ≡ count_by is_other_function rest
no_more rest = sum_by-cons (λ g. cond {A = ℕ} (is_other_function g) 1 0) Id rest ∙ zero-add _

no_fewer : (f : ScaleFn) (rest : List ScaleFn) → count_by is_other_function rest ≤ count_by is_other_function (f ∷ rest)
no_fewer f rest = let e = sum_by-cons (λ g. cond {A = ℕ} (is_other_function g) 1 0) f rest in omega (arith, e)

too_many : (instance : PlainInstance) (i : ℕ) (rest : List ScaleFn) → 2 < count_by is_other_function rest
    → filter small (choices instance i rest) ≡ []
too_many instance zero rest h = let e = lt-leb (count_by is_other_function rest) 2 h in rw e refl
too_many instance (suc i) rest h =
    flat_filter small (λ f. choices instance i (f ∷ rest)) (functions_of instance i)
    ∙ flat_empty (λ f. filter small (choices instance i (f ∷ rest))) (functions_of instance i)
    (λ f. too_many instance i (f ∷ rest) (let k = no_fewer f rest in omega (arith, k)))

pub choices_within : (instance : PlainInstance) (i left : ℕ) (rest : List ScaleFn)
    → count_by is_other_function rest + left ≡ 2
    → filter small (choices instance i rest) ≡ within instance i left rest
choices_within instance zero left rest h = let e = le-leb (count_by is_other_function rest) 2 (omega arith) in rw e refl
choices_within instance (suc i) zero rest h =
    let one = choices_within instance i zero (Id ∷ rest) (no_more_left rest zero h) in
    let two = flat_filter small (λ f. choices instance i (f ∷ rest)) (functions_after instance i Id) in
    let three = others_empty (λ f. filter small (choices instance i (f ∷ rest))) (functions_after instance i Id)
    (others_after_id instance i)
    (λ f e. too_many instance i (f ∷ rest) (let k = one_more f rest e in omega (arith, k, h))) in
    filter-append small (choices instance i (Id ∷ rest))
    (flat_map (λ f. choices instance i (f ∷ rest)) (functions_after instance i Id))
    ∙ ap (λ z. filter small (choices instance i (Id ∷ rest)) ++ z) (two ∙ three) ∙ append-nil _ ∙ one
  where
    no_more_left : (rest : List ScaleFn) (left : ℕ) → count_by is_other_function rest + left ≡ 2
        → count_by is_other_function (Id ∷ rest) + left ≡ 2
    no_more_left rest left h = rw no_more h
choices_within instance (suc i) (suc m) rest h =
    let one = choices_within instance i (suc m) (Id ∷ rest) (no_more_left rest (suc m) h) in
    let two = flat_filter small (λ f. choices instance i (f ∷ rest)) (functions_after instance i Id) in
    let three = flat_same (λ f. filter small (choices instance i (f ∷ rest))) (λ f. within instance i m (f ∷ rest))
    (functions_after instance i Id) (others_after_id instance i)
    (λ f e. choices_within instance i m (f ∷ rest) (let k = one_more f rest e in omega (arith, k, h))) in
    filter-append small (choices instance i (Id ∷ rest))
    (flat_map (λ f. choices instance i (f ∷ rest)) (functions_after instance i Id))
    ∙ ap (λ z. filter small (choices instance i (Id ∷ rest)) ++ z) (two ∙ three)
    ∙ ap (λ z. z ++ flat_map (λ f. within instance i m (f ∷ rest)) (functions_after instance i Id)) one
  where
    no_more_left : (rest : List ScaleFn) (left : ℕ) → count_by is_other_function rest + left ≡ 2
        → count_by is_other_function (Id ∷ rest) + left ≡ 2
    no_more_left rest left h = rw no_more h

pub tuples_within : (instance : PlainInstance) → tuples instance ≡ within instance (dims instance) 2 []
tuples_within instance = choices_within instance (dims instance) 2 [] refl

pub excess_within : (instance : PlainInstance) (c d : ℕ) (rest : List ScaleFn) → d ≡ dims instance → rest ≡ []
    → first_excess instance c ≡ find (has_excess instance c) (within instance d 2 rest)
excess_within instance c d rest e h = rw (e, h) (ap (λ ts. find (has_excess instance c) ts) (tuples_within instance))

pub none_left : (n : ℕ) (fs : List ScaleFn) → drop n (take n fs) ≡ []
none_left zero fs = refl
none_left (suc n) [] = refl
none_left (suc n) (f ∷ fs) = none_left n fs
