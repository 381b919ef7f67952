-- The answers of some sets, one after another.
use Rattle.std.proofs.Common.{◌≡◌, ℕ, zero, suc, ◌+◌, ◌-◌, ◌<◌, refl, sym, ap, ◌∙◌, arith, List, [], ◌∷◌, ◌++◌, length}
use Rattle.std.proofs.Common.{get_or, map, take, drop, Vec, Global}
use Rattle.std.proofs.lemmas.List.{length-drop, take_all}
use Rattle.tree_terms.specs.OuterTrees.{with_answer}
use Rattle.bin_search.specs.Lists.{lists_of}

-- what holds of all lists holds of the first, and of those behind
pub in_take : (P : List ℕ → Type 0) (sets : List (Vec ℕ Global)) (b : ℕ)
    → ((c : ℕ) → c < length (lists_of sets) → P (get_or (lists_of sets) c []))
    → (c : ℕ) → c < length (lists_of (take b sets)) → P (get_or (lists_of (take b sets)) c [])
in_take P [] zero h c l = absurd (omega (arith, l))
in_take P [] (suc b) h c l = absurd (omega (arith, l))
in_take P (x ∷ xs) zero h c l = absurd (omega (arith, l))
in_take P (x ∷ xs) (suc b) h zero l = h 0 (omega arith)
in_take P (x ∷ xs) (suc b) h (suc c) l = in_take P xs b (λ d m. h (suc d) (omega (arith, m))) c (omega (arith, l))

pub in_drop : (P : List ℕ → Type 0) (sets : List (Vec ℕ Global)) (b : ℕ)
    → ((c : ℕ) → c < length (lists_of sets) → P (get_or (lists_of sets) c []))
    → (c : ℕ) → c < length (lists_of (drop b sets)) → P (get_or (lists_of (drop b sets)) c [])
in_drop P [] zero h c l = absurd (omega (arith, l))
in_drop P [] (suc b) h c l = absurd (omega (arith, l))
in_drop P (x ∷ xs) zero h c l = h c l
in_drop P (x ∷ xs) (suc b) h c l = in_drop P xs b (λ d m. h (suc d) (omega (arith, m))) c l

-- all that stand behind a position
pub all_behind : (sets : List (Vec ℕ Global)) (k : ℕ) → take (length sets - k) (drop k sets) ≡ drop k sets
all_behind sets k = take_all (length sets - k) (drop k sets) (let e = length-drop k sets in omega (arith, e))

module _ (f : List ℕ → List ℕ) where
  pub answers_next : (sets : List (Vec ℕ Global)) (k : ℕ) (x : Vec ℕ Global) → k < length sets → x ≡ get_or sets k x
      → map f (lists_of (take (k + 1) sets)) ≡ map f (lists_of (take k sets)) ++ f x.items ∷ []
  answers_next sets k x l e = ap (λ n. map f (lists_of (take n sets))) (let s : k + 1 ≡ suc k = omega arith in s)
      ∙ go sets k l e
    where
      go : (ys : List (Vec ℕ Global)) (j : ℕ) → j < length ys → x ≡ get_or ys j x
          → map f (lists_of (take (suc j) ys)) ≡ map f (lists_of (take j ys)) ++ f x.items ∷ []
      go [] j m h = absurd (omega (arith, m))
      go (y ∷ ys) zero m h = ap (λ (z : Vec ℕ Global). f z.items ∷ []) (sym h)
      go (y ∷ ys) (suc j) m h = ap (λ (zs : List (List ℕ)). f y.items ∷ zs) (go ys j (omega (arith, m)) h)

  -- with one of them replaced, and with one more behind them
  pub with_parts : (sets : List (Vec ℕ Global)) (b : ℕ) (ns : List ℕ) → b < length sets
      → (map f (lists_of (take b sets)) ++ ns ∷ []) ++ map f (lists_of (drop (b + 1) sets))
      ≡ with_answer (map f (lists_of sets)) b ns
  with_parts sets b ns l =
      ap (λ n. (map f (lists_of (take b sets)) ++ ns ∷ []) ++ map f (lists_of (drop n sets)))
      (let s : b + 1 ≡ suc b = omega arith in s) ∙ go sets b l
    where
      go : (ys : List (Vec ℕ Global)) (j : ℕ) → j < length ys
          → (map f (lists_of (take j ys)) ++ ns ∷ []) ++ map f (lists_of (drop (suc j) ys))
          ≡ with_answer (map f (lists_of ys)) j ns
      go [] j m = absurd (omega (arith, m))
      go (y ∷ ys) zero m = refl
      go (y ∷ ys) (suc j) m = ap (λ (zs : List (List ℕ)). f y.items ∷ zs) (go ys j (omega (arith, m)))

  pub with_new : (sets : List (Vec ℕ Global)) (b : ℕ) (ns : List ℕ) → b ≡ length sets
      → map f (lists_of (take b sets)) ++ ns ∷ [] ≡ with_answer (map f (lists_of sets)) b ns
  with_new sets b ns e = go sets b e
    where
      go : (ys : List (Vec ℕ Global)) (j : ℕ) → j ≡ length ys
          → map f (lists_of (take j ys)) ++ ns ∷ [] ≡ with_answer (map f (lists_of ys)) j ns
      go [] zero h = refl
      go [] (suc j) h = absurd (omega (arith, h))
      go (y ∷ ys) zero h = absurd (omega (arith, h))
      go (y ∷ ys) (suc j) h = ap (λ (zs : List (List ℕ)). f y.items ∷ zs) (go ys j (omega (arith, h)))
