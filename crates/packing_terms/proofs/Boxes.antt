-- Lists of distinct boxes: by index, with one more, and their sums.
use Rattle.std.proofs.Common.{◌≡◌, ◌≢◌, ℕ, zero, suc, ◌+◌, ◌<◌, ◌≤◌, ◌⊎◌, inl, inr, refl, sym, ap, subst, ◌∙◌, arith}
use Rattle.std.proofs.Common.{Bool, true, false, cond, eqb, ltb, if◌then◌else◌, List, [], ◌∷◌, length, get_or}
use Rattle.std.specs.List.{sum_by, AllByRecursion, range_with_len}
use Rattle.std.proofs.lemmas.Bool.{cases_eq, cases_Bool, eqb-true, eq-eqb, true≢false, or_cases}
use Rattle.std.proofs.lemmas.List.Sums.{sum_by-cons}
use Rattle.std.proofs.lemmas.List.FromFn.{length-range_with_len}
use Rattle.packing_terms.specs.Rules.{AreBoxesAmong}
use Rattle.packing_terms.specs.OuterRefutation.{insert_box, has_box}
use Rattle.packing_terms.proofs.Members.{IsIn, in_range, index_in}
use Rattle.packing_terms.proofs.Sets.{or_true}

-- the parts of a fact of each element
pub each_in : (P : ℕ → Type 0) (vs : List ℕ) → AllByRecursion P vs → (v : ℕ) → IsIn v vs → P v
each_in P [] h v i = absurd i
each_in P (x ∷ vs) h v (inl e) = subst P (sym e) h.0
each_in P (x ∷ vs) h v (inr i) = each_in P vs h.1 v i

pub each_from : (P : ℕ → Type 0) (vs : List ℕ) → ((v : ℕ) → IsIn v vs → P v) → AllByRecursion P vs
each_from P [] h = tt
each_from P (x ∷ vs) h = (h x (inl refl), each_from P vs (λ v i. h v (inr i)))

pub box_in : (n : ℕ) (vs : List ℕ) → AreBoxesAmong n vs → (v : ℕ) → IsIn v vs → v < n
box_in n [] b v i = absurd i
box_in n (x ∷ vs) b v (inl e) = let h = b.0 in omega arith
box_in n (x ∷ vs) b v (inr i) = box_in n vs b.2 v i

-- elements of a list of distinct boxes at two indices differ
pub differ_at : (n : ℕ) (vs : List ℕ) → AreBoxesAmong n vs → (j k : ℕ) → j < k → k < length vs
    → get_or vs j 0 ≢ get_or vs k 0
differ_at n [] b j k l m e = absurd (omega arith)
differ_at n (v ∷ vs) b zero zero l m e = absurd (omega arith)
differ_at n (v ∷ vs) b zero (suc k) l m e =
    each_in (λ u. v ≢ u) vs b.1 (get_or vs k 0) (index_in 0 vs k (omega arith)) e
differ_at n (v ∷ vs) b (suc j) zero l m e = absurd (omega arith)
differ_at n (v ∷ vs) b (suc j) (suc k) l m e = differ_at n vs b.2 j k (omega arith) (omega arith) e

-- one box more, put in its place
pub insert_each : (P : ℕ → Type 0) (v : ℕ) (us : List ℕ) → P v → AllByRecursion P us
    → AllByRecursion P (insert_box v us)
insert_each P v [] p h = (p, tt)
insert_each P v (u ∷ us) p h = go (ltb v u) (insert_each P v us p h.1)
  where
    go : (b : Bool) → AllByRecursion P (insert_box v us)
        → AllByRecursion P (if b then v ∷ u ∷ us else u ∷ insert_box v us)
    go true rest = (p, h)
    go false rest = (h.0, rest)

pub insert_boxes : (n v : ℕ) (us : List ℕ) → v < n → AllByRecursion (λ u. v ≢ u) us → AreBoxesAmong n us
    → AreBoxesAmong n (insert_box v us)
insert_boxes n v [] hv away b = (hv, tt, tt)
insert_boxes n v (u ∷ us) hv away b = go (ltb v u) (insert_boxes n v us hv away.1 b.2)
  where
    go : (c : Bool) → AreBoxesAmong n (insert_box v us)
        → AreBoxesAmong n (if c then v ∷ u ∷ us else u ∷ insert_box v us)
    go true rest = (hv, away, b)
    go false rest = (b.0, insert_each (λ w. u ≢ w) v us (λ e. away.0 (sym e)) b.1, rest)

-- a box that isn't found differs from each
pub not_found : (v : ℕ) (us : List ℕ) → has_box v us ≡ false → AllByRecursion (λ u. v ≢ u) us
not_found v [] h = tt
not_found v (u ∷ us) h = (
  (λ e. true≢false (sym (or_true _ _ (inl (eq-eqb u v (sym e)))) ∙ h)),
  not_found v us (go (cases_Bool (has_box v us))),
)
  where
    go : (has_box v us ≡ true) ⊎ (has_box v us ≡ false) → has_box v us ≡ false
    go (inl k) = absurd (true≢false (sym (or_true _ _ (inr k)) ∙ h))
    go (inr k) = k

pub found : (v : ℕ) (us : List ℕ) → has_box v us ≡ true → IsIn v us
found v [] h = absurd (true≢false (sym h))
found v (u ∷ us) h = go (or_cases _ _ h) (found v us)
  where
    go : (eqb u v ≡ true) ⊎ (has_box v us ≡ true) → (has_box v us ≡ true → IsIn v us) → IsIn v (u ∷ us)
    go (inl k) rest = inl (sym (eqb-true _ _ k))
    go (inr k) rest = inr (rest k)

-- what is left of a list without the first v
remove : ℕ → List ℕ → List ℕ
remove v [] = []
remove v (x ∷ xs) = cond (eqb x v) xs (x ∷ remove v xs)

module _ (w : ℕ → ℕ) where
  sum_without : (v : ℕ) (xs : List ℕ) → IsIn v xs → sum_by w xs ≡ w v + sum_by w (remove v xs)
  unfolding remove
  sum_without v [] i = absurd i
  sum_without v (x ∷ xs) i = go (cases_eq x v) i (sum_without v xs)
    where
      go : (x ≡ v) ⊎ (x ≡ v → ⊥) → IsIn v (x ∷ xs) → (IsIn v xs → sum_by w xs ≡ w v + sum_by w (remove v xs))
          → sum_by w (x ∷ xs) ≡ w v + sum_by w (cond (eqb x v) xs (x ∷ remove v xs))
      go (inl e) j rest = rw (eq-eqb x v e) (sum_by-cons w x xs ∙ ap (λ y. w y + sum_by w xs) e)
      go (inr ne) (inl e) rest = absurd (ne (sym e))
      go (inr ne) (inr j) rest = rw (unequal x v ne)
          (let r = rest j in omega (arith, sum_by-cons w x xs, sum_by-cons w x (remove v xs), r))
        where
          unequal : (a b : ℕ) → (a ≡ b → ⊥) → eqb a b ≡ false
          unequal a b no_eq = pick (cases_Bool (eqb a b))
            where
              pick : (eqb a b ≡ true) ⊎ (eqb a b ≡ false) → eqb a b ≡ false
              pick (inl k) = absurd (no_eq (eqb-true a b k))
              pick (inr k) = k

  in_without : (v u : ℕ) (xs : List ℕ) → v ≢ u → IsIn u xs → IsIn u (remove v xs)
  unfolding remove
  in_without v u [] ne i = absurd i
  in_without v u (x ∷ xs) ne i = go (cases_Bool (eqb x v)) i (in_without v u xs ne)
    where
      go : (eqb x v ≡ true) ⊎ (eqb x v ≡ false) → IsIn u (x ∷ xs) → (IsIn u xs → IsIn u (remove v xs))
          → IsIn u (cond (eqb x v) xs (x ∷ remove v xs))
      go (inl k) (inl e) rest = absurd (ne (sym (e ∙ eqb-true x v k)))
      go (inl k) (inr j) rest = rw k j
      go (inr k) (inl e) rest = rw k (inl e)
      go (inr k) (inr j) rest = rw k (inr (rest j))

  -- distinct boxes that are in a list weigh no more than the list
  pub sum_within : (n : ℕ) (vs xs : List ℕ) → AreBoxesAmong n vs → ((v : ℕ) → IsIn v vs → IsIn v xs)
      → sum_by w vs ≤ sum_by w xs
  sum_within n [] xs b h = omega arith
  sum_within n (v ∷ vs) xs b h =
      let rest = sum_within n vs (remove v xs) b.2
      (λ u i. in_without v u xs (each_in (λ x. v ≢ x) vs b.1 u i) (h u (inr i))) in
      let whole = sum_without v xs (h v (inl refl)) in
      omega (arith, rest, whole, sum_by-cons w v vs)

ones : (xs : List ℕ) → sum_by (λ (x : ℕ). 1) xs ≡ length xs
ones [] = refl
ones (x ∷ xs) = let e = ones xs in omega (arith, e, sum_by-cons (λ (y : ℕ). 1) x xs)

-- distinct numbers below n are at most n
pub boxes_few : (n : ℕ) (vs : List ℕ) → AreBoxesAmong n vs → length vs ≤ n
boxes_few n vs b =
    let h = sum_within (λ (x : ℕ). 1) n vs (range_with_len 0 n) b
    (λ v i. let l = box_in n vs b v i in in_range 0 n v (omega arith) (omega arith)) in
    omega (arith, h, ones vs, ones (range_with_len 0 n), length-range_with_len 0 n)
