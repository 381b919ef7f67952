-- Bins with one box more: their boxes, their number, and each of them.
use Rattle.std.proofs.Common.{◌≡◌, ◌≢◌, ℕ, zero, suc, ◌<◌, ◌≤◌, refl, ap, ◌∙◌, arith, Bool, true, false, ◌||◌, eqb, ltb}
use Rattle.std.proofs.Common.{if◌then◌else◌, List, [], ◌∷◌, ◌++◌, length, get_or, ◌+◌, ◌⊎◌, inl, inr, map}
use Rattle.std.specs.List.{list_any, range_with_len}
use Rattle.std.proofs.Math.Bool.{or_assoc}
use Rattle.std.proofs.lemmas.Bool.{cases_lt, ltb-true, true≢false}
use Rattle.std.proofs.lemmas.List.{length-append, get_or_append_left, get_or-append-add}
use Rattle.std.proofs.lemmas.List.FromFn.{length-map-range_with_len, get_or-map-range_with_len}
use Rattle.packing_terms.specs.OuterRefutation.{Bins, insert_box, has_box, with_box, placements}

or_exchanged : (a b c : Bool) → (b || (a || c)) ≡ (a || (b || c))
or_exchanged true true c = refl
or_exchanged true false c = refl
or_exchanged false true c = refl
or_exchanged false false c = refl

pub has_inserted : (u v : ℕ) (us : List ℕ) → has_box u (insert_box v us) ≡ (eqb v u || has_box u us)
has_inserted u v [] = refl
has_inserted u v (x ∷ us) = go (ltb v x) (has_inserted u v us)
  where
    go : (b : Bool) → has_box u (insert_box v us) ≡ (eqb v u || has_box u us)
        → has_box u (if b then v ∷ x ∷ us else x ∷ insert_box v us) ≡ (eqb v u || (eqb x u || has_box u us))
    go true rest = refl
    go false rest = ap (λ b. eqb x u || b) rest ∙ or_exchanged (eqb v u) (eqb x u) (has_box u us)

pub inserted_length : (v : ℕ) (us : List ℕ) → length (insert_box v us) ≡ suc (length us)
inserted_length v [] = refl
inserted_length v (u ∷ us) = go (ltb v u) (inserted_length v us)
  where
    go : (b : Bool) → length (insert_box v us) ≡ suc (length us)
        → length (if b then v ∷ u ∷ us else u ∷ insert_box v us) ≡ suc (suc (length us))
    go true rest = refl
    go false rest = omega (arith, rest)

pub inserted_some : (v : ℕ) (us : List ℕ) → 1 ≤ length (insert_box v us)
inserted_some v us = omega (arith, inserted_length v us)

-- the boxes of the bins, with one in a used bin or in a new one
pub any_with : (u v : ℕ) (bins : Bins) (b : ℕ) → b < length bins
    → list_any (has_box u) (with_box bins b v) ≡ (eqb v u || list_any (has_box u) bins)
any_with u v [] b l = absurd (omega (arith, l))
any_with u v (us ∷ bins) zero l =
    ap (λ x. x || list_any (has_box u) bins) (has_inserted u v us)
    ∙ or_assoc (eqb v u) (has_box u us) (list_any (has_box u) bins)
any_with u v (us ∷ bins) (suc b) l =
    ap (λ x. has_box u us || x) (any_with u v bins b (omega (arith, l)))
    ∙ or_exchanged (eqb v u) (has_box u us) (list_any (has_box u) bins)

pub any_new : (u v : ℕ) (bins : Bins)
    → list_any (has_box u) (bins ++ (v ∷ []) ∷ []) ≡ (eqb v u || list_any (has_box u) bins)
any_new u v [] = or_assoc (eqb v u) false false
any_new u v (us ∷ bins) = ap (λ x. has_box u us || x) (any_new u v bins)
    ∙ or_exchanged (eqb v u) (has_box u us) (list_any (has_box u) bins)

-- the bins by index
pub with_length : (bins : Bins) (b v : ℕ) → length (with_box bins b v) ≡ length bins
with_length [] b v = refl
with_length (us ∷ bins) zero v = refl
with_length (us ∷ bins) (suc b) v = ap suc (with_length bins b v)

pub with_own : (bins : Bins) (b v : ℕ) → b < length bins
    → get_or (with_box bins b v) b [] ≡ insert_box v (get_or bins b [])
with_own [] b v l = absurd (omega (arith, l))
with_own (us ∷ bins) zero v l = refl
with_own (us ∷ bins) (suc b) v l = with_own bins b v (omega (arith, l))

pub with_other : (bins : Bins) (b c v : ℕ) → c ≢ b → get_or (with_box bins b v) c [] ≡ get_or bins c []
with_other [] b c v ne = refl
with_other (us ∷ bins) zero zero v ne = absurd (ne refl)
with_other (us ∷ bins) zero (suc c) v ne = refl
with_other (us ∷ bins) (suc b) zero v ne = refl
with_other (us ∷ bins) (suc b) (suc c) v ne = with_other bins b c v (λ e. ne (ap suc e))

-- a box in no bin is not in one of them
pub in_none : (bins : Bins) (v b : ℕ) → list_any (has_box v) bins ≡ false → has_box v (get_or bins b []) ≡ false
in_none [] v b e = refl
in_none (us ∷ bins) v b e = go (has_box v us) refl b e (λ c h. in_none bins v c h)
  where
    go : (t : Bool) → has_box v us ≡ t → (c : ℕ) → (t || list_any (has_box v) bins) ≡ false
        → ((d : ℕ) → list_any (has_box v) bins ≡ false → has_box v (get_or bins d []) ≡ false)
        → has_box v (get_or (us ∷ bins) c []) ≡ false
    go true f c h rest = absurd (true≢false h)
    go false f zero h rest = f
    go false f (suc c) h rest = rest c h

-- the children of a node for bins: one for each used bin, and one more where there may be a new bin
used_part : (bins : Bins) (v : ℕ) → length (map (λ c. with_box bins c v) (range_with_len 0 (length bins))) ≡ length bins
used_part bins v = length-map-range_with_len (λ c. with_box bins c v) 0 (length bins)

pub placements_count : (k : ℕ) (bins : Bins) (v : ℕ)
    → length (placements k bins v) ≡ (if ltb (length bins) k then suc (length bins) else length bins)
placements_count k bins v =
    length-append (map (λ c. with_box bins c v) (range_with_len 0 (length bins)))
    (if ltb (length bins) k then (bins ++ (v ∷ []) ∷ []) ∷ [] else [])
    ∙ (ap (λ n. n + length (if ltb (length bins) k then (bins ++ (v ∷ []) ∷ []) ∷ [] else [])) (used_part bins v)
    ∙ go (ltb (length bins) k))
  where
    go : (t : Bool) → length bins + length (if t then (bins ++ (v ∷ []) ∷ []) ∷ [] else [])
        ≡ (if t then suc (length bins) else length bins)
    go true = omega arith
    go false = omega arith

-- a child puts the box into a used bin, or into a new one
pub child_is : (k : ℕ) (bins d : Bins) (v b : ℕ) → b < length (placements k bins v)
    → ((b < length bins) × (get_or (placements k bins v) b d ≡ with_box bins b v))
    ⊎ ((b ≡ length bins) × (length bins < k) × (get_or (placements k bins v) b d ≡ bins ++ (v ∷ []) ∷ []))
child_is k bins d v b l = go (cases_lt b (length bins)) (ltb (length bins) k) refl
  where
    go : (b < length bins) ⊎ (length bins ≤ b) → (t : Bool) → ltb (length bins) k ≡ t
        → ((b < length bins) × (get_or (placements k bins v) b d ≡ with_box bins b v))
        ⊎ ((b ≡ length bins) × (length bins < k) × (get_or (placements k bins v) b d ≡ bins ++ (v ∷ []) ∷ []))
    go (inl m) t e = inl (
      m,
      get_or_append_left (map (λ c. with_box bins c v) (range_with_len 0 (length bins)))
          (if ltb (length bins) k then (bins ++ (v ∷ []) ∷ []) ∷ [] else []) d b
          (let u = used_part bins v in omega (arith, m, u))
          ∙ get_or-map-range_with_len (λ c. with_box bins c v) 0 (length bins) b b d m (omega arith),
    )
    go (inr m) true e =
        let n : length (placements k bins v) ≡ suc (length bins) =
        placements_count k bins v ∙ ap (λ x. if x then suc (length bins) else length bins) e in
        let same : b ≡ length bins = omega (arith, l, m, n) in
        inr (
          same,
          ltb-true _ _ e,
          ap (λ x. get_or (map (λ c. with_box bins c v) (range_with_len 0 (length bins))
              ++ (if x then (bins ++ (v ∷ []) ∷ []) ∷ [] else [])) b d) e
              ∙ (ap (λ x. get_or (map (λ c. with_box bins c v) (range_with_len 0 (length bins))
              ++ (bins ++ (v ∷ []) ∷ []) ∷ []) x d)
              (let u = used_part bins v in let s : b
              ≡ length (map (λ c. with_box bins c v) (range_with_len 0 (length bins))) + 0 =
              omega (arith, u, same) in s)
              ∙ get_or-append-add (map (λ c. with_box bins c v) (range_with_len 0 (length bins)))
              ((bins ++ (v ∷ []) ∷ []) ∷ []) 0 d),
        )
    go (inr m) false e =
        let n : length (placements k bins v) ≡ length bins =
        placements_count k bins v ∙ ap (λ x. if x then suc (length bins) else length bins) e in
        absurd (omega (arith, l, m, n))
