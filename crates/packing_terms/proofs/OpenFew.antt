-- How many nodes of an inner tree are open at once: a pair is split at most twice in each
-- dimension, and each split leaves one node behind.
use Rattle.std.proofs.Common.{◌≡◌, ℕ, zero, suc, pred, ◌+◌, ◌-◌, ◌*◌, ◌<◌, ◌≤◌, ◌⊎◌, inl, inr, refl, sym, ap, arith}
use Rattle.std.proofs.Common.{Bool, true, false, List, [], ◌∷◌, length}
use Rattle.std.proofs.lemmas.Bool.{cases_Bool, cases_lt}
use Rattle.std.proofs.Math.Nat.{pred-le-pred}
use Rattle.packing_terms.specs.declared.Rel.{Rel}
use Rattle.packing_terms.specs.declared.Rel.TheVariants.{Overlap, Before, After}
use Rattle.packing_terms.specs.declared.Exclusion.{Exclusion}
use Rattle.packing_terms.specs.Packing.{PlainInstance, dims, box_count}
use Rattle.packing_terms.specs.Exclusions.{Exclusions, excludes}
use Rattle.packing_terms.specs.Closure.{IsDerived, IsSubset}
use Rattle.packing_terms.specs.Sums.{sum_below}
use Rattle.packing_terms.specs.Tokens.{PlainToken}
use Rattle.packing_terms.specs.Tokens.PlainToken.{Apart, Order, Rules, TooLarge, Scales, Assign, Choose, SetRefuted}
use Rattle.packing_terms.specs.Tokens.PlainToken.{ValueShort, GlobalScales}
use Rattle.packing_terms.specs.Refutation.{exclusion_in_text, IsNamed, MaySplitApart, MaySplitOrder, LeavesOpen}
use Rattle.packing_terms.specs.Feeding.{Feeds}
use Rattle.packing_terms.proofs.Sets.{excludes_first, excludes_rest}
use Rattle.packing_terms.proofs.Closures.{given_derived}

-- sums of smaller numbers
pub sum_less_eq : (f g : ℕ → ℕ) (m : ℕ) → ((k : ℕ) → k < m → f k ≤ g k) → sum_below m f ≤ sum_below m g
sum_less_eq f g zero h = omega arith
sum_less_eq f g (suc m) h = let a = sum_less_eq f g m (λ k l. h k (omega (arith, l))) in let b = h m (omega arith) in
    omega (arith, a, b)

sum_less : (f g : ℕ → ℕ) (m k : ℕ) → k < m → ((j : ℕ) → j < m → f j ≤ g j) → f k < g k → sum_below m f < sum_below m g
sum_less f g zero k l h less = absurd (omega (arith, l))
sum_less f g (suc m) k l h less = go (cases_lt k m) (λ r. sum_less f g m k r (λ j s. h j (omega (arith, s))) less)
  where
    go : (k < m) ⊎ (m ≤ k) → (k < m → sum_below m f < sum_below m g) → sum_below (suc m) f < sum_below (suc m) g
    go (inl r) rest = let a = rest r in let b = h m (omega arith) in omega (arith, a, b)
    go (inr r) rest =
        let e : k ≡ m = omega (arith, l, r) in
        let x = ap f e in
        let y = ap g e in
        let a = sum_less_eq f g m (λ j s. h j (omega (arith, s))) in
        omega (arith, a, less, x, y)

twos : (v : ℕ) → sum_below v (λ u. 2) ≡ v * 2
twos zero = refl
twos (suc v) = let h = twos v in omega (arith, h)

twice : (n : ℕ) → sum_below n (λ v. v * 2) ≡ n * (n - 1)
twice zero = refl
twice (suc n) = next n (twice n)
  where
    next : (m : ℕ) → sum_below m (λ v. v * 2) ≡ m * (m - 1) → sum_below (suc m) (λ v. v * 2) ≡ suc m * (suc m - 1)
    next zero h = refl
    next (suc k) h =
        let e : suc k - 1 ≡ k = omega arith in
        let f : suc (suc k) - 1 ≡ suc k = omega arith in
        let g : sum_below (suc k) (λ v. v * 2) ≡ suc k * k = rw e at h in
        let p : suc (suc k) * suc k ≡ suc k * k + suc k * 2 = grind arith in
        rw f (omega (arith, g, p))

-- relations that are open beside one, at a pair
abbrev one : Bool → ℕ
one true = 0
one false = 1

abbrev spare : Exclusions → ℕ → ℕ → ℕ → ℕ
spare X i u v = pred (one (X i u v Overlap) + one (X i u v Before) + one (X i u v After))

one_small : (b : Bool) → one b ≤ 1
one_small true = omega arith
one_small false = omega arith

one_less : (b c : Bool) → (b ≡ true → c ≡ true) → one c ≤ one b
one_less true c h = let e = ap one (h refl) in omega (arith, e)
one_less false c h = one_small c

pred_small : (m : ℕ) → m ≤ 3 → pred m ≤ 2
pred_small zero l = omega arith
pred_small (suc m) l = omega (arith, l)

pred_less : (m n : ℕ) → m < n → 2 ≤ n → pred m < pred n
pred_less zero zero l h = absurd (omega (arith, l))
pred_less zero (suc n) l h = omega (arith, h)
pred_less (suc m) zero l h = absurd (omega (arith, l))
pred_less (suc m) (suc n) l h = omega (arith, l)

-- of three relations of which two are open, one less
fewer : (o b a p c d : Bool) → one p + one c + one d < one o + one b + one a → 2 ≤ one o + one b + one a
    → pred (one p + one c + one d) < pred (one o + one b + one a)
fewer o b a p c d l h = pred_less (one p + one c + one d) (one o + one b + one a) l h

spare_small : (X : Exclusions) (i u v : ℕ) → spare X i u v ≤ 2
spare_small X i u v =
    let a = one_small (X i u v Overlap) in let b = one_small (X i u v Before) in let c = one_small (X i u v After) in
    pred_small (one (X i u v Overlap) + one (X i u v Before) + one (X i u v After)) (omega (arith, a, b, c))

module _ (instance : PlainInstance) where
  abbrev room : Exclusions → ℕ
  room X = sum_below (dims instance) (λ i. sum_below (box_count instance) (λ v. sum_below v (λ u. spare X i u v)))

  room_small : (X : Exclusions) → room X ≤ dims instance * box_count instance * (box_count instance - 1)
  room_small X =
      let row : (i v : ℕ) → sum_below v (λ u. spare X i u v) ≤ v * 2
      = λ i v. (let h = sum_less_eq (λ u. spare X i u v) (λ u. 2) v (λ u l. spare_small X i u v) in let t = twos v in
      omega (arith, h, t)) in
      let square : (i : ℕ) → sum_below (box_count instance) (λ v. sum_below v (λ u. spare X i u v)) ≤ box_count
      instance * (box_count instance - 1)
      = λ i. (let h = sum_less_eq (λ v. sum_below v (λ u. spare X i u v)) (λ v. v * 2) (box_count instance)
      (λ v l. row i v) in
      let t = twice (box_count instance) in omega (arith, h, t)) in
      let all = sum_less_eq (λ i. sum_below (box_count instance) (λ v. sum_below v (λ u. spare X i u v)))
      (λ i. box_count instance * (box_count instance - 1)) (dims instance) (λ i l. square i) in
      let e = times (box_count instance * (box_count instance - 1)) (dims instance) in
      let g : dims instance * (box_count instance * (box_count instance - 1))
      ≡ dims instance * box_count instance * (box_count instance - 1) = grind arith in
      omega (arith, all, e, g)
    where
      times : (c m : ℕ) → sum_below m (λ i. c) ≡ m * c
      times c zero = omega arith
      times c (suc m) = let h = times c m in let e : suc m * c ≡ m * c + c = grind arith in omega (arith, h, e)

  -- more exclusions leave no more room, and one at a pair with two open relations leaves less
  spare_less_eq : (X Y : Exclusions) → IsSubset X Y → (i u v : ℕ) → spare Y i u v ≤ spare X i u v
  spare_less_eq X Y more i u v =
      let a = one_less (X i u v Overlap) (Y i u v Overlap) (more i u v Overlap) in
      let b = one_less (X i u v Before) (Y i u v Before) (more i u v Before) in
      let c = one_less (X i u v After) (Y i u v After) (more i u v After) in
      pred-le-pred {n = one (Y i u v Overlap) + one (Y i u v Before) + one (Y i u v After)}
      {m = one (X i u v Overlap) + one (X i u v Before) + one (X i u v After)}
      (omega (arith, a, b, c))

  room_less : (X Y : Exclusions) → IsSubset X Y → (i u v : ℕ) → i < dims instance → u < v → v < box_count instance
      → spare Y i u v < spare X i u v → room Y < room X
  room_less X Y more i u v hi huv hv less =
      sum_less (λ j. sum_below (box_count instance) (λ b. sum_below b (λ a. spare Y j a b)))
      (λ j. sum_below (box_count instance) (λ b. sum_below b (λ a. spare X j a b)))
      (dims instance) i hi
      (λ j l. sum_less_eq (λ b. sum_below b (λ a. spare Y j a b)) (λ b. sum_below b (λ a. spare X j a b))
      (box_count instance)
      (λ b m. sum_less_eq (λ a. spare Y j a b) (λ a. spare X j a b) b (λ a r. spare_less_eq X Y more j a b)))
      (sum_less (λ b. sum_below b (λ a. spare Y i a b)) (λ b. sum_below b (λ a. spare X i a b))
      (box_count instance) v hv
      (λ b m. sum_less_eq (λ a. spare Y i a b) (λ a. spare X i a b) b (λ a r. spare_less_eq X Y more i a b))
      (sum_less (λ a. spare Y i a v) (λ a. spare X i a v) v u huv (λ a r. spare_less_eq X Y more i a v) less))

  -- an open relation isn't excluded
  not_excluded : (es : List Exclusion) (i u v : ℕ) (r : Rel) → ¬ IsDerived instance (excludes es) i u v r
      → excludes es i u v r ≡ false
  not_excluded es i u v r none = go (cases_Bool (excludes es i u v r))
    where
      go : (excludes es i u v r ≡ true) ⊎ (excludes es i u v r ≡ false) → excludes es i u v r ≡ false
      go (inl k) = absurd (none (given_derived instance es i u v r k))
      go (inr k) = k

  module _ (es : List Exclusion) (i u v : ℕ) (named : IsNamed instance i u v) where
    hi : pred i < dims instance
    hi = let a = named.dim_from in let b = named.dim_to in omega (arith, a, b)

    huv : pred u < pred v
    huv = let a = named.u_from in let b = named.rising in omega (arith, a, b)

    hv : pred v < box_count instance
    hv = let a = named.u_from in let b = named.rising in let c = named.v_to in omega (arith, a, b, c)

    abbrev is_out : List Exclusion → Rel → Bool
    is_out fs r = excludes fs (pred i) (pred u) (pred v) r

    -- a child that excludes a relation which was open beside another one
    less_room : (fs : List Exclusion) → IsSubset (excludes es) (excludes fs)
        → spare (excludes fs) (pred i) (pred u) (pred v) < spare (excludes es) (pred i) (pred u) (pred v)
        → room (excludes fs) < room (excludes es)
    less_room fs more less = room_less (excludes es) (excludes fs) more (pred i) (pred u) (pred v) hi huv hv less

    apart_room : MaySplitApart instance es i u v
        → (room (excludes (exclusion_in_text i u v Overlap ∷ es)) < room (excludes es))
        × (room (excludes (exclusion_in_text i u v Before ∷ exclusion_in_text i u v After ∷ es)) < room (excludes es))
    apart_room split = (
      less_room (exclusion_in_text i u v Overlap ∷ es) (excludes_rest (exclusion_in_text i u v Overlap) es)
          (let o = ap one (not_excluded es (pred i) (pred u) (pred v) Overlap split.overlap) in
          let o' = ap one (excludes_first (exclusion_in_text i u v Overlap) es) in
          let b' = one_less (is_out es Before) (is_out (exclusion_in_text i u v Overlap ∷ es) Before)
          (excludes_rest (exclusion_in_text i u v Overlap) es (pred i) (pred u) (pred v) Before) in
          let a' = one_less (is_out es After) (is_out (exclusion_in_text i u v Overlap ∷ es) After)
          (excludes_rest (exclusion_in_text i u v Overlap) es (pred i) (pred u) (pred v) After) in
          fewer (is_out es Overlap) (is_out es Before) (is_out es After)
          (is_out (exclusion_in_text i u v Overlap ∷ es) Overlap)
          (is_out (exclusion_in_text i u v Overlap ∷ es) Before) (is_out (exclusion_in_text i u v Overlap ∷ es) After)
          (omega (arith, o, o', b', a', other)) (omega (arith, o, o', b', a', other))),
      less_room (exclusion_in_text i u v Before ∷ exclusion_in_text i u v After ∷ es)
          (λ j a b r h. excludes_rest (exclusion_in_text i u v Before) (exclusion_in_text i u v After ∷ es) j a b r
          (excludes_rest (exclusion_in_text i u v After) es j a b r h))
          (let o = ap one (not_excluded es (pred i) (pred u) (pred v) Overlap split.overlap) in
          let o' = one_small (is_out (exclusion_in_text i u v Before ∷ exclusion_in_text i u v After ∷ es) Overlap) in
          let b' = ap one (excludes_first (exclusion_in_text i u v Before) (exclusion_in_text i u v After ∷ es)) in
          let a' = ap one (excludes_rest (exclusion_in_text i u v Before) (exclusion_in_text i u v After ∷ es) (pred i)
          (pred u) (pred v) After (excludes_first (exclusion_in_text i u v After) es)) in
          fewer (is_out es Overlap) (is_out es Before) (is_out es After)
          (is_out (exclusion_in_text i u v Before ∷ exclusion_in_text i u v After ∷ es) Overlap)
          (is_out (exclusion_in_text i u v Before ∷ exclusion_in_text i u v After ∷ es) Before)
          (is_out (exclusion_in_text i u v Before ∷ exclusion_in_text i u v After ∷ es) After)
          (omega (arith, o, o', b', a', other)) (omega (arith, o, o', b', a', other))),
    )
      where
        other : 1 ≤ one (is_out es Before) + one (is_out es After)
        other = go split.other
          where
            go : LeavesOpen instance es (exclusion_in_text i u v Before)
                ⊎ LeavesOpen instance es (exclusion_in_text i u v After)
                → 1 ≤ one (is_out es Before) + one (is_out es After)
            go (inl h) = let e = ap one (not_excluded es (pred i) (pred u) (pred v) Before h) in omega (arith, e)
            go (inr h) = let e = ap one (not_excluded es (pred i) (pred u) (pred v) After h) in omega (arith, e)

    order_room : MaySplitOrder instance es i u v
        → (room (excludes (exclusion_in_text i u v After ∷ es)) < room (excludes es))
        × (room (excludes (exclusion_in_text i u v Before ∷ es)) < room (excludes es))
    order_room split =
        let b = ap one (not_excluded es (pred i) (pred u) (pred v) Before split.before) in
        let a = ap one (not_excluded es (pred i) (pred u) (pred v) After split.after) in (
          less_room (exclusion_in_text i u v After ∷ es) (excludes_rest (exclusion_in_text i u v After) es)
              (let a' = ap one (excludes_first (exclusion_in_text i u v After) es) in
              let b' = one_less (is_out es Before) (is_out (exclusion_in_text i u v After ∷ es) Before)
              (excludes_rest (exclusion_in_text i u v After) es (pred i) (pred u) (pred v) Before) in
              let o' = one_less (is_out es Overlap) (is_out (exclusion_in_text i u v After ∷ es) Overlap)
              (excludes_rest (exclusion_in_text i u v After) es (pred i) (pred u) (pred v) Overlap) in
              fewer (is_out es Overlap) (is_out es Before) (is_out es After)
              (is_out (exclusion_in_text i u v After ∷ es) Overlap)
              (is_out (exclusion_in_text i u v After ∷ es) Before) (is_out (exclusion_in_text i u v After ∷ es) After)
              (omega (arith, a, b, a', b', o')) (omega (arith, a, b, a', b', o'))),
          less_room (exclusion_in_text i u v Before ∷ es) (excludes_rest (exclusion_in_text i u v Before) es)
              (let b' = ap one (excludes_first (exclusion_in_text i u v Before) es) in
              let a' = one_less (is_out es After) (is_out (exclusion_in_text i u v Before ∷ es) After)
              (excludes_rest (exclusion_in_text i u v Before) es (pred i) (pred u) (pred v) After) in
              let o' = one_less (is_out es Overlap) (is_out (exclusion_in_text i u v Before ∷ es) Overlap)
              (excludes_rest (exclusion_in_text i u v Before) es (pred i) (pred u) (pred v) Overlap) in
              fewer (is_out es Overlap) (is_out es Before) (is_out es After)
              (is_out (exclusion_in_text i u v Before ∷ es) Overlap)
              (is_out (exclusion_in_text i u v Before ∷ es) Before)
              (is_out (exclusion_in_text i u v Before ∷ es) After)
              (omega (arith, a, b, a', b', o')) (omega (arith, a, b, a', b', o'))),
        )

  -- a node's room and the nodes behind it are together within a bound, and so are those of each behind it
  abbrev AreFew : ℕ → List (List Exclusion) → Type 0
  AreFew most [] = Unit {0}
  AreFew most (es ∷ nodes) = (room (excludes es) + length nodes ≤ most) × AreFew most nodes

  two_few : (most : ℕ) (es l r : List Exclusion) (nodes : List (List Exclusion))
      → room (excludes l) < room (excludes es) → room (excludes r) < room (excludes es)
      → AreFew most (es ∷ nodes) → AreFew most (l ∷ r ∷ nodes)
  two_few most es l r nodes x y h = let a = h.0 in (omega (arith, a, x), (omega (arith, a, y), h.1))

  fed_few : (most : ℕ) (tokens : List PlainToken) (nodes left : List (List Exclusion))
      → Feeds instance nodes tokens left → AreFew most nodes → AreFew most left
  fed_few most [] nodes left e h = rw (sym e) h
  fed_few most (t ∷ ts) [] left f h = absurd f
  fed_few most (Rules ∷ ts) (es ∷ nodes) left f h = fed_few most ts nodes left f.1 h.1
  fed_few most (TooLarge v i ∷ ts) (es ∷ nodes) left f h = fed_few most ts nodes left f.1 h.1
  fed_few most (Scales fs ∷ ts) (es ∷ nodes) left f h = fed_few most ts nodes left f.1 h.1
  fed_few most (Apart i u v ∷ ts) (es ∷ nodes) left f h =
      let r = apart_room es i u v f.0.named f.0 in
      fed_few most ts ((exclusion_in_text i u v Overlap ∷ es)
      ∷ (exclusion_in_text i u v Before ∷ exclusion_in_text i u v After ∷ es) ∷ nodes) left f.1
      (two_few most es (exclusion_in_text i u v Overlap ∷ es)
      (exclusion_in_text i u v Before ∷ exclusion_in_text i u v After ∷ es) nodes r.0 r.1 h)
  fed_few most (Order i u v ∷ ts) (es ∷ nodes) left f h =
      let r = order_room es i u v f.0.named f.0 in
      fed_few most ts ((exclusion_in_text i u v After ∷ es) ∷ (exclusion_in_text i u v Before ∷ es) ∷ nodes) left f.1
      (two_few most es (exclusion_in_text i u v After ∷ es) (exclusion_in_text i u v Before ∷ es) nodes r.0 r.1 h)
  fed_few most (Assign v ∷ ts) (es ∷ nodes) left f h = absurd f.0
  fed_few most (Choose v ∷ ts) (es ∷ nodes) left f h = absurd f.0
  fed_few most (SetRefuted b ∷ ts) (es ∷ nodes) left f h = absurd f.0
  fed_few most (ValueShort ∷ ts) (es ∷ nodes) left f h = absurd f.0
  fed_few most (GlobalScales fs ∷ ts) (es ∷ nodes) left f h = absurd f.0

  few_length : (most : ℕ) (nodes : List (List Exclusion)) → AreFew most nodes → length nodes ≤ most + 1
  few_length most [] h = omega arith
  few_length most (es ∷ nodes) h = let a = h.0 in omega (arith, a)

  pub few_nodes : (es : List Exclusion) (tokens : List PlainToken) (left : List (List Exclusion))
      → Feeds instance (es ∷ []) tokens left
      → length left ≤ dims instance * box_count instance * (box_count instance - 1) + 1
  few_nodes es tokens left f =
      few_length (dims instance * box_count instance * (box_count instance - 1)) left
      (fed_few (dims instance * box_count instance * (box_count instance - 1)) tokens (es ∷ []) left f
      (let s = room_small (excludes es) in (omega (arith, s), tt)))
