-- Rows of bits as sets: what the words' bits say of the numbers.
use Rattle.std.proofs.Common.{◌≡◌, ℕ, zero, suc, ◌+◌, ◌*◌, ◌/◌, ◌%◌, ◌^◌, ◌<◌, ◌≤◌, ◌⊎◌, inl, inr, refl, sym, ap, ◌∙◌}
use Rattle.std.proofs.Common.{arith, Bool, true, false, not, cond, eqb, ◌&&◌, ◌||◌, List, length, slice_index, bit_and}
use Rattle.std.proofs.Common.{bit_or, bit_xor, min, max, zero-add}
use Rattle.std.proofs.Math.ListN.{set, length-set}
use Rattle.std.proofs.lemmas.List.{get_or-set_same, get_or-set_other, get_or_past}
use Rattle.std.proofs.lemmas.Nat.{div-add-mod', mod_below, div_below, pow_pos, ones_cat, ones_le_self, zero_from_ones}
use Rattle.std.proofs.Math.Nat.{pow-suc}
use Rattle.std.proofs.lemmas.Nat.Bits.{bit_at_and, bit_at_or, bit_at_xor, bit_at_set_same, bit_at_set_other}
use Rattle.std.proofs.lemmas.Nat.Bits.{bit_at_clear_same, bit_at_clear_other, bit_at-lt, bit_at-zero, bit_at_cat_low}
use Rattle.std.proofs.lemmas.Nat.Bits.{bit_at-trailing_zeros}
use Rattle.std.proofs.lemmas.Bool.{cases_Bool, cases_eq, cases_lt, eqb-true, eq-eqb}
use Rattle.std.specs.Int.{bit_at, bit_not, w64, trailing_zeros}
use Rattle.std.specs.Int.Count.{ones}
use Rattle.std.proofs.Math.Bool.{and-true}
use Rattle.edge_state.specs.BitRows.{row_has, members_below, IsLeastMember, AreZipped}

pub eqb_false : (a b : ℕ) → (a ≡ b → ⊥) → eqb a b ≡ false
eqb_false a b ne = go (cases_Bool (eqb a b))
  where
    go : (eqb a b ≡ true) ⊎ (eqb a b ≡ false) → eqb a b ≡ false
    go (inl h) = absurd (ne (eqb-true a b h))
    go (inr h) = h

-- a number is its word and its bit
same_number : (x n : ℕ) → x / 64 ≡ n / 64 → x % 64 ≡ n % 64 → x ≡ n
same_number x n e f = omega (arith, div-add-mod' x 64, div-add-mod' n 64)

or_true : (b : Bool) → true ≡ b || true
or_true true = refl
or_true false = refl

or_none : (b : Bool) → b ≡ b || false
or_none true = refl
or_none false = refl

and_none : (b : Bool) → false ≡ b && false
and_none true = refl
and_none false = refl

bit_cases : (a : ℕ) → a < 2 → (a ≡ 0) ⊎ (a ≡ 1)
bit_cases zero h = inl refl
bit_cases (suc zero) h = inr refl
bit_cases (suc (suc a)) h = absurd (omega arith)

-- tests on two bits
and_test : (a b : ℕ) → a < 2 → b < 2 → eqb (min a b) 1 ≡ eqb a 1 && eqb b 1
and_test a b h k = go (bit_cases a h) (bit_cases b k)
  where
    go : (a ≡ 0) ⊎ (a ≡ 1) → (b ≡ 0) ⊎ (b ≡ 1) → eqb (min a b) 1 ≡ eqb a 1 && eqb b 1
    go (inl e) (inl f) = rw (e, f) refl
    go (inl e) (inr f) = rw (e, f) refl
    go (inr e) (inl f) = rw (e, f) refl
    go (inr e) (inr f) = rw (e, f) refl

or_test : (a b : ℕ) → a < 2 → b < 2 → eqb (max a b) 1 ≡ eqb a 1 || eqb b 1
or_test a b h k = go (bit_cases a h) (bit_cases b k)
  where
    go : (a ≡ 0) ⊎ (a ≡ 1) → (b ≡ 0) ⊎ (b ≡ 1) → eqb (max a b) 1 ≡ eqb a 1 || eqb b 1
    go (inl e) (inl f) = rw (e, f) refl
    go (inl e) (inr f) = rw (e, f) refl
    go (inr e) (inl f) = rw (e, f) refl
    go (inr e) (inr f) = rw (e, f) refl

minus_test : (a b : ℕ) → a < 2 → b < 2 → eqb ((a + min a b) % 2) 1 ≡ eqb a 1 && not (eqb b 1)
minus_test a b h k = go (bit_cases a h) (bit_cases b k)
  where
    go : (a ≡ 0) ⊎ (a ≡ 1) → (b ≡ 0) ⊎ (b ≡ 1) → eqb ((a + min a b) % 2) 1 ≡ eqb a 1 && not (eqb b 1)
    go (inl e) (inl f) = rw (e, f) refl
    go (inl e) (inr f) = rw (e, f) refl
    go (inr e) (inl f) = rw (e, f) refl
    go (inr e) (inr f) = rw (e, f) refl

module _ (ws : List ℕ) (n : ℕ) (there : n / 64 < length ws) where
  small : n % 64 < 64
  small = mod_below n 64 (omega arith)

  pub with_has : (x : ℕ) → row_has (set ws (n / 64) (bit_or (slice_index ws (n / 64)) (1 * 2 ^ (n % 64) % 2 ^ 64))) x
      ≡ row_has ws x || eqb x n
  with_has x = go (cases_eq (x / 64) (n / 64)) (cases_eq (x % 64) (n % 64))
    where
      w : ℕ
      w = bit_or (slice_index ws (n / 64)) (1 * 2 ^ (n % 64) % 2 ^ 64)

      go : (x / 64 ≡ n / 64) ⊎ (x / 64 ≡ n / 64 → ⊥) → (x % 64 ≡ n % 64) ⊎ (x % 64 ≡ n % 64 → ⊥)
          → row_has (set ws (n / 64) (bit_or (slice_index ws (n / 64)) (1 * 2 ^ (n % 64) % 2 ^ 64))) x
          ≡ row_has ws x || eqb x n
      go (inl e) (inl f) =
          rw (
            eq-eqb x n (same_number x n e f),
            e,
            f,
            get_or-set_same ws (n / 64) w 0 there,
            bit_at_set_same w64 (slice_index ws (n / 64)) (n % 64) small,
          )
          (or_true (eqb (bit_at (slice_index ws (n / 64)) (n % 64)) 1))
      go (inl e) (inr f) =
          rw (
            eqb_false x n (λ q. f (ap (λ y. y % 64) q)),
            e,
            get_or-set_same ws (n / 64) w 0 there,
            bit_at_set_other w64 (slice_index ws (n / 64)) (n % 64) small (x % 64) f,
          )
          (or_none _)
      go (inr e) _ =
          rw (eqb_false x n (λ q. e (ap (λ y. y / 64) q)), get_or-set_other ws (n / 64) (x / 64) w 0 e) (or_none _)

  pub without_has : (x : ℕ)
      → row_has (set ws (n / 64) (bit_and (slice_index ws (n / 64)) (bit_not w64 (1 * 2 ^ (n % 64) % 2 ^ 64)))) x
      ≡ row_has ws x && not (eqb x n)
  without_has x = go (cases_eq (x / 64) (n / 64)) (cases_eq (x % 64) (n % 64))
    where
      w : ℕ
      w = bit_and (slice_index ws (n / 64)) (bit_not w64 (1 * 2 ^ (n % 64) % 2 ^ 64))

      go : (x / 64 ≡ n / 64) ⊎ (x / 64 ≡ n / 64 → ⊥) → (x % 64 ≡ n % 64) ⊎ (x % 64 ≡ n % 64 → ⊥)
          → row_has (set ws (n / 64) (bit_and (slice_index ws (n / 64)) (bit_not w64 (1 * 2 ^ (n % 64) % 2 ^ 64)))) x
          ≡ row_has ws x && not (eqb x n)
      go (inl e) (inl f) =
          rw (
            eq-eqb x n (same_number x n e f),
            e,
            f,
            get_or-set_same ws (n / 64) w 0 there,
            bit_at_clear_same w64 (slice_index ws (n / 64)) (n % 64) small,
          )
          (and_none (eqb (bit_at (slice_index ws (n / 64)) (n % 64)) 1))
      go (inl e) (inr f) =
          rw (
            eqb_false x n (λ q. f (ap (λ y. y % 64) q)),
            e,
            get_or-set_same ws (n / 64) w 0 there,
            bit_at_clear_other w64 (slice_index ws (n / 64)) (n % 64) small (x % 64) (mod_below x 64 (omega arith)) f,
          )
          (sym (and-true _))
      go (inr e) _ =
          rw (eqb_false x n (λ q. e (ap (λ y. y / 64) q)), get_or-set_other ws (n / 64) (x / 64) w 0 e)
          (sym (and-true _))

-- what holds of each word holds of each number
module _ (r a b : List ℕ) where
  pub and_has : ((j : ℕ) → slice_index r j ≡ bit_and (slice_index a j) (slice_index b j)) → (x : ℕ)
      → row_has r x ≡ row_has a x && row_has b x
  and_has h x =
      rw (h (x / 64), bit_at_and (slice_index a (x / 64)) (slice_index b (x / 64)) (x % 64))
      (and_test _ _ (bit_at-lt (slice_index a (x / 64)) (x % 64)) (bit_at-lt (slice_index b (x / 64)) (x % 64)))

  pub or_has : ((j : ℕ) → slice_index r j ≡ bit_or (slice_index a j) (slice_index b j)) → (x : ℕ)
      → row_has r x ≡ row_has a x || row_has b x
  or_has h x =
      rw (h (x / 64), bit_at_or (slice_index a (x / 64)) (slice_index b (x / 64)) (x % 64))
      (or_test _ _ (bit_at-lt (slice_index a (x / 64)) (x % 64)) (bit_at-lt (slice_index b (x / 64)) (x % 64)))

  pub minus_has : ((j : ℕ) → slice_index r j
      ≡ bit_xor (slice_index a j) (bit_and (slice_index a j) (slice_index b j))) → (x : ℕ)
      → row_has r x ≡ row_has a x && not (row_has b x)
  minus_has h x =
      rw (
        h (x / 64),
        bit_at_xor (slice_index a (x / 64)) (bit_and (slice_index a (x / 64)) (slice_index b (x / 64))) (x % 64),
        bit_at_and (slice_index a (x / 64)) (slice_index b (x / 64)) (x % 64),
      )
      (minus_test _ _ (bit_at-lt (slice_index a (x / 64)) (x % 64)) (bit_at-lt (slice_index b (x / 64)) (x % 64)))

-- words made one after another
module _ (f : ℕ → ℕ → ℕ) (first second : List ℕ) where
  pub zipped_start : AreZipped f first first second 0
  zipped_start = record { done = λ j h. absurd (omega arith); rest = λ j h. refl; count = refl }

  pub zipped_next : (made : List ℕ) (i : ℕ) → AreZipped f made first second i → i < length first
      → AreZipped f (set made i (f (slice_index made i) (slice_index second i))) first second (i + 1)
  zipped_next made i z h = record {
    done = λ j k. go j k (cases_eq j i);
    rest = λ j k. get_or-set_other made i j (f (slice_index made i) (slice_index second i)) 0
        (λ e. absurd (omega (arith, e))) ∙ z.rest j (omega arith);
    count = length-set _ _ _ ∙ z.count;
  }
    where
      there : i < length made
      there = rw z.count h

      go : (j : ℕ) → j < i + 1 → (j ≡ i) ⊎ (j ≡ i → ⊥)
          → slice_index (set made i (f (slice_index made i) (slice_index second i))) j
          ≡ f (slice_index first j) (slice_index second j)
      go j k (inl e) = rw (
        e,
        get_or-set_same made i (f (slice_index made i) (slice_index second i)) 0 there,
        z.rest i (omega arith),
      ) refl
      go j k (inr ne) = get_or-set_other made i j (f (slice_index made i) (slice_index second i)) 0 ne
          ∙ z.done j (omega arith)

  pub zipped_all : (made : List ℕ) (k : ℕ) → AreZipped f made first second k → length first ≡ k → length second ≡ k
      → f 0 0 ≡ 0 → (j : ℕ)
      → slice_index made j ≡ f (slice_index first j) (slice_index second j)
  zipped_all made k z e e' n j = go (cases_lt j k)
    where
      go : (j < k) ⊎ (k ≤ j) → slice_index made j ≡ f (slice_index first j) (slice_index second j)
      go (inl h) = z.done j h
      go (inr h) =
          let a : slice_index first j ≡ 0 = get_or_past first j 0 (omega (arith, e)) in
          let b : slice_index second j ≡ 0 = get_or_past second j 0 (omega (arith, e')) in
          z.rest j h ∙ rw (a, b) (sym n)

-- counts of members
few_more : (b : Bool) (m n : ℕ) → m ≤ n → cond b 1 0 + m ≤ suc n
few_more true m n h = omega arith
few_more false m n h = omega arith

pub members_few : (p : ℕ → Bool) (n : ℕ) → members_below p n ≤ n
members_few p zero = omega arith
members_few p (suc n) = few_more (p n) (members_below p n) n (members_few p n)

pub members_same : (p q : ℕ → Bool) (n : ℕ) → ((x : ℕ) → x < n → p x ≡ q x) → members_below p n ≡ members_below q n
members_same p q zero h = refl
members_same p q (suc n) h = rw (h n (omega arith), members_same p q n (λ x l. h x (omega arith))) refl

ones_zero : ones 0 ≡ 0
ones_zero = omega (arith, ones_le_self 0)

ones_one : ones 1 ≡ 1
ones_one = go (cases_eq (ones 1) 0)
  where
    go : (ones 1 ≡ 0) ⊎ (ones 1 ≡ 0 → ⊥) → ones 1 ≡ 1
    go (inl e) = absurd (omega (arith, zero_from_ones 1 e))
    go (inr ne) = omega (arith, ones_le_self 1, ne)

-- one bit more of a number
ones_more : (k n : ℕ) → n < 2 ^ suc k
    → (n % 2 ^ k < 2 ^ k → ones (n % 2 ^ k) ≡ members_below (λ x. eqb (bit_at (n % 2 ^ k) x) 1) k)
    → ones n ≡ cond (eqb (bit_at n k) 1) 1 0 + members_below (λ x. eqb (bit_at n x) 1) k
ones_more k n h less = go (bit_cases (n / 2 ^ k) top)
  where
    double : 2 ^ suc k ≡ 2 * 2 ^ k
    double = grind (arith, pow-suc)

    top : n / 2 ^ k < 2
    top = div_below n (2 ^ k) 2 (pow_pos k) (rw (← double) h)

    low : n % 2 ^ k < 2 ^ k
    low = mod_below n (2 ^ k) (pow_pos k)

    split : ones n ≡ ones (n / 2 ^ k) + ones (n % 2 ^ k)
    split = ap ones (sym (div-add-mod' n (2 ^ k))) ∙ ones_cat k (n / 2 ^ k) (n % 2 ^ k) low

    lower : (x : ℕ) → x < k → bit_at (n % 2 ^ k) x ≡ bit_at n x
    lower x l = sym (bit_at_cat_low (n / 2 ^ k) k (n % 2 ^ k) x l) ∙ ap (λ m. bit_at m x) (div-add-mod' n (2 ^ k))

    rest : ones (n % 2 ^ k) ≡ members_below (λ x. eqb (bit_at n x) 1) k
    rest = less low ∙ members_same _ _ k (λ x l. ap (λ b. eqb b 1) (lower x l))

    go : (n / 2 ^ k ≡ 0) ⊎ (n / 2 ^ k ≡ 1)
        → ones n ≡ cond (eqb (bit_at n k) 1) 1 0 + members_below (λ x. eqb (bit_at n x) 1) k
    go (inl e) = split ∙ rw (e, rest, ones_zero) refl
    go (inr e) = split ∙ rw (e, rest, ones_one) refl

-- the ones of a number are its bits that are set
pub ones_members : (k n : ℕ) → n < 2 ^ k → ones n ≡ members_below (λ x. eqb (bit_at n x) 1) k
ones_members zero n h = let e : n ≡ 0 = omega (arith, h) in rw e ones_zero
ones_members (suc k) n h = ones_more k n h (ones_members k (n % 2 ^ k))

regroup : (a b c : ℕ) → a + (b + c) ≡ a + b + c
regroup a b c = omega arith

-- the members of one word more
pub word_members : (ws : List ℕ) (i k : ℕ) → k ≤ 64
    → members_below (row_has ws) (64 * i + k) ≡ members_below (λ x. eqb (bit_at (slice_index ws i) x) 1)
    k + members_below (row_has ws) (64 * i)
word_members ws i zero h = let e : 64 * i + 0 ≡ 64 * i = omega arith in
    rw e (sym (zero-add (members_below (row_has ws) (64 * i))))
word_members ws i (suc k) h =
    let e : 64 * i + suc k ≡ suc (64 * i + k) = omega arith in
    let q : (64 * i + k) / 64 ≡ i = omega arith in
    let r : (64 * i + k) % 64 ≡ k = omega arith in
    rw (e, q, r, word_members ws i k (omega arith)) (regroup (cond (eqb (bit_at (slice_index ws i) k) 1) 1 0) _ _)

pub count_next : (ws : List ℕ) (i count : ℕ) → count ≡ members_below (row_has ws) (64 * i) → slice_index ws i < 2 ^ 64
    → count + ones (slice_index ws i) ≡ members_below (row_has ws) (64 * (i + 1))
count_next ws i count e fits =
    let next : 64 * (i + 1) ≡ 64 * i + 64 = omega arith in
    let more = word_members ws i 64 (omega arith) in
    let all = ones_members 64 (slice_index ws i) fits in
    rw next (omega (arith, e, more, all))

add_same : (a b c : ℕ) → b + 1 ≡ c → a + b + 1 ≡ a + c
add_same a b c h = omega arith

one_less : (p q : ℕ → Bool) (x n : ℕ) → ((y : ℕ) → q y ≡ p y && not (eqb y x)) → p x ≡ true → x < suc n
    → (x < n → members_below q n + 1 ≡ members_below p n)
    → cond (q n) 1 0 + members_below q n + 1 ≡ cond (p n) 1 0 + members_below p n
one_less p q x n e h l rest = go (cases_eq n x)
  where
    go : (n ≡ x) ⊎ (n ≡ x → ⊥) → cond (q n) 1 0 + members_below q n + 1 ≡ cond (p n) 1 0 + members_below p n
    go (inl f) =
        let a : q n ≡ false = e n ∙ (rw (eq-eqb n x f) (sym (and_none (p n)))) in
        let b : p n ≡ true = rw f h in
        let same : members_below q n ≡ members_below p n =
        members_same q p n (λ y k. e y
        ∙ (rw (eqb_false y x (λ g. absurd (omega (arith, f, g, k)))) (and-true (p y)))) in
        rw (a, b, same) (omega arith)
    go (inr f) =
        let a : q n ≡ p n = e n ∙ (rw (eqb_false n x f) (and-true (p n))) in
        rw a (add_same (cond (p n) 1 0) (members_below q n) (members_below p n) (rest (omega (arith, f))))

-- one member less
pub members_without : (p q : ℕ → Bool) (x n : ℕ) → ((y : ℕ) → q y ≡ p y && not (eqb y x)) → p x ≡ true → x < n
    → members_below q n + 1 ≡ members_below p n
members_without p q x zero e h l = absurd (omega arith)
members_without p q x (suc n) e h l = one_less p q x n e h l (members_without p q x n e h)

-- fewer members are left
pub members_fewer : (p q : ℕ → Bool) (x n : ℕ) → ((y : ℕ) → q y ≡ p y && not (eqb y x)) → p x ≡ true → x < n
    → members_below q n < members_below p n
members_fewer p q x n e h l = less (members_below q n) (members_below p n) (members_without p q x n e h l)
  where
    less : (a b : ℕ) → a + 1 ≡ b → a < b
    less a b f = omega (arith, f)

-- a word that isn't 0 has a member
pub word_has : (ws : List ℕ) (i : ℕ) → 0 < slice_index ws i → slice_index ws i < 2 ^ 64
    → row_has ws (64 * i + trailing_zeros w64 (slice_index ws i)) ≡ true
word_has ws i some fits =
    let low = bit_at-trailing_zeros w64 (slice_index ws i) some fits in
    let word : (64 * i + trailing_zeros w64 (slice_index ws i)) / 64 ≡ i = omega (arith, low.0) in
    let bit : (64 * i + trailing_zeros w64 (slice_index ws i)) % 64 ≡ trailing_zeros w64 (slice_index ws i)
    = omega (arith, low.0) in
    rw (word, bit, low.1) refl

-- the first word that isn't 0 has the least member
pub first_has : (ws : List ℕ) (i : ℕ) → ((j : ℕ) → j < i → slice_index ws j ≡ 0) → 0 < slice_index ws i
    → slice_index ws i < 2 ^ 64
    → IsLeastMember ws (64 * i + trailing_zeros w64 (slice_index ws i))
first_has ws i none some fits = record {
  there = word_has ws i some fits;
  least = λ y h. go y h (cases_lt (y / 64) i);
}
  where
    low : (trailing_zeros w64 (slice_index ws i) < 64)
        × (bit_at (slice_index ws i) (trailing_zeros w64 (slice_index ws i)) ≡ 1)
        × ((j : ℕ) → j < trailing_zeros w64 (slice_index ws i) → bit_at (slice_index ws i) j ≡ 0)
    low = bit_at-trailing_zeros w64 (slice_index ws i) some fits

    go : (y : ℕ) → y < 64 * i + trailing_zeros w64 (slice_index ws i) → (y / 64 < i) ⊎ (i ≤ y / 64)
        → row_has ws y ≡ false
    go y h (inl l) = rw (none (y / 64) l, bit_at-zero (y % 64)) refl
    go y h (inr l) =
        let t = low.0 in
        let e : y / 64 ≡ i = omega (arith, div-add-mod' y 64) in
        let r : y % 64 < trailing_zeros w64 (slice_index ws i) = omega (arith, div-add-mod' y 64) in
        rw (e, low.2 (y % 64) r) refl

-- a row of which each word is 0 has no member
pub none_has : (ws : List ℕ) (k : ℕ) → length ws ≡ k → ((j : ℕ) → j < k → slice_index ws j ≡ 0) → (x : ℕ)
    → row_has ws x ≡ false
none_has ws k e none x = go (cases_lt (x / 64) k)
  where
    go : (x / 64 < k) ⊎ (k ≤ x / 64) → row_has ws x ≡ false
    go (inl h) = rw (none (x / 64) h, bit_at-zero (x % 64)) refl
    go (inr h) = let z : slice_index ws (x / 64) ≡ 0 = get_or_past ws (x / 64) 0 (omega (arith, e)) in
        rw (z, bit_at-zero (x % 64)) refl
