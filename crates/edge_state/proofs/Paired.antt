-- Rows in two words beside the lists of their words.
use Rattle.std.proofs.Common.{◌≡◌, ℕ, zero, suc, ◌*◌, ◌/◌, ◌%◌, ◌^◌, ◌<◌, ◌≤◌, refl, sym, ap, ◌∙◌, arith, Bool, true}
use Rattle.std.proofs.Common.{false, not, cond, eqb, ◌&&◌, ◌||◌, List, [], ◌∷◌, length, get_or, drop, replicate}
use Rattle.std.proofs.Common.{bit_and, bit_or, slice_index}
use Rattle.std.proofs.Math.ListN.{set, length-set}
use Rattle.std.proofs.lemmas.List.{get_or_past, length-replicate}
use Rattle.std.proofs.lemmas.Nat.Bits.{bit_at-zero}
use Rattle.std.specs.Int.{bit_not, w64}
use Rattle.edge_state.specs.RowTables.{PlainTable, paired_words, IsRowSet}
use Rattle.edge_state.specs.BitRows.{row_has}
use Rattle.edge_state.proofs.RowBits.{with_has, without_has}
use Rattle.edge_state.proofs.Tables.{at_any}

pub length_paired : (xs ys : List ℕ) → length (paired_words xs ys) ≡ length xs
length_paired [] ys = refl
length_paired (x ∷ xs) ys = ap suc (length_paired xs (drop 1 ys))

-- the two words of a row
pub paired_at : (xs ys : List ℕ) (at : ℕ) → at < length xs → get_or (paired_words xs ys) at [] ≡ get_or xs at 0
    ∷ get_or ys at 0 ∷ []
paired_at [] ys at h = absurd (omega arith)
paired_at (x ∷ xs) ys zero h = refl
paired_at (x ∷ xs) [] (suc at) h = paired_at xs [] at (omega arith)
paired_at (x ∷ xs) (y ∷ ys) (suc at) h = paired_at xs ys at (omega arith)

-- a word is written
pub paired_first : (xs ys : List ℕ) (at w : ℕ)
    → paired_words (set xs at w) ys ≡ set (paired_words xs ys) at (w ∷ get_or ys at 0 ∷ [])
paired_first [] ys zero w = refl
paired_first [] ys (suc at) w = refl
paired_first (x ∷ xs) ys zero w = refl
paired_first (x ∷ xs) [] (suc at) w = ap (λ (r : List (List ℕ)). (x ∷ 0 ∷ []) ∷ r) (paired_first xs [] at w)
paired_first (x ∷ xs) (y ∷ ys) (suc at) w = ap (λ (r : List (List ℕ)). (x ∷ y ∷ []) ∷ r) (paired_first xs ys at w)

pub paired_second : (xs ys : List ℕ) (at w : ℕ) → at < length ys
    → paired_words xs (set ys at w) ≡ set (paired_words xs ys) at (get_or xs at 0 ∷ w ∷ [])
paired_second xs [] at w h = absurd (omega arith)
paired_second [] (y ∷ ys) zero w h = refl
paired_second [] (y ∷ ys) (suc at) w h = refl
paired_second (x ∷ xs) (y ∷ ys) zero w h = refl
paired_second (x ∷ xs) (y ∷ ys) (suc at) w h =
    ap (λ (r : List (List ℕ)). (x ∷ y ∷ []) ∷ r) (paired_second xs ys at w (omega arith))

-- both words are written, or the first where the second isn't kept
paired_both : (xs ys : List ℕ) (at w v : ℕ) → at < length xs → at < length ys
    → paired_words (set xs at w) (set ys at v) ≡ set (paired_words xs ys) at (w ∷ v ∷ [])
paired_both [] ys at w v h k = absurd (omega arith)
paired_both (x ∷ xs) [] at w v h k = absurd (omega arith)
paired_both (x ∷ xs) (y ∷ ys) zero w v h k = refl
paired_both (x ∷ xs) (y ∷ ys) (suc at) w v h k =
    ap (λ (r : List (List ℕ)). (x ∷ y ∷ []) ∷ r) (paired_both xs ys at w v (omega arith) (omega arith))

-- rows that are all the same
pub paired_alike : (n a b : ℕ) → paired_words (replicate n a) (replicate n b) ≡ replicate n (a ∷ b ∷ [])
paired_alike zero a b = refl
paired_alike (suc n) a b = ap (λ (r : List (List ℕ)). (a ∷ b ∷ []) ∷ r) (paired_alike n a b)

pub paired_narrow : (n a : ℕ) → paired_words (replicate n a) [] ≡ replicate n (a ∷ 0 ∷ [])
paired_narrow zero a = refl
paired_narrow (suc n) a = ap (λ (r : List (List ℕ)). (a ∷ 0 ∷ []) ∷ r) (paired_narrow n a)

-- a word of a row
pub word_first : (xs ys : List ℕ) (at part x : ℕ) → at < length xs → part ≡ 0 → x ≡ get_or xs at x
    → x ≡ get_or (get_or (paired_words xs ys) at []) part 0
word_first xs ys at part x h e is = rw (e, paired_at xs ys at h) (sym (at_any xs at x 0 h is))

pub word_second : (xs ys : List ℕ) (at part x : ℕ) → at < length xs → at < length ys → part ≡ 1 → x ≡ get_or ys at x
    → x ≡ get_or (get_or (paired_words xs ys) at []) part 0
word_second xs ys at part x h k e is = rw (e, paired_at xs ys at h) (sym (at_any ys at x 0 k is))

pub word_none : (xs ys : List ℕ) (at part : ℕ) → at < length xs → (part ≡ 0 → ⊥) → (part ≡ 1 → length ys ≤ at)
    → 0 ≡ get_or (get_or (paired_words xs ys) at []) part 0
word_none xs ys at zero h first second = absurd (first refl)
word_none xs ys at (suc zero) h first second = rw (paired_at xs ys at h) (sym (get_or_past ys at 0 (second refl)))
word_none xs ys at (suc (suc part)) h first second = rw (paired_at xs ys at h) refl

pub two_words : (xs ys : List ℕ) (at : ℕ) → at < length xs → length (get_or (paired_words xs ys) at []) ≡ 2
two_words xs ys at h = rw (paired_at xs ys at h) refl

-- a table after one word was written
pub put_first : (xs ys : List ℕ) (at part w : ℕ) → at < length xs → part ≡ 0
    → paired_words (set xs at w) ys ≡ set (paired_words xs ys) at (set (get_or (paired_words xs ys) at []) part w)
put_first xs ys at part w h e = paired_first xs ys at w ∙ rw (e, paired_at xs ys at h) refl

pub put_second : (xs ys : List ℕ) (at part w : ℕ) → at < length xs → at < length ys → part ≡ 1
    → paired_words xs (set ys at w) ≡ set (paired_words xs ys) at (set (get_or (paired_words xs ys) at []) part w)
put_second xs ys at part w h k e = paired_second xs ys at w k ∙ rw (e, paired_at xs ys at h) refl

-- a number put into a row or taken out
pub inserted : (t u : PlainTable) (at n w : ℕ) → n < 128 → length (get_or t.rows at []) ≡ 2
    → w ≡ slice_index (get_or t.rows at []) (n / 64)
    → u ≡ record t { rows = set t.rows at (set (get_or t.rows at []) (n / 64) (bit_or w (1 * 2 ^ (n % 64) % 2 ^ 64))) }
    → IsRowSet t u at (λ x. row_has (get_or t.rows at []) x || eqb x n)
inserted t u at n w h two is made = record {
  row = set (get_or t.rows at []) (n / 64) (bit_or w (1 * 2 ^ (n % 64) % 2 ^ 64));
  has = rw is (with_has (get_or t.rows at []) n (omega (arith, two)));
  made = made;
}

pub removed : (t u : PlainTable) (at n w : ℕ) → n < 128 → length (get_or t.rows at []) ≡ 2
    → w ≡ slice_index (get_or t.rows at []) (n / 64)
    → u ≡ record t {
      rows = set t.rows
          at (set (get_or t.rows at []) (n / 64) (bit_and w (bit_not w64 (1 * 2 ^ (n % 64) % 2 ^ 64))));
    }
    → IsRowSet t u at (λ x. row_has (get_or t.rows at []) x && not (eqb x n))
removed t u at n w h two is made = record {
  row = set (get_or t.rows at []) (n / 64) (bit_and w (bit_not w64 (1 * 2 ^ (n % 64) % 2 ^ 64)));
  has = rw is (without_has (get_or t.rows at []) n (omega (arith, two)));
  made = made;
}

abbrev pub the_table : List (List ℕ) → ℕ → PlainTable
the_table rows seconds = record { rows = rows; seconds = seconds }

-- a row written in the words that are kept
none_past : (a b x j : ℕ) → x / 64 ≡ suc (suc j) → row_has (a ∷ b ∷ []) x ≡ false
none_past a b x j e = rw (e, bit_at-zero (x % 64)) refl

none_second : (a x : ℕ) → x / 64 ≡ 1 → row_has (a ∷ 0 ∷ []) x ≡ false
none_second a x e = rw (e, bit_at-zero (x % 64)) refl

two_has : (row : List ℕ) (w : ℕ) (x j : ℕ) → x / 64 ≡ j
    → (x < 128 → row_has (get_or row 0 0 ∷ w ∷ []) x ≡ row_has row x)
    → (128 ≤ x → row_has row x ≡ false) → row_has (get_or row 0 0 ∷ w ∷ []) x ≡ row_has row x
two_has row w x zero e near far = near (omega (arith, e))
two_has row w x (suc zero) e near far = near (omega (arith, e))
two_has row w x (suc (suc j)) e near far = none_past _ w x j e ∙ sym (far (omega (arith, e)))

not_true : (b : Bool) → (b ≡ true → ⊥) → b ≡ false
not_true true h = absurd (h refl)
not_true false h = refl

pub written_both : (xs ys row : List ℕ) (at a b : ℕ) → at < length xs → at < length ys → a ≡ get_or row 0 0
    → b ≡ get_or row 1 0
    → ((x : ℕ) → 64 ≤ x → row_has row x ≡ true → (x < 128) × (at < length ys))
    → IsRowSet (the_table (paired_words xs ys) (length ys))
    (the_table (paired_words (set xs at a) (set ys at b)) (length (set ys at b))) at (row_has row)
written_both xs ys row at a b h k ea eb kept = record {
  row = get_or row 0 0 ∷ get_or row 1 0 ∷ [];
  has = λ x. two_has row (get_or row 1 0) x (x / 64) refl (near x (x / 64) refl)
      (λ l. not_true (row_has row x) (λ t. let m = (kept x (omega arith) t).0 in absurd (omega arith)));
  made = rw (
    ea,
    eb,
    paired_both xs ys at (get_or row 0 0) (get_or row 1 0) h k,
    length-set ys at (get_or row 1 0),
  ) refl;
}
  where
    near : (x j : ℕ) → x / 64 ≡ j → x < 128 → row_has (get_or row 0 0 ∷ get_or row 1 0 ∷ []) x ≡ row_has row x
    near x zero e l = rw e refl
    near x (suc zero) e l = rw e refl
    near x (suc (suc j)) e l = absurd (omega (arith, e))

pub written_first : (xs ys row : List ℕ) (at a : ℕ) → length ys ≤ at → a ≡ get_or row 0 0
    → ((x : ℕ) → 64 ≤ x → row_has row x ≡ true → (x < 128) × (at < length ys))
    → IsRowSet (the_table (paired_words xs ys) (length ys))
    (the_table (paired_words (set xs at a) ys) (length ys)) at (row_has row)
written_first xs ys row at a k ea kept = record {
  row = get_or row 0 0 ∷ 0 ∷ [];
  has = λ x. go x (x / 64) refl;
  made = rw (ea, paired_first xs ys at (get_or row 0 0), get_or_past ys at 0 k) refl;
}
  where
    none : (x : ℕ) → 64 ≤ x → row_has row x ≡ false
    none x l = not_true (row_has row x) (λ t. let m = (kept x l t).1 in absurd (omega arith))

    go : (x j : ℕ) → x / 64 ≡ j → row_has (get_or row 0 0 ∷ 0 ∷ []) x ≡ row_has row x
    go x zero e = rw e refl
    go x (suc zero) e = none_second _ x e ∙ sym (none x (omega (arith, e)))
    go x (suc (suc j)) e = none_past _ 0 x j e ∙ sym (none x (omega (arith, e)))

-- rows that are all the same, some of their words kept
pub filled : (xs ys : List ℕ) (n a b k : ℕ) (wide : Bool) → xs ≡ replicate n a → ys ≡ replicate k b → k ≡ cond wide n 0
    → the_table (paired_words xs ys) (length ys)
    ≡ record { rows = replicate n (a ∷ cond wide b 0 ∷ []); seconds = cond wide n 0 }
filled xs ys n a b k true e f g = rw (e, f, g, paired_alike n a b, length-replicate {A = ℕ} n b) refl
filled xs ys n a b k false e f g = rw (e, f, g, paired_narrow n a) refl
