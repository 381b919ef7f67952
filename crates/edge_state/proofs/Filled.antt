-- The rows of a new state.
use Rattle.std.proofs.Common.{◌≡◌, ℕ, ◌+◌, ◌/◌, ◌%◌, ◌*◌, ◌≢◌, ◌<◌, ◌≤◌, ◌⊎◌, inl, inr, refl, sym, ap, ◌∙◌, arith, Bool}
use Rattle.std.proofs.Common.{true, false, not, cond, ◌&&◌, eqb, ltb, List, [], length, get_or}
use Rattle.std.proofs.Math.ListN.{length-set}
use Rattle.std.proofs.lemmas.List.{get_or-set_same, get_or-set_other, length-replicate}
use Rattle.std.proofs.lemmas.Bool.{cases_eq, cases_lt, true≢false, lt-ltb, ltb-true, and_parts}
use Rattle.edge_state.specs.BitRows.{row_has}
use Rattle.edge_state.specs.RowTables.{PlainTable, filled_table, IsRowSet}
use Rattle.edge_state.specs.Edges.{is_other_box}

-- one row is written
own_count : (t u : PlainTable) (at : ℕ) (test : ℕ → Bool) → IsRowSet t u at test → length u.rows ≡ length t.rows
own_count t u at test set_one = ap (λ (q : PlainTable). length q.rows) set_one.made ∙ length-set _ _ _

own_rest : (t u : PlainTable) (at : ℕ) (test : ℕ → Bool) → IsRowSet t u at test → (k : ℕ) → k ≢ at
    → get_or u.rows k [] ≡ get_or t.rows k []
own_rest t u at test set_one k ne =
    ap (λ (q : PlainTable). get_or q.rows k []) set_one.made ∙ get_or-set_other t.rows at k set_one.row [] ne

own_row : (t u : PlainTable) (at : ℕ) (test : ℕ → Bool) (k : ℕ) → k ≡ at → at < length t.rows → IsRowSet t u at test
    → (x : ℕ) → row_has (get_or u.rows k []) x ≡ test x
own_row t u at test k e there set_one x =
    ap (λ (q : PlainTable). row_has (get_or q.rows k []) x) set_one.made
    ∙ (rw (e, get_or-set_same t.rows at set_one.row [] there) (set_one.has x))

-- rows are written one after another, those of a box for its three relations at once
pub filled_more : (n place u : ℕ) (s t : PlainTable) (row : List ℕ) → u ≡ place % n
    → ((x : ℕ) → row_has row x ≡ ltb x n && not (eqb x u))
    → ((k : ℕ) → k < place * 3 → (x : ℕ) → row_has (get_or s.rows k []) x ≡ is_other_box n (k / 3 % n) x)
    → ((k : ℕ) → k < place * 3 → get_or t.rows k [] ≡ get_or s.rows k [])
    → ((k : ℕ) → place * 3 ≤ k → k < place * 3 + 3 → (x : ℕ) → row_has (get_or t.rows k []) x ≡ row_has row x)
    → (k : ℕ) → k < (place + 1) * 3 → (x : ℕ) → row_has (get_or t.rows k []) x ≡ is_other_box n (k / 3 % n) x
filled_more n place u s t row is others each before made k h x = go (cases_lt k (place * 3))
  where
    go : (k < place * 3) ⊎ (place * 3 ≤ k) → row_has (get_or t.rows k []) x ≡ is_other_box n (k / 3 % n) x
    go (inl l) = ap (λ (r : List ℕ). row_has r x) (before k l) ∙ each k l x
    go (inr l) =
        let e : k / 3 ≡ place = omega arith in
        made k l (omega arith) x ∙ (others x ∙ rw (e, is) refl)

-- a row that has boxes from 64 on is kept in two words
pub words_kept : (n u : ℕ) (t : PlainTable) (row : List ℕ) → n ≤ 128
    → ((x : ℕ) → row_has row x ≡ ltb x n && not (eqb x u))
    → (64 < n → t.seconds ≡ length t.rows) → (x : ℕ) → 64 ≤ x → row_has row x ≡ true
    → (x < 128) × (t.seconds ≡ length t.rows)
words_kept n u t row few others kept x far h = let l = ltb-true x n (and_parts _ _ (sym (others x) ∙ h)).0 in
    (omega arith, kept (omega arith))

-- three rows written one after another
pub three_written : (place : ℕ) (s t u v : PlainTable) (row : List ℕ) → place * 3 + 2 < length s.rows
    → IsRowSet s t (place * 3) (row_has row)
    → IsRowSet t u (place * 3 + 1) (row_has row) → IsRowSet u v (place * 3 + 2) (row_has row)
    → (length v.rows ≡ length s.rows) × (v.seconds ≡ s.seconds)
    × ((k : ℕ) → k < place * 3 → get_or v.rows k [] ≡ get_or s.rows k [])
    × ((k : ℕ) → place * 3 ≤ k → k < place * 3 + 3 → (x : ℕ) → row_has (get_or v.rows k []) x ≡ row_has row x)
three_written place s t u v row there first second third = (
  own_count _ _ _ _ third ∙ (own_count _ _ _ _ second ∙ own_count _ _ _ _ first),
  ap (λ (q : PlainTable). q.seconds) third.made
      ∙ (ap (λ (q : PlainTable). q.seconds) second.made ∙ ap (λ (q : PlainTable). q.seconds) first.made),
  λ k h. own_rest _ _ _ _ third k (omega arith)
      ∙ (own_rest _ _ _ _ second k (omega arith) ∙ own_rest _ _ _ _ first k (omega arith)),
  λ k l h x. here k l h x (cases_eq k (place * 3)) (cases_eq k (place * 3 + 1)),
)
  where
    at_t : place * 3 < length s.rows
    at_t = omega arith

    at_u : place * 3 + 1 < length t.rows
    at_u = let e = own_count _ _ _ _ first in omega arith

    at_v : place * 3 + 2 < length u.rows
    at_v = let e = own_count _ _ _ _ first in let f = own_count _ _ _ _ second in omega arith

    here : (k : ℕ) → place * 3 ≤ k → k < place * 3 + 3 → (x : ℕ) → (k ≡ place * 3) ⊎ (k ≡ place * 3 → ⊥)
        → (k ≡ place * 3 + 1) ⊎ (k ≡ place * 3 + 1 → ⊥)
        → row_has (get_or v.rows k []) x ≡ row_has row x
    here k l h x (inl e) _ =
        ap (λ (r : List ℕ). row_has r x)
        (own_rest _ _ _ _ third k (omega arith) ∙ own_rest _ _ _ _ second k (omega arith))
        ∙ own_row _ _ _ _ k e at_t first x
    here k l h x (inr ne) (inl e) =
        ap (λ (r : List ℕ). row_has r x) (own_rest _ _ _ _ third k (omega arith)) ∙ own_row _ _ _ _ k e at_u second x
    here k l h x (inr ne) (inr nf) = own_row _ _ _ _ k (omega (arith, ne, nf)) at_v third x

pub filled_count : (count : ℕ) (row : List ℕ) (wide : Bool) (t : PlainTable) → t ≡ filled_table count row wide
    → length t.rows ≡ count
filled_count count row wide t e = ap (λ (q : PlainTable). length q.rows) e ∙ length-replicate {A = List ℕ} count _

-- boxes need no second word where the most don't
pub narrow_few : (n k : ℕ) → n ≤ k → ltb 64 k ≡ false → n ≤ 64
narrow_few n k l f = go (cases_lt 64 k)
  where
    go : (64 < k) ⊎ (k ≤ 64) → n ≤ 64
    go (inl h) = absurd (true≢false (sym (lt-ltb 64 k h) ∙ f))
    go (inr h) = omega (arith, h, l)

pub filled_seconds : (count : ℕ) (row : List ℕ) (wide : Bool) (t : PlainTable) → t ≡ filled_table count row wide
    → t.seconds ≡ cond wide (length t.rows) 0
filled_seconds count row wide t e =
    ap (λ (q : PlainTable). q.seconds) e ∙ ap (λ (m : ℕ). cond wide m 0) (sym (filled_count count row wide t e))

-- and all of them where some need one
pub seconds_kept : (n k : ℕ) (t : PlainTable) → n ≤ k → t.seconds ≡ cond (ltb 64 k) (length t.rows) 0 → 64 < n
    → t.seconds ≡ length t.rows
seconds_kept n k t l e h = e ∙ ap (λ b. cond b (length t.rows) 0) (lt-ltb 64 k (omega (arith, h, l)))
