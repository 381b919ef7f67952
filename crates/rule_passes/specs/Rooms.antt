-- What the working room of a closing is seen as, and what its type keeps.
use Rattle.std.specs.Prelude.{ℕ, nat_lt, min, ◌≡◌, ◌≤◌, List}
use Rattle.edge_state.specs.BitRows.{row_has}

-- the sizes of the states that are closed in it, and how many boxes it was made for
pub record PlainPropagator : Type 0 where
  pub dims : ℕ
  pub boxes : ℕ
  pub most : ℕ

-- the row of all boxes, in one word where they fit, and in two
pub record HasRoom (n most : ℕ) (one_word two_words : List ℕ) : Type 0 where
  pub few : n ≤ most
  pub narrow : (x : ℕ) → row_has one_word x ≡ nat_lt x (min n 64)
  pub wide : (x : ℕ) → row_has two_words x ≡ nat_lt x n
