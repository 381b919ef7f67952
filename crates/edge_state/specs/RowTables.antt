-- Rows of one word or two, as a list of rows of two words.
use Rattle.std.specs.Prelude.{ℕ, ◌≡◌, List, [], ◌∷◌, Bool, drop, replicate, set, slice_index, if◌then◌else◌}
use Rattle.edge_state.specs.BitRows.{row_has}

-- the rows in two words, and how many of them are kept with their second word: all or none; a word
-- that isn't kept is 0
pub record PlainTable : Type 0 where
  pub rows : List (List ℕ)
  pub seconds : ℕ

-- the first words of the rows beside the second ones
abbrev pub paired_words : List ℕ → List ℕ → List (List ℕ)
paired_words [] seconds = []
paired_words (x ∷ xs) seconds = (x ∷ slice_index seconds 0 ∷ []) ∷ paired_words xs (drop 1 seconds)

-- `count` times a row, with its second word only where that is wanted
abbrev pub filled_table : ℕ → List ℕ → Bool → PlainTable
filled_table count row wide = record {
  rows = replicate count (slice_index row 0 ∷ (if wide then slice_index row 1 else 0) ∷ []);
  seconds = if wide then count else 0;
}

-- one row has the numbers that pass a test, and all else is as before
pub record IsRowSet (old new : PlainTable) (at : ℕ) (test : ℕ → Bool) : Type 0 where
  pub row : List ℕ
  pub has : (x : ℕ) → row_has row x ≡ test x
  pub made : new ≡ record old { rows = set old.rows at row }
