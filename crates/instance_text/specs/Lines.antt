-- The lines that are left of bytes in memory, as a lexer gives them.
use Rattle.std.specs.Prelude.{ℕ, ◌≡◌, ◌+◌, ◌≤◌, cond, Bool, true, false, List, [], ◌∷◌, length, drop}
use Rattle.text_terms.specs.Feeding.{Lexer, NumberedLine, told_now, lines_fed}
use Rattle.verdict_terms.specs.Stages.{is_blank}
use Rattle.instance_text.specs.declared.cursor.Cursor.{Cursor}

-- how many lines there are, the one begun included
abbrev pub line_count : Lexer → ℕ
line_count s = s.number + cond s.begun 1 0

-- no more bytes were taken than there are, and no line without a byte
pub record IsAmong (bytes : List ℕ) (at : Cursor) : Type 0 where
  pub given : at.given ≤ length bytes
  pub counted : line_count at.line ≤ at.given

-- the lines that are still to come
abbrev pub lines_left : List ℕ → Cursor → List NumberedLine
lines_left bytes at = lines_fed at.line (drop at.given bytes)

-- the next line is read, or none is left
abbrev pub IsNextLine : List ℕ → Cursor → Cursor → Bool → Type 0
IsNextLine bytes old new true = lines_left bytes old ≡ told_now new.line ∷ lines_left bytes new
IsNextLine bytes old new false = (lines_left bytes old ≡ []) × (new.line.number ≡ old.line.number)

-- behind the blank lines at the front of lines that come behind line n: the number of the line
-- before, and the lines from the first one on that isn't blank
abbrev pub past_blank : ℕ → List NumberedLine → ℕ × List NumberedLine
past_blank n [] = (n, [])
past_blank n (l ∷ ls) = elim (is_blank l.line) [ true ↦ past_blank l.number ls | false ↦ (n, l ∷ ls) ]

abbrev pub filled_left : List ℕ → Cursor → ℕ × List NumberedLine
filled_left bytes at = past_blank at.line.number (lines_left bytes at)

-- the next line that isn't blank is read, or only blank ones are left
abbrev pub IsNextFilled : List ℕ → Cursor → Cursor → Bool → Type 0
IsNextFilled bytes old new true =
    (n : ℕ) × (filled_left bytes old ≡ (n, told_now new.line ∷ lines_left bytes new))
    × (is_blank (told_now new.line).line ≡ false)
IsNextFilled bytes old new false = filled_left bytes old ≡ (new.line.number, [])
