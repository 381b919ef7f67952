-- The opening of a document: its bytes up to the line feed that ends its first line that isn't blank. It shows the
-- kind of the document, whatever stands behind it.
use Rattle.std.specs.Prelude.{ℕ, ◌≡◌, ◌≢◌, ◌⊎◌, Bool, true, false, not, List, [], ◌∷◌, ◌++◌, take}
use Rattle.std.specs.List.{slice_split, list_any}
use Rattle.text_terms.specs.Lines.{is_line_feed, line_of}
use Rattle.verdict_terms.specs.Stages.{is_blank}
use Rattle.verdict_terms.specs.declared.kind.DocumentKind.TheVariants.{Bounded}
use Rattle.verdict_terms.specs.Kinds.{document_kind}

abbrev pub all_but_last : List (List ℕ) → List (List ℕ)
all_but_last [] = []
all_but_last (part ∷ []) = []
all_but_last (part ∷ next ∷ more) = part ∷ all_but_last (next ∷ more)

-- the lines of a text that a line feed ends
abbrev pub ended_lines : List ℕ → List (List ℕ)
ended_lines text = all_but_last (slice_split is_line_feed text)

-- whether one of the lines isn't blank
abbrev pub is_one_filled : List (List ℕ) → Bool
is_one_filled lines = list_any (λ line. not (is_blank (line_of line))) lines

-- whether these bytes show the kind of the documents that begin with them: a line feed ends one of their
-- lines that isn't blank
abbrev pub tells_kind : List ℕ → Bool
tells_kind bytes = is_one_filled (ended_lines bytes)

-- The kind of a document depends on its first line that isn't blank alone: bytes in which a line feed ends that
-- line have the kind of every text that begins with them.
abbrev pub KindsStay : Type 0
KindsStay = (bytes more : List ℕ) → tells_kind bytes ≡ true → document_kind (bytes ++ more) ≡ document_kind bytes

-- and those texts show it too
abbrev pub TellingStays : Type 0
TellingStays = (bytes more : List ℕ) → tells_kind bytes ≡ true → tells_kind (bytes ++ more) ≡ true

-- A document that is read line by line: a bounded one, of which the heading ends within `limit` bytes.
pub record IsReadByLines (limit : ℕ) (bytes : List ℕ) : Type 0 where
  pub kind : document_kind bytes ≡ Bounded
  pub told : tells_kind (take limit bytes) ≡ true

-- Any other document is held whole.
abbrev pub IsReadWhole : ℕ → List ℕ → Type 0
IsReadWhole limit bytes = (document_kind bytes ≢ Bounded) ⊎ (tells_kind (take limit bytes) ≡ false)

-- each document is read in one of the two ways, and in no more
abbrev pub DocumentsAreReadOneWay : Type 0
DocumentsAreReadOneWay = (limit : ℕ) (bytes : List ℕ) → (IsReadByLines limit bytes ⊎ IsReadWhole limit bytes)
    × (IsReadByLines limit bytes → IsReadWhole limit bytes → ⊥)
