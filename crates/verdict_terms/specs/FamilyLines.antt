-- Lines of refutations with families: token lines, and `k I V1 .. Vm`, where I is a dimension and
-- V1 .. Vm are 1 to 9 boxes that join its family. A line of ten boxes has all of the 12 words that
-- are kept of a line, so it couldn't be distinguished from one of eleven.
use Rattle.std.specs.Prelude.{ℕ, ◌≡◌, ◌≤◌, cond, nat_le, List, [], ◌∷◌, ◌++◌, length, map, Option}
use Rattle.std.specs.Prelude.{Some, None, option_map, codes}
use Rattle.std.specs.List.{AllByRecursion}
use Rattle.std.specs.Fmt.{decimal}
use Rattle.text_terms.specs.Lines.{Line, cut_line, same_bytes}
use Rattle.text_terms.specs.Spelling.{spaced, lines_text}
use Rattle.text_terms.specs.TokenLines.{parameters, token_of, token_words, IsParameter, HasLine}
use Rattle.verdict_terms.specs.FamilyRefutation.{FamilyToken, Plain, Family}

-- the most boxes of one line
abbrev pub most_joining : ℕ
most_joining = 9

-- the token of a dimension and boxes
abbrev pub family_by : Option (List ℕ) → Option FamilyToken
family_by (Some (i ∷ v ∷ vs)) = cond (nat_le (length (v ∷ vs)) most_joining) (Some (Family i (v ∷ vs))) None
family_by _ = None

-- the token of a line with d dimensions
unfoldable pub family_token_of : ℕ → List (List ℕ) → Option FamilyToken
family_token_of d [] = None
family_token_of d (key ∷ words) =
    cond (same_bytes key (codes "k")) (family_by (parameters words)) (
    option_map (λ t. Plain t) (token_of d (key ∷ words)))

-- the token that a line is, in an instance with d dimensions: none where it has a bad byte
abbrev pub family_line_token : ℕ → Line → Option FamilyToken
family_line_token d line = cond line.bad None (family_token_of d line.words)

-- the words of a token
abbrev pub family_token_words : FamilyToken → List (List ℕ)
family_token_words (Plain t) = token_words t
family_token_words (Family i vs) = codes "k" ∷ decimal i ∷ map decimal vs

-- the line of a token, which a line feed ends, and the lines of tokens, in order
abbrev pub family_token_line : FamilyToken → List ℕ
family_token_line t = spaced (family_token_words t) ++ 10 ∷ []

abbrev pub family_token_text : List FamilyToken → List ℕ
family_token_text ts = lines_text (map family_token_words ts)

-- a token that has a line with d dimensions
abbrev pub HasFamilyLine : ℕ → FamilyToken → Type 0
HasFamilyLine d (Plain t) = HasLine d t
HasFamilyLine d (Family i vs) =
    IsParameter i × AllByRecursion (λ v. IsParameter v) vs × (1 ≤ length vs) × (length vs ≤ most_joining)

-- the words of a token are read back as the token
abbrev pub FamilyTokensAreReadBack : Type 0
FamilyTokensAreReadBack = (d : ℕ) (t : FamilyToken) → HasFamilyLine d t
    → family_token_of d (family_token_words t) ≡ Some t

-- a line that is cut to its first 12 words, each to its first 21 bytes, is the same token
abbrev pub FamilyLinesAreTold : Type 0
FamilyLinesAreTold = (d : ℕ) → d ≤ 4 → (line : Line) → family_line_token d (cut_line line) ≡ family_line_token d line
