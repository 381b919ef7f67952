-- Lines of bounded refutations: token lines, `u Q P F1 .. Fd`, where Q and P are the weights of values
-- and of shares, and F1 .. Fd a tuple of scale functions, and `e U V` for an exchange of box V, which
-- is in, for box U, which is out.
use Rattle.std.specs.Prelude.{ℕ, ◌≡◌, ◌≤◌, ◌==◌, cond, List, [], ◌∷◌, ◌++◌, length, map, Option, Some, None, option_map, codes}
use Rattle.std.specs.List.{flat_map}
use Rattle.std.specs.Fmt.{decimal}
use Rattle.packing_terms.specs.declared.ScaleFn.{ScaleFn}
use Rattle.text_terms.specs.Lines.{Line, cut_line, same_bytes}
use Rattle.text_terms.specs.TokenLines.{parameter, functions, token_of, token_words, function_words, IsParameter}
use Rattle.text_terms.specs.TokenLines.{IsWrittenTuple, HasLine}
use Rattle.text_terms.specs.Spelling.{spaced, lines_text}
use Rattle.verdict_terms.specs.BoundedRefutation.{BoundedToken, Plain, PricedOut, Exchange}

-- the token of two weights and of a tuple, which has a function for each dimension
abbrev pub priced_by : ℕ → Option ℕ → Option ℕ → Option (List ScaleFn) → Option BoundedToken
priced_by d (Some q) (Some p) (Some fs) = cond (length fs == d) (Some (PricedOut q p fs)) None
priced_by d _ _ _ = None

-- the token of the words behind `u`
abbrev pub priced_of : ℕ → List (List ℕ) → Option BoundedToken
priced_of d (q ∷ p ∷ words) = priced_by d (parameter q) (parameter p) (functions words)
priced_of d _ = None

-- the token of the words behind `e`: two numbers of boxes
abbrev pub exchange_by : Option ℕ → Option ℕ → Option BoundedToken
exchange_by (Some u) (Some v) = Some (Exchange u v)
exchange_by _ _ = None

abbrev pub exchange_of : List (List ℕ) → Option BoundedToken
exchange_of (u ∷ v ∷ []) = exchange_by (parameter u) (parameter v)
exchange_of _ = None

-- the token of a line with d dimensions
unfoldable pub bounded_token_of : ℕ → List (List ℕ) → Option BoundedToken
bounded_token_of d [] = None
bounded_token_of d (key ∷ words) =
    cond (same_bytes key (codes "u")) (priced_of d words) (
    cond (same_bytes key (codes "e")) (exchange_of words) (
    option_map (λ t. Plain t) (token_of d (key ∷ words))))

-- the token that a line is, in an instance with d dimensions: none where it has a bad byte
abbrev pub bounded_line_token : ℕ → Line → Option BoundedToken
bounded_line_token d line = cond line.bad None (bounded_token_of d line.words)

-- the words of a token
abbrev pub bounded_token_words : BoundedToken → List (List ℕ)
bounded_token_words (Plain t) = token_words t
bounded_token_words (PricedOut q p fs) = codes "u" ∷ decimal q ∷ decimal p ∷ flat_map function_words fs
bounded_token_words (Exchange u v) = codes "e" ∷ decimal u ∷ decimal v ∷ []

-- the line of a token, which a line feed ends, and the lines of tokens, in order
abbrev pub bounded_token_line : BoundedToken → List ℕ
bounded_token_line t = spaced (bounded_token_words t) ++ 10 ∷ []

abbrev pub bounded_token_text : List BoundedToken → List ℕ
bounded_token_text ts = lines_text (map bounded_token_words ts)

-- a token that has a line with d dimensions
abbrev pub HasBoundedLine : ℕ → BoundedToken → Type 0
HasBoundedLine d (Plain t) = HasLine d t
HasBoundedLine d (PricedOut q p fs) = IsParameter q × IsParameter p × IsWrittenTuple d fs
HasBoundedLine d (Exchange u v) = IsParameter u × IsParameter v

-- the words of a token are read back as the token
abbrev pub BoundedTokensAreReadBack : Type 0
BoundedTokensAreReadBack = (d : ℕ) (t : BoundedToken) → HasBoundedLine d t
    → bounded_token_of d (bounded_token_words t) ≡ Some t

-- a line that is cut to its first 12 words, each to its first 21 bytes, is the same token
abbrev pub BoundedLinesAreTold : Type 0
BoundedLinesAreTold = (d : ℕ) → d ≤ 4 → (line : Line) → bounded_line_token d (cut_line line) ≡ bounded_line_token d line
