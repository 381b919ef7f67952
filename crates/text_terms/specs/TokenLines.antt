-- Token lines: the token that the words of a line are, in an instance with a given number of dimensions, and
-- the words of a token.
use Rattle.std.specs.Prelude.{ℕ, ◌≡◌, ◌≤◌, ◌==◌, cond, true, false, List, [], ◌∷◌, length, Option, Some, None, nat_le}
use Rattle.std.specs.Prelude.{codes}
use Rattle.std.specs.List.{flat_map}
use Rattle.std.specs.Fmt.{decimal}
use Rattle.packing_terms.specs.declared.ScaleFn.{ScaleFn}
use Rattle.packing_terms.specs.declared.ScaleFn.TheVariants.{Id, Step, Cut, Count}
use Rattle.packing_terms.specs.Tokens.{PlainToken}
use Rattle.packing_terms.specs.Tokens.PlainToken.{Apart, Order, Rules, TooLarge, Scales, Assign, Choose, SetRefuted}
use Rattle.packing_terms.specs.Tokens.PlainToken.{ValueShort, GlobalScales}
use Rattle.text_terms.specs.Lines.{Line, cut_line, number_of, same_bytes}

-- the most that a number of a token line is
abbrev pub most_parameter : ℕ
most_parameter = 4294967295

-- the number, where it is at most the bound
abbrev pub at_most : ℕ → Option ℕ → Option ℕ
at_most bound None = None
at_most bound (Some n) = cond (nat_le n bound) (Some n) None

-- a parameter of a token: a number from 0 to 4,294,967,295
abbrev pub parameter : List ℕ → Option ℕ
parameter word = at_most most_parameter (number_of word)

abbrev pub in_front : {A : Type 0} → Option A → Option (List A) → Option (List A)
in_front (Some x) (Some xs) = Some (x ∷ xs)
in_front _ _ = None

abbrev pub parameters : List (List ℕ) → Option (List ℕ)
parameters [] = Some []
parameters (word ∷ words) = in_front (parameter word) (parameters words)

-- a function by its parameter
abbrev pub with_parameter : (ℕ → ScaleFn) → Option ℕ → Option ScaleFn
with_parameter make None = None
with_parameter make (Some n) = Some (make n)

-- the function of a name and a parameter
abbrev pub named_function : List ℕ → List ℕ → Option ScaleFn
named_function name word =
    cond (same_bytes name (codes "step")) (with_parameter Step (parameter word)) (
    cond (same_bytes name (codes "cut")) (with_parameter Cut (parameter word)) (
    cond (same_bytes name (codes "count")) (with_parameter Count (parameter word)) None))

-- the functions that the words are
abbrev pub functions : List (List ℕ) → Option (List ScaleFn)
functions [] = Some []
functions (name ∷ []) = cond (same_bytes name (codes "id")) (Some (Id ∷ [])) None
functions (name ∷ word ∷ words) =
    elim (same_bytes name (codes "id")) [
      | true ↦ in_front (Some Id) (functions (word ∷ words))
      | false ↦
          in_front (named_function name word) (functions words)
    ]

-- a tuple has a function for each dimension
abbrev pub tuple_of : ℕ → (List ScaleFn → PlainToken) → Option (List ScaleFn) → Option PlainToken
tuple_of d make None = None
tuple_of d make (Some fs) = cond (length fs == d) (Some (make fs)) None

-- a token of no, one, two or three parameters
abbrev pub of_none : PlainToken → Option (List ℕ) → Option PlainToken
of_none token (Some []) = Some token
of_none token _ = None

abbrev pub of_one : (ℕ → PlainToken) → Option (List ℕ) → Option PlainToken
of_one make (Some (x ∷ [])) = Some (make x)
of_one make _ = None

abbrev pub of_two : (ℕ → ℕ → PlainToken) → Option (List ℕ) → Option PlainToken
of_two make (Some (x ∷ y ∷ [])) = Some (make x y)
of_two make _ = None

abbrev pub of_three : (ℕ → ℕ → ℕ → PlainToken) → Option (List ℕ) → Option PlainToken
of_three make (Some (x ∷ y ∷ z ∷ [])) = Some (make x y z)
of_three make _ = None

abbrev pub set_token : Option (List ℕ) → Option PlainToken
set_token (Some []) = Some (SetRefuted None)
set_token (Some (b ∷ [])) = Some (SetRefuted (Some b))
set_token _ = None

-- the token of a line with d dimensions
unfoldable pub token_of : ℕ → List (List ℕ) → Option PlainToken
token_of d [] = None
token_of d (key ∷ words) =
    cond (same_bytes key (codes "a")) (of_three Apart (parameters words)) (
    cond (same_bytes key (codes "d")) (of_three Order (parameters words)) (
    cond (same_bytes key (codes "x")) (of_none Rules (parameters words)) (
    cond (same_bytes key (codes "t")) (of_two TooLarge (parameters words)) (
    cond (same_bytes key (codes "v")) (tuple_of d Scales (functions words)) (
    cond (same_bytes key (codes "b")) (of_one Assign (parameters words)) (
    cond (same_bytes key (codes "c")) (of_one Choose (parameters words)) (
    cond (same_bytes key (codes "s")) (set_token (parameters words)) (
    cond (same_bytes key (codes "w")) (of_none ValueShort (parameters words)) (
    cond (same_bytes key (codes "g")) (tuple_of d GlobalScales (functions words)) (
    None))))))))))

-- the token that a line is, in an instance with d dimensions: none where it has a bad byte
abbrev pub line_token : ℕ → Line → Option PlainToken
line_token d line = cond line.bad None (token_of d line.words)

-- the words of a function
abbrev pub function_words : ScaleFn → List (List ℕ)
function_words Id = codes "id" ∷ []
function_words (Step k) = codes "step" ∷ decimal k ∷ []
function_words (Cut e) = codes "cut" ∷ decimal e ∷ []
function_words (Count e) = codes "count" ∷ decimal e ∷ []

-- the words of a token
abbrev pub token_words : PlainToken → List (List ℕ)
token_words (Apart dim u v) = codes "a" ∷ decimal dim ∷ decimal u ∷ decimal v ∷ []
token_words (Order dim u v) = codes "d" ∷ decimal dim ∷ decimal u ∷ decimal v ∷ []
token_words Rules = codes "x" ∷ []
token_words (TooLarge v i) = codes "t" ∷ decimal v ∷ decimal i ∷ []
token_words (Scales fs) = codes "v" ∷ flat_map function_words fs
token_words (Assign v) = codes "b" ∷ decimal v ∷ []
token_words (Choose v) = codes "c" ∷ decimal v ∷ []
token_words (SetRefuted None) = codes "s" ∷ []
token_words (SetRefuted (Some b)) = codes "s" ∷ decimal b ∷ []
token_words ValueShort = codes "w" ∷ []
token_words (GlobalScales fs) = codes "g" ∷ flat_map function_words fs

-- parameters that a token line can have
abbrev pub IsParameter : ℕ → Type 0
IsParameter n = n ≤ most_parameter

abbrev pub AreWritten : List ScaleFn → Type 0
AreWritten [] = Unit {0}
AreWritten (Id ∷ fs) = AreWritten fs
AreWritten (Step k ∷ fs) = IsParameter k × AreWritten fs
AreWritten (Cut e ∷ fs) = IsParameter e × AreWritten fs
AreWritten (Count e ∷ fs) = IsParameter e × AreWritten fs

-- a function for each dimension, with such parameters
abbrev pub IsWrittenTuple : ℕ → List ScaleFn → Type 0
IsWrittenTuple d fs = (length fs ≡ d) × AreWritten fs

-- a token that has a line with d dimensions
abbrev pub HasLine : ℕ → PlainToken → Type 0
HasLine d (Apart i u v) = IsParameter i × IsParameter u × IsParameter v
HasLine d (Order i u v) = IsParameter i × IsParameter u × IsParameter v
HasLine d Rules = Unit {0}
HasLine d (TooLarge v i) = IsParameter v × IsParameter i
HasLine d (Scales fs) = IsWrittenTuple d fs
HasLine d (Assign v) = IsParameter v
HasLine d (Choose v) = IsParameter v
HasLine d (SetRefuted None) = Unit {0}
HasLine d (SetRefuted (Some b)) = IsParameter b
HasLine d ValueShort = Unit {0}
HasLine d (GlobalScales fs) = IsWrittenTuple d fs

-- the words of a token are read back as the token
abbrev pub TokensAreReadBack : Type 0
TokensAreReadBack = (d : ℕ) (t : PlainToken) → HasLine d t → token_of d (token_words t) ≡ Some t

-- a line that is cut to its first 12 words, each to its first 21 bytes, is the same token
abbrev pub TokenLinesAreTold : Type 0
TokenLinesAreTold = (d : ℕ) → d ≤ 4 → (line : Line) → line_token d (cut_line line) ≡ line_token d line
