-- Families of small strips, computed from the definitions: which tokens are accepted, why others
-- are refused, and the lines.
use Rattle.std.proofs.Common.{◌≡◌, ℕ, refl, true, false, List, [], ◌∷◌, Some, None, Ok, Err, codes}
use Rattle.packing_terms.specs.Packing.{PlainInstance, PlainBox}
use Rattle.packing_terms.specs.Tokens.PlainToken.{Rules, Apart}
use Rattle.verdict_terms.specs.declared.check_answers.RefuseCode.TheVariants.{Kind, Range, Choice, After}
use Rattle.text_terms.specs.Lines.{number_of, same_bytes}
use Rattle.text_terms.specs.TokenLines.{token_of}
use Rattle.std.specs.Fmt.{digits as digits_of}
use Rattle.verdict_terms.specs.Families.{family_length, is_too_long}
use Rattle.verdict_terms.specs.FamilyRefutation.{Plain, Family, FamilyNode, Free, Begun}
use Rattle.verdict_terms.specs.FamilyJudging.{family_refusal}
use Rattle.verdict_terms.specs.FamilyChecking.{families_after, families_after_all}
use Rattle.verdict_terms.specs.FamilyLines.{family_token_of, family_token_words}

abbrev box : ℕ → ℕ → PlainBox
box a b = record { sides = a ∷ b ∷ []; value = 1 }

-- four boxes in a strip of width 10, every two of which are too wide to stand beside one another
abbrev pub four : ℕ → PlainInstance
four height = record {
  container = 10 ∷ height ∷ [];
  kerfs = 0 ∷ 0 ∷ [];
  boxes = box 6 2 ∷ box 6 2 ∷ box 6 2 ∷ box 6 2 ∷ [];
}

abbrev root : FamilyNode
root = Free []

heights : family_length (four 7) 2 (1 ∷ 2 ∷ 3 ∷ 4 ∷ []) ≡ 8
heights = refl

-- one line closes the root
one_line : families_after_all (four 7) (root ∷ []) (Family 2 (1 ∷ 2 ∷ 3 ∷ 4 ∷ []) ∷ []) ≡ Ok []
one_line = refl

-- in any order, and in two lines
other_order : families_after_all (four 7) (root ∷ []) (Family 2 (3 ∷ 1 ∷ 4 ∷ 2 ∷ []) ∷ []) ≡ Ok []
other_order = refl

first_line : families_after (four 7) (root ∷ []) (Family 2 (4 ∷ 2 ∷ [])) ≡ Ok (Begun [] 2 (4 ∷ 2 ∷ []) ∷ [])
first_line = refl

two_lines : families_after_all (four 7) (root ∷ []) (Family 2 (4 ∷ 2 ∷ []) ∷ Family 2 (1 ∷ 3 ∷ []) ∷ []) ≡ Ok []
two_lines = refl

-- behind it the tree is whole
third_line : families_after_all (four 7) (root ∷ [])
    (Family 2 (1 ∷ 2 ∷ 3 ∷ 4 ∷ []) ∷ Family 2 (1 ∷ []) ∷ []) ≡ Err After
third_line = refl

-- a height of 8 holds them, so the node stays open
exact_height : families_after (four 8) (root ∷ []) (Family 2 (1 ∷ 2 ∷ 3 ∷ 4 ∷ []))
    ≡ Ok (Begun [] 2 (1 ∷ 2 ∷ 3 ∷ 4 ∷ []) ∷ [])
exact_height = refl

-- kerfs belong to the sides: four boxes of 2 with a kerf of 1 are longer than 8 + 1
abbrev cut : PlainInstance
cut = record (four 8) { kerfs = 0 ∷ 1 ∷ [] }

with_kerf : is_too_long cut 2 (1 ∷ 2 ∷ 3 ∷ 4 ∷ []) ≡ true
with_kerf = refl

without_kerf : is_too_long (four 8) 2 (1 ∷ 2 ∷ 3 ∷ 4 ∷ []) ≡ false
without_kerf = refl

-- ---- why tokens are refused

-- where a family is begun, another dimension or a plain token is of another kind
other_dimension : family_refusal (four 7) (Begun [] 2 (1 ∷ 2 ∷ [])) (Family 1 (3 ∷ [])) ≡ Some Kind
other_dimension = refl

plain_token : family_refusal (four 7) (Begun [] 2 (1 ∷ 2 ∷ [])) (Plain Rules) ≡ Some Kind
plain_token = refl

plain_at_root : family_refusal (four 7) root (Plain (Apart 1 1 5)) ≡ Some Range
plain_at_root = refl

-- numbers that name nothing
no_box_0 : family_refusal (four 7) root (Family 2 (0 ∷ [])) ≡ Some Range
no_box_0 = refl

no_box_5 : family_refusal (four 7) root (Family 2 (1 ∷ 5 ∷ [])) ≡ Some Range
no_box_5 = refl

no_dimension_0 : family_refusal (four 7) root (Family 0 (1 ∷ [])) ≡ Some Range
no_dimension_0 = refl

no_dimension_3 : family_refusal (four 7) root (Family 3 (1 ∷ [])) ≡ Some Range
no_dimension_3 = refl

-- a box that joins twice, in one line or in two
twice : family_refusal (four 7) root (Family 2 (1 ∷ 2 ∷ 1 ∷ [])) ≡ Some Choice
twice = refl

once_more : family_refusal (four 7) (Begun [] 2 (1 ∷ 2 ∷ [])) (Family 2 (2 ∷ [])) ≡ Some Choice
once_more = refl

-- boxes that aren't apart there
not_apart : family_refusal (four 7) root (Family 1 (1 ∷ 2 ∷ [])) ≡ Some Choice
not_apart = refl

not_apart_from_first : family_refusal (four 7) (Begun [] 1 (1 ∷ [])) (Family 1 (2 ∷ [])) ≡ Some Choice
not_apart_from_first = refl

-- in a height of 5 three of them are too high by the rules, so the closure has a conflict
closed_by_rules : family_refusal (four 5) root (Family 2 (1 ∷ 2 ∷ 3 ∷ [])) ≡ Some Choice
closed_by_rules = refl

-- ---- lines

abbrev nine : List ℕ
nine = 1 ∷ 2 ∷ 3 ∷ 4 ∷ 5 ∷ 6 ∷ 7 ∷ 8 ∷ 9 ∷ []

abbrev digits : List (List ℕ)
digits = codes "1" ∷ codes "2" ∷ codes "3" ∷ codes "4" ∷ codes "5" ∷ codes "6" ∷ codes "7" ∷ codes "8" ∷ codes "9" ∷ []

line_of_three : family_token_of 2 (codes "k" ∷ codes "2" ∷ codes "4" ∷ codes "1" ∷ codes "12" ∷ [])
    ≡ Some (Family 2 (4 ∷ 1 ∷ 12 ∷ []))
unfolding family_token_of same_bytes number_of
line_of_three = refl

line_of_nine : family_token_of 2 (codes "k" ∷ codes "2" ∷ digits) ≡ Some (Family 2 nine)
unfolding family_token_of same_bytes number_of
line_of_nine = refl

-- ten boxes are no line, and no box is none
line_of_ten : family_token_of 2 (codes "k" ∷ codes "2" ∷ codes "10" ∷ digits) ≡ None
unfolding family_token_of same_bytes number_of
line_of_ten = refl

line_of_none : family_token_of 2 (codes "k" ∷ codes "2" ∷ []) ≡ None
unfolding family_token_of same_bytes number_of
line_of_none = refl

plain_line : family_token_of 2 (codes "x" ∷ []) ≡ Some (Plain Rules)
unfolding family_token_of same_bytes token_of
plain_line = refl

words_of_three : family_token_words (Family 2 (4 ∷ 1 ∷ 12 ∷ []))
    ≡ codes "k" ∷ codes "2" ∷ codes "4" ∷ codes "1" ∷ codes "12" ∷ []
unfolding digits_of
words_of_three = refl
