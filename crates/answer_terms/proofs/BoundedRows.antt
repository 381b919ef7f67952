-- Two answers and their texts, computed from the definitions, and the verdict on each text. `decimal`
-- doesn't compute, so the numbers of a line stand as `decimal n` first.
use Rattle.std.proofs.Common.{◌≡◌, ℕ, refl, ap, ◌∙◌, arith, List, [], ◌∷◌, ◌++◌, Ok, codes}
use Rattle.std.specs.Fmt.{decimal}
use Rattle.std.proofs.lemmas.Fmt.{decimal_digit, decimal_step}
use Rattle.packing_terms.specs.declared.ScaleFn.{ScaleFn}
use Rattle.packing_terms.specs.declared.ScaleFn.TheVariants.{Step}
use Rattle.packing_terms.specs.Packing.{PlainInstance, PlainBox}
use Rattle.packing_terms.specs.Tokens.PlainToken.{Choose, ValueShort}
use Rattle.text_terms.specs.Lines.{number_of, same_bytes}
use Rattle.text_terms.specs.Spelling.{lines_text}
use Rattle.text_terms.specs.declared.claim.Claim.TheVariants.{GreatestValue, ValueBetween}
use Rattle.text_terms.specs.TokenLines.{token_of}
use Rattle.verdict_terms.specs.BoundedRefutation.{Plain, PricedOut}
use Rattle.verdict_terms.specs.BoundedLines.{bounded_token_of}
use Rattle.verdict_terms.specs.Documents.{headed_verdict, bounded_verdict}
use Rattle.verdict_terms.specs.Results.{claim_of}
use Rattle.answer_terms.specs.BoundedAnswers.{BoundedAnswer, value_claim, bounded_claim, bounded_status, bounded_lines}
use Rattle.answer_terms.specs.BoundedAnswers.{bounded_text}

-- two squares, of which one fits
abbrev square : PlainBox
square = record { sides = 6 ∷ 6 ∷ []; value = 5 }

abbrev squares : PlainInstance
squares = record { container = 9 ∷ 9 ∷ []; kerfs = 0 ∷ 0 ∷ []; boxes = square ∷ square ∷ [] }

abbrev halves : List ScaleFn
halves = Step 1 ∷ Step 1 ∷ []

-- ---- the greatest value, with one priced leaf

abbrev greatest : BoundedAnswer
greatest = record {
  placed = 5;
  numbers = 0 ∷ 0 ∷ 0 ∷ [];
  refuted = 6;
  tokens = PricedOut 200000000 1 halves ∷ [];
}

greatest_claim : bounded_claim greatest ≡ GreatestValue 5
unfolding value_claim
greatest_claim = refl

greatest_status : bounded_status greatest ≡ 0
unfolding value_claim
greatest_status = refl

greatest_lines : bounded_lines squares greatest
    ≡ (codes "bounded" ∷ codes "knapsack" ∷ []) ∷ (codes "format" ∷ decimal 1 ∷ [])
    ∷ (codes "container" ∷ decimal 9 ∷ decimal 9 ∷ [])
    ∷ (codes "box" ∷ decimal 6 ∷ decimal 6 ∷ codes "value" ∷ decimal 5 ∷ [])
    ∷ (codes "box" ∷ decimal 6 ∷ decimal 6 ∷ codes "value" ∷ decimal 5 ∷ [])
    ∷ (codes "result" ∷ codes "greatest" ∷ decimal 5 ∷ [])
    ∷ (codes "take" ∷ decimal 1 ∷ decimal 0 ∷ decimal 0 ∷ [])
    ∷ (codes "proof" ∷ [])
    ∷ (codes "u" ∷ decimal 200000000 ∷ decimal 1 ∷ codes "step" ∷ decimal 1 ∷ codes "step" ∷ decimal 1 ∷ [])
    ∷ (codes "end" ∷ []) ∷ []
unfolding value_claim
greatest_lines = refl

weight : decimal 200000000 ≡ codes "200000000"
weight =
    let a = decimal_digit 2 (omega arith) in
    let b = decimal_step 20 (omega arith) (omega arith) ∙ ap (λ ds. ds ++ 48 ∷ []) a in
    let c = decimal_step 200 (omega arith) (omega arith) ∙ ap (λ ds. ds ++ 48 ∷ []) b in
    let d = decimal_step 2000 (omega arith) (omega arith) ∙ ap (λ ds. ds ++ 48 ∷ []) c in
    let e = decimal_step 20000 (omega arith) (omega arith) ∙ ap (λ ds. ds ++ 48 ∷ []) d in
    let f = decimal_step 200000 (omega arith) (omega arith) ∙ ap (λ ds. ds ++ 48 ∷ []) e in
    let g = decimal_step 2000000 (omega arith) (omega arith) ∙ ap (λ ds. ds ++ 48 ∷ []) f in
    let h = decimal_step 20000000 (omega arith) (omega arith) ∙ ap (λ ds. ds ++ 48 ∷ []) g in
    decimal_step 200000000 (omega arith) (omega arith) ∙ ap (λ ds. ds ++ 48 ∷ []) h

abbrev greatest_document : List ℕ
greatest_document = codes
    "bounded knapsack\nformat 1\ncontainer 9 9\nbox 6 6 value 5\nbox 6 6 value 5\nresult greatest 5\ntake 1 0 0\nproof\nu 200000000 1 step 1 step 1\nend\n"

greatest_text : bounded_text squares greatest ≡ greatest_document
unfolding bounded_text
greatest_text = ap lines_text greatest_lines
    ∙ rw (
      decimal_digit 0 (omega arith),
      decimal_digit 1 (omega arith),
      decimal_digit 5 (omega arith),
      decimal_digit 6 (omega arith),
      decimal_digit 9 (omega arith),
      weight,
    ) refl

greatest_verified : bounded_verdict greatest_document ≡ Ok (GreatestValue 5)
unfolding headed_verdict number_of same_bytes token_of bounded_token_of claim_of
greatest_verified = refl

-- ---- a gap, with a priced leaf among plain tokens: the squares that are both in need two containers

abbrev between : BoundedAnswer
between = record {
  placed = 5;
  numbers = 1 ∷ 0 ∷ 3 ∷ [];
  refuted = 8;
  tokens = Plain (Choose 1) ∷ Plain (Choose 2) ∷ PricedOut 0 1 halves ∷ Plain ValueShort ∷ Plain ValueShort ∷ [];
}

between_claim : bounded_claim between ≡ ValueBetween 5 8
unfolding value_claim
between_claim = refl

between_status : bounded_status between ≡ 3
unfolding value_claim
between_status = refl

between_lines : bounded_lines squares between
    ≡ (codes "bounded" ∷ codes "knapsack" ∷ []) ∷ (codes "format" ∷ decimal 1 ∷ [])
    ∷ (codes "container" ∷ decimal 9 ∷ decimal 9 ∷ [])
    ∷ (codes "box" ∷ decimal 6 ∷ decimal 6 ∷ codes "value" ∷ decimal 5 ∷ [])
    ∷ (codes "box" ∷ decimal 6 ∷ decimal 6 ∷ codes "value" ∷ decimal 5 ∷ [])
    ∷ (codes "result" ∷ codes "between" ∷ decimal 5 ∷ decimal 8 ∷ [])
    ∷ (codes "take" ∷ decimal 2 ∷ decimal 0 ∷ decimal 3 ∷ [])
    ∷ (codes "proof" ∷ [])
    ∷ (codes "c" ∷ decimal 1 ∷ []) ∷ (codes "c" ∷ decimal 2 ∷ [])
    ∷ (codes "u" ∷ decimal 0 ∷ decimal 1 ∷ codes "step" ∷ decimal 1 ∷ codes "step" ∷ decimal 1 ∷ [])
    ∷ (codes "w" ∷ []) ∷ (codes "w" ∷ [])
    ∷ (codes "end" ∷ []) ∷ []
unfolding value_claim
between_lines = refl

abbrev between_document : List ℕ
between_document = codes
    "bounded knapsack\nformat 1\ncontainer 9 9\nbox 6 6 value 5\nbox 6 6 value 5\nresult between 5 8\ntake 2 0 3\nproof\nc 1\nc 2\nu 0 1 step 1 step 1\nw\nw\nend\n"

between_text : bounded_text squares between ≡ between_document
unfolding bounded_text
between_text = ap lines_text between_lines
    ∙ rw (
      decimal_digit 0 (omega arith),
      decimal_digit 1 (omega arith),
      decimal_digit 2 (omega arith),
      decimal_digit 3 (omega arith),
      decimal_digit 5 (omega arith),
      decimal_digit 6 (omega arith),
      decimal_digit 8 (omega arith),
      decimal_digit 9 (omega arith),
    ) refl

between_verified : bounded_verdict between_document ≡ Ok (ValueBetween 5 8)
unfolding headed_verdict number_of same_bytes token_of bounded_token_of claim_of
between_verified = refl
