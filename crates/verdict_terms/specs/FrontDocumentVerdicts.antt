-- The verdict on the document of a front: its claim where it is verified, else the first refused
-- line, counted from 1, with the reason.
use Rattle.std.specs.Prelude.{ℕ, suc, ◌+◌, ◌==◌, ◌&&◌, not, cond, Bool, true, false, List, [], ◌∷◌, ◌++◌}
use Rattle.std.specs.Prelude.{Option, Some, None, Result, Ok, Err, nat_le, codes}
use Rattle.std.specs.Fmt.{decimal}
use Rattle.packing_terms.specs.Packing.{PlainInstance, dims}
use Rattle.packing_terms.specs.Results.{◌>>=◌}
use Rattle.text_terms.specs.Lines.{Line, text_lines, line_of, same_bytes}
use Rattle.text_terms.specs.Texts.{Parts, no_parts, add_line, at_end, first_word}
use Rattle.text_terms.specs.Spelling.{spaced}
use Rattle.verdict_terms.specs.declared.check_answers.PlaceVerdict.TheVariants.{Good, Outside, Overlap}
use Rattle.text_terms.specs.TokenLines.{token_of}
use Rattle.verdict_terms.specs.declared.reason.Reason.{Reason}
use Rattle.verdict_terms.specs.declared.reason.Reason.TheVariants.{Token, OutsideAt, OverlapAt, TooShort}
use Rattle.verdict_terms.specs.Reasons.{form, range, after, reason_words}
use Rattle.verdict_terms.specs.Numbers.{require, wanted, numbers_line, are_coordinates}
use Rattle.verdict_terms.specs.Documents.{Refusal, document_at_line}
use Rattle.verdict_terms.specs.Stages.{is_word, text_fault, end_of_parts, is_result, rest_of, is_blank}
use Rattle.packing_terms.specs.Tokens.{PlainToken}
use Rattle.verdict_terms.specs.declared.front_answers.FrontReason.{FrontReason}
use Rattle.verdict_terms.specs.declared.front_answers.FrontReason.TheVariants.{Tree, Places}
use Rattle.verdict_terms.specs.Lines.{PlainLine, CornerAt, PointAt, PlaceAt, TreeToken, FrontPart, Cornered}
use Rattle.verdict_terms.specs.Lines.{Placing, FrontStage, front_line, is_whole_front, announced}

-- the greatest number of points that a result line announces
abbrev pub most_points : ℕ
most_points = 1000000

-- what is claimed: all points, or those up to the last, and how many
pub record FrontClaim : Type 0 where
  pub complete : Bool
  pub points : ℕ

-- Where a document stands.
--   Opening          nothing is read
--   Reading          the parts of the instance so far
--   Fronting         behind the result line
--   Ended            behind `end`
pub data DocumentStage : Type 0 where
  Opening : DocumentStage
  Reading : (parts : Parts) → DocumentStage
  Fronting : (instance : PlainInstance) (claim : FrontClaim) (stage : FrontStage) → DocumentStage
  Ended : (instance : PlainInstance) (claim : FrontClaim) → DocumentStage

-- what is read of a document: its instance, and its claim
pub record FrontRead : Type 0 where
  pub instance : PlainInstance
  pub claim : FrontClaim

-- the result line: the instance first, which has two dimensions, then the form, then the range
abbrev pub claim_by : Bool → List ℕ → Result FrontClaim Reason
claim_by complete word = wanted word
    >>= λ n. require (nat_le n most_points) range (Ok (record { complete = complete; points = n }))

abbrev pub front_claim : List (List ℕ) → Result FrontClaim Reason
front_claim (key ∷ word ∷ []) =
    cond (same_bytes key (codes "front")) (claim_by true word)
    (cond (same_bytes key (codes "partial")) (claim_by false word) (Err form))
front_claim _ = Err form

abbrev pub front_result_line : Parts → List (List ℕ) → Result DocumentStage Reason
front_result_line parts words =
    end_of_parts (at_end parts 0) >>= λ instance. require (dims instance == 2) form (front_claim words >>= λ claim.
    Ok (Fronting instance claim (announced claim.points)))

-- a line of a front, by its words; one that is none of these has no form anywhere
abbrev pub two_by : Result (List ℕ) Reason → (ℕ → ℕ → PlainLine) → Option PlainLine
two_by (Ok (x ∷ y ∷ [])) f = Some (f x y)
two_by _ f = None

abbrev pub token_by : Option PlainToken → Option PlainLine
token_by (Some t) = Some (TreeToken t)
token_by None = None

abbrev pub line_named : List (List ℕ) → Option PlainLine
line_named words =
    cond (same_bytes (first_word words) (codes "corner")) (two_by (numbers_line (codes "corner") 2 words) CornerAt) (
    cond (same_bytes (first_word words) (codes "point")) (two_by (numbers_line (codes "point") 2 words) PointAt) (
    cond (same_bytes (first_word words) (codes "place"))
    (two_by (numbers_line (codes "place") 2 words) (λ x y. PlaceAt (x ∷ y ∷ []))) (
    token_by (token_of 2 words))))

-- coordinates are in range, where places are wanted
abbrev pub placed_in_range : FrontPart → PlainLine → Bool
placed_in_range (Placing width height places) (PlaceAt xs) = are_coordinates xs
placed_in_range part line = true

-- a reason as a document states it
abbrev pub told_reason : FrontReason → Reason
told_reason (Tree code) = Token code
told_reason (Places (Outside v i)) = OutsideAt (suc v) (suc i)
told_reason (Places (Overlap u v)) = OverlapAt (suc u) (suc v)
told_reason (Places Good) = form

abbrev pub told : {A : Type 0} → Result A FrontReason → Result A Reason
told (Ok x) = Ok x
told (Err reason) = Err (told_reason reason)

abbrev pub named_line : PlainInstance → FrontClaim → FrontStage → Option PlainLine → Result DocumentStage Reason
named_line instance claim s None = Err form
named_line instance claim s (Some line) =
    require (placed_in_range s.part line) range
    (told (front_line instance claim.complete s line) >>= λ next. Ok (Fronting instance claim next))

-- `end` is too early where a line of a tree is wanted, and has no place where another line is
abbrev pub early_reason : FrontPart → Reason
early_reason (Cornered width height (n ∷ nodes)) = TooShort
early_reason part = form

abbrev pub fronting_line : PlainInstance → FrontClaim → FrontStage → List (List ℕ) → Result DocumentStage Reason
fronting_line instance claim s words =
    cond (is_word (codes "end") words)
    (require (is_whole_front claim.complete s) (early_reason s.part) (Ok (Ended instance claim)))
    (named_line instance claim s (line_named words))

-- a line behind `front`, up to the result line
abbrev pub front_reading_line : Bool → Parts → Line → Result DocumentStage Reason
front_reading_line true parts line = front_result_line parts (rest_of line.words)
front_reading_line false parts line = text_fault (add_line parts line) >>= λ more. Ok (Reading more)

-- a line that isn't blank
abbrev pub front_filled_line : DocumentStage → Line → Result DocumentStage Reason
front_filled_line Opening line =
    require (not line.bad && is_word (codes "front") line.words) form (Ok (Reading no_parts))
front_filled_line (Reading parts) line = front_reading_line (is_result line) parts line
front_filled_line (Fronting instance claim s) line =
    require (not line.bad) form (fronting_line instance claim s line.words)
front_filled_line (Ended instance claim) line = Err after

abbrev pub front_stage_after : DocumentStage → Line → Result DocumentStage Reason
front_stage_after stage line = elim (is_blank line) [ true ↦ Ok stage | false ↦ front_filled_line stage line ]

abbrev pub front_at_end : DocumentStage → ℕ → Result FrontRead Refusal
front_at_end (Ended instance claim) n = Ok (record { instance = instance; claim = claim })
front_at_end stage n = Err (record { line = n + 1; reason = TooShort })

-- the lines after the first n
abbrev pub read_front_lines : DocumentStage → ℕ → List (List ℕ) → Result FrontRead Refusal
read_front_lines stage n [] = front_at_end stage n
read_front_lines stage n (line ∷ lines) =
    document_at_line (n + 1) (front_stage_after stage (line_of line)) >>= λ next. read_front_lines next (n + 1) lines

-- the instance and the claim that is verified, or the first refusal
unfoldable pub front_document_verdict : List ℕ → Result FrontRead Refusal
front_document_verdict text = read_front_lines Opening 0 (text_lines text)

-- the words of the one line that is written
abbrev pub claim_words : Bool → ℕ → List (List ℕ)
claim_words true points = codes "front" ∷ decimal points ∷ []
claim_words false points = codes "front" ∷ codes "partial" ∷ decimal points ∷ []

abbrev pub front_verdict_words : Result FrontRead Refusal → List (List ℕ)
front_verdict_words (Ok r) = codes "verified" ∷ claim_words r.claim.complete r.claim.points
front_verdict_words (Err refusal) = codes "refused" ∷ decimal refusal.line ∷ reason_words refusal.reason

-- the line, which a line feed ends
abbrev pub front_verdict_line : Result FrontRead Refusal → List ℕ
front_verdict_line verdict = spaced (front_verdict_words verdict) ++ 10 ∷ []

-- verified has status 0, refused has status 1
abbrev pub front_verdict_status : Result FrontRead Refusal → ℕ
front_verdict_status (Ok r) = 0
front_verdict_status (Err refusal) = 1
