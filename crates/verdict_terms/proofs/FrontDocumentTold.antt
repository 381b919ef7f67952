-- A line that is cut to 12 words of 21 bytes is taken as the line itself; so the lines that a lexer
-- gives for a text give its verdict.
use Rattle.std.proofs.Common.{◌≡◌, ℕ, ◌+◌, refl, ap, ap₂, ◌∙◌, arith, Bool, true, false, cond, not, ◌&&◌, List, [], ◌∷◌}
use Rattle.std.proofs.Common.{take, Option, Some, None, Result, Ok, Err, codes}
use Rattle.packing_terms.specs.Packing.{PlainInstance, dims}
use Rattle.packing_terms.specs.Results.{◌>>=◌}
use Rattle.packing_terms.specs.Tokens.{PlainToken}
use Rattle.std.specs.Prelude.{◌==◌}
use Rattle.text_terms.specs.Lines.{Line, line_of, text_lines, cut_line, cut_words, same_bytes}
use Rattle.text_terms.specs.Texts.{Parts, no_parts, add_line, at_end as end_of, refuse, IsWithinLimits}
use Rattle.text_terms.specs.Feeding.{numbered_lines}
use Rattle.text_terms.proofs.Cut.{same_front, number_front, words_cut}
use Rattle.text_terms.proofs.Good.{good_start, line_good}
use Rattle.text_terms.proofs.LinesFed.{texts_are_lines}
use Rattle.text_terms.specs.TokenLines.{token_of}
use Rattle.text_terms.proofs.Cuts.{cut_rest, token_cut}
use Rattle.verdict_terms.specs.declared.reason.Reason.{Reason}
use Rattle.verdict_terms.specs.Reasons.{form, range}
use Rattle.verdict_terms.specs.Numbers.{require, numbers_line}
use Rattle.verdict_terms.specs.Documents.{document_at_line}
use Rattle.verdict_terms.specs.Stages.{is_word, text_fault, end_of_parts, is_result, rest_of, is_blank}
use Rattle.verdict_terms.proofs.Cuts.{numbers_cut, is_word_cut}
use Rattle.verdict_terms.specs.Lines.{PlainLine, CornerAt, PointAt, PlaceAt, FrontStage, front_line, is_whole_front}
use Rattle.verdict_terms.specs.Lines.{announced}
use Rattle.verdict_terms.specs.FrontDocumentVerdicts.{FrontClaim, DocumentStage, Opening, Reading, Fronting, Ended}
use Rattle.verdict_terms.specs.FrontDocumentVerdicts.{front_claim, two_by, token_by, line_named, placed_in_range, told}
use Rattle.verdict_terms.specs.FrontDocumentVerdicts.{early_reason, named_line, fronting_line, front_reading_line}
use Rattle.verdict_terms.specs.FrontDocumentVerdicts.{front_filled_line, front_stage_after, front_document_verdict}
use Rattle.verdict_terms.specs.FrontDocumentVerdicts.{read_front_lines}
use Rattle.verdict_terms.specs.FrontDocumentFed.{told_front_verdict, FrontsAreFed}

-- ---- the words

claim_cut : (words : List (List ℕ)) → front_claim (cut_rest words) ≡ front_claim words
claim_cut [] = refl
claim_cut (key ∷ []) = refl
claim_cut (key ∷ word ∷ []) =
    rw (
      same_front 21 key (codes "front") (omega arith),
      same_front 21 key (codes "partial") (omega arith),
      number_front word,
    ) refl
claim_cut (key ∷ word ∷ third ∷ words) = refl

abbrev line_by : Bool → Bool → Bool → (c p q : Result (List ℕ) Reason) → Option PlainToken → Option PlainLine
line_by corner point place c p q t =
    cond corner (two_by c CornerAt)
    (cond point (two_by p PointAt) (cond place (two_by q (λ x y. PlaceAt (x ∷ y ∷ []))) (token_by t)))

module _ (w : List ℕ) (ws : List (List ℕ)) where
  abbrev cut : List (List ℕ)
  cut = take 21 w ∷ cut_rest ws

  abbrev is_corner : Bool
  is_corner = same_bytes w (codes "corner")

  abbrev is_point : Bool
  is_point = same_bytes w (codes "point")

  abbrev is_place : Bool
  is_place = same_bytes w (codes "place")

  abbrev corner : Result (List ℕ) Reason
  corner = numbers_line (codes "corner") 2 (w ∷ ws)

  abbrev point : Result (List ℕ) Reason
  point = numbers_line (codes "point") 2 (w ∷ ws)

  abbrev place : Result (List ℕ) Reason
  place = numbers_line (codes "place") 2 (w ∷ ws)

  named_cut : line_named (take 21 w ∷ cut_rest ws) ≡ line_named (w ∷ ws)
  named_cut =
      ap (λ b. line_by b (same_bytes (take 21 w) (codes "point")) (same_bytes (take 21 w) (codes "place"))
      (numbers_line (codes "corner") 2 cut) (numbers_line (codes "point") 2 cut)
      (numbers_line (codes "place") 2 cut) (token_of 2 cut)) (same_front 21 w (codes "corner") (omega arith))
      ∙ ap (λ b. line_by is_corner b (same_bytes (take 21 w) (codes "place")) (numbers_line (codes "corner") 2 cut)
      (numbers_line (codes "point") 2 cut) (numbers_line (codes "place") 2 cut) (token_of 2 cut))
      (same_front 21 w (codes "point") (omega arith))
      ∙ ap (λ b. line_by is_corner is_point b (numbers_line (codes "corner") 2 cut) (numbers_line (codes "point") 2 cut)
      (numbers_line (codes "place") 2 cut) (token_of 2 cut)) (same_front 21 w (codes "place") (omega arith))
      ∙ ap (λ r. line_by is_corner is_point is_place r (numbers_line (codes "point") 2 cut)
      (numbers_line (codes "place") 2 cut) (token_of 2 cut))
      (numbers_cut (codes "corner") 2 w ws (omega arith) (omega arith))
      ∙ ap (λ r. line_by is_corner is_point is_place corner r (numbers_line (codes "place") 2 cut) (token_of 2 cut))
      (numbers_cut (codes "point") 2 w ws (omega arith) (omega arith))
      ∙ ap (λ r. line_by is_corner is_point is_place corner point r (token_of 2 cut))
      (numbers_cut (codes "place") 2 w ws (omega arith) (omega arith))
      ∙ ap (λ t. line_by is_corner is_point is_place corner point place t) (token_cut 2 w ws (omega arith))

fronting_cut : (instance : PlainInstance) (claim : FrontClaim) (s : FrontStage) (w : List ℕ) (ws : List (List ℕ))
    → fronting_line instance claim s (cut_words (w ∷ ws)) ≡ fronting_line instance claim s (w ∷ ws)
fronting_cut instance claim s w ws =
    ap₂ (λ b o. cond b (require (is_whole_front claim.complete s) (early_reason s.part) (Ok (Ended instance claim)))
    (named_line instance claim s o)) (is_word_cut (codes "end") w ws (omega arith))
    (named_cut w ws)

-- ---- the stages

-- the parts of an instance are within their limits
abbrev IsWell : DocumentStage → Type 0
IsWell Opening = Unit {0}
IsWell (Reading parts) = IsWithinLimits parts
IsWell (Fronting instance claim s) = Unit {0}
IsWell (Ended instance claim) = Unit {0}

reading_told : (parts : Parts) (w : List ℕ) (ws : List (List ℕ)) (n m : ℕ) → IsWithinLimits parts
    → front_filled_line (Reading parts) (record { bad = false; count = n; words = cut_words (w ∷ ws) })
    ≡ front_filled_line (Reading parts) (record { bad = false; count = m; words = w ∷ ws })
reading_told parts w ws n m well =
    ap (λ b. front_reading_line b parts (record { bad = false; count = n; words = cut_words (w ∷ ws) }))
    (same_front 21 w (codes "result") (omega arith)) ∙ go (same_bytes w (codes "result"))
  where
    go : (b : Bool) → front_reading_line b parts (record { bad = false; count = n; words = cut_words (w ∷ ws) })
        ≡ front_reading_line b parts (record { bad = false; count = m; words = w ∷ ws })
    go true =
        ap (λ r. end_of_parts (end_of parts 0) >>= λ instance. require (dims instance == 2) form
        (r >>= λ claim. Ok (Fronting instance claim (announced claim.points)))) (claim_cut ws)
    go false = ap (λ r. text_fault (refuse false 8 r) >>= λ more. Ok (Reading more)) (words_cut parts (w ∷ ws) well.few)

filled_told : (stage : DocumentStage) (bad : Bool) (w : List ℕ) (ws : List (List ℕ)) (n m : ℕ) → IsWell stage
    → front_filled_line stage (record { bad = bad; count = n; words = cut_words (w ∷ ws) })
    ≡ front_filled_line stage (record { bad = bad; count = m; words = w ∷ ws })
filled_told Opening bad w ws n m well =
    ap (λ b. require (not bad && b) form (Ok (Reading no_parts))) (is_word_cut (codes "front") w ws (omega arith))
filled_told (Reading parts) true w ws n m well = refl
filled_told (Reading parts) false w ws n m well = reading_told parts w ws n m well
filled_told (Fronting instance claim s) bad w ws n m well =
    ap (require (not bad) form) (fronting_cut instance claim s w ws)
filled_told (Ended instance claim) bad w ws n m well = refl

line_told : (stage : DocumentStage) (bad : Bool) (words : List (List ℕ)) (n m : ℕ) → IsWell stage
    → front_stage_after stage (record { bad = bad; count = n; words = cut_words words })
    ≡ front_stage_after stage (record { bad = bad; count = m; words = words })
line_told stage true [] n m well = bad_same stage
  where
    bad_same : (s : DocumentStage) → front_filled_line s (record { bad = true; count = n; words = [] })
        ≡ front_filled_line s (record { bad = true; count = m; words = [] })
    bad_same Opening = refl
    bad_same (Reading parts) = refl
    bad_same (Fronting instance claim part) = refl
    bad_same (Ended instance claim) = refl
line_told stage false [] n m well = refl
line_told stage true (w ∷ ws) n m well = filled_told stage true w ws n m well
line_told stage false (w ∷ ws) n m well = filled_told stage false w ws n m well

-- ---- what a line leaves is well

abbrev GivesWell : Result DocumentStage Reason → Type 0
GivesWell (Ok next) = IsWell next
GivesWell (Err reason) = Unit {0}

required_well : (b : Bool) (reason : Reason) (r : Result DocumentStage Reason) → GivesWell r
    → GivesWell (require b reason r)
required_well true reason r well = well
required_well false reason r well = tt

bound_well : {A : Type 0} (r : Result A Reason) (f : A → Result DocumentStage Reason) → ((x : A) → GivesWell (f x))
    → GivesWell (r >>= f)
bound_well (Ok x) f well = well x
bound_well (Err reason) f well = tt

text_well : (parts : Parts) (line : Line) (r : Result Parts ℕ) → add_line parts line ≡ r → IsWithinLimits parts
    → GivesWell (text_fault r >>= λ more. Ok (Reading more))
text_well parts line (Ok more) e well = line_good parts more line well e
text_well parts line (Err code) e well = tt

reading_well : (b : Bool) (parts : Parts) (line : Line) → IsWithinLimits parts
    → GivesWell (front_reading_line b parts line)
reading_well true parts line well =
    bound_well (end_of_parts (end_of parts 0))
    (λ instance. require (dims instance == 2) form
    (front_claim (rest_of line.words) >>= λ claim. Ok (Fronting instance claim (announced claim.points))))
    (λ instance. required_well (dims instance == 2) form
    (front_claim (rest_of line.words) >>= λ claim. Ok (Fronting instance claim (announced claim.points)))
    (bound_well (front_claim (rest_of line.words)) (λ claim. Ok (Fronting instance claim (announced claim.points)))
    (λ claim. tt)))
reading_well false parts line well = text_well parts line (add_line parts line) refl well

named_well : (instance : PlainInstance) (claim : FrontClaim) (s : FrontStage) (o : Option PlainLine)
    → GivesWell (named_line instance claim s o)
named_well instance claim s None = tt
named_well instance claim s (Some line) =
    required_well (placed_in_range s.part line) range
    (told (front_line instance claim.complete s line) >>= λ next. Ok (Fronting instance claim next))
    (bound_well (told (front_line instance claim.complete s line)) (λ next. Ok (Fronting instance claim next))
    (λ next. tt))

fronting_well : (instance : PlainInstance) (claim : FrontClaim) (s : FrontStage) (b : Bool) (o : Option PlainLine)
    → GivesWell (cond b (require (is_whole_front claim.complete s) (early_reason s.part) (Ok (Ended instance claim)))
    (named_line instance claim s o))
fronting_well instance claim s true o =
    required_well (is_whole_front claim.complete s) (early_reason s.part) (Ok (Ended instance claim)) tt
fronting_well instance claim s false o = named_well instance claim s o

filled_well : (stage : DocumentStage) (line : Line) → IsWell stage → GivesWell (front_filled_line stage line)
filled_well Opening line well =
    required_well (not line.bad && is_word (codes "front") line.words) form (Ok (Reading no_parts)) good_start
filled_well (Reading parts) line well = reading_well (is_result line) parts line well
filled_well (Fronting instance claim s) line well =
    required_well (not line.bad) form (fronting_line instance claim s line.words)
    (fronting_well instance claim s (is_word (codes "end") line.words) (line_named line.words))
filled_well (Ended instance claim) line well = tt

stage_well : (stage : DocumentStage) (line : Line) → IsWell stage → GivesWell (front_stage_after stage line)
stage_well stage line well = go (is_blank line)
  where
    go : (b : Bool) → GivesWell (elim b [ true ↦ Ok stage | false ↦ front_filled_line stage line ])
    go true = well
    go false = filled_well stage line well

-- ---- all lines

told_is_read : (stage : DocumentStage) (n : ℕ) (lines : List (List ℕ)) → IsWell stage
    → told_front_verdict stage n (numbered_lines n lines) ≡ read_front_lines stage n lines
told_is_read stage n [] well = refl
told_is_read stage n (line ∷ lines) well =
    ap (λ r. document_at_line (n + 1) r >>= λ next. told_front_verdict next (n + 1) (numbered_lines (n + 1) lines))
    (line_told stage (line_of line).bad (line_of line).words (cut_line (line_of line)).count (line_of line).count well)
    ∙ go (front_stage_after stage (line_of line)) (stage_well stage (line_of line) well)
    (λ next h. told_is_read next (n + 1) lines h)
  where
    go : (r : Result DocumentStage Reason) → GivesWell r
        → ((next : DocumentStage) → IsWell next → told_front_verdict next (n + 1) (numbered_lines (n + 1) lines)
        ≡ read_front_lines next (n + 1) lines)
        → (document_at_line (n + 1) r >>= λ next. told_front_verdict next (n + 1) (numbered_lines (n + 1) lines))
        ≡ (document_at_line (n + 1) r >>= λ next. read_front_lines next (n + 1) lines)
    go (Ok next) h later = later next h
    go (Err reason) h later = refl

pub fronts_are_fed : FrontsAreFed
unfolding front_document_verdict
fronts_are_fed text = ap (told_front_verdict Opening 0) (texts_are_lines text)
    ∙ told_is_read Opening 0 (text_lines text) tt
