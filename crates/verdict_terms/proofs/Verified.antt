-- What is verified of a document of a front is true of its instance.
use Rattle.std.proofs.Common.{◌≡◌, ℕ, ◌+◌, refl, sym, subst, Bool, true, false, cond, not, ◌&&◌, List, []}
use Rattle.std.proofs.Common.{◌∷◌, ◌++◌, ap, ◌∙◌, Option, Some, None, Result, Ok, Err}
use Rattle.std.specs.Prelude.{◌==◌, codes}
use Rattle.std.proofs.lemmas.Bool.{eqb-true, and_parts}
use Rattle.packing_terms.specs.Packing.{PlainInstance, dims}
use Rattle.packing_terms.specs.Limits.{IsInstance}
use Rattle.packing_terms.specs.Results.{◌>>=◌}
use Rattle.packing_terms.proofs.Internal.{written_internal}
use Rattle.text_terms.specs.declared.fault.TextFault.{TextFault}
use Rattle.text_terms.specs.Lines.{Line, text_lines, line_of}
use Rattle.text_terms.specs.Texts.{Parts, no_parts, add_line, at_end, IsWithinLimits}
use Rattle.text_terms.proofs.Good.{good_start, line_good, parts_limits}
use Rattle.verdict_terms.specs.declared.reason.Reason.{Reason}
use Rattle.verdict_terms.specs.Reasons.{form}
use Rattle.verdict_terms.specs.Numbers.{require}
use Rattle.verdict_terms.specs.Documents.{document_at_line}
use Rattle.verdict_terms.specs.Stages.{is_word, text_fault, end_of_parts, is_result, rest_of, is_blank}
use Rattle.verdict_terms.specs.declared.front_answers.FrontReason.{FrontReason}
use Rattle.verdict_terms.specs.Lines.{PlainLine, FrontStage, front_line, is_whole_front, announced}
use Rattle.verdict_terms.specs.Verdicts.{points_named}
use Rattle.verdict_terms.proofs.Good.{AreGood, good_verdict}
use Rattle.verdict_terms.proofs.FrontJudged.{good_lines_are_true}
use Rattle.verdict_terms.specs.FrontDocumentVerdicts.{FrontClaim, FrontRead, DocumentStage, Opening, Reading, Fronting, Ended}
use Rattle.verdict_terms.specs.FrontDocumentVerdicts.{front_claim, front_result_line, line_named, told}
use Rattle.verdict_terms.specs.FrontDocumentVerdicts.{named_line, early_reason, front_reading_line}
use Rattle.verdict_terms.specs.FrontDocumentVerdicts.{front_filled_line, front_stage_after, read_front_lines}
use Rattle.verdict_terms.specs.FrontDocumentVerdicts.{front_document_verdict}
use Rattle.verdict_terms.specs.Points.{point_of_words, points_of_lines}
use Rattle.verdict_terms.specs.FrontDocumentLaws.{IsTrueFrontOf, VerifiedFrontsAreTrue}
use Rattle.verdict_terms.proofs.Points.{blank_words, one_word, result_words, added_words, line_names}

-- a test that is required held
pub required : {A : Type 0} (b : Bool) (reason : Reason) (r : Result A Reason) (x : A) → require b reason r ≡ Ok x
    → (b ≡ true) × (r ≡ Ok x)
required true reason r x e = (refl, e)
required false reason r x e = absurd (cc (e))

pub bound : {A B E : Type 0} (r : Result A E) (f : A → Result B E) (y : B) → (r >>= f) ≡ Ok y
    → (x : A) × (r ≡ Ok x) × (f x ≡ Ok y)
bound (Ok x) f y e = (x, refl, e)
bound (Err z) f y e = absurd (cc (e))

-- a line is taken, and the rest is read from there
pub record IsTaken (stage : DocumentStage) (n : ℕ) (line : List ℕ) (lines : List (List ℕ)) (r : FrontRead) :
    Type 0 where
  pub next : DocumentStage
  pub step : front_stage_after stage (line_of line) ≡ Ok next
  pub rest : read_front_lines next (n + 1) lines ≡ Ok r

pub taken : (stage : DocumentStage) (n : ℕ) (line : List ℕ) (lines : List (List ℕ)) (r : FrontRead)
    → read_front_lines stage n (line ∷ lines) ≡ Ok r → IsTaken stage n line lines r
taken stage n line lines r e = go (front_stage_after stage (line_of line)) refl e
  where
    go : (o : Result DocumentStage Reason) → front_stage_after stage (line_of line) ≡ o
        → (document_at_line (n + 1) o >>= λ next. read_front_lines next (n + 1) lines) ≡ Ok r
        → IsTaken stage n line lines r
    go (Ok next) is k = record { next = next; step = is; rest = k }
    go (Err reason) is k = absurd (cc (k))

-- a line is blank and skipped, or filled
filled : (stage next : DocumentStage) (line : Line) → front_stage_after stage line ≡ Ok next → (P : Type 0)
    → (stage ≡ next → point_of_words line.words ≡ [] → P) → (front_filled_line stage line ≡ Ok next → P) → P
filled stage next line e P skip take = go (is_blank line) refl e
  where
    go : (b : Bool) → is_blank line ≡ b → ◌≡◌ {A = Result DocumentStage Reason}
        (elim b [ true ↦ Ok stage | false ↦ front_filled_line stage line ]) (Ok next) → P
    go true is k = skip (cc (k)) (blank_words line is)
    go false is k = take k

-- what holds of the points of the lines behind a line that names none holds of those from it on
passed : (P : List (ℕ × ℕ) → Type 0) (words : List (List ℕ)) (points : List (ℕ × ℕ)) → point_of_words words ≡ []
    → P points → P (point_of_words words ++ points)
passed P words points none h = subst (λ (m : List (ℕ × ℕ)). P (m ++ points)) (sym none) h

module _ (instance : PlainInstance) (claim : FrontClaim) where
  -- behind `end` nothing changes, and no point is named
  abbrev IsEndRead : FrontRead → List (ℕ × ℕ) → Type 0
  IsEndRead r points = (record { instance = instance; claim = claim } ≡ r) × (points ≡ [])

  ended_read : (lines : List (List ℕ)) (n : ℕ) (r : FrontRead) → read_front_lines (Ended instance claim) n lines ≡ Ok r
      → IsEndRead r (points_of_lines lines)
  ended_read [] n r e = (cc (e), refl)
  ended_read (line ∷ lines) n r e =
      let t = taken (Ended instance claim) n line lines r e in
      filled (Ended instance claim) t.next (line_of line) t.step (IsEndRead r (points_of_lines (line ∷ lines)))
      (λ same none. passed (IsEndRead r) (line_of line).words (points_of_lines lines) none (ended_read lines (n + 1) r
      (subst (λ (s : DocumentStage). read_front_lines s (n + 1) lines ≡ Ok r) (sym same) t.rest)))
      (λ k. absurd (cc (k)))

  -- the lines of the front that are read, which name these points, and what is read
  pub record IsFrontRead (s : FrontStage) (r : FrontRead) (points : List (ℕ × ℕ)) : Type 0 where
    pub lines : List PlainLine
    pub good : AreGood instance claim.complete s lines
    pub named : points_named lines ≡ points
    pub are : record { instance = instance; claim = claim } ≡ r

  named_read : (s : FrontStage) (words : List (List ℕ)) (points : List (ℕ × ℕ)) (next : DocumentStage) (r : FrontRead)
      → named_line instance claim s (line_named words) ≡ Ok next
      → ((more : FrontStage) → Fronting instance claim more ≡ next → IsFrontRead more r points)
      → IsFrontRead s r (point_of_words words ++ points)
  named_read s words points next r e later = by_line (line_named words) refl e
    where
      by_line : (o : Option PlainLine) → line_named words ≡ o → named_line instance claim s o ≡ Ok next
          → IsFrontRead s r (point_of_words words ++ points)
      by_line None is k = absurd (cc (k))
      by_line (Some line) is k = go (front_line instance claim.complete s line) refl ((required _ _ _ _ k).1)
        where
          go : (o : Result FrontStage FrontReason) → front_line instance claim.complete s line ≡ o
              → (told o >>= λ more. Ok (Fronting instance claim more)) ≡ Ok next
              → IsFrontRead s r (point_of_words words ++ points)
          go (Ok more) step f =
              let read = later more (cc (f)) in
              record {
                lines = line ∷ read.lines;
                good = (more, step, read.good);
                named = line_names words line read.lines is
                    ∙ ap (λ (m : List (ℕ × ℕ)). point_of_words words ++ m) read.named;
                are = read.are;
              }
          go (Err reason) step f = absurd (cc (f))

  fronting_read : (lines : List (List ℕ)) (n : ℕ) (s : FrontStage) (r : FrontRead)
      → read_front_lines (Fronting instance claim s) n lines ≡ Ok r → IsFrontRead s r (points_of_lines lines)
  fronting_read [] n s r e = absurd (cc (e))
  fronting_read (line ∷ lines) n s r e =
      let t = taken (Fronting instance claim s) n line lines r e in
      filled (Fronting instance claim s) t.next (line_of line) t.step (IsFrontRead s r (points_of_lines (line ∷ lines)))
      (λ same none. passed (IsFrontRead s r) (line_of line).words (points_of_lines lines) none
      (fronting_read lines (n + 1) s r
      (subst (λ (x : DocumentStage). read_front_lines x (n + 1) lines ≡ Ok r) (sym same) t.rest)))
      (λ k. by_words t.next t.rest (is_word (codes "end") (line_of line).words) refl ((required _ _ _ _ k).1)
      (λ more h. fronting_read lines (n + 1) more r h))
    where
      by_words : (next : DocumentStage) → read_front_lines next (n + 1) lines ≡ Ok r
          → (b : Bool) → is_word (codes "end") (line_of line).words ≡ b
          → cond b (require (is_whole_front claim.complete s) (early_reason s.part) (Ok (Ended instance claim)))
          (named_line instance claim s (line_named (line_of line).words)) ≡ Ok next
          → ((more : FrontStage) → read_front_lines (Fronting instance claim more) (n + 1) lines ≡ Ok r
          → IsFrontRead more r (points_of_lines lines)) → IsFrontRead s r (points_of_lines (line ∷ lines))
      by_words next rest true is k later =
          let q = required _ _ _ _ k in
          let same : Ended instance claim ≡ next = cc (q.1) in
          let end = ended_read lines (n + 1) r
          (subst (λ (x : DocumentStage). read_front_lines x (n + 1) lines ≡ Ok r) (sym same) rest) in
          passed (IsFrontRead s r) (line_of line).words (points_of_lines lines)
          (one_word (codes "end") (line_of line).words is)
          (record { lines = []; good = q.0; named = sym end.1; are = end.0 })
      by_words next rest false is k later =
          named_read s (line_of line).words (points_of_lines lines) next r k
          (λ more same. later more (subst (λ (x : DocumentStage). read_front_lines x (n + 1) lines ≡ Ok r)
          (sym same) rest))

-- what is read is true of these points
abbrev IsTrueRead : FrontRead → List (ℕ × ℕ) → Type 0
IsTrueRead r points = IsInstance r.instance × (dims r.instance ≡ 2) × IsTrueFrontOf r.instance r.claim points

front_true : (instance : PlainInstance) (claim : FrontClaim) (r : FrontRead) (points : List (ℕ × ℕ))
    → IsInstance instance → dims instance ≡ 2
    → IsFrontRead instance claim (announced claim.points) r points → IsTrueRead r points
front_true instance claim r points limits plane read =
    let good = good_lines_are_true instance claim.complete claim.points read.lines (written_internal instance limits)
    plane (good_verdict instance claim.complete claim.points read.lines read.good) in
    subst (λ (x : FrontRead). IsTrueRead x points) read.are
    (subst (λ (m : List (ℕ × ℕ)). IsTrueRead (record { instance = instance; claim = claim }) m) read.named
    (limits, plane, record { count = good.count; claimed = good.claim }))

end_instance : (e : Result PlainInstance TextFault) (i : PlainInstance) → end_of_parts e ≡ Ok i → e ≡ Ok i
end_instance (Ok j) i k = cc (k)
end_instance (Err fault) i k = absurd (cc (k))

result_read : (parts : Parts) (words : List (List ℕ)) (next : DocumentStage) (lines : List (List ℕ)) (n : ℕ)
    (r : FrontRead) → IsWithinLimits parts → front_result_line parts words ≡ Ok next
    → read_front_lines next n lines ≡ Ok r → IsTrueRead r (points_of_lines lines)
result_read parts words next lines n r good e rest =
    let i = bound (end_of_parts (at_end parts 0))
    (λ instance. require (dims instance == 2) form
    (front_claim words >>= λ claim. Ok (Fronting instance claim (announced claim.points)))) next e in
    let q = required (dims i.0 == 2) form
    (front_claim words >>= λ claim. Ok (Fronting i.0 claim (announced claim.points))) next i.2 in
    let k = bound (front_claim words) (λ claim. Ok (Fronting i.0 claim (announced claim.points))) next q.1 in
    let same : Fronting i.0 k.0 (announced k.0.points) ≡ next = cc (k.2) in
    front_true i.0 k.0 r (points_of_lines lines)
    (parts_limits parts i.0 0 good (end_instance (at_end parts 0) i.0 i.1)) (eqb-true _ _ q.0)
    (fronting_read i.0 k.0 lines n (announced k.0.points) r
    (subst (λ (s : DocumentStage). read_front_lines s n lines ≡ Ok r) (sym same) rest))

line_taken : (parts : Parts) (line : Line) (next : DocumentStage) (r : Result Parts ℕ) → add_line parts line ≡ r
    → (text_fault r >>= λ more. Ok (Reading more)) ≡ Ok next
    → (more : Parts) × (add_line parts line ≡ Ok more) × (Reading more ≡ next)
line_taken parts line next (Ok more) is k = (more, is, cc (k))
line_taken parts line next (Err code) is k = absurd (cc (k))

reading_read : (lines : List (List ℕ)) (n : ℕ) (parts : Parts) (r : FrontRead) → IsWithinLimits parts
    → read_front_lines (Reading parts) n lines ≡ Ok r → IsTrueRead r (points_of_lines lines)
reading_read [] n parts r good e = absurd (cc (e))
reading_read (line ∷ lines) n parts r good e =
    let t = taken (Reading parts) n line lines r e in
    filled (Reading parts) t.next (line_of line) t.step (IsTrueRead r (points_of_lines (line ∷ lines)))
    (λ same none. passed (IsTrueRead r) (line_of line).words (points_of_lines lines) none
    (reading_read lines (n + 1) parts r good
    (subst (λ (x : DocumentStage). read_front_lines x (n + 1) lines ≡ Ok r) (sym same) t.rest)))
    (λ k. by_kind t.next t.rest (is_result (line_of line)) refl k
    (λ more h m. reading_read lines (n + 1) more r h m))
  where
    by_kind : (next : DocumentStage) → read_front_lines next (n + 1) lines ≡ Ok r
        → (b : Bool) → is_result (line_of line) ≡ b
        → front_reading_line b parts (line_of line) ≡ Ok next
        → ((more : Parts) → IsWithinLimits more → read_front_lines (Reading more) (n + 1) lines ≡ Ok r
        → IsTrueRead r (points_of_lines lines))
        → IsTrueRead r (points_of_lines (line ∷ lines))
    by_kind next rest true is k later =
        passed (IsTrueRead r) (line_of line).words (points_of_lines lines) (result_words (line_of line) is)
        (result_read parts (rest_of (line_of line).words) next lines (n + 1) r good k rest)
    by_kind next rest false is k later =
        let m = line_taken parts (line_of line) next (add_line parts (line_of line)) refl k in
        passed (IsTrueRead r) (line_of line).words (points_of_lines lines)
        (added_words parts m.0 (line_of line) m.1)
        (later m.0 (line_good parts m.0 (line_of line) good m.1)
        (subst (λ (x : DocumentStage). read_front_lines x (n + 1) lines ≡ Ok r) (sym m.2) rest))

opening_read : (lines : List (List ℕ)) (n : ℕ) (r : FrontRead) → read_front_lines Opening n lines ≡ Ok r
    → IsTrueRead r (points_of_lines lines)
opening_read [] n r e = absurd (cc (e))
opening_read (line ∷ lines) n r e =
    let t = taken Opening n line lines r e in
    filled Opening t.next (line_of line) t.step (IsTrueRead r (points_of_lines (line ∷ lines)))
    (λ same none. passed (IsTrueRead r) (line_of line).words (points_of_lines lines) none (opening_read lines (n + 1) r
    (subst (λ (x : DocumentStage). read_front_lines x (n + 1) lines ≡ Ok r) (sym same) t.rest)))
    (λ k. (let q = required (not (line_of line).bad && is_word (codes "front") (line_of line).words) form
    (Ok (Reading no_parts)) t.next k in let same : Reading no_parts ≡ t.next = cc (q.1) in
    passed (IsTrueRead r) (line_of line).words (points_of_lines lines)
    (one_word (codes "front") (line_of line).words ((and_parts _ _ q.0).1))
    (reading_read lines (n + 1) no_parts r good_start
    (subst (λ (x : DocumentStage). read_front_lines x (n + 1) lines ≡ Ok r) (sym same) t.rest))))

pub verified_fronts_are_true : VerifiedFrontsAreTrue
unfolding front_document_verdict
verified_fronts_are_true text r e = opening_read (text_lines text) 0 r e
