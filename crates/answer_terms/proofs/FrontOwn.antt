-- The documents of walks are verified.
use Rattle.std.proofs.Common.{◌≡◌, ℕ, zero, suc, ◌+◌, ◌-◌, ◌*◌, ◌<◌, ◌≤◌, refl, sym, ap, subst, ◌∙◌, arith, Bool}
use Rattle.std.proofs.Common.{true, false, cond, codes, List, [], ◌∷◌, ◌++◌, map, length, Result, Ok, Err, get_or}
use Rattle.std.specs.Prelude.{◌==◌}
use Rattle.std.specs.List.{AllByRecursion}
use Rattle.std.specs.Fmt.{decimal}
use Rattle.std.proofs.lemmas.Bool.{eq-eqb, le-leb}
use Rattle.packing_terms.specs.Packing.{PlainInstance, dims, box_count, written_container}
use Rattle.packing_terms.specs.Limits.{IsInstance, IsInternalInstance}
use Rattle.packing_terms.specs.Results.{◌>>=◌}
use Rattle.packing_terms.specs.Tokens.{PlainToken}
use Rattle.packing_terms.proofs.Internal.{written_internal}
use Rattle.text_terms.specs.Lines.{text_lines, line_of, same_bytes}
use Rattle.text_terms.specs.Texts.{Parts, no_parts, add_line, at_end, at_line as on_line, is_none}
use Rattle.text_terms.specs.Texts.{read_lines as read_instance_lines, text_instance}
use Rattle.text_terms.specs.Spelling.{spaced, instance_words, instance_text}
use Rattle.text_terms.proofs.Spelled.{AreWords, AreLines, line_spaced, lines_spaced}
use Rattle.text_terms.proofs.Back.{read_back, word_decimal}
use Rattle.text_terms.proofs.Good.{bind_ok}
use Rattle.verdict_terms.specs.declared.reason.Reason.{Reason}
use Rattle.verdict_terms.specs.Documents.{document_at_line}
use Rattle.verdict_terms.specs.Stages.{is_blank, text_fault}
use Rattle.verdict_terms.proofs.FormGiven.{no_result}
use Rattle.verdict_terms.proofs.Taken.{is_same, bound, wanted_is}
use Rattle.verdict_terms.proofs.FormTold.{any_end}
use Rattle.verdict_terms.proofs.Passed.{ok_is}
use Rattle.answer_terms.proofs.Filled.{AreFilled, filled_append, filled_instance}
use Rattle.answer_terms.proofs.OwnWritten.{HaveLines, internal_bounded, refuted_written}
use Rattle.answer_terms.proofs.OwnAccepted.{decimal_number}
use Rattle.packing_terms.specs.Rising.{AreRising}
use Rattle.verdict_terms.specs.declared.front_answers.FrontReason.{FrontReason}
use Rattle.verdict_terms.specs.declared.front_answers.FrontVerdict.TheVariants.{Good, Short}
use Rattle.verdict_terms.specs.Fronts.{with_container, IsLeastSize, IsClaimed}
use Rattle.verdict_terms.specs.declared.kind.DocumentKind.{DocumentKind}
use Rattle.verdict_terms.specs.declared.kind.DocumentKind.TheVariants.{Front as FrontKind}
use Rattle.verdict_terms.specs.Kinds.{kind_of_line, kind_of_lines}
use Rattle.answer_terms.specs.FrontLaws.{OwnFrontsAreVerified, OwnFrontsAreFronts}
use Rattle.answer_terms.specs.Walks.{PlainCorner, PlainPoint, PlainFront, sizes, front_walk, size_answer}
use Rattle.verdict_terms.specs.Lines.{PlainLine, TreeToken, FrontStage, front_line}
use Rattle.verdict_terms.specs.Lines.{front_lines_after, at_line, is_whole_front, announced}
use Rattle.verdict_terms.specs.Verdicts.{verdict_by}
use Rattle.answer_terms.specs.WalkLines.{corner_lines, place_lines, point_lines, step_lines, lines_of, front_lines}
use Rattle.verdict_terms.proofs.Good.{AreGood}
use Rattle.verdict_terms.proofs.Sizes.{internal_size}
use Rattle.answer_terms.proofs.Decided.{highest_small, right_sizes, walks_are_good, walks_are_fronts}
use Rattle.answer_terms.specs.FrontTexts.{line_words, front_result, front_document, front_text}
use Rattle.verdict_terms.specs.FrontDocumentVerdicts.{FrontClaim, most_points, DocumentStage, Opening, Reading}
use Rattle.verdict_terms.specs.FrontDocumentVerdicts.{Fronting, Ended, front_claim}
use Rattle.verdict_terms.specs.FrontDocumentVerdicts.{front_reading_line, front_filled_line}
use Rattle.verdict_terms.specs.FrontDocumentVerdicts.{front_stage_after, read_front_lines, front_document_verdict}
use Rattle.answer_terms.proofs.FrontBacked.{all_append, IsBackedCorner, IsBackedPoint, front_backed}
use Rattle.answer_terms.proofs.FrontWritten.{IsWritten, words_plain, line_read, not_end, in_range}

-- a written line is taken by its words
read_line : (stage next : DocumentStage) (n : ℕ) (words : List (List ℕ)) (rest : List (List ℕ)) → AreWords words
    → is_none words ≡ false
    → front_filled_line stage (record { bad = false; count = length words; words = words }) ≡ Ok next
    → read_front_lines stage n (spaced words ∷ rest) ≡ read_front_lines next (n + 1) rest
read_line stage next n words rest plain some e =
    ap (λ (r : Result DocumentStage Reason). document_at_line (n + 1) r >>= λ s. read_front_lines s (n + 1) rest)
    (ap (front_stage_after stage) (line_spaced words plain) ∙ filled)
  where
    filled : front_stage_after stage (record { bad = false; count = length words; words = words }) ≡ Ok next
    filled = ap (λ (b : Bool). elim b as (λ x. Result DocumentStage Reason) [
      | true ↦ Ok stage
      | false ↦ front_filled_line stage
          (record { bad = false; count = length words; words = words })
    ]) some ∙ e

module _ (instance : PlainInstance) (claim : FrontClaim) where
  front_step : (s next : FrontStage) (line : PlainLine) → IsWritten line
      → front_line instance claim.complete s line ≡ Ok next
      → front_filled_line (Fronting instance claim s)
      (record { bad = false; count = length (line_words line); words = line_words line })
      ≡ Ok (Fronting instance claim next)
  front_step s next line written e = rw (not_end line, line_read line written, in_range s.part line written, e) refl

  lines_read : (lines : List PlainLine) (n : ℕ) (s : FrontStage) → AllByRecursion IsWritten lines
      → AreGood instance claim.complete s lines
      → read_front_lines (Fronting instance claim s) n (map spaced (map line_words lines ++ (codes "end" ∷ []) ∷ []))
      ≡ Ok (record { instance = instance; claim = claim })
  unfolding same_bytes
  lines_read [] n s written good =
      read_line (Fronting instance claim s) (Ended instance claim) n (codes "end" ∷ []) []
      (omega arith, refl, tt) refl ended
    where
      ended : front_filled_line (Fronting instance claim s)
          (record { bad = false; count = length (codes "end" ∷ []); words = codes "end" ∷ [] })
          ≡ Ok (Ended instance claim)
      ended = rw good refl
  lines_read (line ∷ lines) n s written (next, e, good) =
      let p = words_plain line written.0 in
      read_line (Fronting instance claim s) (Fronting instance claim next) n (line_words line)
      (map spaced (map line_words lines ++ (codes "end" ∷ []) ∷ [])) p.0 p.1 (front_step s next line written.0 e)
      ∙ lines_read lines (n + 1) next written.1 good

-- ---- the lines of the instance

-- the instance lines are read up to their last
pub record IsInstanceRead (parts : Parts) (n : ℕ) (lines rest : List (List ℕ)) (instance : PlainInstance) : Type 0 where
  pub line : ℕ
  pub last : Parts
  pub ended : at_end last 0 ≡ Ok instance
  pub same : read_front_lines (Reading parts) n (lines ++ rest) ≡ read_front_lines (Reading last) line rest

adds_ok : (k : ℕ) (r : Result Parts ℕ) (more : Parts) → on_line (k + 1) r ≡ Ok more → r ≡ Ok more
adds_ok k (Ok x) more e = ap Ok (ok_is x more e)
adds_ok k (Err code) more e = absurd (cc (e))

instance_read : (lines : List (List (List ℕ))) (parts : Parts) (n k : ℕ) (rest : List (List ℕ))
    (instance : PlainInstance) → AreFilled lines
    → read_instance_lines parts k (map spaced lines) ≡ Ok instance
    → IsInstanceRead parts n (map spaced lines) rest instance
instance_read [] parts n k rest instance filled e =
    record { line = n; last = parts; ended = any_end parts k 0 instance e; same = refl }
instance_read ([] ∷ lines) parts n k rest instance filled e = absurd (let h = filled.1 in cc (h))
instance_read ((w ∷ ws) ∷ lines) parts n k rest instance filled e =
    let b = bind_ok (on_line (k + 1) (add_line parts (line_of (spaced (w ∷ ws)))))
    (λ more. read_instance_lines more (k + 1) (map spaced lines)) instance e in
    let a : add_line parts (record { bad = false; count = length (w ∷ ws); words = w ∷ ws }) ≡ Ok b.0 =
    ap (add_line parts) (sym (line_spaced (w ∷ ws) filled.0))
    ∙ adds_ok k (add_line parts (line_of (spaced (w ∷ ws)))) b.0 b.1 in
    let r = instance_read lines b.0 (n + 1) (k + 1) rest instance filled.2 b.2 in
    record {
      line = r.line;
      last = r.last;
      ended = r.ended;
      same = read_line (Reading parts) (Reading b.0) n (w ∷ ws) (map spaced lines ++ rest) filled.0 refl
          (step b.0 a) ∙ r.same;
    }
  where
    step : (more : Parts) → add_line parts (record { bad = false; count = length (w ∷ ws); words = w ∷ ws }) ≡ Ok more
        → front_filled_line (Reading parts) (record { bad = false; count = length (w ∷ ws); words = w ∷ ws })
        ≡ Ok (Reading more)
    step more a =
        ap (λ b. front_reading_line b parts (record { bad = false; count = length (w ∷ ws); words = w ∷ ws }))
        (no_result parts (length (w ∷ ws)) w ws more a)
        ∙ bound (text_fault (add_line parts (record { bad = false; count = length (w ∷ ws); words = w ∷ ws }))) more
        (λ next. Ok (Reading next)) (ap text_fault a)

-- ---- the result line

claim_read : (complete : Bool) (points : ℕ) → points ≤ most_points
    → front_claim (front_result complete points) ≡ Ok (record { complete = complete; points = points })
unfolding same_bytes
claim_read true points l =
    let number = decimal_number 0 most_points points (omega arith) l (omega arith) in
    let w = wanted_is (decimal points) points number.number in
    let t = le-leb points most_points l in
    rw (w, t) refl
claim_read false points l =
    let number = decimal_number 0 most_points points (omega arith) l (omega arith) in
    let w = wanted_is (decimal points) points number.number in
    let t = le-leb points most_points l in
    rw (w, t) refl

result_read : (last : Parts) (instance : PlainInstance) (complete : Bool) (points : ℕ) → at_end last 0 ≡ Ok instance
    → dims instance ≡ 2 → points ≤ most_points
    → front_filled_line (Reading last)
    (record { bad = false; count = 3; words = codes "result" ∷ front_result complete points })
    ≡ Ok (Fronting instance (record { complete = complete; points = points }) (announced points))
result_read last instance complete points e plane l =
    ap (λ b. front_reading_line b last
    (record { bad = false; count = 3; words = codes "result" ∷ front_result complete points }))
    (is_same (codes "result"))
    ∙ (rw (e, eq-eqb (dims instance) 2 plane, claim_read complete points l) refl)

-- ---- the lines of the front are written

tokens_written : (tokens : List PlainToken) → HaveLines 2 tokens → AllByRecursion IsWritten (map TreeToken tokens)
tokens_written [] h = tt
tokens_written (t ∷ tokens) h = (h.0, tokens_written tokens h.1)

places_written : (places : List ℕ) (n : ℕ) → length places ≡ n * 2
    → ((v i : ℕ) → v < n → i < 2 → get_or places (v * 2 + i) 0 ≤ 4294967295)
    → AllByRecursion IsWritten (place_lines places)
places_written [] n e h = tt
places_written (x ∷ []) n e h = absurd (omega (arith, e))
places_written (x ∷ y ∷ rest) zero e h = absurd (omega (arith, e))
places_written (x ∷ y ∷ rest) (suc n) e h = (
  (h 0 0 (omega arith) (omega arith), h 0 1 (omega arith) (omega arith)),
  places_written rest n (omega (arith, e))
      (λ v i l m. (let k : suc v * 2 + i ≡ suc (suc (v * 2 + i)) = omega arith in
      subst (λ (j : ℕ). get_or (x ∷ y ∷ rest) j 0 ≤ 4294967295) k (h (suc v) i (omega (arith, l)) m))),
)

module _ (instance : PlainInstance) (limits : IsInternalInstance instance) (plane : dims instance ≡ 2) where
  corner_written : (c : PlainCorner) → IsBackedCorner instance c → AllByRecursion IsWritten (corner_lines c)
  corner_written c b =
      let inner = internal_size instance limits plane c.width c.height b.width_from b.width_to
      (let t = b.height_to in let s = highest_small instance limits plane in omega (arith, t, s)) in
      let t = b.height_to in let s = highest_small instance limits plane in
      let w = b.width_to in let q = limits.container.others 0 (omega (arith, plane)) in (
        (omega (arith, w, q), omega (arith, t, s)),
        tokens_written c.tokens (refuted_written (with_container instance c.width c.height)
            (internal_bounded (with_container instance c.width c.height) inner) b.refutes),
      )

  point_written : (p : PlainPoint) → IsBackedPoint instance p → AllByRecursion IsWritten (point_lines p)
  point_written p b =
      let t = b.height_to in let s = highest_small instance limits plane in
      let w = b.width_to in let q = limits.container.others 0 (omega (arith, plane)) in (
        (omega (arith, w, q), omega (arith, t, s)),
        places_written p.places (box_count instance) b.packs.count (λ v i l m. small v i l m),
      )
    where
      small : (v i : ℕ) → v < box_count instance → i < 2 → get_or p.places (v * 2 + i) 0 ≤ 4294967295
      small v zero l m =
          let k = b.packs.within v 0 l (omega arith) in let w = b.width_to in let q =
          limits.container.others 0 (omega (arith, plane)) in omega (arith, k, w, q)
      small v (suc zero) l m =
          let k = b.packs.within v 1 l (omega arith) in let t = b.height_to in let s =
          highest_small instance limits plane in omega (arith, k, t, s)
      small v (suc (suc i)) l m = absurd (omega (arith, m))

  steps_written : (corners : List PlainCorner) (points : List PlainPoint)
      → AllByRecursion (IsBackedCorner instance) corners → AllByRecursion (IsBackedPoint instance) points
      → AllByRecursion IsWritten (step_lines corners points)
  steps_written [] [] h k = tt
  steps_written (c ∷ corners) [] h k =
      all_append IsWritten (corner_lines c) _ (corner_written c h.0) (steps_written corners [] h.1 tt)
  steps_written [] (p ∷ points) h k =
      all_append IsWritten (point_lines p) _ (point_written p k.0) (steps_written [] points tt k.1)
  steps_written (c ∷ corners) (p ∷ points) h k =
      all_append IsWritten (corner_lines c) _ (corner_written c h.0)
      (all_append IsWritten (point_lines p) _ (point_written p k.0) (steps_written corners points h.1 k.1))

  front_written : (corners : List PlainCorner) (points : List PlainPoint)
      → AllByRecursion (IsBackedCorner instance) corners → AllByRecursion (IsBackedPoint instance) points
      → AllByRecursion IsWritten (lines_of corners points)
  front_written corners [] h k = steps_written corners [] h tt
  front_written corners (p ∷ points) h k = go (p.width == 1)
    where
      go : (b : Bool) → AllByRecursion IsWritten
          (cond b (point_lines p ++ step_lines corners points) (step_lines corners (p ∷ points)))
      go true = all_append IsWritten (point_lines p) _ (point_written p k.0) (steps_written corners points h k.1)
      go false = steps_written corners (p ∷ points) h k

-- ---- the whole

append_map : {A B : Type 0} (f : A → B) (xs ys : List A) → map f (xs ++ ys) ≡ map f xs ++ map f ys
append_map f [] ys = refl
append_map f (x ∷ xs) ys = ap (λ l. f x ∷ l) (append_map f xs ys)

are_lines : (lines : List (List (List ℕ))) → AreFilled lines → AreLines lines
are_lines [] h = tt
are_lines (words ∷ lines) h = (h.0, are_lines lines h.2)

written_filled : (lines : List PlainLine) → AllByRecursion IsWritten lines → AreFilled (map line_words lines)
written_filled [] h = tt
written_filled (line ∷ lines) h = let p = words_plain line h.0 in (p.0, p.1, written_filled lines h.1)

result_plain : (complete : Bool) (points : ℕ) → points ≤ most_points
    → AreWords (codes "result" ∷ front_result complete points)
result_plain true points l = (omega arith, refl, (omega arith, refl, word_decimal points (omega (arith, l)) [] tt))
result_plain false points l = (omega arith, refl, (omega arith, refl, word_decimal points (omega (arith, l)) [] tt))

-- good lines, from their verdict
good_from : (instance : PlainInstance) (complete : Bool) (lines : List PlainLine) (index : ℕ) (s : FrontStage)
    → verdict_by complete (front_lines_after instance complete index s lines) ≡ Good → AreGood instance complete s lines
good_from instance complete [] index s e = go (is_whole_front complete s) refl e
  where
    go : (b : Bool) → is_whole_front complete s ≡ b → cond b Good Short ≡ Good → is_whole_front complete s ≡ true
    go true is k = is
    go false is k = absurd (cc (k))
good_from instance complete (line ∷ lines) index s e =
    go (front_line instance complete s line) refl e (λ next k. good_from instance complete lines (suc index) next k)
  where
    go : (r : Result FrontStage FrontReason) → front_line instance complete s line ≡ r
        → verdict_by complete (at_line index r >>= λ next. front_lines_after instance complete (suc index) next
        lines) ≡ Good
        → ((next : FrontStage) → verdict_by complete (front_lines_after instance complete (suc index) next lines) ≡ Good
        → AreGood instance complete next lines)
        → AreGood instance complete s (line ∷ lines)
    go (Ok next) is k later = (next, is, later next k)
    go (Err reason) is k later = absurd (cc (k))

-- rising widths are few
few_rising : (a most : ℕ) (s : List (ℕ × ℕ)) → AllByRecursion (λ u. a < u) (map (λ p. p.0) s)
    → AreRising (map (λ p. p.0) s) → AllByRecursion (λ p. p.0 ≤ most) s → length s ≤ most - a
few_rising a most [] above rising small = omega arith
few_rising a most (p ∷ s) above rising small =
    let l = few_rising p.0 most s rising.0 rising.1 small.1 in let m = above.0 in let k = small.0 in
    omega (arith, l, m, k)

module _ (instance : PlainInstance) where
  widths_small : (s : List (ℕ × ℕ)) → AllByRecursion (λ p. IsLeastSize instance p.0 p.1) s
      → AllByRecursion (λ p. p.0 ≤ written_container instance 0) s
  widths_small [] h = tt
  widths_small (p ∷ s) h = (h.0.reached.width_to, widths_small s h.1)

  few_least : (s : List (ℕ × ℕ)) → AllByRecursion (λ p. IsLeastSize instance p.0 p.1) s → AreRising (map (λ p. p.0) s)
      → length s ≤ written_container instance 0
  few_least [] h rising = omega arith
  few_least (p ∷ s) h rising =
      let l = few_rising p.0 (written_container instance 0) s rising.0 rising.1 (widths_small s h.1) in let m =
      h.0.reached.width_from in let k = h.0.reached.width_to in omega (arith, l, m, k)

  few_claimed : (complete : Bool) (s : List (ℕ × ℕ)) → IsClaimed instance complete s
      → length s ≤ written_container instance 0
  few_claimed true s h = few_least s h.least h.rising
  few_claimed false [] h = omega arith
  few_claimed false (p ∷ s) h = few_least (p ∷ s) h.least h.rising

count_sizes : (points : List PlainPoint) → length (sizes points) ≡ length points
count_sizes [] = refl
count_sizes (p ∷ points) = ap suc (count_sizes points)

module _ (instance : PlainInstance) (front : PlainFront) (limits : IsInstance instance) (plane : dims instance ≡ 2)
    (few : length front.points ≤ most_points)
    (written : AllByRecursion IsWritten (front_lines front))
    (good : AreGood instance front.complete (announced (length front.points)) (front_lines front)) where
  abbrev claimed : FrontClaim
  claimed = record { complete = front.complete; points = length front.points }

  document_filled : AreFilled (front_document instance front)
  document_filled =
      let last : AreFilled ((codes "end" ∷ []) ∷ []) = ((omega arith, refl, tt), refl, tt) in
      let back : AreFilled ((codes "result" ∷ front_result front.complete (length front.points))
      ∷ (map line_words (front_lines front) ++ (codes "end" ∷ []) ∷ [])) = (
        result_plain front.complete (length front.points) few,
        refl,
        filled_append (map line_words (front_lines front)) ((codes "end" ∷ []) ∷ [])
            (written_filled (front_lines front) written) last,
      ) in
      ((omega arith, refl, tt), refl, filled_append (instance_words instance) _ (filled_instance instance limits) back)

  instance_lines : read_instance_lines no_parts 0 (map spaced (instance_words instance)) ≡ Ok instance
  unfolding instance_text text_instance
  instance_lines = ap (read_instance_lines no_parts 0)
      (sym (lines_spaced (instance_words instance)
      (are_lines (instance_words instance) (filled_instance instance limits)))) ∙ read_back instance limits

  first_line : front_filled_line Opening
      (record { bad = false; count = length (codes "front" ∷ []); words = codes "front" ∷ [] }) ≡ Ok (Reading no_parts)
  unfolding same_bytes
  first_line = refl

  document_read : read_front_lines Opening 0 (map spaced (front_document instance front))
      ≡ Ok (record { instance = instance; claim = claimed })
  document_read =
      let rest = map line_words (front_lines front) ++ (codes "end" ∷ []) ∷ [] in
      let words = codes "result" ∷ front_result front.complete (length front.points) in
      let r = instance_read (instance_words instance) no_parts 1 0 (spaced words ∷ map spaced rest) instance
      (filled_instance instance limits) instance_lines in
      read_line Opening (Reading no_parts) 0 (codes "front" ∷ []) (map spaced (instance_words instance ++ words ∷ rest))
      (omega arith, refl, tt) refl first_line
      ∙ (ap (read_front_lines (Reading no_parts) 1) (append_map spaced (instance_words instance) (words ∷ rest))
      ∙ (r.same
      ∙ (read_line (Reading r.last) (Fronting instance claimed (announced (length front.points))) r.line words
      (map spaced rest) (result_plain front.complete (length front.points) few) refl
      (result_read r.last instance front.complete (length front.points) r.ended plane few)
      ∙ lines_read instance claimed (front_lines front) (r.line + 1) (announced (length front.points)) written good)))

-- the lines of the document of a walk, and the verdict on them
record IsOwn (instance : PlainInstance) (front : PlainFront) : Type 0 where
  lines : text_lines (front_text instance front) ≡ map spaced (front_document instance front)
  read : read_front_lines Opening 0 (map spaced (front_document instance front))
      ≡ Ok (record { instance = instance; claim = record { complete = front.complete; points = length front.points } })

own_walk : (instance : PlainInstance) (budget : ℕ) (scales : Bool) → IsInstance instance → dims instance ≡ 2
    → IsOwn instance (front_walk instance budget scales)
own_walk instance budget scales limits plane =
    let internal = written_internal instance limits in
    let backed = front_backed instance internal plane (size_answer instance budget scales)
    (right_sizes instance internal plane budget scales) in
    let front = front_walk instance budget scales in
    let few = few_claimed instance (front_walk instance budget scales).complete
    (sizes (front_walk instance budget scales).points) (walks_are_fronts instance budget scales internal plane) in
    let same = count_sizes (front_walk instance budget scales).points in
    let side = limits.container 0 (omega (arith, plane)) in
    let most : length (front_walk instance budget scales).points ≤ most_points = omega (arith, few, same, side) in
    let written = front_written instance internal plane (front_walk instance budget scales).corners
    (front_walk instance budget scales).points backed.0 backed.1 in
    let good = good_from instance (front_walk instance budget scales).complete
    (front_lines (front_walk instance budget scales)) 0
    (announced (length (front_walk instance budget scales).points))
    (walks_are_good instance budget scales internal plane) in
    record {
      lines = lines_spaced (front_document instance (front_walk instance budget scales))
          (are_lines (front_document instance (front_walk instance budget scales))
          (document_filled instance (front_walk instance budget scales) limits plane most written good));
      read = document_read instance (front_walk instance budget scales) limits plane most written good;
    }

pub own_fronts_are_verified : OwnFrontsAreVerified
unfolding front_document_verdict
own_fronts_are_verified instance budget scales limits plane =
    let own = own_walk instance budget scales limits plane in ap (read_front_lines Opening 0) own.lines ∙ own.read

-- a line of the one word
front_kind : kind_of_line (record
    { bad = false; count = length (codes "front" ∷ []); words = codes "front" ∷ [] }) ≡ FrontKind
unfolding same_bytes
front_kind = refl

pub own_fronts_are_fronts : OwnFrontsAreFronts
own_fronts_are_fronts instance budget scales limits plane =
    let own = own_walk instance budget scales limits plane in
    ap kind_of_lines own.lines
    ∙ (ap (λ l. elim (is_blank l) as (λ b. DocumentKind)
    [ true ↦ kind_of_lines (map spaced (behind (front_walk instance budget scales))) | false ↦ kind_of_line l ])
    (line_spaced (codes "front" ∷ []) (omega arith, refl, tt))
    ∙ front_kind)
  where
    behind : PlainFront → List (List (List ℕ))
    behind front =
        instance_words instance ++ (codes "result" ∷ front_result front.complete (length front.points))
        ∷ (map line_words (front_lines front) ++ (codes "end" ∷ []) ∷ [])
