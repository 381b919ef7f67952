-- The steps of reading an opening, and what it comes to.
use Rattle.std.proofs.Common.{◌≡◌, ◌≢◌, ℕ, ◌+◌, ◌≤◌, ◌∙◌, inl, inr, refl, sym, ap, subst, arith, Bool, true, false}
use Rattle.std.proofs.Common.{cond, not, ◌&&◌, ◌||◌, List, [], ◌∷◌, ◌++◌, length, take, get_or, append_assoc, append-nil}
use Rattle.std.proofs.Common.{codes, Option, Some, None, Result, Ok, Err, Global, Vec}
use Rattle.std.specs.List.{slice_split, fold}
use Rattle.std.specs.Io.KnownBytes.{IsAtEnd}
use Rattle.std.proofs.lemmas.Bool.{true≢false, and_parts, or_from, or_right, eqb-true}
use Rattle.std.proofs.lemmas.List.{length-append, take_at, take_all}
use Rattle.std.proofs.lemmas.List.Sums.{fold-append}
use Rattle.std.proofs.lemmas.List.Folds.{list_any-append}
use Rattle.pack_streams.specs.Faults.{FaultCount, Stays}
use Rattle.pack_streams.specs.Moves.{Consumed, ReadsPiece}
use Rattle.pack_streams.specs.declared.source.ReadAnswer.TheVariants.{Got, End}
use Rattle.pack_streams.specs.declared.moves.ReadStop.{ReadStop}
use Rattle.pack_streams.specs.declared.moves.ReadStop.TheVariants.{ReadFault, TooLong, NoMemory}
use Rattle.document_audits.specs.declared.opening.Opened.{Opened}
use Rattle.document_audits.specs.declared.opening.Opened.TheVariants.{Whole, Begun}
use Rattle.document_audits.specs.declared.opening.Opening.{Opening}
use Rattle.std.specs.Prelude.{is_ok, is_err}
use Rattle.std.specs.Bool.{if◌then◌else◌}
use Rattle.pack_streams.proofs.Runs.{gives_more}
use Rattle.pack_streams.proofs.Faults.{stays_here, stays_on}
use Rattle.text_terms.specs.Lines.{Line, line_of, cut_line, cut_words, is_line_feed, same_bytes}
use Rattle.text_terms.specs.Texts.{is_none, no_parts}
use Rattle.text_terms.specs.Feeding.{Lexer, no_line, new_lexer, held_of, add_byte, end_word, end_line, feed}
use Rattle.text_terms.specs.Feeding.{ended_line, NumberedLine, lines_fed, told_now}
use Rattle.text_terms.proofs.Fed.{lines_are_told}
use Rattle.text_terms.specs.declared.claim.SolvingJob.TheVariants.{Strip, Knapsack}
use Rattle.verdict_terms.specs.declared.heading.Heading.TheVariants.{Bounded as UnderBounded}
use Rattle.verdict_terms.specs.declared.reason.Reason.{Reason}
use Rattle.verdict_terms.specs.Reasons.{form}
use Rattle.verdict_terms.specs.Stages.{Stage, is_blank, is_word, stage_after, filled_line}
use Rattle.verdict_terms.specs.Stages.Stage.{Beginning, Reading}
use Rattle.verdict_terms.specs.Documents.{document_at_line}
use Rattle.verdict_terms.specs.Fed.{fed_verdict}
use Rattle.packing_terms.specs.Results.{◌>>=◌}
use Rattle.verdict_terms.specs.declared.kind.DocumentKind.{DocumentKind}
use Rattle.verdict_terms.specs.declared.kind.DocumentKind.TheVariants.{Explained, Front, Bounded, Reduced}
use Rattle.verdict_terms.specs.Kinds.{bounded_job, kind_of_words, kind_of_line, document_kind, kind_told}
use Rattle.verdict_terms.proofs.Told.{kinds_are_told}
use Rattle.document_lines.specs.Reading.{IsSoFar, IsTaking}
use Rattle.document_lines.proofs.Steps.{gives_none, so_far_start, so_far_more, single, one_byte, number_rises}
use Rattle.document_audits.specs.Openings.{all_but_last, is_one_filled, tells_kind, IsReadWhole}
use Rattle.document_audits.specs.Reading.{ends_filled, IsOpeningBy, IsOpeningRead, IsOpened, ReadsOn}
use Rattle.document_audits.proofs.Parts.{but_last, ended_on, other_on}
use Rattle.document_audits.proofs.Telling.{kinds_stay}

-- ---- lines

-- a cut line is blank exactly where the line is
blank_cut : (line : Line) → is_blank (cut_line line) ≡ is_blank line
blank_cut line = go line.words
  where
    go : (words : List (List ℕ)) → (not line.bad && is_none (cut_words words)) ≡ (not line.bad && is_none words)
    go [] = refl
    go (w ∷ ws) = refl

-- the heading of a bounded document is taken
bounded_heading : (line : Line) → is_blank line ≡ false → kind_of_line line ≡ Bounded
    → stage_after (Beginning UnderBounded) line ≡ Ok (Reading UnderBounded (bounded_job line.words) no_parts)
bounded_heading line filled kind =
    ap (λ b. elim b [
      | true ↦ Ok (Beginning UnderBounded)
      | false ↦ filled_line (Beginning UnderBounded) line
    ]) filled
    ∙ by_bad line.bad line.words kind
  where
    by_bad : (bad : Bool) (words : List (List ℕ)) → cond bad Reduced (kind_of_words words) ≡ Bounded
        → filled_line (Beginning UnderBounded) (record { bad = bad; count = line.count; words = words })
        ≡ Ok (Reading UnderBounded (bounded_job words) no_parts)
    by_bad true words e = absurd (cc (e))
    by_bad false [] e = absurd (cc (e))
    by_bad false (w ∷ []) e = one (is_word (codes "front") (w ∷ [])) e
      where
        one : (a : Bool) → cond a Front Reduced ≡ Bounded
            → filled_line (Beginning UnderBounded) (record { bad = false; count = line.count; words = w ∷ [] })
            ≡ Ok (Reading UnderBounded (bounded_job (w ∷ [])) no_parts)
        one true f = absurd (cc (f))
        one false f = absurd (cc (f))
    by_bad false (w ∷ v ∷ []) e =
        two (same_bytes w (codes "explained") && same_bytes v (codes "fit")) (same_bytes w (codes "bounded"))
        (same_bytes v (codes "knapsack")) (same_bytes v (codes "strip")) e
      where
        two : (a c d f : Bool) → cond a Explained (cond ((c && d) || (c && f)) Bounded Reduced) ≡ Bounded
            → ◌≡◌ {A = Result Stage Reason}
            (cond c (cond d (Ok Knapsack) (cond f (Ok Strip) (Err form))
            >>= λ job. Ok (Reading UnderBounded job no_parts)) (Err form))
            (Ok (Reading UnderBounded (cond (c && d) Knapsack Strip) no_parts))
        two true c d f k = absurd (cc (k))
        two false true true f k = refl
        two false true false true k = refl
        two false true false false k = absurd (cc (k))
        two false false d f k = absurd (cc (k))
    by_bad false (w ∷ v ∷ u ∷ words) e = absurd (cc (e))

-- a blank line is skipped
blank_taken : (line : Line) → is_blank line ≡ true
    → stage_after (Beginning UnderBounded) line ≡ Ok (Beginning UnderBounded)
blank_taken line blank =
    ap (λ b. elim b [
      | true ↦ Ok (Beginning UnderBounded)
      | false ↦ filled_line (Beginning UnderBounded) line
    ]) blank

blank_kind : (s : Lexer) (lines : List NumberedLine) → is_blank (ended_line s.held) ≡ true
    → kind_told (told_now s ∷ lines) ≡ kind_told lines
blank_kind s lines blank =
    ap (λ b. elim b [ true ↦ kind_told lines | false ↦ kind_of_line (ended_line s.held) ]) blank

filled_kind : (s : Lexer) (lines : List NumberedLine) → is_blank (ended_line s.held) ≡ false
    → kind_told (told_now s ∷ lines) ≡ kind_of_line (ended_line s.held)
filled_kind s lines filled =
    ap (λ b. elim b [ true ↦ kind_told lines | false ↦ kind_of_line (ended_line s.held) ]) filled

not_false : (b : Bool) → not b ≡ false → b ≡ true
not_false true e = refl
not_false false e = absurd (true≢false e)

not_true : (b : Bool) → not b ≡ true → b ≡ false
not_true true e = absurd (true≢false (sym e))
not_true false e = refl

-- ---- the loop

-- what holds before the line feed of the first line that isn't blank: the bytes so far are blank lines and a
-- part of a line, which is held
pub record IsUnopened (old now : Option (List ℕ)) (before after : FaultCount) (limit : ℕ) (s : Lexer)
    (bytes piece : List ℕ) : Type 0 where
  pub ended : List (List ℕ)
  pub part : List ℕ
  pub parts : slice_split is_line_feed bytes ≡ ended ++ part ∷ []
  pub blank : is_one_filled ended ≡ false
  pub held : held_of s ≡ fold (λ h b. add_byte b h) no_line part
  pub so_far : IsSoFar UnderBounded s (Beginning UnderBounded) bytes
  pub kind : (rest : List ℕ) → document_kind (bytes ++ rest) ≡ kind_told (lines_fed s rest)
  pub gives : Consumed old now bytes
  pub stays : Stays before after
  pub number : s.number ≤ length bytes
  pub within : length bytes ≤ limit
  pub one : length piece ≡ 1

pub unopened_start : (old : Option (List ℕ)) (before : FaultCount) (limit : ℕ) (s : Lexer) (bytes piece : List ℕ)
    → s ≡ new_lexer → bytes ≡ [] → length piece ≡ 1 → IsUnopened old old before before limit s bytes piece
unopened_start old before limit s bytes piece new none one =
    subst (λ x. IsUnopened old old before before limit x bytes piece) (sym new)
    (subst (λ xs. IsUnopened old old before before limit new_lexer xs piece) (sym none) (record {
      ended = [];
      part = [];
      parts = refl;
      blank = refl;
      held = refl;
      so_far = so_far_start UnderBounded;
      kind = λ rest. sym (kinds_are_told rest);
      gives = gives_none old;
      stays = stays_here before;
      number = omega arith;
      within = omega arith;
      one = one;
    }))

-- a line feed, or another byte
at_feed : (b : ℕ) (s : Lexer) → is_line_feed b ≡ true → feed b s ≡ end_line s
at_feed b s f =
    ap (λ t. cond t (end_line s) (record { number = s.number; begun = true; held = add_byte b (held_of s) })) f

at_other : (b : ℕ) (s : Lexer) → is_line_feed b ≡ false
    → feed b s ≡ record { number = s.number; begun = true; held = add_byte b (held_of s) }
at_other b s f =
    ap (λ t. cond t (end_line s) (record { number = s.number; begun = true; held = add_byte b (held_of s) })) f

-- the stage behind a byte
feed_goes : (s : Lexer) (stage next : Stage) (b : ℕ) → is_line_feed b ≡ true
    → stage_after stage (ended_line (feed b s).held) ≡ Ok next → (rest : List ℕ)
    → fed_verdict s stage (b ∷ rest) ≡ fed_verdict (feed b s) next rest
feed_goes s stage next b f taken rest =
    ap (λ t. cond t (document_at_line (feed b s).number (stage_after stage (ended_line (feed b s).held))
    >>= λ n. fed_verdict (feed b s) n rest) (fed_verdict (feed b s) stage rest)) f
    ∙ ap (λ r. document_at_line (feed b s).number r >>= λ n. fed_verdict (feed b s) n rest) taken

other_goes : (s : Lexer) (stage : Stage) (b : ℕ) → is_line_feed b ≡ false → (rest : List ℕ)
    → fed_verdict s stage (b ∷ rest) ≡ fed_verdict (feed b s) stage rest
other_goes s stage b f rest =
    ap (λ t. cond t (document_at_line (feed b s).number (stage_after stage (ended_line (feed b s).held))
    >>= λ n. fed_verdict (feed b s) n rest) (fed_verdict (feed b s) stage rest)) f

module _ (old now : Option (List ℕ)) (before after : FaultCount) (limit : ℕ) (s : Lexer) (bytes piece : List ℕ)
    (h : IsUnopened old now before after limit s bytes piece) where
  -- so far the bytes don't show the kind
  pub untold : tells_kind bytes ≡ false
  untold = ap is_one_filled (ap all_but_last h.parts ∙ but_last h.ended h.part) ∙ h.blank

  -- the line that a line feed ends is held as its cut
  told_line : (b : ℕ) → is_line_feed b ≡ true → ended_line (feed b s).held ≡ cut_line (line_of h.part)
  told_line b f =
      ap (λ (x : Lexer). ended_line x.held) (at_feed b s f) ∙ ap (λ x. ended_line (end_word x)) h.held
      ∙ lines_are_told h.part

  blank_line : (b : ℕ) → is_line_feed b ≡ true → is_blank (ended_line (feed b s).held) ≡ is_blank (line_of h.part)
  blank_line b f = ap is_blank (told_line b f) ∙ blank_cut (line_of h.part)

  ended_parts : (b : ℕ) → is_line_feed b ≡ true
      → slice_split is_line_feed (bytes ++ b ∷ []) ≡ (h.ended ++ h.part ∷ []) ++ [] ∷ []
  ended_parts b f =
      ap (λ x. slice_split is_line_feed (bytes ++ x ∷ [])) (eqb-true b 10 f) ∙ ended_on bytes h.ended h.part h.parts

  -- the kind, behind one byte more
  kind_on : (b : ℕ) (rest : List ℕ) → document_kind ((bytes ++ b ∷ []) ++ rest)
      ≡ kind_told (cond (is_line_feed b) (told_now (feed b s) ∷ lines_fed (feed b s) rest) (lines_fed (feed b s) rest))
  kind_on b rest = ap document_kind (append_assoc bytes (b ∷ []) rest) ∙ h.kind (b ∷ rest)

  kind_ended : (b : ℕ) (rest : List ℕ) → is_line_feed b ≡ true → document_kind ((bytes ++ b ∷ []) ++ rest)
      ≡ kind_told (told_now (feed b s) ∷ lines_fed (feed b s) rest)
  kind_ended b rest f =
      kind_on b rest
      ∙ ap (λ t. kind_told (cond t (told_now (feed b s) ∷ lines_fed (feed b s) rest) (lines_fed (feed b s) rest))) f

  -- a byte that ends no line, or a blank one
  module _ (later : Option (List ℕ)) (final : FaultCount) (k : ℕ) (read : List ℕ) (one : length read ≡ 1)
      (moves : ReadsPiece now later (Got k) read) (stays : Stays after final) where
    gives_byte : Consumed old later (bytes ++ get_or read 0 0 ∷ [])
    gives_byte = gives_more old now later bytes (get_or read 0 0 ∷ []) h.gives
        (one_byte now later k (get_or read 0 0)
        (subst (λ p. ReadsPiece now later (Got k) p) (single read one) moves))

    longer : length (bytes ++ get_or read 0 0 ∷ []) ≡ length bytes + 1
    longer = length-append bytes (get_or read 0 0 ∷ [])

    pub unopened_more : length bytes + 1 ≤ limit → ends_filled (get_or read 0 0) (feed (get_or read 0 0) s) ≡ false
        → IsUnopened old later before final limit (feed (get_or read 0 0) s) (bytes ++ get_or read 0 0 ∷ []) read
    unopened_more room none = go (is_line_feed (get_or read 0 0)) refl none
      where
        numbered : (feed (get_or read 0 0) s).number ≤ length (bytes ++ get_or read 0 0 ∷ [])
        numbered = let n = number_rises s (get_or read 0 0) in let m = h.number in let l = longer in
            omega (arith, n, m, l)

        few : length (bytes ++ get_or read 0 0 ∷ []) ≤ limit
        few = let l = longer in omega (arith, l, room)

        go : (t : Bool) → is_line_feed (get_or read 0 0) ≡ t
            → (t && not (is_blank (ended_line (feed (get_or read 0 0) s).held))) ≡ false
            → IsUnopened old later before final limit (feed (get_or read 0 0) s) (bytes ++ get_or read 0 0 ∷ []) read
        go true f none =
            let blank : is_blank (ended_line (feed (get_or read 0 0) s).held) ≡ true = not_false _ none in record {
              ended = h.ended ++ h.part ∷ [];
              part = [];
              parts = ended_parts (get_or read 0 0) f;
              blank = list_any-append (λ line. not (is_blank (line_of line))) h.ended (h.part ∷ [])
                  ∙ or_from _ _ h.blank
                  (ap (λ t. not t || false) (sym (blank_line (get_or read 0 0) f) ∙ blank));
              held = ap held_of (at_feed (get_or read 0 0) s f);
              so_far = so_far_more UnderBounded s (Beginning UnderBounded) (Beginning UnderBounded) bytes
                  (get_or read 0 0) h.so_far
                  (feed_goes s (Beginning UnderBounded) (Beginning UnderBounded) (get_or read 0 0) f
                  (blank_taken (ended_line (feed (get_or read 0 0) s).held) blank));
              kind = λ rest. kind_ended (get_or read 0 0) rest f
                  ∙ blank_kind (feed (get_or read 0 0) s) (lines_fed (feed (get_or read 0 0) s) rest) blank;
              gives = gives_byte;
              stays = stays_on before after final h.stays stays;
              number = numbered;
              within = few;
              one = one;
            }
        go false f none = record {
          ended = h.ended;
          part = h.part ++ get_or read 0 0 ∷ [];
          parts = other_on bytes (get_or read 0 0) h.ended h.part f h.parts;
          blank = h.blank;
          held = ap held_of (at_other (get_or read 0 0) s f) ∙ ap (add_byte (get_or read 0 0)) h.held
              ∙ sym (fold-append (λ x c. add_byte c x) no_line h.part (get_or read 0 0 ∷ []));
          so_far = so_far_more UnderBounded s (Beginning UnderBounded) (Beginning UnderBounded) bytes
              (get_or read 0 0) h.so_far (other_goes s (Beginning UnderBounded) (get_or read 0 0) f);
          kind = λ rest. kind_on (get_or read 0 0) rest
              ∙ ap (λ t. kind_told (cond t (told_now (feed (get_or read 0 0) s)
              ∷ lines_fed (feed (get_or read 0 0) s) rest) (lines_fed (feed (get_or read 0 0) s) rest))) f;
          gives = gives_byte;
          stays = stays_on before after final h.stays stays;
          number = numbered;
          within = few;
          one = one;
        }

    -- a byte that ends a line that isn't blank
    pub opened_at : length bytes + 1 ≤ limit → (kind : DocumentKind)
        → ends_filled (get_or read 0 0) (feed (get_or read 0 0) s) ≡ true
        → kind ≡ kind_of_line (ended_line (feed (get_or read 0 0) s).held)
        → IsOpeningBy old later (bytes ++ get_or read 0 0 ∷ []) (feed (get_or read 0 0) s) (Some kind)
        × (length (bytes ++ get_or read 0 0 ∷ []) ≤ limit)
        × ((feed (get_or read 0 0) s).number ≤ length (bytes ++ get_or read 0 0 ∷ []))
    opened_at room kind ends is = (
      (gives_byte, tells, kind_is, taking),
      (let l = longer in omega (arith, l, room)),
      (let n = number_rises s (get_or read 0 0) in let m = h.number in let l = longer in omega (arith, n, m, l)),
    )
      where
        feeds : is_line_feed (get_or read 0 0) ≡ true
        feeds = (and_parts (is_line_feed (get_or read 0 0))
            (not (is_blank (ended_line (feed (get_or read 0 0) s).held))) ends).0

        filled : is_blank (ended_line (feed (get_or read 0 0) s).held) ≡ false
        filled = not_true (is_blank (ended_line (feed (get_or read 0 0) s).held))
            (and_parts (is_line_feed (get_or read 0 0))
            (not (is_blank (ended_line (feed (get_or read 0 0) s).held))) ends).1

        tells : tells_kind (bytes ++ get_or read 0 0 ∷ []) ≡ true
        tells =
            ap (λ ps. is_one_filled (all_but_last ps)) (ended_parts (get_or read 0 0) feeds)
            ∙ ap is_one_filled (but_last (h.ended ++ h.part ∷ []) [])
            ∙ list_any-append (λ line. not (is_blank (line_of line))) h.ended (h.part ∷ [])
            ∙ or_right _ _ (ap (λ t. not t || false) (sym (blank_line (get_or read 0 0) feeds) ∙ filled))

        kind_is : document_kind (bytes ++ get_or read 0 0 ∷ []) ≡ kind
        kind_is =
            ap document_kind (sym (append-nil (bytes ++ get_or read 0 0 ∷ [])))
            ∙ kind_ended (get_or read 0 0) [] feeds
            ∙ filled_kind (feed (get_or read 0 0) s) (lines_fed (feed (get_or read 0 0) s) []) filled ∙ sym is

        taking : kind ≡ Bounded
            → IsTaking UnderBounded (bytes ++ get_or read 0 0 ∷ []) old later (feed (get_or read 0 0) s)
            (Reading UnderBounded (bounded_job (feed (get_or read 0 0) s).held.words) no_parts)
            (length (bytes ++ get_or read 0 0 ∷ []))
        taking bounded = record {
          taken = bytes ++ get_or read 0 0 ∷ [];
          begins = ([], sym (append-nil (bytes ++ get_or read 0 0 ∷ [])));
          gives = gives_byte;
          counted = refl;
          so_far = so_far_more UnderBounded s (Beginning UnderBounded)
              (Reading UnderBounded (bounded_job (feed (get_or read 0 0) s).held.words) no_parts) bytes
              (get_or read 0 0) h.so_far
              (feed_goes s (Beginning UnderBounded)
              (Reading UnderBounded (bounded_job (feed (get_or read 0 0) s).held.words) no_parts) (get_or read 0 0) feeds
              (bounded_heading (ended_line (feed (get_or read 0 0) s).held) filled (sym is ∙ bounded)));
        }

    -- the same, for what a lexer and a vector have become
    module _ (x : Lexer) (xs : List ℕ) (is : x ≡ feed (get_or read 0 0) s) (are : xs ≡ bytes ++ get_or read 0 0 ∷ []) where
      pub unopened_with : length bytes + 1 ≤ limit → ends_filled (get_or read 0 0) x ≡ false
          → IsUnopened old later before final limit x xs read
      unopened_with room none =
          subst (λ y. IsUnopened old later before final limit y xs read) (sym is)
          (subst (λ ys. IsUnopened old later before final limit (feed (get_or read 0 0) s) ys read) (sym are)
          (unopened_more room (ap (ends_filled (get_or read 0 0)) (sym is) ∙ none)))

      pub opened_with : length bytes + 1 ≤ limit → (kind : DocumentKind) → ends_filled (get_or read 0 0) x ≡ true
          → kind ≡ kind_of_line (ended_line x.held)
          → IsOpeningBy old later xs x (Some kind) × (length xs ≤ limit) × (x.number ≤ length xs)
      opened_with room kind ends told =
          subst (λ (y : Lexer). IsOpeningBy old later xs y (Some kind) × (length xs ≤ limit) × (y.number ≤ length xs))
          (sym is)
          (subst (λ ys. IsOpeningBy old later ys (feed (get_or read 0 0) s) (Some kind) × (length ys ≤ limit)
          × ((feed (get_or read 0 0) s).number ≤ length ys)) (sym are)
          (opened_at room kind (ap (ends_filled (get_or read 0 0)) (sym is) ∙ ends)
          (told ∙ ap (λ (y : Lexer). kind_of_line (ended_line y.held)) is)))

    -- memory is refused for the byte
    pub byte_refused : (xs : List ℕ) × Consumed old later xs × (length xs ≤ limit + 1)
    byte_refused =
        (bytes ++ get_or read 0 0 ∷ [], gives_byte, (let l = longer in let w = h.within in omega (arith, l, w)))

    -- it is one too many
    pub byte_past : length bytes ≡ limit
        → (xs : List ℕ) × Consumed old later xs × (length xs ≡ limit + 1) × (tells_kind (take limit xs) ≡ false)
    byte_past full = (
      bytes ++ get_or read 0 0 ∷ [],
      gives_byte,
      longer ∙ ap (λ n. n + 1) full,
      ap tells_kind (take_at bytes (get_or read 0 0 ∷ []) limit full) ∙ untold,
    )

  -- the source failed
  pub broken_off : (later : Option (List ℕ)) → later ≡ now
      → (xs : List ℕ) × Consumed old later xs × (length xs ≤ limit) × (tells_kind xs ≡ false)
  broken_off later same = (bytes, subst (λ x. Consumed old x bytes) (sym same) h.gives, h.within, untold)

  -- it ended
  pub ended_here : (later : Option (List ℕ)) (read : List ℕ) → ReadsPiece now later End read
      → IsOpeningBy old later bytes s None × (length bytes ≤ limit) × (s.number ≤ length bytes)
  ended_here later read moves = (
    (subst (λ x. Consumed old x bytes) (sym moves.1) h.gives, subst IsAtEnd (sym moves.1) moves.0, untold),
    h.within,
    h.number,
  )

-- a vector to which a byte was pushed
pub pushed : {A E : Type 0} (r : Result A E) (now old more : List ℕ) → now ≡ (if is_ok r then old ++ more else old)
    → is_err r ≡ false → now ≡ old ++ more
pushed (Ok u) now old more is ok = is
pushed (Err e) now old more is bad = absurd (true≢false bad)

-- ---- what it comes to

abbrev pub whole_or : Result (Vec ℕ Global) ReadStop → Result Opened ReadStop
whole_or (Ok bytes) = Ok (Whole bytes)
whole_or (Err stop) = Err stop

module _ (limit : ℕ) (old mid new : Option (List ℕ)) where
  pub not_opened : (stop : ReadStop) → IsOpeningRead limit old new (Err stop) → IsOpened limit old new (Err stop)
  not_opened TooLong (bytes, gives, past, none) =
      (bytes, gives, omega (arith, past), omega (arith, past), inr none)
  not_opened ReadFault (bytes, gives, few, none) =
      (bytes, gives, few, inr (ap tells_kind (take_all limit bytes few) ∙ none))
  not_opened NoMemory (bytes, gives, few) = (bytes, gives, omega (arith, few))

  pub ended_whole : (o : Opening) → o.kind ≡ None → IsOpeningRead limit old new (Ok o)
      → IsOpened limit old new (Ok (Whole o.bytes))
  ended_whole o e read =
      let by = subst (λ k. IsOpeningBy old new o.bytes.items o.lexer k) e read.0 in
      (by.0, by.1, read.1, inr (ap tells_kind (take_all limit o.bytes.items read.1) ∙ by.2))

  pub begun_here : (o : Opening) → o.kind ≡ Some Bounded → IsOpeningRead limit old new (Ok o)
      → IsOpened limit old new (Ok (Begun o.lexer (length o.bytes.items) (bounded_job o.lexer.held.words)))
  begun_here o e read =
      let by = subst (λ k. IsOpeningBy old new o.bytes.items o.lexer k) e read.0 in record {
        opening = o.bytes.items;
        told = by.1;
        kind = by.2;
        within = read.1;
        few = read.1;
        number = read.2;
        taking = by.3 refl;
      }

  -- the rest of a document of another kind
  pub whole_behind : (o : Opening) (kind : DocumentKind) → o.kind ≡ Some kind → kind ≢ Bounded
      → IsOpeningRead limit old mid (Ok o) → (result : Result (Vec ℕ Global) ReadStop)
      → ReadsOn limit o.bytes.items mid new result → IsOpened limit old new (whole_or result)
  whole_behind o kind e other read result on = go result on
    where
      by : IsOpeningBy old mid o.bytes.items o.lexer (Some kind)
      by = subst (λ k. IsOpeningBy old mid o.bytes.items o.lexer k) e read.0

      held : (more : List ℕ) → IsReadWhole limit (o.bytes.items ++ more)
      held more = inl (λ same. other (sym (kinds_stay o.bytes.items more by.1 ∙ by.2) ∙ same))

      all : (more : List ℕ) → Consumed mid new more → Consumed old new (o.bytes.items ++ more)
      all more gives = gives_more old mid new o.bytes.items more by.0 gives

      go : (r : Result (Vec ℕ Global) ReadStop) → ReadsOn limit o.bytes.items mid new r
          → IsOpened limit old new (whole_or r)
      go (Ok bytes) (more, gives, end, are, few) = (
        subst (Consumed old new) (sym are) (all more gives),
        end,
        few,
        subst (IsReadWhole limit) (sym are) (held more),
      )
      go (Err TooLong) (more, gives, past, most) =
          let l = length-append o.bytes.items more in
          (o.bytes.items ++ more, all more gives, omega (arith, l, past), omega (arith, l, most), held more)
      go (Err ReadFault) (more, gives, few) =
          let l = length-append o.bytes.items more in
          (o.bytes.items ++ more, all more gives, omega (arith, l, few), held more)
      go (Err NoMemory) (more, gives, most) =
          let l = length-append o.bytes.items more in
          (o.bytes.items ++ more, all more gives, omega (arith, l, most))
