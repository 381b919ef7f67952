-- The document of an answer is a bounded document of its claim, so it is verified.
use Rattle.std.proofs.Common.{◌≡◌, ℕ, suc, pred, ◌-◌, ◌<◌, ◌≤◌, refl, ap, subst, arith, Bool, true, false, cond, List}
use Rattle.std.proofs.Common.{[], ◌∷◌, codes}
use Rattle.std.specs.Prelude.{◌==◌}
use Rattle.std.specs.Fmt.{decimal}
use Rattle.std.proofs.Math.ListN.{length-set}
use Rattle.std.proofs.lemmas.Bool.{eqb-true}
use Rattle.packing_terms.specs.Packing.{PlainInstance, dims, IsPacking}
use Rattle.packing_terms.specs.Goals.{with_last_side}
use Rattle.packing_terms.specs.Limits.{IsInstance, max_height}
use Rattle.packing_terms.specs.Refutation.{IsTooLarge}
use Rattle.packing_terms.specs.TooLarge.{IsFirstTooWide}
use Rattle.packing_terms.specs.Tokens.PlainToken.{TooLarge}
use Rattle.text_terms.specs.Spelling.{instance_words, lines_text}
use Rattle.text_terms.proofs.Spelled.{AreWords, number_decimal}
use Rattle.text_terms.specs.declared.claim.SolvingJob.TheVariants.{Strip}
use Rattle.text_terms.specs.declared.claim.Claim.{Claim}
use Rattle.text_terms.specs.declared.claim.Claim.TheVariants.{LeastHeight, HeightBetween, NoHeight}
use Rattle.text_terms.specs.Claims.{job_of, result_words}
use Rattle.verdict_terms.specs.FamilyRefutation.{FamilyToken, Free, RefutesFamilies}
use Rattle.verdict_terms.specs.declared.heading.Heading.TheVariants.{Bounded}
use Rattle.verdict_terms.specs.Form.{IsResult, BacksUnder, MayName, AreProved, ArePlaced, RefuteHeight}
use Rattle.verdict_terms.proofs.FormGiven.{documents_have_form}
use Rattle.verdict_terms.proofs.KindOf.{bounded_documents}
use Rattle.answer_terms.specs.Answers.{Lines, document_lines, place_lines}
use Rattle.answer_terms.specs.HeightAnswers.{BoundedHeights, BoundedStrip, Heights, NoneFits, AreJoining, AreBoundedHeights}
use Rattle.answer_terms.specs.HeightAnswers.{IsBoundedStrip, height_claim, strip_claim, family_token_lines, heights_backing}
use Rattle.answer_terms.specs.HeightAnswers.{strip_backing, bounded_strip_text}
use Rattle.answer_terms.specs.HeightLaws.{OwnBoundedStripsAreVerified}
use Rattle.answer_terms.proofs.Filled.{AreFilled, filled_append, clean_text, filled_text, instance_form}
use Rattle.answer_terms.proofs.OwnWritten.{IsBounded}
use Rattle.answer_terms.proofs.OwnAccepted.{filled_document, IsHeadedAbout, decimal_number, number_plain, numbers_plain}
use Rattle.answer_terms.proofs.OwnAccepted.{level_bounded, level_lines, no_height_backed}
use Rattle.answer_terms.proofs.Placed.{packing_filled, packing_placed}
use Rattle.answer_terms.proofs.HeightWritten.{HaveFamilyLines, families_filled, families_are_lines, families_written}

-- ---- whole documents

-- the result line says the claim, and the lines between it and `end` back it
record IsBacked (instance : PlainInstance) (claim : Claim) (backing : Lines) : Type 0 where
  headed : MayName Bounded (job_of claim)
  words : AreWords (result_words claim)
  result : IsResult instance claim (result_words claim)
  filled : AreFilled backing
  backs : BacksUnder Bounded instance claim backing

-- the document of a claim
abbrev claim_lines : PlainInstance → Claim → Lines → Lines
claim_lines instance claim backing =
    document_lines (codes "bounded") instance (job_of claim) (result_words claim) backing

backed_document : (instance : PlainInstance) (claim : Claim) (backing : Lines) → IsInstance instance
    → IsBacked instance claim backing
    → IsHeadedAbout Bounded instance (lines_text (claim_lines instance claim backing)) claim
backed_document instance claim backing limits backed =
    let filled : AreFilled (claim_lines instance claim backing) =
    filled_document Bounded instance (job_of claim) (result_words claim) backing limits backed.words backed.filled in
    record {
      document = record {
        instance = instance;
        written = instance_words instance;
        result = result_words claim;
        backing = backing;
        headed = backed.headed;
        clean = clean_text (claim_lines instance claim backing) filled;
        are = filled_text (claim_lines instance claim backing) filled;
        is_instance = instance_form instance limits;
        is_result = backed.result;
        backed = backed.backs;
      };
      about = refl;
    }

-- ---- heights

-- the coordinates are a packing at height `b`, and the tokens refute height `a`
record ShowsHeights (instance : PlainInstance) (a b : ℕ) (places : List ℕ) (tokens : List FamilyToken) : Type 0 where
  rising : a < b
  most : b ≤ max_height
  packing : IsPacking (with_last_side instance b) places
  refutation : RefutesFamilies (with_last_side instance a) (Free []) tokens
  joining : AreJoining tokens

record AreHeights (instance : PlainInstance) (a b : ℕ) (places : List ℕ) (tokens : List FamilyToken) : Type 0 where
  filled : AreFilled (heights_backing instance places tokens)
  backs : AreProved (ArePlaced (with_last_side instance b)) (RefuteHeight Bounded instance a)
      (heights_backing instance places tokens)

heights_backed : (instance : PlainInstance) (a b : ℕ) (places : List ℕ) (tokens : List FamilyToken)
    → IsInstance instance → ShowsHeights instance a b places tokens → AreHeights instance a b places tokens
heights_backed instance a b places tokens limits shown =
    let rising = shown.rising in
    let most = shown.most in
    let high : IsBounded (with_last_side instance b) = level_bounded instance b limits most in
    let low : IsBounded (with_last_side instance a) = level_bounded instance a limits (omega (arith, rising, most)) in
    let written : HaveFamilyLines (dims (with_last_side instance a)) tokens =
    families_written (with_last_side instance a) low shown.refutation shown.joining in
    let same : dims (with_last_side instance b) ≡ dims instance = length-set instance.container (dims instance - 1) b in
    let d = limits.dimensions.0 in
    let back : AreFilled ((codes "proof" ∷ []) ∷ family_token_lines tokens) =
    ((omega arith, refl, tt), refl, families_filled (dims (with_last_side instance a)) tokens written) in
    record {
      filled = filled_append (place_lines instance places) ((codes "proof" ∷ []) ∷ family_token_lines tokens)
          (subst AreFilled (level_lines instance b places)
          (packing_filled (with_last_side instance b) places high shown.packing)) back;
      backs = record {
        front = place_lines instance places;
        back = family_token_lines tokens;
        are = refl;
        is_front = subst (ArePlaced (with_last_side instance b)) (level_lines instance b places)
            (packing_placed (with_last_side instance b) places (omega (arith, d, same)) high shown.packing);
        is_back = record {
          tokens = tokens;
          are_lines = families_are_lines (dims (with_last_side instance a)) tokens written;
          refute = shown.refutation;
        };
      };
    }

least_backed : (instance : PlainInstance) (a b : ℕ) (places : List ℕ) (tokens : List FamilyToken)
    → IsInstance instance → suc a ≡ b → ShowsHeights instance a b places tokens
    → IsBacked instance (LeastHeight b) (heights_backing instance places tokens)
least_backed instance a b places tokens limits e shown =
    let heights = heights_backed instance a b places tokens limits shown in
    let below : a ≡ pred b = ap pred e in
    let most = shown.most in
    record {
      headed = tt;
      words = (omega arith, refl, number_plain b (omega (arith, most)));
      result = record {
        number = decimal b;
        are = refl;
        is_number = decimal_number 1 max_height b (omega (arith, e)) most (omega arith);
      };
      filled = heights.filled;
      backs = subst (λ (h : ℕ). AreProved (ArePlaced (with_last_side instance b)) (RefuteHeight Bounded instance h)
          (heights_backing instance places tokens)) below heights.backs;
    }

between_backed : (instance : PlainInstance) (a b : ℕ) (places : List ℕ) (tokens : List FamilyToken)
    → IsInstance instance → ShowsHeights instance a b places tokens
    → IsBacked instance (HeightBetween a b) (heights_backing instance places tokens)
between_backed instance a b places tokens limits shown =
    let heights = heights_backed instance a b places tokens limits shown in
    let rising = shown.rising in
    let most = shown.most in
    record {
      headed = tt;
      words = (omega arith, refl, numbers_plain a b (omega (arith, rising, most)) (omega (arith, most)));
      result = record {
        first = decimal a;
        second = decimal b;
        are = refl;
        is_first = number_decimal a (omega (arith, rising, most));
        is_second = number_decimal b (omega (arith, most));
        rising = rising;
        most = most;
      };
      filled = heights.filled;
      backs = heights.backs;
    }

-- ---- answers

module _ (instance : PlainInstance) (limits : IsInstance instance) where
  -- the document says least where the heights are neighbours, else between
  heights_document : (heights : BoundedHeights) → AreBoundedHeights instance heights
      → IsHeadedAbout Bounded instance (bounded_strip_text instance (Heights heights))
      (height_claim heights.refuted heights.placed)
  unfolding bounded_strip_text height_claim
  heights_document heights are = go (suc heights.refuted == heights.placed) refl
    where
      shown : ShowsHeights instance heights.refuted heights.placed heights.places heights.tokens
      shown = record {
        rising = are.rising;
        most = are.most;
        packing = are.packing;
        refutation = are.refutation;
        joining = are.joining;
      }

      go : (b : Bool) → (suc heights.refuted == heights.placed) ≡ b
          → IsHeadedAbout Bounded instance
          (lines_text (document_lines (codes "bounded") instance Strip
          (result_words (cond b (LeastHeight heights.placed) (HeightBetween heights.refuted heights.placed)))
          (heights_backing instance heights.places heights.tokens)))
          (cond b (LeastHeight heights.placed) (HeightBetween heights.refuted heights.placed))
      go true e =
          backed_document instance (LeastHeight heights.placed) (heights_backing instance heights.places heights.tokens) limits
          (least_backed instance heights.refuted heights.placed heights.places heights.tokens limits
          (eqb-true (suc heights.refuted) heights.placed e) shown)
      go false e =
          backed_document instance (HeightBetween heights.refuted heights.placed)
          (heights_backing instance heights.places heights.tokens) limits
          (between_backed instance heights.refuted heights.placed heights.places heights.tokens limits shown)

  -- the first box that is too wide exceeds the container in a dimension other than the last
  wide_document : (v i : ℕ) → IsFirstTooWide instance v i
      → IsHeadedAbout Bounded instance (bounded_strip_text instance (NoneFits v i)) NoHeight
  unfolding bounded_strip_text
  wide_document v i wide =
      let there = wide.there in
      let inside = wide.in_range in
      let large : IsTooLarge instance (suc v) (suc i) = record {
        box_from = omega arith;
        box_to = omega (arith, there);
        dim_from = omega arith;
        dim_to = omega (arith, inside);
        large = wide.large;
      } in
      let none = no_height_backed Bounded instance [] (TooLarge (suc v) (suc i) ∷ []) limits
      (record { box_no = suc v; dim = suc i; are = refl; large = large; among = omega (arith, inside) }) in
      backed_document instance NoHeight (strip_backing instance (NoneFits v i)) limits
      (record { headed = tt; words = none.words; result = none.result; filled = none.filled; backs = none.backs })

  own_document : (strip : BoundedStrip) → IsBoundedStrip instance strip
      → IsHeadedAbout Bounded instance (bounded_strip_text instance strip) (strip_claim strip)
  own_document (Heights heights) are = heights_document heights are
  own_document (NoneFits v i) wide = wide_document v i wide

pub own_bounded_strips_verified : OwnBoundedStripsAreVerified
own_bounded_strips_verified instance strip limits is =
    let own = own_document instance limits strip is in
    let verified = (documents_have_form Bounded (bounded_strip_text instance strip) (strip_claim strip)).1 own.document in
    record {
      document = own.document;
      about = own.about;
      kind = bounded_documents (bounded_strip_text instance strip) (strip_claim strip) verified;
      verified = verified;
    }
