-- What stands behind the result line, up to `end`, backs its claim.
use Rattle.std.proofs.Common.{◌≡◌, ℕ, suc, pred, ◌+◌, ◌*◌, ◌≤◌, refl, sym, ap, subst, ◌∙◌, arith, Bool, true}
use Rattle.std.proofs.Common.{false, cond, ◌&&◌, ◌-◌, inl, List, [], ◌∷◌, ◌++◌, length, append_assoc, Some, None, Ok}
use Rattle.std.proofs.Common.{codes}
use Rattle.std.specs.Prelude.{nat_le, nat_lt}
use Rattle.std.proofs.lemmas.Bool.{and_parts, leb-true, ltb-true}
use Rattle.std.proofs.lemmas.List.{length-append, length-map}
use Rattle.packing_terms.specs.Packing.{PlainInstance, dims, box_count, container_side, side}
use Rattle.packing_terms.specs.Goals.{with_last_side, subset, worth}
use Rattle.packing_terms.specs.Tokens.{PlainToken}
use Rattle.packing_terms.specs.Tokens.PlainToken.{Apart, Order, Rules, TooLarge, Scales, Assign, Choose, SetRefuted}
use Rattle.packing_terms.specs.Tokens.PlainToken.{ValueShort, GlobalScales}
use Rattle.verdict_terms.specs.declared.check_answers.PlaceVerdict.TheVariants.{Good}
use Rattle.verdict_terms.specs.Placing.{place_verdict}
use Rattle.verdict_terms.specs.Judging.{names_box}
use Rattle.verdict_terms.proofs.Places.{places_tested}
use Rattle.text_terms.specs.declared.claim.Claim.{Claim}
use Rattle.text_terms.specs.declared.claim.Claim.TheVariants.{Fitting, NotFitting, LeastHeight, HeightBetween}
use Rattle.text_terms.specs.declared.claim.Claim.TheVariants.{NoHeight, LeastBins, BinsBetween, NoBins}
use Rattle.text_terms.specs.declared.claim.Claim.TheVariants.{GreatestValue, ValueBetween}
use Rattle.verdict_terms.specs.declared.heading.Heading.{Heading}
use Rattle.verdict_terms.specs.declared.heading.Heading.TheVariants.{Answer}
use Rattle.verdict_terms.specs.Reasons.{range}
use Rattle.verdict_terms.specs.declared.reason.Reason.TheVariants.{TooLittle}
use Rattle.text_terms.specs.TokenLines.{token_of}
use Rattle.verdict_terms.specs.Trees.{Refuted, ToFit, ToFitIn}
use Rattle.verdict_terms.specs.Stages.{Stage, groups_reason, start_exclusions, claimed, placed, refutation_goal, is_word}
use Rattle.verdict_terms.specs.Stages.{tree_token, exceeding_token, exceeding_line, value_stage}
use Rattle.verdict_terms.specs.Stages.Stage.{Placing, Sharing, Taking, Exceeding, Ending}
use Rattle.verdict_terms.specs.Form.{AreNumberedLines, ArePlaced, AreShared, AreTaken, AreRefuting, IsExceedingLine}
use Rattle.verdict_terms.specs.Form.{AreProved, RefuteHeight, RefuteValue, BacksUnder}
use Rattle.verdict_terms.proofs.Passed.{require_ok, ok_is}
use Rattle.verdict_terms.proofs.Walk.{read_words}
use Rattle.verdict_terms.proofs.BinsGood.{bins_good}
use Rattle.verdict_terms.proofs.TreesTold.{end_told, token_ok, refuting_told}
use Rattle.verdict_terms.proofs.BoundsTold.{PassingTold, passing_told}
use Rattle.verdict_terms.proofs.FamiliesTold.{ProofTold, proof_told, height_told}
use Rattle.verdict_terms.proofs.PlacesTold.{group_good, places_good, places_told, shares_told, takes_told}
use Rattle.verdict_terms.proofs.PlacesTold.{numbered_count, no_first}
use Rattle.text_terms.proofs.Good.{bind_ok}

-- lines up to `end` that back the claim
pub record BackedTold (heading : Heading) (instance : PlainInstance) (claim told : Claim)
    (lines : List (List (List ℕ))) : Type 0 where
  pub backing : List (List (List ℕ))
  pub are : lines ≡ backing ++ (codes "end" ∷ []) ∷ []
  pub backs : BacksUnder heading instance claim backing
  pub same : claim ≡ told

-- lines of one kind, and a proof behind them
proved : (First Second : List (List (List ℕ)) → Type 0) (claim told : Claim) (lines front back : List (List (List ℕ)))
    → lines ≡ front ++ back → First front → ProofTold claim told Second back
    → (backing : List (List (List ℕ))) × (lines ≡ backing ++ (codes "end" ∷ []) ∷ [])
    × AreProved First Second backing × (claim ≡ told)
proved First Second claim told lines front back e first p = (
  front ++ (codes "proof" ∷ []) ∷ p.body,
  e ∙ ap (λ ls. front ++ ls) p.are ∙ sym (append_assoc front ((codes "proof" ∷ []) ∷ p.body) ((codes "end" ∷ []) ∷ [])),
  record { front = front; back = p.body; are = refl; is_front = first; is_back = p.refuting },
  p.same,
)

-- ---- places

places_backed : (heading : Heading) (instance : PlainInstance) (claim told : Claim) (refuted : Refuted)
    (lines : List (List (List ℕ))) → read_words (Placing heading instance claim refuted []) lines ≡ Ok told
    → (front : List (List (List ℕ))) × (back : List (List (List ℕ))) × (lines ≡ front ++ back)
    × ArePlaced instance front × (read_words (placed heading claim refuted) back ≡ Ok told)
places_backed heading instance claim told refuted lines e =
    let t = places_told heading instance claim told refuted [] lines e in (
      t.front,
      t.back,
      t.are,
      record {
        places = t.more;
        are_lines = t.are_lines;
        packing = places_good instance t.more t.count t.good;
      },
      t.rest,
    )

-- as many coordinates as lines have
numbered_length : (key : List ℕ) (most d : ℕ) (lines : List (List (List ℕ))) (ns places : List ℕ)
    → AreNumberedLines key most d lines ns places → length places ≡ length ns * d
numbered_length key most d [] [] places are = ap length are ∙ (let z : 0 ≡ 0 * d = omega arith in z)
numbered_length key most d [] (n ∷ ns) places are = absurd are
numbered_length key most d (words ∷ lines) [] places are = absurd are
numbered_length key most d (words ∷ lines) (n ∷ ns) places (xs, more, e, line, rest) =
    let a = numbered_count key most d n words xs line in
    let b = numbered_length key most d lines ns more rest in
    let c = length-append xs more in
    let r : suc (length ns) * d ≡ d + length ns * d = grind arith in
    ap length e ∙ omega (arith, a, b, c, r)

shares_backed : (instance : PlainInstance) (claim told : Claim) (k : ℕ) (lines : List (List (List ℕ)))
    → read_words (Sharing instance claim k [] []) lines ≡ Ok told
    → (front : List (List (List ℕ))) × (back : List (List (List ℕ))) × (lines ≡ front ++ back)
    × AreShared instance k front × (read_words (placed Answer claim (refutation_goal Answer instance claim)) back ≡ Ok told)
shares_backed instance claim told k lines e =
    let t = shares_told instance claim told k [] [] lines e in (
      t.front,
      t.back,
      t.are,
      record {
        bins = t.more_bins;
        places = t.more;
        are_lines = t.are_lines;
        packing = bins_good instance k t.more_bins t.more t.count
            (numbered_length (codes "place") k (dims instance) t.front t.more_bins t.more t.are_lines) t.below t.good;
      },
      t.rest,
    )

worth_enough : (b : Bool) → cond b None (Some TooLittle) ≡ None → b ≡ true
worth_enough true e = refl
worth_enough false e = absurd (cc (e))

takes_backed : (heading : Heading) (instance : PlainInstance) (claim told : Claim) (value : ℕ) (lines : List (List (List ℕ)))
    → read_words (Taking heading instance claim value [] []) lines ≡ Ok told
    → (front : List (List (List ℕ))) × (back : List (List (List ℕ))) × (lines ≡ front ++ (codes "proof" ∷ []) ∷ back)
    × AreTaken instance value front
    × (read_words (value_stage heading instance claim) back ≡ Ok told)
takes_backed heading instance claim told value lines e =
    let t = takes_told heading instance claim told value [] [] lines
    (record { there = λ k d h. absurd (omega arith); rising = λ k h. absurd (omega arith) }) e in
    let r = no_first (groups_reason ((t.more_taken, place_verdict (subset instance t.more_taken) t.more) ∷ []))
    (cond (nat_le value (worth instance t.more_taken)) None (Some TooLittle)) t.good in
    let count : length t.more ≡ box_count (subset instance t.more_taken) * dims (subset instance t.more_taken) =
    numbered_length (codes "take") (box_count instance) (dims instance) t.front t.more_taken t.more t.are_lines
    ∙ ap (λ n. n * dims instance) (sym (length-map t.more_taken _)) in (
      t.front,
      t.back,
      t.are,
      record {
        taken = t.more_taken;
        places = t.more;
        are_lines = t.are_lines;
        set = t.set;
        packing = (places_tested (subset instance t.more_taken) t.more Good count).0
            (group_good ((t.more_taken, place_verdict (subset instance t.more_taken) t.more) ∷ []) r.0
            (t.more_taken, place_verdict (subset instance t.more_taken) t.more) (inl refl));
        enough = leb-true value (worth instance t.more_taken) (worth_enough _ r.1);
      },
      t.rest,
    )

-- ---- the `t` line of `none`

exceeding_told : (instance : PlainInstance) (claim told : Claim) (m : ℕ) (lines : List (List (List ℕ)))
    → m ≤ dims instance → read_words (Exceeding instance claim m) lines ≡ Ok told
    → (words : List (List ℕ)) × (lines ≡ words ∷ (codes "end" ∷ []) ∷ []) × IsExceedingLine instance m (words ∷ [])
    × (claim ≡ told)
exceeding_told instance claim told m [] few e = absurd (cc (e))
exceeding_told instance claim told m (words ∷ lines) few e =
    let b = bind_ok (exceeding_line instance claim m words) (λ next. read_words next lines) told e in
    let t = bind_ok (tree_token (is_word (codes "end") words) (token_of (dims instance) words))
    (λ t. exceeding_token instance claim m t) b.0 b.1 in
    by_token t.0 (token_ok _ _ t.0 t.1) b.0 t.2 b.2
  where
    by_token : (t : PlainToken) → token_of (dims instance) words ≡ Some t → (next : Stage)
        → exceeding_token instance claim m t ≡ Ok next → read_words next lines ≡ Ok told
        → (words' : List (List ℕ)) × (words ∷ lines ≡ words' ∷ (codes "end" ∷ []) ∷ [])
        × IsExceedingLine instance m (words' ∷ []) × (claim ≡ told)
    by_token (TooLarge v i) is next f r =
        let q = require_ok (names_box instance v && (nat_le 1 i && nat_le i m)) range _ next f in
        let w = require_ok (nat_lt (container_side instance (pred i)) (side instance (pred v) (pred i))) _
        (Ok (Ending claim (Some (dims instance)))) next q.1 in
        let p = and_parts _ _ q.0 in
        let box = and_parts _ _ p.0 in
        let dim = and_parts _ _ p.1 in
        let last = leb-true i m dim.1 in
        let d = end_told claim told (Some (dims instance)) lines
        (subst (λ s. read_words s lines ≡ Ok told)
        (sym (ok_is (Ending claim (Some (dims instance))) next w.1)) r) in (
          words,
          ap (λ ls. words ∷ ls) d.are,
          record {
            words = words;
            box_no = v;
            dim = i;
            are = refl;
            is_token = is;
            large = record {
              box_from = leb-true 1 v box.0;
              box_to = leb-true v (box_count instance) box.1;
              dim_from = leb-true 1 i dim.0;
              dim_to = omega (arith, last, few);
              large = ltb-true (container_side instance (pred i)) (side instance (pred v) (pred i)) w.0;
            };
            among = last;
          },
          d.same,
        )
    by_token (Apart i u v) is next f r = absurd (cc (f))
    by_token (Order i u v) is next f r = absurd (cc (f))
    by_token Rules is next f r = absurd (cc (f))
    by_token (Scales fs) is next f r = absurd (cc (f))
    by_token (Assign v) is next f r = absurd (cc (f))
    by_token (Choose v) is next f r = absurd (cc (f))
    by_token (SetRefuted b) is next f r = absurd (cc (f))
    by_token ValueShort is next f r = absurd (cc (f))
    by_token (GlobalScales fs) is next f r = absurd (cc (f))

-- ---- each claim

-- taken boxes, `proof`, and lines that refute a value
value_backed : (heading : Heading) (instance : PlainInstance) (claim told : Claim) (reached refuted : ℕ)
    → ((back : List (List (List ℕ))) → read_words (value_stage heading instance claim) back ≡ Ok told
    → PassingTold heading instance claim told refuted back)
    → (lines : List (List (List ℕ))) → read_words (Taking heading instance claim reached [] []) lines ≡ Ok told
    → (backing : List (List (List ℕ))) × (lines ≡ backing ++ (codes "end" ∷ []) ∷ [])
    × AreProved (AreTaken instance reached) (RefuteValue heading instance refuted) backing × (claim ≡ told)
value_backed heading instance claim told reached refuted passing lines e =
    let p = takes_backed heading instance claim told reached lines e in
    let t = passing p.1 p.4 in (
      p.0 ++ (codes "proof" ∷ []) ∷ t.body,
      p.2 ∙ ap (λ ls. p.0 ++ (codes "proof" ∷ []) ∷ ls) t.are
          ∙ sym (append_assoc p.0 ((codes "proof" ∷ []) ∷ t.body) ((codes "end" ∷ []) ∷ [])),
      record { front = p.0; back = t.body; are = refl; is_front = p.3; is_back = t.passing },
      t.same,
    )

pub backed_told : (heading : Heading) (instance : PlainInstance) (claim told : Claim) (lines : List (List (List ℕ)))
    → read_words (claimed heading instance claim) lines ≡ Ok told → BackedTold heading instance claim told lines
backed_told heading instance Fitting told lines e =
    let p = places_backed heading instance Fitting told (refutation_goal heading instance Fitting) lines e in
    let d = end_told Fitting told None p.1 p.4 in
    record { backing = p.0; are = p.2 ∙ ap (λ ls. p.0 ++ ls) d.are; backs = p.3; same = d.same }
backed_told heading instance NotFitting told lines e =
    let t = refuting_told NotFitting told (ToFit instance (start_exclusions heading instance)) lines e in
    record { backing = t.body; are = t.are; backs = t.refuting; same = t.same }
backed_told heading instance (LeastHeight h) told lines e =
    let p = places_backed heading (with_last_side instance h) (LeastHeight h) told
    (refutation_goal heading instance (LeastHeight h)) lines e in
    let q = proved (ArePlaced (with_last_side instance h)) (RefuteHeight heading instance (pred h)) (LeastHeight h) told
    lines p.0 p.1 p.2 p.3 (height_told heading instance (LeastHeight h) told (pred h) p.1 p.4) in
    record { backing = q.0; are = q.1; backs = q.2; same = q.3 }
backed_told heading instance (HeightBetween a b) told lines e =
    let p = places_backed heading (with_last_side instance b) (HeightBetween a b) told
    (refutation_goal heading instance (HeightBetween a b)) lines e in
    let q = proved (ArePlaced (with_last_side instance b)) (RefuteHeight heading instance a) (HeightBetween a b) told
    lines p.0 p.1 p.2 p.3 (height_told heading instance (HeightBetween a b) told a p.1 p.4) in
    record { backing = q.0; are = q.1; backs = q.2; same = q.3 }
backed_told heading instance NoHeight told lines e =
    let t = exceeding_told instance NoHeight told (dims instance - 1) lines (omega arith) e in
    record { backing = t.0 ∷ []; are = t.1; backs = t.2; same = t.3 }
backed_told heading instance (LeastBins k) told lines e =
    let p = shares_backed instance (LeastBins k) told k lines e in
    let q = proved (AreShared instance k) (AreRefuting (ToFitIn instance (pred k))) (LeastBins k) told
    lines p.0 p.1 p.2 p.3
    (proof_told (LeastBins k) told (ToFitIn instance (pred k)) p.1 p.4) in
    record { backing = q.0; are = q.1; backs = q.2; same = q.3 }
backed_told heading instance (BinsBetween a b) told lines e =
    let p = shares_backed instance (BinsBetween a b) told b lines e in
    let q = proved (AreShared instance b) (AreRefuting (ToFitIn instance a)) (BinsBetween a b) told
    lines p.0 p.1 p.2 p.3
    (proof_told (BinsBetween a b) told (ToFitIn instance a) p.1 p.4) in
    record { backing = q.0; are = q.1; backs = q.2; same = q.3 }
backed_told heading instance NoBins told lines e =
    let t = exceeding_told instance NoBins told (dims instance) lines (omega arith) e in
    record { backing = t.0 ∷ []; are = t.1; backs = t.2; same = t.3 }
backed_told heading instance (GreatestValue v) told lines e =
    let q = value_backed heading instance (GreatestValue v) told v (suc v)
    (passing_told heading instance (GreatestValue v) told (suc v) refl refl refl) lines e in
    record { backing = q.0; are = q.1; backs = q.2; same = q.3 }
backed_told heading instance (ValueBetween a b) told lines e =
    let q = value_backed heading instance (ValueBetween a b) told a b
    (passing_told heading instance (ValueBetween a b) told b refl refl refl) lines e in
    record { backing = q.0; are = q.1; backs = q.2; same = q.3 }
