-- The bytes of a document, fed from its start with each line taken as it ends, give its verdict.
use Rattle.std.proofs.Common.{◌≡◌, ℕ, suc, pred, ◌+◌, ◌-◌, ◌*◌, ◌≤◌, refl, sym, ap, ap₂, subst, ◌∙◌, arith, Bool, true}
use Rattle.std.proofs.Common.{false, cond, not, ◌&&◌, ◌==◌, List, [], ◌∷◌, ◌++◌, take, length, Option, Some, None}
use Rattle.std.proofs.Common.{Result, Ok, Err, codes}
use Rattle.std.specs.Prelude.{nat_le, nat_lt}
use Rattle.std.specs.List.{list_all}
use mathlib.Core.Path.{fun_ext}
use Rattle.std.proofs.Math.ListN.{length-set}
use Rattle.packing_terms.specs.Packing.{PlainInstance, dims, box_count, container_side, side}
use Rattle.packing_terms.specs.Goals.{with_last_side}
use Rattle.packing_terms.specs.Tokens.{PlainToken}
use Rattle.packing_terms.specs.Tokens.PlainToken.{Apart, Order, Rules, TooLarge, Scales, Assign, Choose, SetRefuted}
use Rattle.packing_terms.specs.Tokens.PlainToken.{ValueShort, GlobalScales}
use Rattle.packing_terms.specs.OuterRefutation.{Choice as BoxChoice}
use Rattle.packing_terms.specs.OuterFeeding.{OpenNode}
use Rattle.verdict_terms.specs.BoundedRefutation.{BoundedToken}
use Rattle.verdict_terms.specs.BoundedJudging.{bounded_after}
use Rattle.verdict_terms.specs.BoundedLines.{bounded_token_of}
use Rattle.verdict_terms.specs.FamilyRefutation.{FamilyToken, FamilyNode, Free}
use Rattle.verdict_terms.specs.FamilyChecking.{families_after}
use Rattle.verdict_terms.specs.FamilyLines.{family_token_of}
use Rattle.verdict_terms.proofs.BoundsTold.{bounded_token_cut}
use Rattle.verdict_terms.proofs.FamiliesTold.{family_token_cut}
use Rattle.text_terms.specs.Lines.{Line, line_of, text_lines, cut_line, cut_words, is_line_feed, same_bytes}
use Rattle.packing_terms.specs.Results.{◌>>=◌}
use Rattle.text_terms.specs.Texts.{Parts, no_parts, add_line, at_end as end_of, refuse, IsWithinLimits}
use Rattle.text_terms.specs.Feeding.{Lexer, new_lexer, end_line, add_byte, held_of, feed, finish, NumberedLine}
use Rattle.text_terms.specs.Feeding.{told_now, lines_fed, numbered_lines}
use Rattle.text_terms.proofs.Cut.{same_front, words_cut}
use Rattle.text_terms.proofs.Good.{good_start, line_good, parts_limits, bind_ok}
use Rattle.text_terms.proofs.LinesFed.{texts_are_lines}
use Rattle.verdict_terms.specs.Judging.{names_box}
use Rattle.text_terms.specs.declared.claim.SolvingJob.{SolvingJob}
use Rattle.text_terms.specs.declared.claim.Claim.{Claim}
use Rattle.text_terms.specs.declared.claim.Claim.TheVariants.{Fitting, NotFitting, LeastHeight, HeightBetween}
use Rattle.text_terms.specs.declared.claim.Claim.TheVariants.{NoHeight, LeastBins, BinsBetween, NoBins}
use Rattle.text_terms.specs.declared.claim.Claim.TheVariants.{GreatestValue, ValueBetween}
use Rattle.verdict_terms.specs.declared.heading.Heading.{Heading}
use Rattle.verdict_terms.specs.declared.heading.Heading.TheVariants.{Answer, Reduced, Bounded}
use Rattle.verdict_terms.specs.declared.reason.Reason.{Reason}
use Rattle.verdict_terms.specs.Reasons.{form, range}
use Rattle.verdict_terms.specs.Numbers.{require, numbers_line, coordinates}
use Rattle.text_terms.specs.TokenLines.{token_of}
use Rattle.text_terms.proofs.Cuts.{token_cut, cut_rest}
use Rattle.verdict_terms.specs.Trees.{Refuted, ToFit, ToFitIn, ToReach, Tree, begun, is_whole, refuted_instance}
use Rattle.verdict_terms.specs.Trees.{refuted_dims, tree_dims, tree_after}
use Rattle.verdict_terms.specs.Results.{claim_of}
use Rattle.verdict_terms.specs.Stages.{Stage, text_fault, end_of_parts, is_result, reading_line, rest_of, words_line}
use Rattle.verdict_terms.specs.Stages.{share_line, take_box_line, exceeding_token, refused_by, places_reason}
use Rattle.verdict_terms.specs.Stages.{bins_reason, taken_reason, refutation_goal, is_word, tree_token, coded, late_line}
use Rattle.verdict_terms.specs.Stages.{late_by, grown_tree, proving, placed, claimed, filled_line, stage_after, is_blank}
use Rattle.verdict_terms.specs.Stages.{value_stage, bounding_end, bounding_token, gathering_end, gathering_token}
use Rattle.verdict_terms.specs.Stages.Stage.{Beginning, Reading, Placing, Sharing, Taking, Proving, Refuting, Exceeding}
use Rattle.verdict_terms.specs.Stages.Stage.{ProvingFamilies, Bounding, Gathering}
use Rattle.verdict_terms.specs.Stages.Stage.{Ending, Ended}
use Rattle.verdict_terms.specs.Documents.{Refusal, document_at_line, document_at_end, read_document_lines}
use Rattle.verdict_terms.specs.Documents.{headed_verdict}
use Rattle.verdict_terms.specs.Fed.{taken_line, fed_verdict, DocumentsAreFed}
use Rattle.verdict_terms.proofs.Passed.{require_ok, refused_ok, ok_is}
use Rattle.verdict_terms.proofs.Cuts.{numbers_cut, is_word_cut, heading_cut, claim_cut}
use Rattle.verdict_terms.proofs.FormTold.{heading_ok, end_ok, fault_ok}
use Rattle.verdict_terms.proofs.TreesTold.{dims_same, dims_begun, coded_ok}

-- ---- what holds of a stage: no more than four dimensions

abbrev IsWell : Stage → Type 0
IsWell (Beginning heading) = Unit {0}
IsWell (Reading heading job parts) = IsWithinLimits parts
IsWell (Placing heading instance claim refuted places) = (dims instance ≤ 4) × (refuted_dims refuted ≤ 4)
IsWell (Sharing instance claim k bins places) = dims instance ≤ 4
IsWell (Taking heading instance claim value taken places) = dims instance ≤ 4
IsWell (Bounding instance claim value nodes) = dims instance ≤ 4
IsWell (Gathering instance claim nodes) = dims instance ≤ 4
IsWell (Proving claim refuted) = refuted_dims refuted ≤ 4
IsWell (ProvingFamilies instance claim) = dims instance ≤ 4
IsWell (Refuting claim tree) = tree_dims tree ≤ 4
IsWell (Exceeding instance claim m) = dims instance ≤ 4
IsWell (Ending claim (Some d)) = d ≤ 4
IsWell (Ending claim None) = Unit {0}
IsWell (Ended claim) = Unit {0}

module _ (instance : PlainInstance) (few : dims instance ≤ 4) where
  higher : (h : ℕ) → dims (with_last_side instance h) ≤ 4
  higher h = let e = length-set instance.container (dims instance - 1) h in omega (arith, e, few)

  refute_well : (heading : Heading) (claim : Claim) → refuted_dims (refutation_goal heading instance claim) ≤ 4
  refute_well heading Fitting = few
  refute_well heading NotFitting = few
  refute_well heading (LeastHeight h) = higher (pred h)
  refute_well heading (HeightBetween a b) = higher a
  refute_well heading NoHeight = few
  refute_well heading (LeastBins k) = few
  refute_well heading (BinsBetween a b) = few
  refute_well heading NoBins = few
  refute_well heading (GreatestValue v) = few
  refute_well heading (ValueBetween a b) = few

  claimed_well : (heading : Heading) (claim : Claim) → IsWell (claimed heading instance claim)
  claimed_well heading Fitting = (few, few)
  claimed_well heading NotFitting = few
  claimed_well heading (LeastHeight h) = (higher h, higher (pred h))
  claimed_well heading (HeightBetween a b) = (higher b, higher a)
  claimed_well heading NoHeight = few
  claimed_well heading (LeastBins k) = few
  claimed_well heading (BinsBetween a b) = few
  claimed_well heading NoBins = few
  claimed_well heading (GreatestValue v) = few
  claimed_well heading (ValueBetween a b) = few

refuted_few : (refuted : Refuted) → refuted_dims refuted ≤ 4 → dims (refuted_instance refuted) ≤ 4
refuted_few (ToFit instance start) few = few
refuted_few (ToFitIn instance k) few = few
refuted_few (ToReach instance y) few = few

proving_well : (heading : Heading) (claim : Claim) (refuted : Refuted) → refuted_dims refuted ≤ 4
    → IsWell (proving heading claim refuted)
proving_well Answer claim refuted few = few
proving_well Reduced claim refuted few = few
proving_well Bounded claim refuted few = refuted_few refuted few

placed_well : (heading : Heading) (claim : Claim) (refuted : Refuted) → refuted_dims refuted ≤ 4
    → IsWell (placed heading claim refuted)
placed_well heading Fitting refuted few = tt
placed_well heading NotFitting refuted few = proving_well heading NotFitting refuted few
placed_well heading (LeastHeight h) refuted few = proving_well heading (LeastHeight h) refuted few
placed_well heading (HeightBetween a b) refuted few = proving_well heading (HeightBetween a b) refuted few
placed_well heading NoHeight refuted few = proving_well heading NoHeight refuted few
placed_well heading (LeastBins k) refuted few = proving_well heading (LeastBins k) refuted few
placed_well heading (BinsBetween a b) refuted few = proving_well heading (BinsBetween a b) refuted few
placed_well heading NoBins refuted few = proving_well heading NoBins refuted few
placed_well heading (GreatestValue v) refuted few = proving_well heading (GreatestValue v) refuted few
placed_well heading (ValueBetween a b) refuted few = proving_well heading (ValueBetween a b) refuted few

begun_well : (refuted : Refuted) → refuted_dims refuted ≤ 4 → tree_dims (begun refuted) ≤ 4
begun_well refuted few = subst (λ m. m ≤ 4) (sym (dims_begun refuted)) few

abbrev GivesWell : Result Stage Reason → Type 0
GivesWell r = (next : Stage) → r ≡ Ok next → IsWell next

gives_well : (stage : Stage) → IsWell stage → GivesWell (Ok stage)
gives_well stage well next e = subst IsWell (ok_is stage next e) well

grown_well : (claim : Claim) (tree : Tree) → tree_dims tree ≤ 4 → IsWell (grown_tree claim tree)
grown_well claim tree few = go (is_whole tree)
  where
    go : (b : Bool) → IsWell (cond b (Ending claim (Some (tree_dims tree))) (Refuting claim tree))
    go true = few
    go false = few

place_well : (b : Bool) (o : Option Reason) (stage later : Stage) → IsWell stage → IsWell later
    → GivesWell (elim b as (λ x. Result Stage Reason) [ true ↦ refused_by o (Ok stage) | false ↦ Ok later ])
place_well true o stage later w v next e = gives_well stage w next (refused_ok o (Ok stage) next e).1
place_well false o stage later w v next e = gives_well later v next e

share_well : (instance : PlainInstance) (claim : Claim) (k : ℕ) (bins places ns : List ℕ) → dims instance ≤ 4
    → GivesWell (share_line instance claim k bins places ns)
share_well instance claim k bins places [] few next e = absurd (cc (e))
share_well instance claim k bins places (b ∷ ns) few next e =
    let q = require_ok (nat_le 1 b && nat_le b k) range _ next e in
    let c = bind_ok (coordinates ns) _ next q.1 in
    place_well (length (bins ++ pred b ∷ []) == box_count instance)
    (bins_reason instance k (bins ++ pred b ∷ []) (places ++ c.0))
    (placed Answer claim (refutation_goal Answer instance claim))
    (Sharing instance claim k (bins ++ pred b ∷ []) (places ++ c.0))
    (placed_well Answer claim (refutation_goal Answer instance claim) (refute_well instance few Answer claim)) few next c.2

value_well : (heading : Heading) (instance : PlainInstance) (claim : Claim) → dims instance ≤ 4
    → IsWell (value_stage heading instance claim)
value_well Answer instance claim few =
    begun_well (refutation_goal Answer instance claim) (refute_well instance few Answer claim)
value_well Reduced instance claim few =
    begun_well (refutation_goal Reduced instance claim) (refute_well instance few Reduced claim)
value_well Bounded instance claim few = few

take_well : (heading : Heading) (instance : PlainInstance) (claim : Claim) (value : ℕ) (taken places ns : List ℕ) → dims instance ≤ 4
    → GivesWell (take_box_line heading instance claim value taken places ns)
take_well heading instance claim value taken places [] few next e = absurd (cc (e))
take_well heading instance claim value taken places (v ∷ ns) few next e =
    let q = require_ok (names_box instance v && list_all (λ u. nat_lt u (pred v)) taken) range _ next e in
    let c = bind_ok (coordinates ns) _ next q.1 in
    gives_well (Taking heading instance claim value (taken ++ pred v ∷ []) (places ++ c.0)) few next c.2

taking_well : (heading : Heading) (instance : PlainInstance) (claim : Claim) (value : ℕ) (taken places : List ℕ) (words : List (List ℕ))
    (b : Bool) → dims instance ≤ 4
    → GivesWell (elim b as (λ x. Result Stage Reason) [
      | true ↦ refused_by (taken_reason instance value taken places)
          (Ok (value_stage heading instance claim))
      | false ↦ numbers_line (codes "take") (suc (dims instance)) words
          >>= λ ns. take_box_line heading instance claim value taken places ns
    ])
taking_well heading instance claim value taken places words true few next e =
    gives_well (value_stage heading instance claim) (value_well heading instance claim few) next
    (refused_ok (taken_reason instance value taken places) (Ok (value_stage heading instance claim)) next e).1
taking_well heading instance claim value taken places words false few next e =
    let n = bind_ok (numbers_line (codes "take") (suc (dims instance)) words)
    (λ ns. take_box_line heading instance claim value taken places ns) next e in
    take_well heading instance claim value taken places n.0 few next n.2

bounding_token_well : (instance : PlainInstance) (claim : Claim) (value : ℕ) (nodes : List (OpenNode BoxChoice))
    (t : Option BoundedToken) → dims instance ≤ 4 → GivesWell (bounding_token instance claim value nodes t)
bounding_token_well instance claim value nodes None few next e = absurd (cc (e))
bounding_token_well instance claim value nodes (Some t) few next e =
    let b = bind_ok (coded (bounded_after instance value nodes t)) (λ left. Ok (Bounding instance claim value left))
    next e in gives_well (Bounding instance claim value b.0) few next b.2

bounding_well : (instance : PlainInstance) (claim : Claim) (value : ℕ) (nodes : List (OpenNode BoxChoice))
    (words : List (List ℕ)) (b : Bool) → dims instance ≤ 4
    → GivesWell (elim b as (λ x. Result Stage Reason) [
      | true ↦ bounding_end claim nodes
      | false ↦ bounding_token instance claim value nodes (bounded_token_of (dims instance) words)
    ])
bounding_well instance claim value [] words true few next e = gives_well (Ended claim) tt next e
bounding_well instance claim value (n ∷ nodes) words true few next e = absurd (cc (e))
bounding_well instance claim value nodes words false few next e =
    bounding_token_well instance claim value nodes (bounded_token_of (dims instance) words) few next e

gathering_token_well : (instance : PlainInstance) (claim : Claim) (nodes : List FamilyNode) (t : Option FamilyToken)
    → dims instance ≤ 4 → GivesWell (gathering_token instance claim nodes t)
gathering_token_well instance claim nodes None few next e = absurd (cc (e))
gathering_token_well instance claim nodes (Some t) few next e =
    let b = bind_ok (coded (families_after instance nodes t)) (λ left. Ok (Gathering instance claim left)) next e in
    gives_well (Gathering instance claim b.0) few next b.2

gathering_well : (instance : PlainInstance) (claim : Claim) (nodes : List FamilyNode) (words : List (List ℕ)) (b : Bool)
    → dims instance ≤ 4
    → GivesWell (elim b as (λ x. Result Stage Reason) [
      | true ↦ gathering_end claim nodes
      | false ↦ gathering_token instance claim nodes (family_token_of (dims instance) words)
    ])
gathering_well instance claim [] words true few next e = gives_well (Ended claim) tt next e
gathering_well instance claim (n ∷ nodes) words true few next e = absurd (cc (e))
gathering_well instance claim nodes words false few next e =
    gathering_token_well instance claim nodes (family_token_of (dims instance) words) few next e

exceeding_well : (instance : PlainInstance) (claim : Claim) (m : ℕ) (t : PlainToken) → dims instance ≤ 4
    → GivesWell (exceeding_token instance claim m t)
exceeding_well instance claim m (TooLarge v i) few next e =
    let q = require_ok (names_box instance v && (nat_le 1 i && nat_le i m)) range _ next e in
    let w = require_ok (nat_lt (container_side instance (pred i)) (side instance (pred v) (pred i))) _
    (Ok (Ending claim (Some (dims instance)))) next q.1 in
    gives_well (Ending claim (Some (dims instance))) few next w.1
exceeding_well instance claim m (Apart i u v) few next e = absurd (cc (e))
exceeding_well instance claim m (Order i u v) few next e = absurd (cc (e))
exceeding_well instance claim m Rules few next e = absurd (cc (e))
exceeding_well instance claim m (Scales fs) few next e = absurd (cc (e))
exceeding_well instance claim m (Assign v) few next e = absurd (cc (e))
exceeding_well instance claim m (Choose v) few next e = absurd (cc (e))
exceeding_well instance claim m (SetRefuted b) few next e = absurd (cc (e))
exceeding_well instance claim m ValueShort few next e = absurd (cc (e))
exceeding_well instance claim m (GlobalScales fs) few next e = absurd (cc (e))

words_well : (stage : Stage) (words : List (List ℕ)) → IsWell stage → GivesWell (words_line stage words)
words_well (Beginning h) words well next e =
    let a = heading_ok h words next e in gives_well (Reading h a.job no_parts) good_start next (ap Ok a.next_is)
words_well (Reading h j p) words well next e = absurd (cc (e))
words_well (Placing h i c r p) words well next e =
    let n = bind_ok (numbers_line (codes "place") (dims i) words) _ next e in
    let x = bind_ok (coordinates n.0) _ next n.2 in
    place_well (length (p ++ x.0) == box_count i * dims i) (places_reason i (p ++ x.0)) (placed h c r)
    (Placing h i c r (p ++ x.0)) (placed_well h c r well.1) well next x.2
words_well (Sharing i c k b p) words well next e =
    let n = bind_ok (numbers_line (codes "place") (suc (dims i)) words) (λ ns. share_line i c k b p ns) next e in
    share_well i c k b p n.0 well next n.2
words_well (Taking h i c v t p) words well next e =
    taking_well h i c v t p words (is_word (codes "proof") words) well next e
words_well (Proving c r) words well next e =
    gives_well (Refuting c (begun r)) (begun_well r well) next
    (require_ok (is_word (codes "proof") words) form (Ok (Refuting c (begun r))) next e).1
words_well (ProvingFamilies i c) words well next e =
    gives_well (Gathering i c (Free [] ∷ [])) well next
    (require_ok (is_word (codes "proof") words) form (Ok (Gathering i c (Free [] ∷ []))) next e).1
words_well (Refuting c t) words well next e =
    let b = bind_ok (tree_token (is_word (codes "end") words) (token_of (tree_dims t) words))
    (λ x. coded (tree_after t x) >>= λ more. Ok (grown_tree c more)) next e in
    let m = bind_ok (coded (tree_after t b.0)) (λ more. Ok (grown_tree c more)) next b.2 in
    gives_well (grown_tree c m.0) (grown_well c m.0
    (subst (λ n. n ≤ 4) (sym (dims_same t m.0 b.0 (coded_ok (tree_after t b.0) m.0 m.1))) well)) next m.2
words_well (Bounding i c y ns) words well next e = bounding_well i c y ns words (is_word (codes "end") words) well next e
words_well (Gathering i c ns) words well next e = gathering_well i c ns words (is_word (codes "end") words) well next e
words_well (Exceeding i c m) words well next e =
    let b = bind_ok (tree_token (is_word (codes "end") words) (token_of (dims i) words)) (λ x. exceeding_token i c m x)
    next e in exceeding_well i c m b.0 well next b.2
words_well (Ending c b) words well next e =
    gives_well (Ended c) tt next (require_ok (is_word (codes "end") words) (late_line b words) (Ok (Ended c)) next e).1
words_well (Ended c) words well next e = absurd (cc (e))

reading_well : (b : Bool) (heading : Heading) (job : SolvingJob) (parts : Parts) (line : Line) → IsWithinLimits parts
    → GivesWell (reading_line b heading job parts line)
reading_well true heading job parts line well next e =
    let i = bind_ok (end_of_parts (end_of parts 0))
    (λ instance. claim_of job instance (rest_of line.words)
    >>= λ claim. Ok (claimed heading instance claim)) next e in
    let c = bind_ok (claim_of job i.0 (rest_of line.words)) (λ claim. Ok (claimed heading i.0 claim)) next i.2 in
    let limits = parts_limits parts i.0 0 well (end_ok (end_of parts 0) i.0 i.1) in
    gives_well (claimed heading i.0 c.0) (claimed_well i.0 limits.dimensions.1 heading c.0) next c.2
reading_well false heading job parts line well next e =
    let m = bind_ok (text_fault (add_line parts line)) (λ more. Ok (Reading heading job more)) next e in
    gives_well (Reading heading job m.0)
    (line_good parts m.0 line well (fault_ok (add_line parts line) m.0 m.1)) next m.2

filled_well : (stage : Stage) (line : Line) → IsWell stage → GivesWell (filled_line stage line)
filled_well (Beginning h) line well next e =
    words_well (Beginning h) line.words well next
    (require_ok (not line.bad) form (words_line (Beginning h) line.words) next e).1
filled_well (Reading h j p) line well next e = reading_well (is_result line) h j p line well next e
filled_well (Placing h i c r p) line well next e =
    words_well (Placing h i c r p) line.words well next
    (require_ok (not line.bad) form (words_line (Placing h i c r p) line.words) next e).1
filled_well (Sharing i c k b p) line well next e =
    words_well (Sharing i c k b p) line.words well next
    (require_ok (not line.bad) form (words_line (Sharing i c k b p) line.words) next e).1
filled_well (Taking h i c v t p) line well next e =
    words_well (Taking h i c v t p) line.words well next
    (require_ok (not line.bad) form (words_line (Taking h i c v t p) line.words) next e).1
filled_well (Proving c r) line well next e =
    words_well (Proving c r) line.words well next
    (require_ok (not line.bad) form (words_line (Proving c r) line.words) next e).1
filled_well (ProvingFamilies i c) line well next e =
    words_well (ProvingFamilies i c) line.words well next
    (require_ok (not line.bad) form (words_line (ProvingFamilies i c) line.words) next e).1
filled_well (Refuting c t) line well next e =
    words_well (Refuting c t) line.words well next
    (require_ok (not line.bad) form (words_line (Refuting c t) line.words) next e).1
filled_well (Bounding i c y ns) line well next e =
    words_well (Bounding i c y ns) line.words well next
    (require_ok (not line.bad) form (words_line (Bounding i c y ns) line.words) next e).1
filled_well (Gathering i c ns) line well next e =
    words_well (Gathering i c ns) line.words well next
    (require_ok (not line.bad) form (words_line (Gathering i c ns) line.words) next e).1
filled_well (Exceeding i c m) line well next e =
    words_well (Exceeding i c m) line.words well next
    (require_ok (not line.bad) form (words_line (Exceeding i c m) line.words) next e).1
filled_well (Ending c b) line well next e =
    words_well (Ending c b) line.words well next
    (require_ok (not line.bad) form (words_line (Ending c b) line.words) next e).1
filled_well (Ended c) line well next e = absurd (cc (e))

stage_well : (stage : Stage) (line : Line) → IsWell stage → GivesWell (stage_after stage line)
stage_well stage line well next e = go (is_blank line) e
  where
    go : (b : Bool) → ◌≡◌ {A = Result Stage Reason} (elim b [ true ↦ Ok stage | false ↦ filled_line stage line ])
        (Ok next) → IsWell next
    go true f = gives_well stage well next f
    go false f = filled_well stage line well next f

-- ---- what is reported of a line is taken as the line

-- the stage behind the numbers of a place line
abbrev behind_numbers : Heading → PlainInstance → Claim → Refuted → List ℕ → List ℕ → Result Stage Reason
behind_numbers heading instance claim refuted places ns =
    coordinates ns >>= λ xs.
    elim (length (places ++ xs) == box_count instance * dims instance) [
      | true ↦ refused_by (places_reason instance (places ++ xs)) (Ok (placed heading claim refuted))
      | false ↦ Ok (Placing heading instance claim refuted (places ++ xs))
    ]

-- the stage behind a line of a taken box, or `proof`
abbrev behind_taking : Heading → PlainInstance → Claim → ℕ → List ℕ → List ℕ → Bool → Result (List ℕ) Reason → Result Stage Reason
behind_taking heading instance claim value taken places b r =
    elim b [
      | true ↦ refused_by (taken_reason instance value taken places)
          (Ok (value_stage heading instance claim))
      | false ↦ r >>= λ ns. take_box_line heading instance claim value taken places ns
    ]

-- the stage behind a line of a tree with priced leaves, or `end`
abbrev behind_bounding : PlainInstance → Claim → ℕ → List (OpenNode BoxChoice) → Bool → Option BoundedToken
    → Result Stage Reason
behind_bounding instance claim value nodes b o =
    elim b as (λ x. Result Stage Reason) [ true ↦ bounding_end claim nodes | false ↦ bounding_token instance claim value nodes o ]

-- the stage behind a line of a tree with families, or `end`
abbrev behind_gathering : PlainInstance → Claim → List FamilyNode → Bool → Option FamilyToken → Result Stage Reason
behind_gathering instance claim nodes b o =
    elim b as (λ x. Result Stage Reason) [ true ↦ gathering_end claim nodes | false ↦ gathering_token instance claim nodes o ]

words_told : (stage : Stage) (w : List ℕ) (ws : List (List ℕ)) → IsWell stage
    → words_line stage (take 21 w ∷ cut_rest ws) ≡ words_line stage (w ∷ ws)
words_told (Beginning h) w ws well = heading_cut h w ws
words_told (Reading h j p) w ws well = refl
words_told (Placing h i c r p) w ws well =
    ap (λ x. x >>= λ ns. behind_numbers h i c r p ns)
    (numbers_cut (codes "place") (dims i) w ws (omega arith) (let f = well.0 in omega (arith, f)))
words_told (Sharing i c k b p) w ws well =
    ap (λ x. x >>= λ ns. share_line i c k b p ns)
    (numbers_cut (codes "place") (suc (dims i)) w ws (omega arith) (omega (arith, well)))
words_told (Taking h i c v t p) w ws well =
    ap₂ (λ b x. behind_taking h i c v t p b x) (is_word_cut (codes "proof") w ws (omega arith))
    (numbers_cut (codes "take") (suc (dims i)) w ws (omega arith) (omega (arith, well)))
words_told (Proving c r) w ws well =
    ap (λ b. require b form (Ok (Refuting c (begun r)))) (is_word_cut (codes "proof") w ws (omega arith))
words_told (ProvingFamilies i c) w ws well =
    ap (λ b. require b form (Ok (Gathering i c (Free [] ∷ [])))) (is_word_cut (codes "proof") w ws (omega arith))
words_told (Refuting c t) w ws well =
    ap₂ (λ b o. tree_token b o >>= λ x. coded (tree_after t x) >>= λ more. Ok (grown_tree c more))
    (is_word_cut (codes "end") w ws (omega arith)) (token_cut (tree_dims t) w ws well)
words_told (Bounding i c y ns) w ws well =
    ap₂ (λ b o. behind_bounding i c y ns b o) (is_word_cut (codes "end") w ws (omega arith))
    (bounded_token_cut (dims i) w ws well)
words_told (Gathering i c ns) w ws well =
    ap₂ (λ b o. behind_gathering i c ns b o) (is_word_cut (codes "end") w ws (omega arith))
    (family_token_cut (dims i) w ws well)
words_told (Exceeding i c m) w ws well =
    ap₂ (λ b o. tree_token b o >>= λ x. exceeding_token i c m x) (is_word_cut (codes "end") w ws (omega arith))
    (token_cut (dims i) w ws well)
words_told (Ending c (Some d)) w ws well =
    ap₂ (λ b o. require b (late_by o) (Ok (Ended c))) (is_word_cut (codes "end") w ws (omega arith))
    (token_cut d w ws well)
words_told (Ending c None) w ws well =
    ap (λ b. require b form (Ok (Ended c))) (is_word_cut (codes "end") w ws (omega arith))
words_told (Ended c) w ws well = refl

reading_told_by : (heading : Heading) (job : SolvingJob) (parts : Parts) (w : List ℕ) (ws : List (List ℕ)) (n m : ℕ)
    → IsWithinLimits parts
    → filled_line (Reading heading job parts) (record { bad = false; count = n; words = take 21 w ∷ cut_rest ws })
    ≡ filled_line (Reading heading job parts) (record { bad = false; count = m; words = w ∷ ws })
reading_told_by heading job parts w ws n m well =
    ap (λ b. reading_line b heading job parts (record { bad = false; count = n; words = take 21 w ∷ cut_rest ws }))
    (same_front 21 w (codes "result") (omega arith))
    ∙ go (same_bytes w (codes "result"))
  where
    go : (b : Bool) → reading_line b heading job parts
        (record { bad = false; count = n; words = take 21 w ∷ cut_rest ws })
        ≡ reading_line b heading job parts (record { bad = false; count = m; words = w ∷ ws })
    go true = ap (λ (f : PlainInstance → Result Claim Reason). end_of_parts (end_of parts 0) >>= λ instance. f instance
        >>= λ claim. Ok (claimed heading instance claim)) (fun_ext (λ instance. claim_cut job instance ws))
    go false = ap (λ r. text_fault (refuse false 8 r) >>= λ more. Ok (Reading heading job more))
        (words_cut parts (w ∷ ws) well.few)

filled_told : (stage : Stage) (bad : Bool) (w : List ℕ) (ws : List (List ℕ)) (n m : ℕ) → IsWell stage
    → filled_line stage (record { bad = bad; count = n; words = take 21 w ∷ cut_rest ws })
    ≡ filled_line stage (record { bad = bad; count = m; words = w ∷ ws })
filled_told (Beginning h) bad w ws n m well = ap (require (not bad) form) (words_told (Beginning h) w ws well)
filled_told (Reading h j p) true w ws n m well = refl
filled_told (Reading h j p) false w ws n m well = reading_told_by h j p w ws n m well
filled_told (Placing h i c r p) bad w ws n m well =
    ap (require (not bad) form) (words_told (Placing h i c r p) w ws well)
filled_told (Sharing i c k b p) bad w ws n m well =
    ap (require (not bad) form) (words_told (Sharing i c k b p) w ws well)
filled_told (Taking h i c v t p) bad w ws n m well = ap (require (not bad) form) (words_told (Taking h i c v t p) w ws well)
filled_told (Proving c r) bad w ws n m well = ap (require (not bad) form) (words_told (Proving c r) w ws well)
filled_told (ProvingFamilies i c) bad w ws n m well =
    ap (require (not bad) form) (words_told (ProvingFamilies i c) w ws well)
filled_told (Refuting c t) bad w ws n m well = ap (require (not bad) form) (words_told (Refuting c t) w ws well)
filled_told (Bounding i c y ns) bad w ws n m well =
    ap (require (not bad) form) (words_told (Bounding i c y ns) w ws well)
filled_told (Gathering i c ns) bad w ws n m well =
    ap (require (not bad) form) (words_told (Gathering i c ns) w ws well)
filled_told (Exceeding i c x) bad w ws n m well = ap (require (not bad) form) (words_told (Exceeding i c x) w ws well)
filled_told (Ending c b) bad w ws n m well = ap (require (not bad) form) (words_told (Ending c b) w ws well)
filled_told (Ended c) bad w ws n m well = refl

line_told : (stage : Stage) (bad : Bool) (words : List (List ℕ)) (n m : ℕ) → IsWell stage
    → stage_after stage (record { bad = bad; count = n; words = cut_words words })
    ≡ stage_after stage (record { bad = bad; count = m; words = words })
line_told stage true [] n m well = bad_same stage
  where
    bad_same : (s : Stage) → filled_line s (record { bad = true; count = n; words = [] })
        ≡ filled_line s (record { bad = true; count = m; words = [] })
    bad_same (Beginning h) = refl
    bad_same (Reading h j p) = refl
    bad_same (Placing h i c r p) = refl
    bad_same (Sharing i c k b p) = refl
    bad_same (Taking h i c v t p) = refl
    bad_same (Proving c r) = refl
    bad_same (ProvingFamilies i c) = refl
    bad_same (Refuting c t) = refl
    bad_same (Bounding i c y ns) = refl
    bad_same (Gathering i c ns) = refl
    bad_same (Exceeding i c x) = refl
    bad_same (Ending c b) = refl
    bad_same (Ended c) = refl
line_told stage false [] n m well = refl
line_told stage true (w ∷ ws) n m well = filled_told stage true w ws n m well
line_told stage false (w ∷ ws) n m well = filled_told stage false w ws n m well

-- ---- the lines that are reported, one by one

abbrev read_told : Stage → ℕ → List NumberedLine → Result Claim Refusal
read_told stage n [] = document_at_end stage n
read_told stage n (l ∷ ls) = document_at_line l.number (stage_after stage l.line) >>= λ next. read_told next l.number ls

byte_told : (s : Lexer) (stage : Stage) (b : ℕ) (bytes : List ℕ) (t : Bool) → is_line_feed b ≡ t
    → ((next : Stage) → fed_verdict (feed b s) next bytes
    ≡ read_told next (feed b s).number (lines_fed (feed b s) bytes))
    → cond t (taken_line stage (feed b s) >>= λ next. fed_verdict (feed b s) next bytes)
    (fed_verdict (feed b s) stage bytes)
    ≡ read_told stage s.number (cond t (told_now (feed b s) ∷ lines_fed (feed b s) bytes) (lines_fed (feed b s) bytes))
byte_told s stage b bytes true e later =
    ap (λ (f : Stage → Result Claim Refusal). taken_line stage (feed b s) >>= f) (fun_ext later)
byte_told s stage b bytes false e later =
    later stage ∙ ap (λ n. read_told stage n (lines_fed (feed b s) bytes)) (same_number e)
  where
    same_number : is_line_feed b ≡ false → (feed b s).number ≡ s.number
    same_number f = ap (λ t. (cond t (end_line s)
        (record { number = s.number; begun = true; held = add_byte b (held_of s) })).number) f

fed_is_told : (s : Lexer) (stage : Stage) (bytes : List ℕ)
    → fed_verdict s stage bytes ≡ read_told stage s.number (lines_fed s bytes)
fed_is_told s stage [] = go s.begun
  where
    go : (b : Bool) → cond b (taken_line stage (finish s) >>= λ next. document_at_end next (finish s).number)
        (document_at_end stage s.number) ≡ read_told stage s.number (cond b (told_now (finish s) ∷ []) [])
    go true = refl
    go false = refl
fed_is_told s stage (b ∷ bytes) =
    byte_told s stage b bytes (is_line_feed b) refl (λ next. fed_is_told (feed b s) next bytes)

told_is_read : (stage : Stage) (n : ℕ) (lines : List (List ℕ)) → IsWell stage
    → read_told stage n (numbered_lines n lines) ≡ read_document_lines stage n lines
told_is_read stage n [] well = refl
told_is_read stage n (line ∷ lines) well =
    ap (λ r. document_at_line (n + 1) r >>= λ next. read_told next (n + 1) (numbered_lines (n + 1) lines))
    (line_told stage (line_of line).bad (line_of line).words (cut_line (line_of line)).count (line_of line).count well)
    ∙ go (stage_after stage (line_of line))
    (λ next e. told_is_read next (n + 1) lines (stage_well stage (line_of line) well next e))
  where
    go : (r : Result Stage Reason)
        → ((next : Stage) → r ≡ Ok next → read_told next (n + 1) (numbered_lines (n + 1) lines)
        ≡ read_document_lines next (n + 1) lines)
        → (document_at_line (n + 1) r >>= λ next. read_told next (n + 1) (numbered_lines (n + 1) lines))
        ≡ (document_at_line (n + 1) r >>= λ next. read_document_lines next (n + 1) lines)
    go (Ok next) later = later next refl
    go (Err reason) later = refl

pub documents_are_fed : DocumentsAreFed
unfolding headed_verdict
documents_are_fed heading text =
    fed_is_told new_lexer (Beginning heading) text ∙ ap (read_told (Beginning heading) 0) (texts_are_lines text)
    ∙ told_is_read (Beginning heading) 0 (text_lines text) tt
