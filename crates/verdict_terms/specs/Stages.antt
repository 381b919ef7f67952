-- How the lines of a document are taken one by one: where a document stands between two lines, and
-- what the next line makes of that.
--
--     answer JOB        Beginning: the heading that is wanted
--     format ..         Reading: the parts of the instance so far, under the heading
--     result ..
-- place ..          Placing, Sharing (bins) or Taking (knapsacks): the coordinates so far, and what
-- is to be refuted behind them
--     proof             Proving: `proof` is wanted; ProvingFamilies: `proof` of a tree with families
--     d 1 1 2           Refuting: the open nodes of the tree; Exceeding: the `t` line of `none` is wanted;
--                       Bounding: the open nodes of a bounded refutation, and `end` behind them
--                       Gathering: the open nodes of a refutation with families, and `end` behind them
--     end               Ending: `end` is wanted, behind a tree (of a given number of dimensions) or behind places
--                       Ended
use Rattle.std.specs.Prelude.{ℕ, pred, suc, ◌*◌, ◌-◌, ◌&&◌, ◌==◌, not, cond, Bool, true, false, List, [], ◌∷◌, ◌++◌}
use Rattle.std.specs.Prelude.{length, map, Option, Some, None, Result, Ok, Err, nat_le, nat_lt, slice_index, codes}
use Rattle.std.specs.List.{list_all, range_with_len}
use Rattle.packing_terms.specs.declared.Exclusion.{Exclusion}
use Rattle.packing_terms.specs.Packing.{PlainInstance, dims, box_count, container_side, side}
use Rattle.packing_terms.specs.Goals.{with_last_side, subset, in_bin, places_of, worth}
use Rattle.packing_terms.specs.Tokens.{PlainToken}
use Rattle.packing_terms.specs.Facts.{symmetry_facts}
use Rattle.packing_terms.specs.Tokens.PlainToken.{TooLarge}
use Rattle.packing_terms.specs.OuterRefutation.{Choice as BoxChoice, no_choice}
use Rattle.packing_terms.specs.OuterFeeding.{OpenNode, Outer}
use Rattle.verdict_terms.specs.BoundedRefutation.{BoundedToken}
use Rattle.verdict_terms.specs.BoundedJudging.{bounded_after}
use Rattle.verdict_terms.specs.BoundedLines.{bounded_token_of}
use Rattle.verdict_terms.specs.FamilyRefutation.{FamilyToken, FamilyNode, Free}
use Rattle.verdict_terms.specs.FamilyChecking.{families_after}
use Rattle.verdict_terms.specs.FamilyLines.{family_token_of}
use Rattle.text_terms.specs.declared.fault.TextFault.{TextFault}
use Rattle.text_terms.specs.Lines.{Line, same_bytes}
use Rattle.packing_terms.specs.Results.{◌>>=◌}
use Rattle.text_terms.specs.Texts.{Parts, no_parts, add_line, at_end, is_none, first_word}
use Rattle.verdict_terms.specs.declared.check_answers.RefuseCode.{RefuseCode}
use Rattle.verdict_terms.specs.declared.check_answers.RefuseCode.TheVariants.{Side}
use Rattle.verdict_terms.specs.declared.check_answers.PlaceVerdict.{PlaceVerdict}
use Rattle.verdict_terms.specs.declared.check_answers.PlaceVerdict.TheVariants.{Good, Outside, Overlap}
use Rattle.verdict_terms.specs.Placing.{place_verdict}
use Rattle.verdict_terms.specs.Judging.{names_box}
use Rattle.text_terms.specs.declared.claim.SolvingJob.{SolvingJob}
use Rattle.text_terms.specs.declared.claim.Claim.{Claim}
use Rattle.text_terms.specs.declared.claim.SolvingJob.TheVariants.{Fit, Strip, Bins, Knapsack}
use Rattle.text_terms.specs.declared.claim.Claim.TheVariants.{Fitting, NotFitting, LeastHeight, HeightBetween}
use Rattle.text_terms.specs.declared.claim.Claim.TheVariants.{NoHeight, LeastBins, BinsBetween, NoBins}
use Rattle.text_terms.specs.declared.claim.Claim.TheVariants.{GreatestValue, ValueBetween}
use Rattle.verdict_terms.specs.declared.heading.Heading.{Heading}
use Rattle.verdict_terms.specs.declared.heading.Heading.TheVariants.{Answer, Reduced, Bounded}
use Rattle.verdict_terms.specs.declared.reason.Reason.{Reason}
use Rattle.verdict_terms.specs.Reasons.{form, range, after}
use Rattle.verdict_terms.specs.declared.reason.Reason.TheVariants.{Text, Token, OutsideAt, OverlapAt, TooLittle}
use Rattle.verdict_terms.specs.declared.reason.Reason.TheVariants.{TooShort}
use Rattle.verdict_terms.specs.Numbers.{require, numbers_line, coordinates}
use Rattle.text_terms.specs.TokenLines.{token_of}
use Rattle.verdict_terms.specs.Trees.{Refuted, ToFit, ToFitIn, ToReach, refuted_instance, Tree, begun, tree_dims}
use Rattle.verdict_terms.specs.Trees.{tree_after, is_whole}
use Rattle.verdict_terms.specs.Results.{claim_of}

pub data Stage : Type 0 where
  Beginning : (heading : Heading) → Stage
  Reading : (heading : Heading) (job : SolvingJob) (parts : Parts) → Stage
  Placing : (heading : Heading) (instance : PlainInstance) (claim : Claim) (refuted : Refuted) (places : List ℕ) → Stage
  Sharing : (instance : PlainInstance) (claim : Claim) (count : ℕ) (bins places : List ℕ) → Stage
  Taking : (heading : Heading) (instance : PlainInstance) (claim : Claim) (value : ℕ) (taken places : List ℕ) → Stage
  Proving : (claim : Claim) (refuted : Refuted) → Stage
  ProvingFamilies : (instance : PlainInstance) (claim : Claim) → Stage
  Refuting : (claim : Claim) (tree : Tree) → Stage
  Bounding : (instance : PlainInstance) (claim : Claim) (value : ℕ) (nodes : List (OpenNode BoxChoice)) → Stage
  Gathering : (instance : PlainInstance) (claim : Claim) (nodes : List FamilyNode) → Stage
  Exceeding : (instance : PlainInstance) (claim : Claim) (dim_count : ℕ) → Stage
  Ending : (claim : Claim) (behind : Option ℕ) → Stage
  Ended : (claim : Claim) → Stage

-- ---- places

-- the number of the text for a box of a set
abbrev pub named_in : List ℕ → ℕ → ℕ
named_in keep v = suc (slice_index keep v)

-- the first of the groups of boxes in which one leaves the container
abbrev pub first_outside : List (List ℕ × PlaceVerdict) → Option Reason
first_outside [] = None
first_outside ((keep, Outside v i) ∷ groups) = Some (OutsideAt (named_in keep v) (suc i))
first_outside ((keep, Overlap u v) ∷ groups) = first_outside groups
first_outside ((keep, Good) ∷ groups) = first_outside groups

-- the first of the groups of boxes in which two overlap
abbrev pub first_overlap : List (List ℕ × PlaceVerdict) → Option Reason
first_overlap [] = None
first_overlap ((keep, Overlap u v) ∷ groups) = Some (OverlapAt (named_in keep u) (named_in keep v))
first_overlap ((keep, Outside v i) ∷ groups) = first_overlap groups
first_overlap ((keep, Good) ∷ groups) = first_overlap groups

-- refused with the reason, if there is one
abbrev pub refused_by : {A : Type 0} → Option Reason → Result A Reason → Result A Reason
refused_by (Some reason) rest = Err reason
refused_by None rest = rest

-- the first reason that there is
abbrev pub first_reason : Option Reason → Option Reason → Option Reason
first_reason (Some reason) rest = Some reason
first_reason None rest = rest

-- all places are first tested for leaving the container, and only then for overlaps
abbrev pub groups_reason : List (List ℕ × PlaceVerdict) → Option Reason
groups_reason groups = first_reason (first_outside groups) (first_overlap groups)

-- the places of all boxes
abbrev pub places_reason : PlainInstance → List ℕ → Option Reason
places_reason instance places =
    groups_reason ((range_with_len 0 (box_count instance), place_verdict instance places) ∷ [])

-- the places of the boxes of each of k bins
abbrev pub bins_reason : PlainInstance → ℕ → List ℕ → List ℕ → Option Reason
bins_reason instance k bins places =
    groups_reason (map (λ b. (
      in_bin bins b,
      place_verdict (subset instance (in_bin bins b)) (places_of instance places (in_bin bins b)),
    ))
    (range_with_len 0 k))

-- the places of the taken boxes, and then their value
abbrev pub taken_reason : PlainInstance → ℕ → List ℕ → List ℕ → Option Reason
taken_reason instance value taken places =
    first_reason (groups_reason ((taken, place_verdict (subset instance taken) places) ∷ []))
    (cond (nat_le value (worth instance taken)) None (Some TooLittle))

-- ---- lines

-- what the tree of an instance begins with: in a reduced document with the symmetry facts
abbrev pub start_exclusions : Heading → PlainInstance → List Exclusion
start_exclusions Answer instance = []
start_exclusions Reduced instance = symmetry_facts instance
start_exclusions Bounded instance = []

-- what a claim under a heading says to be refuted; the facts of the instance are those of all heights
abbrev pub refutation_goal : Heading → PlainInstance → Claim → Refuted
refutation_goal heading instance (LeastHeight h) =
    ToFit (with_last_side instance (pred h)) (start_exclusions heading instance)
refutation_goal heading instance (HeightBetween a b) = ToFit (with_last_side instance a) (start_exclusions heading instance)
refutation_goal heading instance (LeastBins k) = ToFitIn instance (pred k)
refutation_goal heading instance (BinsBetween a b) = ToFitIn instance a
refutation_goal heading instance (GreatestValue v) = ToReach instance (suc v)
refutation_goal heading instance (ValueBetween a b) = ToReach instance b
refutation_goal heading instance _ = ToFit instance (start_exclusions heading instance)

-- the value that a claim says isn't reached
abbrev pub value_refuted : Claim → ℕ
value_refuted (GreatestValue v) = suc v
value_refuted (ValueBetween a b) = b
value_refuted _ = 0

-- behind the `proof` of a claim on a value
abbrev pub value_stage : Heading → PlainInstance → Claim → Stage
value_stage Answer instance claim = Refuting claim (begun (refutation_goal Answer instance claim))
value_stage Reduced instance claim = Refuting claim (begun (refutation_goal Reduced instance claim))
value_stage Bounded instance claim = Bounding instance claim (value_refuted claim) (Outer no_choice ∷ [])

-- behind the result line
abbrev pub claimed : Heading → PlainInstance → Claim → Stage
claimed heading instance Fitting = Placing heading instance Fitting (refutation_goal heading instance Fitting) []
claimed heading instance NotFitting = Refuting NotFitting (begun (refutation_goal heading instance NotFitting))
claimed heading instance (LeastHeight h) =
    Placing heading (with_last_side instance h) (LeastHeight h) (refutation_goal heading instance (LeastHeight h)) []
claimed heading instance (HeightBetween a b) =
    Placing heading (with_last_side instance b) (HeightBetween a b) (refutation_goal heading instance (HeightBetween a b)) []
claimed heading instance NoHeight = Exceeding instance NoHeight (dims instance - 1)
claimed heading instance (LeastBins k) = Sharing instance (LeastBins k) k [] []
claimed heading instance (BinsBetween a b) = Sharing instance (BinsBetween a b) b [] []
claimed heading instance NoBins = Exceeding instance NoBins (dims instance)
claimed heading instance (GreatestValue v) = Taking heading instance (GreatestValue v) v [] []
claimed heading instance (ValueBetween a b) = Taking heading instance (ValueBetween a b) a [] []

-- the line is this one word
abbrev pub is_word : List ℕ → List (List ℕ) → Bool
is_word key (word ∷ []) = same_bytes word key
is_word key _ = false

-- a word that names a solving job
abbrev pub job_named : List ℕ → Result SolvingJob Reason
job_named word =
    cond (same_bytes word (codes "fit")) (Ok Fit) (
    cond (same_bytes word (codes "strip")) (Ok Strip) (
    cond (same_bytes word (codes "bins")) (Ok Bins) (
    cond (same_bytes word (codes "knapsack")) (Ok Knapsack) (Err form))))

-- the first word of a document
abbrev pub heading_word : Heading → List ℕ
heading_word Answer = codes "answer"
heading_word Reduced = codes "reduced"
heading_word Bounded = codes "bounded"

-- the job behind it: of reduced documents there are those of `fit` and `strip`, of bounded ones those
-- of `knapsack` and `strip`
abbrev pub job_headed : Heading → List ℕ → Result SolvingJob Reason
job_headed Answer word = job_named word
job_headed Reduced word =
    cond (same_bytes word (codes "fit")) (Ok Fit) (
    cond (same_bytes word (codes "strip")) (Ok Strip) (Err form))
job_headed Bounded word =
    cond (same_bytes word (codes "knapsack")) (Ok Knapsack) (
    cond (same_bytes word (codes "strip")) (Ok Strip) (Err form))

-- the first line: `answer JOB`, `reduced JOB` or `bounded JOB`
abbrev pub heading_line : Heading → List (List ℕ) → Result Stage Reason
heading_line heading (key ∷ word ∷ []) =
    cond (same_bytes key (heading_word heading))
    (job_headed heading word >>= λ job. Ok (Reading heading job no_parts)) (Err form)
heading_line heading _ = Err form

-- a fault of an instance text is reported by its code
abbrev pub text_fault : {A : Type 0} → Result A ℕ → Result A Reason
text_fault (Ok x) = Ok x
text_fault (Err code) = Err (Text code)

-- the instance that the parts are, or the fault of the end of the text
abbrev pub end_of_parts : Result PlainInstance TextFault → Result PlainInstance Reason
end_of_parts (Ok instance) = Ok instance
end_of_parts (Err fault) = Err (Text fault.code)

abbrev pub result_line : Heading → SolvingJob → Parts → List (List ℕ) → Result Stage Reason
result_line heading job parts words =
    end_of_parts (at_end parts 0) >>= λ instance. claim_of job instance words
    >>= λ claim. Ok (claimed heading instance claim)

-- whether the line is a result line: its first word is `result`
abbrev pub is_result : Line → Bool
is_result line = not line.bad && same_bytes (first_word line.words) (codes "result")

abbrev pub rest_of : List (List ℕ) → List (List ℕ)
rest_of [] = []
rest_of (word ∷ words) = words

-- a line behind the first, up to the result line
abbrev pub reading_line : Bool → Heading → SolvingJob → Parts → Line → Result Stage Reason
reading_line true heading job parts line = result_line heading job parts (rest_of line.words)
reading_line false heading job parts line = text_fault (add_line parts line) >>= λ more. Ok (Reading heading job more)

-- the `proof` of a claim that places show: in a bounded document, that of a tree with families, which
-- begins with no exclusion
abbrev pub proving : Heading → Claim → Refuted → Stage
proving Answer claim refuted = Proving claim refuted
proving Reduced claim refuted = Proving claim refuted
proving Bounded claim refuted = ProvingFamilies (refuted_instance refuted) claim

-- behind all places: `end` for `fit`, else `proof`
abbrev pub placed : Heading → Claim → Refuted → Stage
placed heading Fitting refuted = Ending Fitting None
placed heading claim refuted = proving heading claim refuted

-- at the last place line, which the number of boxes determines, the places are tested
abbrev pub place_line : Heading → PlainInstance → Claim → Refuted → List ℕ → List (List ℕ) → Result Stage Reason
place_line heading instance claim refuted places words =
    numbers_line (codes "place") (dims instance) words >>= λ ns. coordinates ns >>= λ xs.
    elim (length (places ++ xs) == box_count instance * dims instance) [
      | true ↦ refused_by (places_reason instance (places ++ xs)) (Ok (placed heading claim refuted))
      | false ↦ Ok (Placing heading instance claim refuted (places ++ xs))
    ]

-- a bin number and coordinates; a tree of bins begins with no exclusion under any heading
abbrev pub share_line : PlainInstance → Claim → ℕ → List ℕ → List ℕ → List ℕ → Result Stage Reason
share_line instance claim k bins places [] = Err form
share_line instance claim k bins places (b ∷ ns) =
    require (nat_le 1 b && nat_le b k) range (coordinates ns >>= λ xs.
    elim (length (bins ++ pred b ∷ []) == box_count instance) [
      | true ↦ refused_by (bins_reason instance k (bins ++ pred b ∷ []) (places ++ xs))
          (Ok (placed Answer claim (refutation_goal Answer instance claim)))
      | false ↦ Ok (Sharing instance claim k (bins ++ pred b ∷ []) (places ++ xs))
    ])

-- a box that comes behind those taken, and coordinates
abbrev pub take_box_line : Heading → PlainInstance → Claim → ℕ → List ℕ → List ℕ → List ℕ → Result Stage Reason
take_box_line heading instance claim value taken places [] = Err form
take_box_line heading instance claim value taken places (v ∷ ns) =
    require (names_box instance v && list_all (λ u. nat_lt u (pred v)) taken) range (coordinates ns >>= λ xs.
    Ok (Taking heading instance claim value (taken ++ pred v ∷ []) (places ++ xs)))

abbrev pub coded : {A : Type 0} → Result A RefuseCode → Result A Reason
coded (Ok x) = Ok x
coded (Err code) = Err (Token code)

-- a line where one of a tree is wanted: `end` comes too early, and another line has to be a token
abbrev pub tree_token : Bool → Option PlainToken → Result PlainToken Reason
tree_token true token = Err TooShort
tree_token false None = Err form
tree_token false (Some t) = Ok t

-- the tree, and `end` behind it where it is whole
abbrev pub grown_tree : Claim → Tree → Stage
grown_tree claim tree = cond (is_whole tree) (Ending claim (Some (tree_dims tree))) (Refuting claim tree)

abbrev pub tree_line : Claim → Tree → List (List ℕ) → Result Stage Reason
tree_line claim tree words =
    tree_token (is_word (codes "end") words) (token_of (tree_dims tree) words) >>= λ t. coded (tree_after tree t)
    >>= λ more. Ok (grown_tree claim more)

-- `end` behind a bounded refutation: it comes too early where a node is open
abbrev pub bounding_end : Claim → List (OpenNode BoxChoice) → Result Stage Reason
bounding_end claim [] = Ok (Ended claim)
bounding_end claim (n ∷ nodes) = Err TooShort

-- a token of such a tree, where one is wanted
abbrev pub bounding_token : PlainInstance → Claim → ℕ → List (OpenNode BoxChoice) → Option BoundedToken
    → Result Stage Reason
bounding_token instance claim value nodes None = Err form
bounding_token instance claim value nodes (Some t) =
    coded (bounded_after instance value nodes t) >>= λ left. Ok (Bounding instance claim value left)

abbrev pub bounding_line : PlainInstance → Claim → ℕ → List (OpenNode BoxChoice) → List (List ℕ) → Result Stage Reason
bounding_line instance claim value nodes words =
    elim (is_word (codes "end") words) [
      | true ↦ bounding_end claim nodes
      | false ↦ bounding_token instance claim value nodes (bounded_token_of (dims instance) words)
    ]

-- `end` behind a refutation with families: it comes too early where a node is open
abbrev pub gathering_end : Claim → List FamilyNode → Result Stage Reason
gathering_end claim [] = Ok (Ended claim)
gathering_end claim (n ∷ nodes) = Err TooShort

-- a token of such a tree, where one is wanted
abbrev pub gathering_token : PlainInstance → Claim → List FamilyNode → Option FamilyToken → Result Stage Reason
gathering_token instance claim nodes None = Err form
gathering_token instance claim nodes (Some t) =
    coded (families_after instance nodes t) >>= λ left. Ok (Gathering instance claim left)

abbrev pub gathering_line : PlainInstance → Claim → List FamilyNode → List (List ℕ) → Result Stage Reason
gathering_line instance claim nodes words =
    elim (is_word (codes "end") words) [
      | true ↦ gathering_end claim nodes
      | false ↦ gathering_token instance claim nodes (family_token_of (dims instance) words)
    ]

-- the `t` line of `none`: the box exceeds the container in one of the first `m` dimensions
abbrev pub exceeding_token : PlainInstance → Claim → ℕ → PlainToken → Result Stage Reason
exceeding_token instance claim m (TooLarge v i) =
    require (names_box instance v && (nat_le 1 i && nat_le i m)) range (
    require (nat_lt (container_side instance (pred i)) (side instance (pred v) (pred i))) (Token Side) (
    Ok (Ending claim (Some (dims instance)))))
exceeding_token instance claim m _ = Err form

abbrev pub exceeding_line : PlainInstance → Claim → ℕ → List (List ℕ) → Result Stage Reason
exceeding_line instance claim m words =
    tree_token (is_word (codes "end") words) (token_of (dims instance) words)
    >>= λ t. exceeding_token instance claim m t

-- a token where `end` is wanted comes too late behind a tree, and has no place behind coordinates
abbrev pub late_by : Option PlainToken → Reason
late_by (Some t) = after
late_by None = form

abbrev pub late_line : Option ℕ → List (List ℕ) → Reason
late_line (Some d) words = late_by (token_of d words)
late_line None words = form

-- a line without a bad byte that isn't blank, by its words; the instance lines aren't among these
abbrev pub words_line : Stage → List (List ℕ) → Result Stage Reason
words_line (Beginning heading) words = heading_line heading words
words_line (Reading heading job parts) words = Err form
words_line (Placing heading instance claim refuted places) words =
    place_line heading instance claim refuted places words
words_line (Sharing instance claim k bins places) words =
    numbers_line (codes "place") (suc (dims instance)) words >>= λ ns. share_line instance claim k bins places ns
words_line (Taking heading instance claim value taken places) words =
    elim (is_word (codes "proof") words) [
      | true ↦ refused_by (taken_reason instance value taken places) (Ok (value_stage heading instance claim))
      | false ↦ numbers_line (codes "take") (suc (dims instance)) words
          >>= λ ns. take_box_line heading instance claim value taken places ns
    ]
words_line (Proving claim refuted) words =
    require (is_word (codes "proof") words) form (Ok (Refuting claim (begun refuted)))
words_line (ProvingFamilies instance claim) words =
    require (is_word (codes "proof") words) form (Ok (Gathering instance claim (Free [] ∷ [])))
words_line (Refuting claim tree) words = tree_line claim tree words
words_line (Bounding instance claim value nodes) words = bounding_line instance claim value nodes words
words_line (Gathering instance claim nodes) words = gathering_line instance claim nodes words
words_line (Exceeding instance claim m) words = exceeding_line instance claim m words
words_line (Ending claim behind) words =
    require (is_word (codes "end") words) (late_line behind words) (Ok (Ended claim))
words_line (Ended claim) words = Err after

-- a line that isn't blank. A bad byte is refused as the place where it stands says.
abbrev pub filled_line : Stage → Line → Result Stage Reason
filled_line (Reading heading job parts) line = reading_line (is_result line) heading job parts line
filled_line (Ended claim) line = Err after
filled_line stage line = require (not line.bad) form (words_line stage line.words)

-- a line without a bad byte and without words
abbrev pub is_blank : Line → Bool
is_blank line = not line.bad && is_none line.words

-- a line: a blank one is skipped everywhere
abbrev pub stage_after : Stage → Line → Result Stage Reason
stage_after stage line = elim (is_blank line) [ true ↦ Ok stage | false ↦ filled_line stage line ]
