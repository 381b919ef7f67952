-- The form of a document: what its lines that aren't blank are, in order, and what stands behind
-- the result line of each claim.
--
-- A claim is backed by places of what it says to be placed, and by tokens that refute what it says
-- to be refuted. So a document of this form shows its claim to anyone who checks those two.
use Rattle.std.specs.Prelude.{ℕ, pred, suc, ◌-◌, ◌<◌, ◌≤◌, ◌≡◌, ◌↔◌, List, [], ◌∷◌, ◌++◌, length, Some, Ok, codes}
use Rattle.packing_terms.specs.Packing.{PlainInstance, dims, box_count, IsPacking}
use Rattle.packing_terms.specs.Goals.{with_last_side, subset, IsBinPacking, IsBoxSet, worth}
use Rattle.packing_terms.specs.Tokens.{PlainToken}
use Rattle.packing_terms.specs.Tokens.PlainToken.{TooLarge}
use Rattle.verdict_terms.specs.BoundedRefutation.{BoundedToken, IsBoundedRefutation}
use Rattle.verdict_terms.specs.BoundedLines.{bounded_token_of}
use Rattle.verdict_terms.specs.FamilyRefutation.{FamilyToken, Free, RefutesFamilies}
use Rattle.verdict_terms.specs.FamilyLines.{family_token_of}
use Rattle.packing_terms.specs.Refutation.{IsTooLarge}
use Rattle.text_terms.specs.Lines.{text_lines, number_of}
use Rattle.text_terms.specs.Form.{AreClean, filled_lines, IsNumber, HasForm}
use Rattle.text_terms.specs.declared.claim.SolvingJob.{SolvingJob}
use Rattle.text_terms.specs.declared.claim.SolvingJob.TheVariants.{Fit, Strip, Bins, Knapsack}
use Rattle.text_terms.specs.declared.claim.Claim.{Claim}
use Rattle.text_terms.specs.Claims.{job_of, job_word, IsTrueOf}
use Rattle.text_terms.specs.declared.claim.Claim.TheVariants.{Fitting, NotFitting, LeastHeight, HeightBetween}
use Rattle.text_terms.specs.declared.claim.Claim.TheVariants.{NoHeight, LeastBins, BinsBetween, NoBins}
use Rattle.text_terms.specs.declared.claim.Claim.TheVariants.{GreatestValue, ValueBetween}
use Rattle.packing_terms.specs.Limits.{max_height}
use Rattle.text_terms.specs.Claims.{max_worth}
use Rattle.verdict_terms.specs.Numbers.{max_coordinate}
use Rattle.text_terms.specs.TokenLines.{token_of}
use Rattle.verdict_terms.specs.Trees.{Refuted, ToFit, ToFitIn, ToReach, refuted_dims, AreRefutation}
use Rattle.verdict_terms.specs.declared.heading.Heading.{Heading}
use Rattle.verdict_terms.specs.declared.heading.Heading.TheVariants.{Answer, Reduced, Bounded}
use Rattle.verdict_terms.specs.Stages.{heading_word, start_exclusions}
use Rattle.verdict_terms.specs.Documents.{headed_verdict}

-- ---- the result line

-- a word, and a number within these ends
pub record SaysOne (key : List ℕ) (low high n : ℕ) (words : List (List ℕ)) : Type 0 where
  pub number : List ℕ
  pub are : words ≡ key ∷ number ∷ []
  pub is_number : IsNumber low high number n

-- `between`, and two numbers, the first below the second, which is at most the end
pub record SaysTwo (high a b : ℕ) (words : List (List ℕ)) : Type 0 where
  pub first : List ℕ
  pub second : List ℕ
  pub are : words ≡ codes "between" ∷ first ∷ second ∷ []
  pub is_first : number_of first ≡ Some a
  pub is_second : number_of second ≡ Some b
  pub rising : a < b
  pub most : b ≤ high

-- the words behind `result` say the claim
abbrev pub IsResult : PlainInstance → Claim → List (List ℕ) → Type 0
IsResult instance Fitting words = words ≡ codes "yes" ∷ []
IsResult instance NotFitting words = words ≡ codes "no" ∷ []
IsResult instance (LeastHeight h) words = SaysOne (codes "least") 1 max_height h words
IsResult instance (HeightBetween a b) words = SaysTwo max_height a b words
IsResult instance NoHeight words = words ≡ codes "none" ∷ []
IsResult instance (LeastBins k) words = SaysOne (codes "least") 1 (box_count instance) k words
IsResult instance (BinsBetween a b) words = SaysTwo (box_count instance) a b words
IsResult instance NoBins words = words ≡ codes "none" ∷ []
IsResult instance (GreatestValue v) words = SaysOne (codes "greatest") 0 max_worth v words
IsResult instance (ValueBetween a b) words = SaysTwo max_worth a b words

-- ---- places

-- the words are these coordinates, one by one
abbrev pub AreCoordinates : List (List ℕ) → List ℕ → Type 0
AreCoordinates [] [] = Unit {0}
AreCoordinates [] (n ∷ ns) = ⊥
AreCoordinates (word ∷ words) [] = ⊥
AreCoordinates (word ∷ words) (n ∷ ns) = IsNumber 0 max_coordinate word n × AreCoordinates words ns

-- a first word, and d coordinates
pub record IsPlaceLine (d : ℕ) (words : List (List ℕ)) (xs : List ℕ) : Type 0 where
  pub numbers : List (List ℕ)
  pub are : words ≡ codes "place" ∷ numbers
  pub count : length numbers ≡ d
  pub are_coordinates : AreCoordinates numbers xs

-- a first word, a number within these ends, and d coordinates; the number of the text is one more
-- than the bin or the box that it names
pub record IsNumberedLine (key : List ℕ) (most d : ℕ) (words : List (List ℕ)) (n : ℕ) (xs : List ℕ) : Type 0 where
  pub number : List ℕ
  pub numbers : List (List ℕ)
  pub are : words ≡ key ∷ number ∷ numbers
  pub count : length numbers ≡ d
  pub is_number : IsNumber 1 most number (suc n)
  pub are_coordinates : AreCoordinates numbers xs

-- place lines with these coordinates
abbrev pub ArePlaceLines : ℕ → List (List (List ℕ)) → List ℕ → Type 0
ArePlaceLines d [] places = places ≡ []
ArePlaceLines d (words ∷ lines) places =
    (xs : List ℕ) × (more : List ℕ) × (places ≡ xs ++ more) × IsPlaceLine d words xs × ArePlaceLines d lines more

-- lines with these bins or boxes, and these coordinates
abbrev pub AreNumberedLines : List ℕ → ℕ → ℕ → List (List (List ℕ)) → List ℕ → List ℕ → Type 0
AreNumberedLines key most d [] [] places = places ≡ []
AreNumberedLines key most d [] (n ∷ ns) places = ⊥
AreNumberedLines key most d (words ∷ lines) [] places = ⊥
AreNumberedLines key most d (words ∷ lines) (n ∷ ns) places =
    (xs : List ℕ) × (more : List ℕ) × (places ≡ xs ++ more) × IsNumberedLine key most d words n xs
    × AreNumberedLines key most d lines ns more

-- place lines of a packing
pub record ArePlaced (instance : PlainInstance) (lines : List (List (List ℕ))) : Type 0 where
  pub places : List ℕ
  pub are_lines : ArePlaceLines (dims instance) lines places
  pub packing : IsPacking instance places

-- place lines, with a bin number each, of a packing of k bins
pub record AreShared (instance : PlainInstance) (k : ℕ) (lines : List (List (List ℕ))) : Type 0 where
  pub bins : List ℕ
  pub places : List ℕ
  pub are_lines : AreNumberedLines (codes "place") k (dims instance) lines bins places
  pub packing : IsBinPacking instance k bins places

-- take lines of a set of boxes with a packing, which is worth at least the value
pub record AreTaken (instance : PlainInstance) (value : ℕ) (lines : List (List (List ℕ))) : Type 0 where
  pub taken : List ℕ
  pub places : List ℕ
  pub are_lines : AreNumberedLines (codes "take") (box_count instance) (dims instance) lines taken places
  pub set : IsBoxSet instance taken
  pub packing : IsPacking (subset instance taken) places
  pub enough : value ≤ worth instance taken

-- ---- trees

-- token lines of these tokens
abbrev pub AreTokenLines : ℕ → List (List (List ℕ)) → List PlainToken → Type 0
AreTokenLines d [] [] = Unit {0}
AreTokenLines d [] (t ∷ ts) = ⊥
AreTokenLines d (words ∷ lines) [] = ⊥
AreTokenLines d (words ∷ lines) (t ∷ ts) = (token_of d words ≡ Some t) × AreTokenLines d lines ts

-- token lines of a refutation
pub record AreRefuting (refuted : Refuted) (lines : List (List (List ℕ))) : Type 0 where
  pub tokens : List PlainToken
  pub are_lines : AreTokenLines (refuted_dims refuted) lines tokens
  pub refute : AreRefutation refuted tokens

-- lines of tokens of bounded refutations
abbrev pub AreBoundedLines : ℕ → List (List (List ℕ)) → List BoundedToken → Type 0
AreBoundedLines d [] [] = Unit {0}
AreBoundedLines d [] (t ∷ ts) = ⊥
AreBoundedLines d (words ∷ lines) [] = ⊥
AreBoundedLines d (words ∷ lines) (t ∷ ts) = (bounded_token_of d words ≡ Some t) × AreBoundedLines d lines ts

-- lines of a bounded refutation, for a value
pub record AreBounding (instance : PlainInstance) (value : ℕ) (lines : List (List (List ℕ))) : Type 0 where
  pub tokens : List BoundedToken
  pub are_lines : AreBoundedLines (dims instance) lines tokens
  pub refute : IsBoundedRefutation instance value tokens

-- lines that refute a value under a heading
abbrev pub RefuteValue : Heading → PlainInstance → ℕ → List (List (List ℕ)) → Type 0
RefuteValue Answer instance value lines = AreRefuting (ToReach instance value) lines
RefuteValue Reduced instance value lines = AreRefuting (ToReach instance value) lines
RefuteValue Bounded instance value lines = AreBounding instance value lines

-- lines of tokens of refutations with families
abbrev pub AreFamilyLines : ℕ → List (List (List ℕ)) → List FamilyToken → Type 0
AreFamilyLines d [] [] = Unit {0}
AreFamilyLines d [] (t ∷ ts) = ⊥
AreFamilyLines d (words ∷ lines) [] = ⊥
AreFamilyLines d (words ∷ lines) (t ∷ ts) = (family_token_of d words ≡ Some t) × AreFamilyLines d lines ts

-- lines of a refutation with families of an instance, without any exclusion
pub record AreGathering (instance : PlainInstance) (lines : List (List (List ℕ))) : Type 0 where
  pub tokens : List FamilyToken
  pub are_lines : AreFamilyLines (dims instance) lines tokens
  pub refute : RefutesFamilies instance (Free []) tokens

-- lines that refute a height under a heading
abbrev pub RefuteHeight : Heading → PlainInstance → ℕ → List (List (List ℕ)) → Type 0
RefuteHeight Answer instance h lines =
    AreRefuting (ToFit (with_last_side instance h) (start_exclusions Answer instance)) lines
RefuteHeight Reduced instance h lines =
    AreRefuting (ToFit (with_last_side instance h) (start_exclusions Reduced instance)) lines
RefuteHeight Bounded instance h lines = AreGathering (with_last_side instance h) lines

-- one line `t V I` of a box that exceeds the container in one of the first m dimensions
pub record IsExceedingLine (instance : PlainInstance) (m : ℕ) (lines : List (List (List ℕ))) : Type 0 where
  pub words : List (List ℕ)
  pub box_no : ℕ
  pub dim : ℕ
  pub are : lines ≡ words ∷ []
  pub is_token : token_of (dims instance) words ≡ Some (TooLarge box_no dim)
  pub large : IsTooLarge instance box_no dim
  pub among : dim ≤ m

-- ---- the whole

-- lines of the one kind, then `proof`, then lines of the other kind
pub record AreProved (First Second : List (List (List ℕ)) → Type 0) (lines : List (List (List ℕ))) : Type 0 where
  pub front : List (List (List ℕ))
  pub back : List (List (List ℕ))
  pub are : lines ≡ front ++ (codes "proof" ∷ []) ∷ back
  pub is_front : First front
  pub is_back : Second back

-- the lines between the result line and `end` back the claim under a heading
abbrev pub BacksUnder : Heading → PlainInstance → Claim → List (List (List ℕ)) → Type 0
BacksUnder heading instance Fitting lines = ArePlaced instance lines
BacksUnder heading instance NotFitting lines = AreRefuting (ToFit instance (start_exclusions heading instance)) lines
BacksUnder heading instance (LeastHeight h) lines =
    AreProved (ArePlaced (with_last_side instance h)) (RefuteHeight heading instance (pred h)) lines
BacksUnder heading instance (HeightBetween a b) lines =
    AreProved (ArePlaced (with_last_side instance b)) (RefuteHeight heading instance a) lines
BacksUnder heading instance NoHeight lines = IsExceedingLine instance (dims instance - 1) lines
BacksUnder heading instance (LeastBins k) lines =
    AreProved (AreShared instance k) (AreRefuting (ToFitIn instance (pred k))) lines
BacksUnder heading instance (BinsBetween a b) lines =
    AreProved (AreShared instance b) (AreRefuting (ToFitIn instance a)) lines
BacksUnder heading instance NoBins lines = IsExceedingLine instance (dims instance) lines
BacksUnder heading instance (GreatestValue v) lines =
    AreProved (AreTaken instance v) (RefuteValue heading instance (suc v)) lines
BacksUnder heading instance (ValueBetween a b) lines =
    AreProved (AreTaken instance a) (RefuteValue heading instance b) lines

-- a heading names every job, or one of `fit` and `strip`, or one of `strip` and `knapsack`
abbrev pub MayName : Heading → SolvingJob → Type 0
MayName Answer job = Unit {0}
MayName Reduced Fit = Unit {0}
MayName Reduced Strip = Unit {0}
MayName Reduced Bins = ⊥
MayName Reduced Knapsack = ⊥
MayName Bounded Fit = ⊥
MayName Bounded Strip = Unit {0}
MayName Bounded Bins = ⊥
MayName Bounded Knapsack = Unit {0}

-- The text is a document of the claim under this heading, which may name the claim's job: no line has
-- a bad byte, and the lines that aren't blank are, in this order, the heading's word and the job, the
-- lines of an instance, the result line, what backs the claim, and `end`.
pub record IsHeadedDocument (heading : Heading) (text : List ℕ) (claim : Claim) : Type 0 where
  pub instance : PlainInstance
  pub written : List (List (List ℕ))
  pub result : List (List ℕ)
  pub backing : List (List (List ℕ))
  pub headed : MayName heading (job_of claim)
  pub clean : AreClean (text_lines text)
  pub are : filled_lines (text_lines text)
      ≡ (heading_word heading ∷ job_word (job_of claim) ∷ [])
      ∷ (written ++ (codes "result" ∷ result) ∷ (backing ++ (codes "end" ∷ []) ∷ []))
  pub is_instance : HasForm written instance
  pub is_result : IsResult instance claim result
  pub backed : BacksUnder heading instance claim backing

-- a document that begins with `answer`, one that begins with `reduced`, and one with `bounded`
abbrev pub IsDocument : List ℕ → Claim → Type 0
IsDocument text claim = IsHeadedDocument Answer text claim

abbrev pub IsReducedDocument : List ℕ → Claim → Type 0
IsReducedDocument text claim = IsHeadedDocument Reduced text claim

abbrev pub IsBoundedDocument : List ℕ → Claim → Type 0
IsBoundedDocument text claim = IsHeadedDocument Bounded text claim

-- ---- the laws

-- a text is verified with a claim under a heading exactly where it is such a document of it
abbrev pub DocumentsHaveForm : Type 0
DocumentsHaveForm = (heading : Heading) (text : List ℕ) (claim : Claim)
    → (headed_verdict heading text ≡ Ok claim) ↔ IsHeadedDocument heading text claim

-- the claim of a document is true of the instance in it
abbrev pub DocumentsAreTrue : Type 0
DocumentsAreTrue = (heading : Heading) (text : List ℕ) (claim : Claim) (document : IsHeadedDocument heading text claim)
    → IsTrueOf document.instance claim
