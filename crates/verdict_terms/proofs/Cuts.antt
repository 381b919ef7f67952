-- What is reported of a line, cut to 12 words of 21 bytes, is taken as the line itself.
use Rattle.std.proofs.Common.{◌≡◌, ℕ, ◌<◌, ◌≤◌, refl, ap, ap₂, ◌∙◌, arith, cond, ◌&&◌, ◌==◌, List, [], ◌∷◌, take, map}
use Rattle.std.proofs.Common.{length, Ok, Err, codes}
use Rattle.std.proofs.lemmas.Bool.{ne_eqb, and_right}
use Rattle.std.proofs.lemmas.List.{length-map}
use Rattle.packing_terms.specs.Packing.{PlainInstance, box_count}
use Rattle.text_terms.specs.Lines.{same_bytes}
use Rattle.packing_terms.specs.Results.{◌>>=◌}
use Rattle.text_terms.proofs.Cut.{same_front, number_front}
use Rattle.text_terms.specs.declared.claim.SolvingJob.{SolvingJob}
use Rattle.text_terms.specs.declared.claim.Claim.{Claim}
use Rattle.text_terms.specs.declared.claim.SolvingJob.TheVariants.{Fit, Strip, Bins, Knapsack}
use Rattle.text_terms.specs.declared.claim.Claim.TheVariants.{NoHeight, NoBins, LeastHeight, HeightBetween}
use Rattle.text_terms.specs.declared.claim.Claim.TheVariants.{LeastBins, BinsBetween, GreatestValue, ValueBetween}
use Rattle.verdict_terms.specs.declared.heading.Heading.{Heading}
use Rattle.verdict_terms.specs.declared.heading.Heading.TheVariants.{Answer, Reduced, Bounded}
use Rattle.verdict_terms.specs.Reasons.{form}
use Rattle.packing_terms.specs.Limits.{max_height}
use Rattle.text_terms.specs.Claims.{max_worth}
use Rattle.verdict_terms.specs.Numbers.{wanted_by, wanted, all_wanted, numbers_line}
use Rattle.text_terms.proofs.Cuts.{cut_by, cut_rest}
use Rattle.verdict_terms.specs.Results.{none_claim, one_claim, two_claim, claim_of}
use Rattle.verdict_terms.specs.Stages.{is_word, job_named, heading_line}

-- ---- numbers

wanted_front : (word : List ℕ) → wanted (take 21 word) ≡ wanted word
wanted_front word = ap wanted_by (number_front word)

all_front : (words : List (List ℕ)) → all_wanted (map (take 21) words) ≡ all_wanted words
all_front [] = refl
all_front (word ∷ words) = ap₂ (λ r s. r >>= λ n. s >>= λ ns. Ok (n ∷ ns)) (wanted_front word) (all_front words)

pub numbers_cut : (key : List ℕ) (count : ℕ) (word : List ℕ) (words : List (List ℕ)) → length key < 21 → count ≤ 10
    → numbers_line key count (take 21 word ∷ cut_rest words) ≡ numbers_line key count (word ∷ words)
numbers_cut key count word words short few =
    ap (λ b. cond (b && (length (cut_rest words) == count)) (all_wanted (cut_rest words)) (Err form))
    (same_front 21 word key short)
    ∙ cut_by (λ us. cond (same_bytes word key && (length us == count)) (all_wanted us) (Err form)) (Err form) words
    (ap₂ (λ n r. cond (same_bytes word key && (n == count)) r (Err form)) (length-map words (take 21))
    (all_front words))
    (λ us many. ap (λ b. cond b (all_wanted us) (Err form))
    (and_right (same_bytes word key) (length us == count)
    (ne_eqb (length us) count (λ e. omega (arith, many, few, e)))))

pub is_word_cut : (key word : List ℕ) (words : List (List ℕ)) → length key < 21
    → is_word key (take 21 word ∷ cut_rest words) ≡ is_word key (word ∷ words)
is_word_cut key word [] short = same_front 21 word key short
is_word_cut key word (other ∷ words) short = refl

-- ---- the first line and the result line

job_front : (word : List ℕ) → job_named (take 21 word) ≡ job_named word
job_front word =
    rw (
      same_front 21 word (codes "fit") (omega arith),
      same_front 21 word (codes "strip") (omega arith),
      same_front 21 word (codes "bins") (omega arith),
      same_front 21 word (codes "knapsack") (omega arith),
    ) refl

pub heading_cut : (heading : Heading) (word : List ℕ) (words : List (List ℕ))
    → heading_line heading (take 21 word ∷ cut_rest words) ≡ heading_line heading (word ∷ words)
heading_cut heading word [] = refl
heading_cut Answer word (job ∷ []) = rw (same_front 21 word (codes "answer") (omega arith), job_front job) refl
heading_cut Reduced word (job ∷ []) =
    rw (
      same_front 21 word (codes "reduced") (omega arith),
      same_front 21 job (codes "fit") (omega arith),
      same_front 21 job (codes "strip") (omega arith),
    ) refl
heading_cut Bounded word (job ∷ []) =
    rw (
      same_front 21 word (codes "bounded") (omega arith),
      same_front 21 job (codes "knapsack") (omega arith),
      same_front 21 job (codes "strip") (omega arith),
    ) refl
heading_cut heading word (job ∷ other ∷ words) = refl

none_front : (claim : Claim) (word : List ℕ) → none_claim claim (take 21 word) ≡ none_claim claim word
none_front claim word = rw (same_front 21 word (codes "none") (omega arith)) refl

one_front : (key : List ℕ) (low high : ℕ) (make : ℕ → Claim) (word number : List ℕ) → length key < 21
    → one_claim key low high make (take 21 word) (take 21 number) ≡ one_claim key low high make word number
one_front key low high make word number short = rw (same_front 21 word key short, wanted_front number) refl

two_front : (high : ℕ) (make : ℕ → ℕ → Claim) (word first second : List ℕ)
    → two_claim high make (take 21 word) (take 21 first) (take 21 second) ≡ two_claim high make word first second
two_front high make word first second =
    rw (same_front 21 word (codes "between") (omega arith), wanted_front first, wanted_front second) refl

claim_front : (job : SolvingJob) (instance : PlainInstance) (words : List (List ℕ))
    → claim_of job instance (map (take 21) words) ≡ claim_of job instance words
unfolding claim_of
claim_front Fit instance [] = refl
claim_front Fit instance (word ∷ []) =
    rw (
      same_front 21 word (codes "yes") (omega arith),
      same_front 21 word (codes "no") (omega arith),
      same_front 21 word (codes "undecided") (omega arith),
    ) refl
claim_front Fit instance (word ∷ second ∷ words) = refl
claim_front Strip instance [] = refl
claim_front Strip instance (word ∷ []) = none_front NoHeight word
claim_front Strip instance (word ∷ number ∷ []) =
    one_front (codes "least") 1 max_height LeastHeight word number (omega arith)
claim_front Strip instance (word ∷ first ∷ second ∷ []) = two_front max_height HeightBetween word first second
claim_front Strip instance (word ∷ first ∷ second ∷ third ∷ words) = refl
claim_front Bins instance [] = refl
claim_front Bins instance (word ∷ []) = none_front NoBins word
claim_front Bins instance (word ∷ number ∷ []) =
    one_front (codes "least") 1 (box_count instance) LeastBins word number (omega arith)
claim_front Bins instance (word ∷ first ∷ second ∷ []) = two_front (box_count instance) BinsBetween word first second
claim_front Bins instance (word ∷ first ∷ second ∷ third ∷ words) = refl
claim_front Knapsack instance [] = refl
claim_front Knapsack instance (word ∷ []) = refl
claim_front Knapsack instance (word ∷ number ∷ []) =
    one_front (codes "greatest") 0 max_worth GreatestValue word number (omega arith)
claim_front Knapsack instance (word ∷ first ∷ second ∷ []) = two_front max_worth ValueBetween word first second
claim_front Knapsack instance (word ∷ first ∷ second ∷ third ∷ words) = refl

claim_many : (job : SolvingJob) (instance : PlainInstance) (words : List (List ℕ)) → 11 ≤ length words
    → claim_of job instance words ≡ Err form
unfolding claim_of
claim_many job instance [] l = absurd (omega arith)
claim_many job instance (a ∷ []) l = absurd (omega arith)
claim_many job instance (a ∷ b ∷ []) l = absurd (omega arith)
claim_many job instance (a ∷ b ∷ c ∷ []) l = absurd (omega arith)
claim_many Fit instance (a ∷ b ∷ c ∷ d ∷ words) l = refl
claim_many Strip instance (a ∷ b ∷ c ∷ d ∷ words) l = refl
claim_many Bins instance (a ∷ b ∷ c ∷ d ∷ words) l = refl
claim_many Knapsack instance (a ∷ b ∷ c ∷ d ∷ words) l = refl

pub claim_cut : (job : SolvingJob) (instance : PlainInstance) (words : List (List ℕ))
    → claim_of job instance (cut_rest words) ≡ claim_of job instance words
claim_cut job instance words =
    cut_by (claim_of job instance) (Err form) words (claim_front job instance words) (claim_many job instance)
