-- The job that the words of a command line name, with its settings and number.
use Rattle.std.specs.Prelude.{ℕ, ◌≡◌, ◌&&◌, ◌||◌, Bool, true, false, not, nat_le, List, [], ◌∷◌, Option, Some, None}
use Rattle.std.specs.Prelude.{Result, Ok, Err, codes, is_some, if◌then◌else◌}
use Rattle.std.specs.Str.{bytes_eq}
use Rattle.text_terms.specs.Lines.{number_of}
use Rattle.text_terms.specs.declared.claim.SolvingJob.TheVariants.{Fit as SolvesFit, Strip as SolvesStrip}
use Rattle.text_terms.specs.declared.claim.SolvingJob.TheVariants.{Bins as SolvesBins, Knapsack as SolvesKnapsack}
use Rattle.pack_words.specs.Items.{Text, Item, option, word, items_from}
use Rattle.pack_words.specs.declared.job.Job.{Job}
use Rattle.pack_words.specs.declared.job.Job.TheVariants.{Fit, Strip, Bins, Knapsack, Check, Make, Audit, Explain}
use Rattle.pack_words.specs.declared.job.Job.TheVariants.{Reduced, Front, ReducedStrip, Proposed, Bounded, BoundedStrip}
use Rattle.pack_words.specs.declared.job.JobWords.{JobWords}
use Rattle.pack_words.specs.declared.job.WordsError.{WordsError}
use Rattle.pack_words.specs.declared.job.WordsError.TheVariants.{Refused, NoMemory}

infixl 10 ◌>>=◌
abbrev pub ◌>>=◌ : {A B : Type 0} → Option A → (A → Option B) → Option B
None >>= f = None
(Some x) >>= f = f x

-- the text of the job word, and that of each option that is given
pub record Texts : Type 0 where
  pub job : Option Text
  pub workers : Option Text
  pub budget : Option Text
  pub scales : Option Text
  pub number : Option Text
  pub proposals : Option Text
  pub facts : Option Text
  pub bounds : Option Text

-- the values that an option is given
abbrev pub values_of : Text → List Item → List Text
values_of name [] = []
values_of name (option other value ∷ items) =
    if bytes_eq other name then value ∷ values_of name items else values_of name items
values_of name (word text ∷ items) = values_of name items

abbrev pub job_words : List Item → List Text
job_words [] = []
job_words (option name value ∷ items) = job_words items
job_words (word text ∷ items) = text ∷ job_words items

-- what stands at most once
abbrev pub at_most_once : List Text → Option (Option Text)
at_most_once [] = Some None
at_most_once (text ∷ []) = Some (Some text)
at_most_once (text ∷ other ∷ texts) = None

-- the texts of the items, where the job word and each option stand at most once
abbrev pub texts_of : List Item → Option Texts
texts_of items =
    at_most_once (job_words items) >>= λ job.
    at_most_once (values_of (codes "workers") items) >>= λ workers.
    at_most_once (values_of (codes "budget") items) >>= λ budget.
    at_most_once (values_of (codes "scales") items) >>= λ scales.
    at_most_once (values_of (codes "number") items) >>= λ number.
    at_most_once (values_of (codes "proposals") items) >>= λ proposals.
    at_most_once (values_of (codes "facts") items) >>= λ facts.
    at_most_once (values_of (codes "bounds") items) >>= λ bounds.
    Some (record {
      job = job;
      workers = workers;
      budget = budget;
      scales = scales;
      number = number;
      proposals = proposals;
      facts = facts;
      bounds = bounds;
    })

abbrev pub job_of_name : Text → Option Job
job_of_name text =
    if bytes_eq text (codes "fit") then Some Fit
    else (if bytes_eq text (codes "strip") then Some Strip
    else (if bytes_eq text (codes "bins") then Some Bins
    else (if bytes_eq text (codes "knapsack") then Some Knapsack
    else (if bytes_eq text (codes "check") then Some Check
    else (if bytes_eq text (codes "make") then Some Make
    else (if bytes_eq text (codes "audit") then Some Audit
    else (if bytes_eq text (codes "explain") then Some Explain
    else (if bytes_eq text (codes "reduced") then Some Reduced
    else (if bytes_eq text (codes "front") then Some Front
    else None)))))))))

-- `check`, `audit` and `explain` take no option, `make` alone takes a number, `fit`, `strip`, `bins` and
-- `knapsack` alone take proposals, `strip` alone takes facts, and `strip` and `knapsack` alone take bounds
abbrev pub takes_settings : Job → Bool
takes_settings Check = false
takes_settings Audit = false
takes_settings Explain = false
takes_settings _ = true

abbrev pub takes_number : Job → Bool
takes_number Make = true
takes_number _ = false

abbrev pub takes_proposals : Job → Bool
takes_proposals Fit = true
takes_proposals Strip = true
takes_proposals Bins = true
takes_proposals Knapsack = true
takes_proposals _ = false

abbrev pub takes_facts : Job → Bool
takes_facts Strip = true
takes_facts _ = false

abbrev pub takes_bounds : Job → Bool
takes_bounds Strip = true
takes_bounds Knapsack = true
takes_bounds _ = false

-- each option that is given is one that the job takes
abbrev pub are_taken : Job → Texts → Bool
are_taken job texts =
    (takes_settings job || not (is_some texts.workers || (is_some texts.budget || is_some texts.scales)))
    && ((takes_number job || not (is_some texts.number))
    && ((takes_proposals job || not (is_some texts.proposals))
    && ((takes_facts job || not (is_some texts.facts))
    && (takes_bounds job || not (is_some texts.bounds)))))

-- a number in its range, both ends included
abbrev pub kept_in_range : ℕ → ℕ → Option ℕ → Option ℕ
kept_in_range low high None = None
kept_in_range low high (Some n) = if nat_le low n && nat_le n high then Some n else None

-- the number that a value is, or the default where none is given
abbrev pub number_or : ℕ → ℕ → ℕ → Option Text → Option ℕ
number_or low high default None = Some default
number_or low high default (Some text) = kept_in_range low high (number_of text)

-- `yes`, the default, or `no`
abbrev pub scales_in : Option Text → Option Bool
scales_in None = Some true
scales_in (Some text) = if bytes_eq text (codes "yes") then Some true else
    (if bytes_eq text (codes "no") then Some false else None)

-- `yes`, or `no`, the default
abbrev pub asked_in : Option Text → Option Bool
asked_in None = Some false
asked_in (Some text) = if bytes_eq text (codes "yes") then Some true else
    (if bytes_eq text (codes "no") then Some false else None)

-- a job with proposals, if it is a solving job
abbrev pub proposed : Job → Job
proposed Fit = Proposed SolvesFit
proposed Strip = Proposed SolvesStrip
proposed Bins = Proposed SolvesBins
proposed Knapsack = Proposed SolvesKnapsack
proposed job = job

-- a job, with proposals or without
abbrev pub by_proposals : Bool → Job → Job
by_proposals proposals job = if proposals then proposed job else job

-- a job from the symmetry facts on, if it takes them
abbrev pub from_facts : Job → Job
from_facts Strip = ReducedStrip
from_facts job = job

-- a job with proposals, from the symmetry facts on, or with neither; none with both
abbrev pub by_ways : Bool → Bool → Job → Option Job
by_ways proposals false job = Some (by_proposals proposals job)
by_ways false true job = Some (from_facts job)
by_ways true true job = None

-- A job whose bounds may have the further leaves, if it takes them: with proposals where it has them. There is
-- none from the symmetry facts on.
abbrev pub bounded : Job → Option Job
bounded Strip = Some (BoundedStrip false)
bounded (Proposed SolvesStrip) = Some (BoundedStrip true)
bounded Knapsack = Some (Bounded false)
bounded (Proposed SolvesKnapsack) = Some (Bounded true)
bounded ReducedStrip = None
bounded job = Some job

-- a job, with the further leaves or without
abbrev pub by_bounds : Bool → Job → Option Job
by_bounds bounds job = if bounds then bounded job else Some job

-- the settings and the number of a job that these texts give
abbrev pub settings_of : Job → Texts → Option JobWords
settings_of job texts =
    number_or 1 64 1 texts.workers >>= λ workers.
    number_or 0 10000000 1000000 texts.budget >>= λ budget.
    scales_in texts.scales >>= λ scales.
    number_or 0 2147483647 0 texts.number >>= λ number.
    asked_in texts.proposals >>= λ proposals.
    asked_in texts.facts >>= λ facts.
    asked_in texts.bounds >>= λ bounds.
    by_ways proposals facts job >>= λ way.
    by_bounds bounds way >>= λ asked.
    Some (record {
      job = asked;
      settings = record { workers = workers; budget = budget; scales = scales };
      number = number;
    })

-- the job of these texts: there is a job word, which is a job that takes these options, and their
-- values are in range
abbrev pub job_of_texts : Texts → Option JobWords
job_of_texts texts =
    texts.job >>= λ text. job_of_name text >>= λ job. if are_taken job texts then settings_of job texts else None

-- the job that the words name, with its settings and number, or none
unfoldable pub job_of_words : List Text → Option JobWords
job_of_words words = items_from None words >>= λ items. texts_of items >>= λ texts. job_of_texts texts

-- what is answered is the job, or a refusal where there is none, or that memory was refused
abbrev pub IsJobAnswer : Option JobWords → Result JobWords WordsError → Type 0
IsJobAnswer job (Ok answer) = job ≡ Some answer
IsJobAnswer job (Err Refused) = job ≡ None
IsJobAnswer job (Err NoMemory) = Unit {0}
