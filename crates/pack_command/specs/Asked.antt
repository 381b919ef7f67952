-- What the words of a command line ask for.
use Rattle.std.specs.Prelude.{ℕ, ◌≡◌, ◌<◌, ◌≤◌, ◌⊎◌, Bool, List, length, map, take, String, string_bytes, Option, Some}
use Rattle.std.specs.Prelude.{None}
use Rattle.std.specs.Prelude.{Result, Ok, Err}
use Rattle.std.specs.declared.alloc.Global.{Global}
use Rattle.packing_terms.specs.Packing.{PlainInstance, dims}
use Rattle.text_terms.specs.Texts.{text_instance}
use Rattle.answer_terms.specs.declared.job.DocumentJob.{DocumentJob}
use Rattle.answer_terms.specs.declared.job.DocumentJob.TheVariants.{Solving as Solves, Reduced as Reduces}
use Rattle.answer_terms.specs.declared.job.ReducedJob.TheVariants.{Fit as FromFit, Strip as FromStrip}
use Rattle.text_terms.specs.declared.claim.SolvingJob.{SolvingJob}
use Rattle.text_terms.specs.declared.claim.SolvingJob.TheVariants.{Fit as SolvesFit, Strip as SolvesStrip}
use Rattle.text_terms.specs.declared.claim.SolvingJob.TheVariants.{Bins as SolvesBins, Knapsack as SolvesKnapsack}
use Rattle.pack_words.specs.Job.{job_of_words}
use Rattle.pack_words.specs.declared.job.Job.{Job}
use Rattle.pack_words.specs.declared.job.Job.TheVariants.{Fit, Strip, Bins, Knapsack, Check, Make, Audit, Explain}
use Rattle.pack_words.specs.declared.job.Job.TheVariants.{Reduced, Front, ReducedStrip, Proposed, Bounded, BoundedStrip}
use Rattle.pack_words.specs.declared.job.JobWords.{JobWords}
use Rattle.text_terms.specs.declared.settings.Settings.{Settings}
use Rattle.verdict_terms.specs.Fed.{NoneRefused}
use Rattle.document_check.specs.Checked.{max_check_bytes}
use Rattle.text_terms.specs.declared.fault.TextFault.{TextFault}
use Rattle.pack_command.specs.Inputs.{max_instance_bytes}
use Rattle.pack_command.specs.Readings.{DocumentTask, Audits, Explains, AreFew, ArePast}
use Rattle.pack_command.specs.declared.words.Asked.{Asked}
use Rattle.pack_command.specs.declared.words.Asked.TheVariants.{Solving, Checking, Making, Auditing, Explaining}
use Rattle.pack_command.specs.declared.words.Asked.TheVariants.{Fronting, Proposing, Bounding, BoundingHeights}
use Rattle.pack_command.specs.declared.stop.Stop.{Stop}
use Rattle.pack_command.specs.declared.stop.Stop.TheVariants.{Words, TooLong, Text, Dimensions, ReadFault, WriteFault}
use Rattle.pack_command.specs.declared.stop.Stop.TheVariants.{NoMemory}

-- the jobs that answer with a document
abbrev pub document_job : Job → Option DocumentJob
document_job Fit = Some (Solves SolvesFit)
document_job Strip = Some (Solves SolvesStrip)
document_job Bins = Some (Solves SolvesBins)
document_job Knapsack = Some (Solves SolvesKnapsack)
document_job Reduced = Some (Reduces FromFit)
document_job ReducedStrip = Some (Reduces FromStrip)
document_job Check = None
document_job Make = None
document_job Audit = None
document_job Explain = None
document_job Front = None
document_job (Proposed job) = None
document_job (Bounded proposals) = None
document_job (BoundedStrip proposals) = None

-- the job of the words, if they are one
abbrev pub asked_job : List (String Global) → Option JobWords
asked_job words = job_of_words (map string_bytes words)

-- the words are this job with these settings: a solving job, `reduced`, or `strip` with facts
pub record AsksToSolve (words : List (String Global)) (job : DocumentJob) (settings : Settings) : Type 0 where
  pub asked : JobWords
  pub is : asked_job words ≡ Some asked
  pub job_is : document_job asked.job ≡ Some job
  pub with_settings : asked.settings ≡ settings

-- the words are the job `check`
pub record AsksCheck (words : List (String Global)) : Type 0 where
  pub asked : JobWords
  pub is : asked_job words ≡ Some asked
  pub job : asked.job ≡ Check

-- the job that does this with a whole document
abbrev pub task_job : DocumentTask → Job
task_job Audits = Audit
task_job Explains = Explain

-- the words are this job
pub record AsksTask (words : List (String Global)) (task : DocumentTask) : Type 0 where
  pub asked : JobWords
  pub is : asked_job words ≡ Some asked
  pub job : asked.job ≡ task_job task

-- the words are the job `audit`, or `explain`
abbrev pub AsksAudit : List (String Global) → Type 0
AsksAudit words = AsksTask words Audits

abbrev pub AsksExplain : List (String Global) → Type 0
AsksExplain words = AsksTask words Explains

-- the words are the job `front` with these settings
pub record AsksFront (words : List (String Global)) (settings : Settings) : Type 0 where
  pub asked : JobWords
  pub is : asked_job words ≡ Some asked
  pub job : asked.job ≡ Front
  pub with_settings : asked.settings ≡ settings

-- A job whose answer is proposed and tested: a solving job with proposals, `knapsack` with priced leaves, behind
-- proposals or behind the choice trees, or `strip` with families, behind proposals or behind the class trees.
pub data ProposedJob : Type 0 where
  Plain : (job : SolvingJob) → ProposedJob
  ValueBounds : (proposals : Bool) → ProposedJob
  HeightBounds : (proposals : Bool) → ProposedJob

abbrev pub job_proposed : ProposedJob → Job
job_proposed (Plain job) = Proposed job
job_proposed (ValueBounds proposals) = Bounded proposals
job_proposed (HeightBounds proposals) = BoundedStrip proposals

-- the words are the job with proposals and these settings
pub record AsksProposed (words : List (String Global)) (job : ProposedJob) (settings : Settings) : Type 0 where
  pub asked : JobWords
  pub is : asked_job words ≡ Some asked
  pub job_is : asked.job ≡ job_proposed job
  pub with_settings : asked.settings ≡ settings

-- the words are the job `make` with this number and these settings
pub record AsksToMake (words : List (String Global)) (number : ℕ) (settings : Settings) : Type 0 where
  pub asked : JobWords
  pub is : asked_job words ≡ Some asked
  pub job : asked.job ≡ Make
  pub with_number : asked.number ≡ number
  pub with_settings : asked.settings ≡ settings

-- the words are no job
abbrev pub AsksNothing : List (String Global) → Type 0
AsksNothing words = asked_job words ≡ None

-- what is asked for, or why the program stops
abbrev pub IsAsked : List (String Global) → Result Asked Stop → Type 0
IsAsked words (Ok (Solving job settings)) = AsksToSolve words job settings
IsAsked words (Ok Checking) = AsksCheck words
IsAsked words (Ok Auditing) = AsksTask words Audits
IsAsked words (Ok Explaining) = AsksTask words Explains
IsAsked words (Ok (Making number settings)) = AsksToMake words number settings
IsAsked words (Ok (Fronting settings)) = AsksFront words settings
IsAsked words (Ok (Proposing job settings)) = AsksProposed words (Plain job) settings
IsAsked words (Ok (Bounding proposals settings)) = AsksProposed words (ValueBounds proposals) settings
IsAsked words (Ok (BoundingHeights proposals settings)) = AsksProposed words (HeightBounds proposals) settings
IsAsked words (Err Words) = AsksNothing words
IsAsked words (Err NoMemory) = Unit {0}
IsAsked words (Err TooLong) = ⊥
IsAsked words (Err (Text fault)) = ⊥
IsAsked words (Err Dimensions) = ⊥
IsAsked words (Err ReadFault) = ⊥
IsAsked words (Err WriteFault) = ⊥

-- The words ask for a solving job, and the input is the text of this instance. `left` is what the
-- source holds.
pub record IsSolving (words : List (String Global)) (left : Option (List ℕ)) (job : DocumentJob) (settings : Settings)
    (instance : PlainInstance) : Type 0 where
  pub asks : AsksToSolve words job settings
  pub bytes : List ℕ
  pub stated : left ≡ Some bytes
  pub within : length bytes ≤ max_instance_bytes
  pub read : text_instance bytes ≡ Ok instance

-- the words ask for `check`, and the input is these bytes
pub record IsChecking (words : List (String Global)) (left : Option (List ℕ)) (bytes : List ℕ) : Type 0 where
  pub asks : AsksCheck words
  pub stated : left ≡ Some bytes
  pub within : length bytes ≤ max_check_bytes

-- the words ask for this job, and the input is these bytes
pub record IsReading (words : List (String Global)) (left : Option (List ℕ)) (task : DocumentTask) (bytes : List ℕ) :
    Type 0 where
  pub asks : AsksTask words task
  pub stated : left ≡ Some bytes
  pub within : AreFew task bytes

-- the words ask for `audit`, or for `explain`, and the input is these bytes
abbrev pub IsAuditing : List (String Global) → Option (List ℕ) → List ℕ → Type 0
IsAuditing words left bytes = IsReading words left Audits bytes

abbrev pub IsExplaining : List (String Global) → Option (List ℕ) → List ℕ → Type 0
IsExplaining words left bytes = IsReading words left Explains bytes

-- the words ask for `front`, and the input is the text of this instance, which has two dimensions
pub record IsFrontRun (words : List (String Global)) (left : Option (List ℕ)) (settings : Settings)
    (instance : PlainInstance) : Type 0 where
  pub asks : AsksFront words settings
  pub bytes : List ℕ
  pub stated : left ≡ Some bytes
  pub within : length bytes ≤ max_instance_bytes
  pub read : text_instance bytes ≡ Ok instance
  pub plane : dims instance ≡ 2

-- the words ask for the job with proposals, and the input is the text of this instance
pub record IsProposalRun (words : List (String Global)) (left : Option (List ℕ)) (job : ProposedJob) (settings : Settings)
    (instance : PlainInstance) : Type 0 where
  pub asks : AsksProposed words job settings
  pub bytes : List ℕ
  pub stated : left ≡ Some bytes
  pub within : length bytes ≤ max_instance_bytes
  pub read : text_instance bytes ≡ Ok instance

-- the words and the input have an answer
abbrev pub HasAnswer : List (String Global) → Option (List ℕ) → Type 0
HasAnswer words left =
    ((job : DocumentJob) × (settings : Settings) × (instance : PlainInstance)
    × IsSolving words left job settings instance)
    ⊎ (((bytes : List ℕ) × IsChecking words left bytes)
    ⊎ (((number : ℕ) × (settings : Settings) × AsksToMake words number settings)
    ⊎ (((task : DocumentTask) × (bytes : List ℕ) × IsReading words left task bytes)
    ⊎ (((settings : Settings) × (instance : PlainInstance) × IsFrontRun words left settings instance)
    ⊎ ((job : ProposedJob) × (settings : Settings) × (instance : PlainInstance)
    × IsProposalRun words left job settings instance)))))

-- the words are a job that reads nothing, or none
abbrev pub ReadsNothing : List (String Global) → Type 0
ReadsNothing words = AsksNothing words ⊎ ((number : ℕ) × (settings : Settings) × AsksToMake words number settings)

-- more bytes come for a solving job than an instance may have
pub record IsLongInstance (words : List (String Global)) (left : Option (List ℕ)) : Type 0 where
  pub job : DocumentJob
  pub settings : Settings
  pub asks : AsksToSolve words job settings
  pub bytes : List ℕ
  pub stated : left ≡ Some bytes
  pub past : max_instance_bytes < length bytes

-- more bytes come for `check` than a document may have, and no line that is whole within these is
-- refused
pub record IsLongDocument (words : List (String Global)) (left : Option (List ℕ)) : Type 0 where
  pub asks : AsksCheck words
  pub bytes : List ℕ
  pub stated : left ≡ Some bytes
  pub past : max_check_bytes < length bytes
  pub none : NoneRefused (take max_check_bytes bytes)

-- more bytes come for `audit` or `explain` than it reads
pub record IsLongReading (words : List (String Global)) (left : Option (List ℕ)) : Type 0 where
  pub task : DocumentTask
  pub asks : AsksTask words task
  pub bytes : List ℕ
  pub stated : left ≡ Some bytes
  pub past : ArePast task bytes

-- the words ask for a solving job, and the input has this fault
pub record IsFaultyText (words : List (String Global)) (left : Option (List ℕ)) (fault : TextFault) : Type 0 where
  pub job : DocumentJob
  pub settings : Settings
  pub asks : AsksToSolve words job settings
  pub bytes : List ℕ
  pub stated : left ≡ Some bytes
  pub within : length bytes ≤ max_instance_bytes
  pub wrong : text_instance bytes ≡ Err fault

-- more bytes come for `front` than an instance may have
pub record IsLongFront (words : List (String Global)) (left : Option (List ℕ)) : Type 0 where
  pub settings : Settings
  pub asks : AsksFront words settings
  pub bytes : List ℕ
  pub stated : left ≡ Some bytes
  pub past : max_instance_bytes < length bytes

-- the words ask for `front`, and the input has this fault
pub record IsFaultyFront (words : List (String Global)) (left : Option (List ℕ)) (fault : TextFault) : Type 0 where
  pub settings : Settings
  pub asks : AsksFront words settings
  pub bytes : List ℕ
  pub stated : left ≡ Some bytes
  pub within : length bytes ≤ max_instance_bytes
  pub wrong : text_instance bytes ≡ Err fault

-- the words ask for `front`, and the input is the text of an instance that hasn't two dimensions
pub record IsOtherFront (words : List (String Global)) (left : Option (List ℕ)) : Type 0 where
  pub settings : Settings
  pub asks : AsksFront words settings
  pub bytes : List ℕ
  pub stated : left ≡ Some bytes
  pub within : length bytes ≤ max_instance_bytes
  pub instance : PlainInstance
  pub read : text_instance bytes ≡ Ok instance
  pub other : ¬ (dims instance ≡ 2)

-- more bytes come for a job with proposals than an instance may have
pub record IsLongProposed (words : List (String Global)) (left : Option (List ℕ)) : Type 0 where
  pub job : ProposedJob
  pub settings : Settings
  pub asks : AsksProposed words job settings
  pub bytes : List ℕ
  pub stated : left ≡ Some bytes
  pub past : max_instance_bytes < length bytes

-- the words ask for a job with proposals, and the input has this fault
pub record IsFaultyProposed (words : List (String Global)) (left : Option (List ℕ)) (fault : TextFault) : Type 0 where
  pub job : ProposedJob
  pub settings : Settings
  pub asks : AsksProposed words job settings
  pub bytes : List ℕ
  pub stated : left ≡ Some bytes
  pub within : length bytes ≤ max_instance_bytes
  pub wrong : text_instance bytes ≡ Err fault

-- the words and the input are to be refused for this cause
abbrev pub IsRefusable : List (String Global) → Option (List ℕ) → Stop → Type 0
IsRefusable words left Words = AsksNothing words
IsRefusable words left TooLong =
    IsLongInstance words left ⊎ (IsLongDocument words left
    ⊎ (IsLongReading words left ⊎ (IsLongFront words left ⊎ IsLongProposed words left)))
IsRefusable words left (Text fault) =
    IsFaultyText words left fault ⊎ (IsFaultyFront words left fault ⊎ IsFaultyProposed words left fault)
IsRefusable words left Dimensions = IsOtherFront words left
IsRefusable words left ReadFault = ⊥
IsRefusable words left WriteFault = ⊥
IsRefusable words left NoMemory = ⊥
