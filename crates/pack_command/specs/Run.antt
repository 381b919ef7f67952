-- What the top call promises.
use Rattle.std.specs.Prelude.{ℕ, ◌≡◌, ◌⊎◌, List, String, Ok, Err, Result}
use Rattle.std.specs.declared.option.Option.{Option}
use Rattle.std.specs.declared.alloc.Global.{Global}
use Rattle.packing_terms.specs.Packing.{PlainInstance}
use Rattle.packing_terms.specs.Limits.{IsInstance}
use Rattle.text_terms.specs.Texts.{text_instance}
use Rattle.pack_streams.specs.Faults.{FaultCount}
use Rattle.pack_streams.specs.Moves.{Appended}
use Rattle.pack_streams.specs.Writing.{AppendedPrefix, Writes}
use Rattle.text_terms.specs.declared.settings.Settings.{Settings}
use Rattle.answer_terms.specs.declared.job.DocumentJob.{DocumentJob}
use Rattle.pack_command.specs.Answered.{answer_for}
use Rattle.pack_command.specs.Asked.{AsksToSolve, AsksNothing}
use Rattle.pack_command.specs.Inputs.{IsWholeInput, IsPartTaken, IsInputRead}
use Rattle.pack_streams.specs.declared.moves.WriteFault.{WriteFault as WriteFailed}
use Rattle.pack_command.specs.declared.stop.Stop.{Stop}
use Rattle.pack_command.specs.declared.stop.Stop.TheVariants.{Words, TooLong, Text, Dimensions, ReadFault, WriteFault}
use Rattle.pack_command.specs.declared.stop.Stop.TheVariants.{NoMemory}

-- the words ask for a solving job, the whole input is the text of an instance, and these are its
-- status and its document
pub record IsAnswered (words : List (String Global)) (old new : Option (List ℕ)) (status : ℕ) (document : List ℕ) :
    Type 0 where
  pub job : DocumentJob
  pub settings : Settings
  pub bytes : List ℕ
  pub instance : PlainInstance
  pub asked : AsksToSolve words job settings
  pub input : IsWholeInput old new bytes
  pub read : text_instance bytes ≡ Ok instance
  pub limits : IsInstance instance
  pub status_is : status ≡ (answer_for job settings instance).status
  pub document_is : document ≡ (answer_for job settings instance).text

-- an answer was found, and a part at the front of its document was written
pub record IsDocumentPartlyWritten (words : List (String Global)) (old new sunk_old sunk_new : Option (List ℕ)) : Type 0 where
  pub status : ℕ
  pub document : List ℕ
  pub answered : IsAnswered words old new status document
  pub part : AppendedPrefix sunk_old sunk_new document

-- the words ask for a solving job
abbrev pub Asks : List (String Global) → Type 0
Asks words = (job : DocumentJob) × (settings : Settings) × AsksToSolve words job settings

-- why a job ended without an answer, and what it took from the source and gave to the sink
abbrev pub IsStopped : List (String Global) → (old new sunk_old sunk_new : Option (List ℕ)) → Stop → Type 0
IsStopped words old new sunk_old sunk_new Words = AsksNothing words × (new ≡ old) × (sunk_new ≡ sunk_old)
IsStopped words old new sunk_old sunk_new TooLong =
    Asks words × IsInputRead old new (Err TooLong) × (sunk_new ≡ sunk_old)
IsStopped words old new sunk_old sunk_new (Text fault) = Asks words × IsInputRead old new (Err (Text fault))
    × (sunk_new ≡ sunk_old)
IsStopped words old new sunk_old sunk_new Dimensions = ⊥
IsStopped words old new sunk_old sunk_new ReadFault =
    Asks words × IsInputRead old new (Err ReadFault) × (sunk_new ≡ sunk_old)
IsStopped words old new sunk_old sunk_new WriteFault = IsDocumentPartlyWritten words old new sunk_old sunk_new
IsStopped words old new sunk_old sunk_new NoMemory = ((new ≡ old) ⊎ (Asks words × IsPartTaken old new))
    × (sunk_new ≡ sunk_old)

-- an answer with its whole document written
pub record IsWritten (words : List (String Global)) (old new sunk_old sunk_new : Option (List ℕ)) (status : ℕ) :
    Type 0 where
  pub document : List ℕ
  pub answered : IsAnswered words old new status document
  pub written : Appended sunk_old sunk_new document

-- the message is written whole, unless a write of the sink fails, which is the last one then
abbrev pub IsMessageWritten : (sunk_old sunk_new : Option (List ℕ)) → FaultCount → FaultCount → List ℕ → Type 0
IsMessageWritten sunk_old sunk_new before now message =
    (stated : Result (Unit {0}) WriteFailed) × Writes sunk_old sunk_new before now message stated
