-- How a job ended: with what it was to write, or with a cause.
use Rattle.std.specs.Prelude.{ℕ, ◌⊎◌, List, String}
use Rattle.std.specs.declared.option.Option.{Option}
use Rattle.std.specs.declared.alloc.Global.{Global}
use Rattle.pack_command.specs.Asked.{AsksCheck, AsksTask}
use Rattle.pack_command.specs.Fronts.{AsksForFront, IsFrontWritten, IsWithoutFront}
use Rattle.pack_command.specs.Proposed.{AsksForProposals, IsProposedWritten, IsWithoutProposed}
use Rattle.pack_command.specs.Readings.{DocumentTask, IsReadingDone, IsWithoutReading}
use Rattle.pack_command.specs.Checks.{IsVerdictWritten, IsWithoutVerdict}
use Rattle.pack_command.specs.Generated.{IsMade, IsUnmade}
use Rattle.pack_command.specs.Run.{IsWritten, IsStopped}
use Rattle.pack_command.specs.declared.stop.Stop.{Stop}

-- the document of an answer, the line of a check, the summary of `make`, what a whole document comes
-- to, the document of a front, or that of a job with proposals, written whole
abbrev pub IsJobCompleted : List (String Global) → (old new sunk_old sunk_new : Option (List ℕ)) → ℕ → Type 0
IsJobCompleted words old new sunk_old sunk_new status =
    IsWritten words old new sunk_old sunk_new status
    ⊎ ((AsksCheck words × IsVerdictWritten old new sunk_old sunk_new status)
    ⊎ (IsMade words old new sunk_old sunk_new status
    ⊎ (((task : DocumentTask) × AsksTask words task × IsReadingDone task old new sunk_old sunk_new status)
    ⊎ (IsFrontWritten words old new sunk_old sunk_new status
    ⊎ IsProposedWritten words old new sunk_old sunk_new status))))

-- why a job ended without
abbrev pub IsJobAborted : List (String Global) → (old new sunk_old sunk_new : Option (List ℕ)) → Stop → Type 0
IsJobAborted words old new sunk_old sunk_new stop =
    IsStopped words old new sunk_old sunk_new stop
    ⊎ ((AsksCheck words × IsWithoutVerdict old new sunk_old sunk_new stop)
    ⊎ (IsUnmade words old new sunk_old sunk_new stop
    ⊎ (((task : DocumentTask) × AsksTask words task × IsWithoutReading task old new sunk_old sunk_new stop)
    ⊎ ((AsksForFront words × IsWithoutFront words old new sunk_old sunk_new stop)
    ⊎ (AsksForProposals words × IsWithoutProposed words old new sunk_old sunk_new stop)))))
