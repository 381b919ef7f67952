-- Counts of faults around a job. By exact ones, the first read or write that fails is the last.
use Rattle.std.specs.Prelude.{ℕ, ◌≡◌, ◌≢◌, ◌⊎◌, Result, Ok, Err}
use Rattle.pack_streams.specs.Faults.{FaultCount, Stays, FailedOnce}
use Rattle.pack_command.specs.declared.stop.Stop.{Stop}
use Rattle.pack_command.specs.declared.stop.Stop.TheVariants.{Words, TooLong, Text, Dimensions, ReadFault, WriteFault}
use Rattle.pack_command.specs.declared.stop.Stop.TheVariants.{NoMemory}

-- the count of the source, by how a job ended
abbrev pub CountsReads : {A : Type 0} → FaultCount → FaultCount → Result A Stop → Type 0
CountsReads before now (Ok done) = Stays before now
CountsReads before now (Err ReadFault) = FailedOnce before now
CountsReads before now (Err Words) = Stays before now
CountsReads before now (Err TooLong) = Stays before now
CountsReads before now (Err (Text fault)) = Stays before now
CountsReads before now (Err Dimensions) = Stays before now
CountsReads before now (Err WriteFault) = Stays before now
CountsReads before now (Err NoMemory) = Stays before now

-- the count of the sink
abbrev pub CountsWrites : {A : Type 0} → FaultCount → FaultCount → Result A Stop → Type 0
CountsWrites before now (Ok done) = Stays before now
CountsWrites before now (Err WriteFault) = FailedOnce before now
CountsWrites before now (Err Words) = Stays before now
CountsWrites before now (Err TooLong) = Stays before now
CountsWrites before now (Err (Text fault)) = Stays before now
CountsWrites before now (Err Dimensions) = Stays before now
CountsWrites before now (Err ReadFault) = Stays before now
CountsWrites before now (Err NoMemory) = Stays before now

-- With the status of such a fault one call failed, the last one, so the count rose; with any other
-- status none did. The first two are the status of such a fault and the one that was answered.
pub record CountsStatus (fault status : ℕ) (before now : FaultCount) : Type 0 where
  pub failed : status ≡ fault → FailedOnce before now
  pub still : status ≢ fault → Stays before now

-- a read or a write failed, or memory was refused
abbrev pub IsFaultStatus : ℕ → Type 0
IsFaultStatus status = (status ≡ 4) ⊎ ((status ≡ 5) ⊎ (status ≡ 6))
