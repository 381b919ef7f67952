-- Sources and sinks over std's readers and writers, by what these state of their bytes and by the
-- count of faults. A reader's and a writer's known bytes move as the answer says, and the count
-- rises by one exactly where a call failed.
use Rattle.std.specs.Prelude.{ℕ, ◌≤◌, List, [], length, take}
use Rattle.std.specs.declared.option.Option.{Option}
use Rattle.std.specs.Io.KnownBytes.{IsAtEnd, Keeps, Appends, Consumes}
use Rattle.pack_streams.specs.Faults.{one_more}
use Rattle.pack_streams.specs.declared.source.ReadAnswer.{ReadAnswer}
use Rattle.pack_streams.specs.declared.source.ReadAnswer.TheVariants.{Got, End, Failed}
use Rattle.pack_streams.specs.declared.source.WriteAnswer.{WriteAnswer}
use Rattle.pack_streams.specs.declared.source.WriteAnswer.TheVariants.{Took, Failed as Refused}

-- what is still to come from the reader, where it knows, and the faults so far
pub record PlainStdSource : Type 0 where
  pub known : Option (List ℕ)
  pub faults : ℕ

-- what the writer holds, where it knows, and the faults so far
pub record PlainStdSink : Type 0 where
  pub known : Option (List ℕ)
  pub faults : ℕ

-- Known bytes of a reader: those at the front were given, none is left at the end, and none is lost
-- in a failed read.
abbrev pub ReadsKnown : Option (List ℕ) → Option (List ℕ) → ReadAnswer → List ℕ → Type 0
ReadsKnown old new (Got k) into = Consumes old new (take k into)
ReadsKnown old new End into = Consumes old new [] × IsAtEnd new
ReadsKnown old new Failed into = Keeps old new

-- Known bytes of a writer: those at the front of the piece were added. In a failed write they are
-- none, in one whose flush failed they are some.
abbrev pub WritesKnown : Option (List ℕ) → Option (List ℕ) → WriteAnswer → List ℕ → Type 0
WritesKnown old new (Took k) piece = Appends old new (take k piece)
WritesKnown old new Refused piece = (k : ℕ) × (k ≤ length piece) × Appends old new (take k piece)

-- the count of faults after a read
abbrev pub faults_read : ℕ → ReadAnswer → ℕ
faults_read faults Failed = one_more faults
faults_read faults _ = faults

-- the count of faults after a write
abbrev pub faults_written : ℕ → WriteAnswer → ℕ
faults_written faults Refused = one_more faults
faults_written faults _ = faults
