-- What the audit of a document promises.
use Rattle.std.specs.Prelude.{ℕ, List}
use Rattle.std.specs.declared.option.Option.{Option}
use Rattle.std.specs.Io.KnownBytes.{IsAtEnd}
use Rattle.pack_streams.specs.Moves.{Consumed, Appended}
use Rattle.answer_streams.specs.Audited.{audit_verdict, audit_line, IsTrueVerdict}

-- The whole input is verified as a document of its kind, its line was written, and what it shows is
-- true.
pub record IsVerifiedAuditClaim (old new sunk_old sunk_new : Option (List ℕ)) : Type 0 where
  pub bytes : List ℕ
  pub taken : Consumed old new bytes
  pub ended : IsAtEnd new
  pub holds : IsTrueVerdict bytes (audit_verdict bytes)
  pub line : Appended sunk_old sunk_new (audit_line (audit_verdict bytes))
