-- What a line of the tree makes of an auditor.
use Rattle.std.specs.Prelude.{ℕ, ◌≡◌, ◌≤◌, Bool, true, false, None, Result, Ok, Err}
use Rattle.packing_terms.specs.Packing.{dims}
use Rattle.text_terms.specs.Lines.{Line}
use Rattle.line_proofs.specs.Auditors.{PlainAuditor}
use Rattle.verdict_terms.specs.declared.explained_reason.ExplainedReason.{ExplainedReason}
use Rattle.verdict_terms.specs.ExplainedStages.{Explaining, Ending, filled_line}

-- no line was refused of a tree over `d` dimensions
pub record IsGoing (r : PlainAuditor) (d : ℕ) : Type 0 where
  pub same : d ≡ dims r.instance
  pub least : 2 ≤ d
  pub most : d ≤ 4
  pub none : r.audited.refused ≡ None

-- the line that isn't blank ends the tree, or it goes on, or the line is refused
abbrev pub IsGrown : PlainAuditor → PlainAuditor → ℕ → Line → Result Bool ExplainedReason → Type 0
IsGrown old new d line (Ok true) =
    filled_line (Explaining old.instance old.audited.nodes) line ≡ Ok (Ending old.instance)
IsGrown old new d line (Ok false) =
    (filled_line (Explaining old.instance old.audited.nodes) line ≡ Ok (Explaining new.instance new.audited.nodes))
    × (new.instance ≡ old.instance) × IsGoing new d
IsGrown old new d line (Err reason) = filled_line (Explaining old.instance old.audited.nodes) line ≡ Err reason
