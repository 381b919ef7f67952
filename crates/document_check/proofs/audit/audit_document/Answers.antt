use Rattle.std.proofs.Common.{ℕ, subst, List, Some}
use Rattle.pack_streams.specs.Faults.{exactly}
use Rattle.document_check.specs.declared.check.CheckEnd.TheVariants.{Verified, Refused}
use Rattle.document_check.specs.Checked.{IsCheckedUnder}
use Rattle.document_check.proofs.Audits.{audited, verified_is_true}
use Rattle.document_check.proofs.audit.audit_document.Goals as goal

pub returns-in-Verified-clause-truth : goal.returns-in-Verified-clause-truth
returns-in-Verified-clause-truth c =
    verified_is_true c.args.heading c.args.bytes.now c.in-Verified.claim
    (audited c.args.heading c.args.bytes.now c.check_document.new.input (Verified c.in-Verified.claim) c.requires
    (subst (λ (b : List ℕ). IsCheckedUnder c.args.heading (Some b) (Some c.check_document.new.input) (exactly 0)
    (exactly 0) (Verified c.in-Verified.claim)) c.new-source.ensures c.in-Verified.ensures))

pub returns-in-Refused-clause-audited : goal.returns-in-Refused-clause-audited
returns-in-Refused-clause-audited c =
    audited c.args.heading c.args.bytes.now c.check_document.new.input
    (Refused c.in-Refused.line c.in-Refused.reason) c.requires
    (subst (λ (b : List ℕ). IsCheckedUnder c.args.heading (Some b) (Some c.check_document.new.input) (exactly 0)
    (exactly 0) (Refused c.in-Refused.line c.in-Refused.reason)) c.new-source.ensures c.in-Refused.ensures)
