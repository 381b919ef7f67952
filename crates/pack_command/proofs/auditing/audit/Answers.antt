use Rattle.pack_command.proofs.BoundedRead.{audit_undone}
use Rattle.pack_command.proofs.auditing.audit.Goals as goal

pub returns-in-Err-clause-unjudged : goal.returns-in-Err-clause-unjudged
returns-in-Err-clause-unjudged g c = audit_undone _ _ _ c.in-Err.stop c.in-Err.ensures.is
