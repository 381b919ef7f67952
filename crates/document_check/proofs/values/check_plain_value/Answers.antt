use Rattle.document_check.proofs.Passes.{memory_here}
use Rattle.document_check.proofs.values.check_plain_value.Goals as goal

pub returns-in-Err : goal.returns-in-Err
returns-in-Err g c = memory_here _ _ c.args.at.now _ c.requires.1
