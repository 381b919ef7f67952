use Rattle.outer_check.proofs.FurtherLeaves.{bounded_opened}
use Rattle.outer_check.proofs.laws.bounded_steps_leave_the_open_nodes.Goals as goal

pub returns : goal.returns
returns c = bounded_opened
