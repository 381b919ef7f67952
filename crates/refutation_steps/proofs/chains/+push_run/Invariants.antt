use Rattle.std.proofs.Common.{slice_index}
use Rattle.refutation_steps.proofs.chains.+push_run.Given as goal

abbrev pub decreases-push_run : goal.decreases-push_run
decreases-push_run l = slice_index l.weights.now l.v
