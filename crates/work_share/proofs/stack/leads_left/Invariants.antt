use Rattle.std.proofs.Common.{◌≡◌, drop}
use Rattle.work_share.specs.Kept.{leads_left}
use Rattle.work_share.proofs.stack.leads_left.Given as goal

abbrev pub invariant-loop-k : goal.invariant-loop-k
invariant-loop-k l = leads_left (drop l.k l.path) (drop l.k l.other) ≡ leads_left l.path l.other
