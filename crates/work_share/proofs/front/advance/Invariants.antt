use Rattle.work_share.specs.Slots.{entries_of}
use Rattle.work_share.specs.Links.{order_of, IsLinked}
use Rattle.work_share.specs.Fronts.{HasFront}
use Rattle.work_share.proofs.front.advance.Given as goal

abbrev pub invariant-loop-len : goal.invariant-loop-len
invariant-loop-len l = record {
  known : HasFront l.budget (entries_of l.slots (order_of l.slots)) l.len l.count;
  linked : IsLinked l.slots l.len l.behind;
}
