use Rattle.std.proofs.Common.{arith, ◌∙◌, ◌<◌, ℕ}
use Rattle.std.proofs.lemmas.List.{length-set}
use Rattle.box_instances.proofs.Rows.{above_next}
use Rattle.box_instances.proofs.working.greater_sides.Goals as goal

pub loop-i-preserved : goal.loop-i-preserved
loop-i-preserved c = record {
  count = length-set c.loop-i.row c.loop-i.i _ ∙ c.loop-i.invariant.count;
  first = above_next c.args.first.now c.loop-i.row c.loop-i.i _ (omega (arith, c.loop-i-test.true, c.loop-i.invariant.count))
      (omega arith) c.loop-i.invariant.first;
  second = above_next c.args.second.now c.loop-i.row c.loop-i.i _
      (omega (arith, c.loop-i-test.true, c.loop-i.invariant.count)) (omega arith) c.loop-i.invariant.second;
}
