use Rattle.std.proofs.Common.{arith, refl, ◌∙◌}
use Rattle.std.proofs.lemmas.List.{length-set}
use Rattle.box_instances.proofs.Rows.{row_next}
use Rattle.box_instances.proofs.working.working_row.Goals as goal

pub loop-i-preserved : goal.loop-i-preserved
loop-i-preserved c = (
  length-set c.loop-i.row c.loop-i.i _ ∙ c.loop-i.invariant.0,
  row_next c.loop-i.row c.args.sides.now c.args.kerf.now c.loop-i.i _
      (omega (arith, c.loop-i-test.true, c.requires.few, c.loop-i.invariant.0)) refl c.loop-i.invariant.1,
)
