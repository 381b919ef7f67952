use Rattle.std.proofs.Common.{arith}
use Rattle.packing_terms.specs.Exclusions.{excludes}
use Rattle.rule_passes.proofs.Quiet.{joined_more}
use Rattle.rule_passes.proofs.overlaps.joined_beside.Goals as goal

pub returns-then-is_parted-clause-some : goal.returns-then-is_parted-clause-some
returns-then-is_parted-clause-some g c e each =
    let parted = c.is_parted.ensures.parted c.if-is_parted.true in parted.1 (each _ (omega arith) parted.0)

pub loop-other-preserved : goal.loop-other-preserved
loop-other-preserved g c =
    joined_more (excludes c.args.state.now.trail) c.args.i c.args.u c.args.v c.loop-other.other c.loop-other.invariant
    (c.is_parted.ensures.joined c.if-is_parted.false)

pub returns-clause-each : goal.returns-clause-each
returns-clause-each g c e j l ne = c.loop-other.invariant j (omega arith) ne
