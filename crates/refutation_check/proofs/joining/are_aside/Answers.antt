use Rattle.std.proofs.Common.{◌∙◌, sym}
use Rattle.packing_terms.specs.Exclusions.{excludes}
use Rattle.refutation_check.proofs.Beside.{aside_on, aside_off}
use Rattle.refutation_check.proofs.joining.are_aside.Goals as goal

pub returns-then-not-is_beside_all : goal.returns-then-not-is_beside_all
returns-then-not-is_beside_all c =
    sym (c.loop-k.invariant ∙ aside_off (excludes c.args.state.now.trail) c.args.dim c.args.family.now c.loop-k.k
    c.loop-k-test.true (sym c.is_beside_all.ensures ∙ c.if-not-is_beside_all.true))

pub loop-k-preserved : goal.loop-k-preserved
loop-k-preserved c =
    c.loop-k.invariant ∙ aside_on (excludes c.args.state.now.trail) c.args.dim c.args.family.now c.loop-k.k
    c.loop-k-test.true (sym c.is_beside_all.ensures ∙ c.if-not-is_beside_all.false)
