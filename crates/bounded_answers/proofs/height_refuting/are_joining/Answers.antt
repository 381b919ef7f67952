use Rattle.bounded_answers.proofs.HeightFed.{joining_next}
use Rattle.bounded_answers.proofs.height_refuting.are_joining.Goals as goal

pub loop-k-preserved : goal.loop-k-preserved
loop-k-preserved c =
    joining_next c.args.tokens.now c.loop-k.k c.index-tokens-k.result c.loop-k-test.true c.index-tokens-k.is
    c.loop-k.invariant (c.is_joining.ensures c.if-not-is_joining.false)
