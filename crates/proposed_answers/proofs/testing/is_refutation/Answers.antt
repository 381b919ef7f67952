use Rattle.proposed_answers.proofs.Fed.{fed_next}
use Rattle.proposed_answers.proofs.testing.is_refutation.Goals as goal

pub loop-k-preserved : goal.loop-k-preserved
loop-k-preserved c =
    fed_next c.args.instance.now c.args.tokens.now c.loop-k.k c.index-tokens-k.result c.loop-k.refuter
    c.feed-verdict.new.self c.loop-k-test.true c.index-tokens-k.is
    c.loop-k.invariant c.feed-verdict.ensures.step
