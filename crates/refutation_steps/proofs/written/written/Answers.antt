use Rattle.refutation_steps.proofs.Whole.{told_more}
use Rattle.refutation_steps.proofs.written.written.Goals as goal

pub loop-at-preserved : goal.loop-at-preserved
loop-at-preserved c = told_more c.args.tokens.now c.loop-at.at c.index-tokens-at.result c.loop-at-test.true
    c.index-tokens-at.is
    c.loop-at.lines c.write_token.new.lines c.loop-at.invariant
    c.in_ok-write_token.ensures
