use Rattle.pack_streams.proofs.Writers.{none, more, same}
use Rattle.answer_streams.proofs.BoundedStripTexts.{family_more, family_all}
use Rattle.answer_streams.proofs.bounded_strips.write_family_tokens.Goals as goal

pub loop-k-init : goal.loop-k-init
loop-k-init g c = none _ _ _

pub loop-k-preserved : goal.loop-k-preserved
loop-k-preserved g c =
    same _ _ _ _ _ _ _ _
    (family_more c.args.tokens.now c.loop-k.k c.index-tokens-k.result c.loop-k-test.true c.index-tokens-k.is)
    (more _ _ _ _ _ _ _ _ _ _ _ c.loop-k.invariant c.write_family_token_on-now.ensures)

pub returns : goal.returns
returns g c = same _ _ _ _ _ _ _ _ (family_all c.args.tokens.now c.loop-k.k c.loop-k-test.false) c.loop-k.invariant
