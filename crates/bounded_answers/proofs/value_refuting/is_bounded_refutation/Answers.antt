use Rattle.std.proofs.Common.{◌∙◌, ap, map, List}
use Rattle.std.proofs.lemmas.List.{take_all}
use Rattle.bounded_tokens.specs.declared.token.BoundedToken.{BoundedToken}
use Rattle.bounded_tokens.specs.Plain.{plain_bounded}
use Rattle.outer_check.specs.Outers.{PlainOuter, is_whole}
use Rattle.bounded_answers.proofs.ValueFed.{fed_all, fed_next, bounded_tested}
use Rattle.bounded_answers.proofs.value_refuting.is_bounded_refutation.Goals as goal

pub loop-k-preserved : goal.loop-k-preserved
loop-k-preserved c =
    fed_next c.args.instance.now c.args.goal c.args.tokens.now c.loop-k.k c.index-tokens-k.result c.loop-k.refuter
    c.feed_bounded-verdict.new.self c.loop-k-test.true c.index-tokens-k.is
    c.loop-k.invariant c.feed_bounded-verdict.ensures.step

pub returns : goal.returns
returns c =
    bounded_tested c.args.instance.now c.args.goal (map plain_bounded c.args.tokens.now) c.whole.result
    (c.whole.ensures.value ∙ ap (λ (o : PlainOuter). is_whole o)
    (c.loop-k.invariant
    ∙ ap (λ (ts : List BoundedToken). fed_all c.args.instance.now c.args.goal (map plain_bounded ts))
    (take_all c.loop-k.k c.args.tokens.now c.loop-k-test.false)))
