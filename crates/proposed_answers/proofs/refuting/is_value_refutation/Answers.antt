use Rattle.std.proofs.Common.{◌∙◌, ap, map, List}
use Rattle.std.proofs.lemmas.List.{take_all}
use Rattle.proof_tree.specs.declared.token.Token.{Token}
use Rattle.proof_tree.specs.Plain.{plain_token}
use Rattle.outer_check.specs.Outers.{PlainOuter, is_whole}
use Rattle.proposed_answers.proofs.ChoiceFed.{fed_all, fed_next, value_tested}
use Rattle.proposed_answers.proofs.refuting.is_value_refutation.Goals as goal

pub loop-k-preserved : goal.loop-k-preserved
loop-k-preserved c =
    fed_next c.args.instance.now c.args.goal c.args.tokens.now c.loop-k.k c.index-tokens-k.result c.loop-k.refuter
    c.feed-verdict.new.self c.loop-k-test.true c.index-tokens-k.is
    c.loop-k.invariant c.feed-verdict.ensures.step

pub returns : goal.returns
returns c =
    value_tested c.args.instance.now c.args.goal (map plain_token c.args.tokens.now) c.whole.result
    (c.whole.ensures.value ∙ ap (λ (o : PlainOuter). is_whole o)
    (c.loop-k.invariant
    ∙ ap (λ (ts : List Token). fed_all c.args.instance.now c.args.goal (map plain_token ts))
    (take_all c.loop-k.k c.args.tokens.now c.loop-k-test.false)))
