use Rattle.std.proofs.Common.{◌∙◌, ap, map, List}
use Rattle.std.proofs.lemmas.List.{take_all}
use Rattle.verdict_terms.specs.Checking.{is_whole}
use Rattle.bounded_tokens.specs.declared.family_token.FamilyToken.{FamilyToken}
use Rattle.bounded_tokens.specs.FamilyPlain.{plain_family}
use Rattle.outer_check.specs.FamilyRefuters.{PlainFamilyRefuter}
use Rattle.bounded_answers.proofs.HeightFed.{fed_all, fed_next, families_tested}
use Rattle.bounded_answers.proofs.height_refuting.is_family_refutation.Goals as goal

pub loop-k-preserved : goal.loop-k-preserved
loop-k-preserved c =
    fed_next c.args.instance.now c.args.tokens.now c.loop-k.k c.index-tokens-k.result c.loop-k.refuter
    c.feed-verdict.new.self c.loop-k-test.true c.index-tokens-k.is c.loop-k.invariant c.feed-verdict.ensures.step

pub returns : goal.returns
returns c =
    families_tested c.args.instance.now (map plain_family c.args.tokens.now) c.whole.result
    (c.whole.ensures ∙ ap (λ (r : PlainFamilyRefuter). is_whole r.checked)
    (c.loop-k.invariant
    ∙ ap (λ (ts : List FamilyToken). fed_all c.args.instance.now (map plain_family ts))
    (take_all c.loop-k.k c.args.tokens.now c.loop-k-test.false)))
