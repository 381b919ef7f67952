use Rattle.std.proofs.Common.{◌∙◌, refl, sym, ap, map}
use Rattle.std.proofs.lemmas.List.{take_all}
use Rattle.proof_tree.specs.Plain.{plain_token}
use Rattle.proposed_answers.specs.Behind.{has_scale_line}
use Rattle.proposed_answers.proofs.Plain.{some_line, none_more}
use Rattle.proposed_answers.proofs.testing.has_scale_line.Goals as goal

pub loop-k-init : goal.loop-k-init
loop-k-init c = refl

pub returns-then-is_scale_line : goal.returns-then-is_scale_line
returns-then-is_scale_line c = sym
    (some_line c.args.tokens.now c.loop-k.k c.index-tokens-k.result c.loop-k-test.true c.index-tokens-k.is
    (sym c.is_scale_line.ensures ∙ c.if-is_scale_line.true))

pub loop-k-preserved : goal.loop-k-preserved
loop-k-preserved c =
    none_more c.args.tokens.now c.loop-k.k c.index-tokens-k.result c.loop-k-test.true c.index-tokens-k.is
    c.loop-k.invariant (sym c.is_scale_line.ensures ∙ c.if-is_scale_line.false)

pub returns : goal.returns
returns c = sym
    (ap (λ ts. has_scale_line (map plain_token ts)) (sym (take_all c.loop-k.k c.args.tokens.now c.loop-k-test.false))
    ∙ c.loop-k.invariant)
