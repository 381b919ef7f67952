use Rattle.std.proofs.Common.{◌∙◌, sym, rules}
use Rattle.verdict_terms.proofs.TupleTests.{legal_tuple, accepted, not_fitting, not_exceeding}
use Rattle.refutation_check.proofs.judging.judge_tuple.Goals as goal

pub exceeds-requires-clause-tuple : goal.exceeds-requires-clause-tuple
exceeds-requires-clause-tuple c =
    legal_tuple c.args.instance.now c.args.tuple.now (search rules) (sym c.are_legal.ensures ∙ c.if-not-are_legal.false)

pub exceeds-requires-clause-fit : goal.exceeds-requires-clause-fit
exceeds-requires-clause-fit c = c.sides_fit.ensures.0 c.if-not-sides_fit.false

pub returns-then-not-sides_fit : goal.returns-then-not-sides_fit
returns-then-not-sides_fit c =
    not_fitting c.args.instance.now c.args.tuple.now c.args.copies c.sides_fit.result c.sides_fit.ensures
    c.if-not-sides_fit.true (search rules) (sym c.are_legal.ensures ∙ c.if-not-are_legal.false)

pub returns-then-exceeds : goal.returns-then-exceeds
returns-then-exceeds c = accepted c.args.instance.now c.args.tuple.now c.args.copies c.exceeds.result
    c.exceeds.ensures.exactly c.if-exceeds.true

pub returns : goal.returns
returns c = not_exceeding c.args.instance.now c.args.tuple.now c.args.copies c.exceeds.result c.exceeds.ensures.exactly
    c.if-exceeds.false (search rules) (sym c.are_legal.ensures ∙ c.if-not-are_legal.false)
