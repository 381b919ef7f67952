use Rattle.bounded_answers.proofs.ValueBases.{parameters_next}
use Rattle.bounded_answers.proofs.value_refuting.tell_parameters.Goals as goal

pub loop-k-preserved : goal.loop-k-preserved
loop-k-preserved c =
    parameters_next c.args.tokens.now c.loop-k.k c.index-tokens-k.result c.loop-k-test.true c.index-tokens-k.is
    c.loop-k.invariant c.tell_parameter.ensures
