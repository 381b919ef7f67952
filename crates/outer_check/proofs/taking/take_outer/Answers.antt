use Rattle.std.proofs.Common.{subst}
use Rattle.outer_check.specs.declared.step.Step.{Step}
use Rattle.proof_tree.specs.Plain.{plain_token}
use Rattle.outer_check.specs.Steps.{IsTokenStep}
use Rattle.outer_check.proofs.Moves.{closed_node}
use Rattle.outer_check.proofs.taking.take_outer.Goals as goal

pub returns-in-Close-clause-taken : goal.returns-in-Close-clause-taken
returns-in-Close-clause-taken c =
    closed_node c.args.instance.now c.args.goal c.args.path.now c.leave.new.path c.args.point.now c.leave.new.point
    c.args.inner.now (plain_token c.args.token.now) c.requires.there c.requires.going
    (subst (λ (s : Step). IsTokenStep c.args.instance.now c.args.goal c.args.path.now.frames
    (plain_token c.args.token.now) s) c.in-Close.is c.step_of.ensures) c.leave.ensures.path c.leave.ensures.point
