use Rattle.std.proofs.Common.{subst}
use Rattle.refutation_steps.specs.Replays.{AreChainsTried}
use Rattle.refutation_steps.proofs.Replayed.{made_later}
use Rattle.refutation_steps.proofs.replay.make.Goals as goal

pub returns-clause-made : goal.returns-clause-made
returns-clause-made c = made_later c.args.instance.now _ _ _ _ _ _ c.args.e
    (subst (λ b. AreChainsTried c.args.instance.now c.args.state.now c.seek_chains.new.state
    c.args.lines.now c.seek_chains.new.lines c.args.e b)
    c.if-stopped.false c.in_ok-stopped.ensures.sought) c.in_ok-seek_both.ensures
