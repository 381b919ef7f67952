use Rattle.std.proofs.Common.{subst}
use Rattle.packing_terms.specs.declared.Exclusion.{Exclusion}
use Rattle.refutation_steps.specs.Chains.{IsChainTry}
use Rattle.refutation_steps.proofs.Going.{if_ok}
use Rattle.refutation_steps.proofs.Replayed.{chains_tried}
use Rattle.refutation_steps.proofs.replay.seek_chains.Goals as goal

pub returns-clause-sought : goal.returns-clause-sought
returns-clause-sought c = if_ok c.seek_chain-2.result
    (λ stopped t. chains_tried c.args.instance.now _ _ _ _ _ _ c.args.e stopped
    (subst (λ b. IsChainTry c.args.instance.now c.args.state.now c.seek_chain.new.state
    c.args.lines.now c.seek_chain.new.lines c.args.e b)
    c.if-stopped.false c.in_ok-stopped.ensures.sought)
    (subst (λ (k : Exclusion). IsChainTry c.args.instance.now c.seek_chain.new.state c.seek_chain-2.new.state
    c.seek_chain.new.lines c.seek_chain-2.new.lines k stopped)
    c.turned_exclusion-turned.ensures t)) c.seek_chain-2.ensures.sought
