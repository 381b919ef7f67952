use Rattle.refutation_steps.proofs.Heavy.{chain_stepped}
use Rattle.refutation_steps.proofs.chain_steps.step_chain.Goals as goal

pub returns : goal.returns
returns c = chain_stepped c.args.instance.now c.args.state.now c.exclude.new.self c.args.dim c.args.u c.args.v _ _
    c.args.to.now c.args.from.now
    c.requires.found c.requires.left c.exclude.ensures.state c.in_ok-write_chain.ensures
