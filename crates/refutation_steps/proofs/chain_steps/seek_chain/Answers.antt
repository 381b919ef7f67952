use Rattle.refutation_steps.proofs.Seeking.{placed_by}
use Rattle.refutation_steps.proofs.Heavy.{try_empty, try_taken, no_empty}
use Rattle.refutation_steps.proofs.chain_steps.seek_chain.Goals as goal

pub returns-in-Some-clause-sought : goal.returns-in-Some-clause-sought
returns-in-Some-clause-sought c =
    try_empty c.args.instance.now c.args.state.now c.link_through.new.state _ _ c.args.e c.in-Some._place
    c.requires.placed c.in_ok-link_through.ensures.goes c.in-Some.ensures

pub take_chain-requires-clause-full : goal.take_chain-requires-clause-full
take_chain-requires-clause-full c =
    let later = placed_by c.args.instance.now c.args.state.now c.link_through.new.state _ _ c.args.e c.requires.placed
    c.in_ok-link_through.ensures.goes in
    no_empty c.args.instance.now c.link_through.new.state later.dims later.boxes c.in_default.ensures

pub returns-clause-sought : goal.returns-clause-sought
returns-clause-sought c =
    try_taken c.args.instance.now c.args.state.now c.link_through.new.state c.take_chain.new.state _ _ _ c.args.e
    c.in_ok-link_through.ensures.goes c.in_ok-take_chain.ensures.sought
