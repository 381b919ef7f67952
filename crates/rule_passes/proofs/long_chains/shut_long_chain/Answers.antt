use Rattle.std.proofs.Common.{arith}
use Rattle.edge_state.proofs.Settled.{change_edge}
use Rattle.rule_passes.proofs.Followed.{held_grown}
use Rattle.rule_passes.proofs.long_chains.shut_long_chain.Goals as goal

pub shut_chain_through-requires-clause-dim : goal.shut_chain_through-requires-clause-dim
shut_chain_through-requires-clause-dim g c =
    let s = c.args.state.now in
    let edge = change_edge s.dims s.boxes s.trail c.args.mark _ c.args.change c.dims-sizes.ensures.limits.trail
    c.requires.change in
    omega (arith, edge.dim, c.requires.dims)

pub returns-clause-held : goal.returns-clause-held
returns-clause-held g c = held_grown _ _ _ c.shut_chain_through.ensures.extends _ c.follow.ensures.followed.held
