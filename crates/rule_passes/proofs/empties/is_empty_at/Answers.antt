use Rattle.std.proofs.Common.{arith, ◌<◌}
use Rattle.packing_terms.specs.Exclusions.{excludes, IsEdge}
use Rattle.edge_state.proofs.Ends.{empty_or_left}
use Rattle.rule_passes.proofs.empties.is_empty_at.Goals as goal

pub returns-then-u-v : goal.returns-then-u-v
returns-then-u-v c =
    let edge : IsEdge c.args.instance.now c.args.dim c.args.u c.args.v
    = record { dim = c.requires.sizes.there; first = c.requires.u; second = c.requires.v; distinct = c.if-u-v.true } in
    let small : c.mask.result < 8 = omega (arith, c.bits.ensures.value, c.bits.ensures.limit) in
    rw c.bits.ensures.value (empty_or_left c.args.instance.now (excludes c.args.state.now.trail) c.args.dim c.args.u
    c.args.v c.mask.result edge small c.mask.ensures)
