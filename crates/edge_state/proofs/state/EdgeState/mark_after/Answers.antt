use Rattle.std.proofs.Common.{arith, refl, ◌<◌, length, reverse}
use Rattle.edge_state.proofs.Kept.{kept_few}
use Rattle.edge_state.proofs.state.EdgeState.mark_after.Goals as goal

pub overflow_add-next : goal.overflow_add-next
overflow_add-next c =
    let e = c.self.view_is in
    let small : c.args.mark < length (reverse c.self.inside.trail.items) = rw (← e) at c.requires in
    omega (arith, kept_few _ _ _ c.self.invariant.0, small, c.mark.view_is)

pub returns : goal.returns
returns c = rw (← c.mark.view_is) refl
