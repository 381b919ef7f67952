use Rattle.std.proofs.Common.{arith}
use Rattle.std.proofs.lemmas.List.{length-reverse}
use Rattle.packing_terms.specs.Exclusions.{exclusion_at, IsEdgeAmong}
use Rattle.edge_state.proofs.Histories.{of_more}
use Rattle.edge_state.proofs.Kept.{kept_room, table_more, reverse_push}
use Rattle.edge_state.proofs.state.EdgeState.take.Goals as goal

pub push_reserved-requires : goal.push_reserved-requires
push_reserved-requires g c =
    let e = c.self.view_is in
    let edge : IsEdgeAmong c.self.inside.dims c.self.inside.boxes c.args.dim c.args.u c.args.v =
    rw (← e) at c.requires.edge in
    let none = rw (← e) at c.requires.left in
    let h = kept_room _ _ _ _ _ _ c.args.rel c.self.invariant.0 edge none in
    omega (arith, h, c.self.inside.trail.ok.0, length-reverse c.self.inside.trail.items)

pub invariant_of-self : goal.invariant_of-self
invariant_of-self g c =
    let e = c.self.view_is in
    let edge : IsEdgeAmong c.self.inside.dims c.self.inside.boxes c.args.dim c.args.u c.args.v =
    rw (← e) at c.requires.edge in
    let none = rw (← e) at c.requires.left in
    let first = rw c.index_of-at.ensures at c.remove.ensures in
    let second = rw (c.index_of-back.ensures, c.mirrored.ensures) at c.remove-2.ensures in
    rw (
      c.push_reserved.ensures.items,
      reverse_push c.self.inside.trail.items (exclusion_at c.args.dim c.args.u c.args.v c.args.rel),
    ) (
      table_more _ _ _ _ _ _ _ _ _ _ c.self.invariant.0 edge none first second
          (omega (arith, c.push_reserved.ensures.capacity)),
      of_more _ _ _ _ _ c.self.invariant.1,
    )
