use Rattle.packing_terms.specs.Exclusions.{exclusion_at, excludes}
use Rattle.edge_state.proofs.Kept.{open_is, told_new}
use Rattle.edge_state.proofs.state.EdgeState.exclude_in.Goals as goal

pub take-requires-clause-left : goal.take-requires-clause-left
take-requires-clause-left g c =
    open_is (excludes c.args.self.now.trail c.args.dim c.args.u c.args.v c.args.rel) _ c.allows.ensures
    c.if-not-allows.false

pub returns-clause-answer : goal.returns-clause-answer
returns-clause-answer g c =
    let none = open_is (excludes c.args.self.now.trail c.args.dim c.args.u c.args.v c.args.rel) _ c.allows.ensures
    c.if-not-allows.false in
    let has = rw c.take.ensures at c.mask_in-2.ensures in
    rw c.empty_or-2.ensures.value
    (told_new c.args.self.now.trail (exclusion_at c.args.dim c.args.u c.args.v c.args.rel) _
    c.empty_or-2.ensures.limit has none)
