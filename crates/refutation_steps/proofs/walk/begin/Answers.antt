use Rattle.std.proofs.Common.{ap}
use Rattle.edge_state.specs.Edges.{PlainEdges}
use Rattle.refutation_steps.proofs.Whole.{begins, root_there}
use Rattle.refutation_steps.proofs.walk.begin.Goals as goal

pub returns-clause-between : goal.returns-clause-between
returns-clause-between c z r = begins c.args.instance.now _ _ _ _ z
    (ap (λ (s : PlainEdges). s.trail) c.in_ok-given.ensures) (ap (λ (s : PlainEdges). s.trail) c.in_ok-state.ensures)
    (root_there _ _ c.push_pending.new.pending.items c.new-pending.result.items c.in_ok-push_pending.ensures
    c.first.ensures c.first-2.ensures c.new-pending.ensures.items)
    c.new-3.ensures r
