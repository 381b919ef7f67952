use Rattle.std.proofs.Common.{ap}
use Rattle.edge_state.specs.Edges.{PlainEdges}
use Rattle.refutation_steps.proofs.Whole.{entered_by}
use Rattle.refutation_steps.proofs.walk.enter_next.Goals as goal

pub returns-clause-at : goal.returns-clause-at
returns-clause-at c token rest w =
    entered_by c.args.instance.now c.args.walk.now.given.trail c.args.walk.now.state.trail _ _
    c.args.walk.now.pending.items c.pop.new.self.items c.in-Some.node _ _
    c.in-Some.ensures.items (ap (λ (s : PlainEdges). s.trail) c.enter-2.ensures)
    (ap (λ (s : PlainEdges). s.trail) c.enter.ensures) w
