use Rattle.std.proofs.Common.{◌∙◌, ap}
use Rattle.edge_state.specs.Edges.{PlainEdges}
use Rattle.refutation_steps.proofs.Tracking.{next_waits}
use Rattle.refutation_steps.proofs.closings.enter_node.Goals as goal

pub returns : goal.returns
returns c =
    let n = next_waits c.args.instance.now c.args.walk.now.state.trail c.enter-2.new.state.trail
    c.args.walk.now.waiting.items c.pop.new.self.items c.in-Some.node c.in-Some.ensures.items
    (ap (λ (s : PlainEdges). s.trail) c.enter-2.ensures) c.requires.waits in (
      record {
        same_dims = ap (λ (s : PlainEdges). s.dims) c.enter-2.ensures ∙ c.requires.same_dims;
        same_boxes = ap (λ (s : PlainEdges). s.boxes) c.enter-2.ensures ∙ c.requires.same_boxes;
        closer_for = c.requires.closer_for;
        waits = n.0;
      },
      n.1,
      n.2,
    )
