use Rattle.std.proofs.Common.{◌∙◌, ap, ◌++◌, ◌∷◌, [], List}
use Rattle.packing_terms.specs.declared.Exclusion.{Exclusion}
use Rattle.edge_state.specs.Edges.{PlainEdges}
use Rattle.refutation_check.specs.Nodes.{with_each}
use Rattle.refutation_check.specs.declared.node.OpenNode.{OpenNode}
use Rattle.refutation_check.proofs.Begun.{begun_all, each_at_edge_of}
use Rattle.refutation_check.proofs.refuter.Refuter.starting.Goals as goal

pub invariant_of-result : goal.invariant_of-result
invariant_of-result c =
    begun_all c.args.instance.now _ _ _ _ _ _ _ c.root.result _ _ c.dims-dims.result c.len-count.result _
    c.in_ok-boxes.ensures c.dims-dims.ensures.value c.len-count.ensures.value
    c.in_ok-state.ensures (c.exclude_each.ensures
    ∙ ap (λ (l : List Exclusion). let s : PlainEdges = record c.in_ok-state.state { trail = with_each l } in s)
    c.as_slice.ensures.value) c.in_ok-room.ensures c.in_ok-splits.ensures.1
    (rw c.push_reserved.ensures.capacity c.in_ok-nodes.ensures.1) c.in_ok-splits.ensures.0
    (c.push_reserved.ensures.items ∙ ap (λ (l : List OpenNode). l ++ c.root.result ∷ []) c.in_ok-nodes.ensures.0)
    c.mark.ensures c.root.ensures

pub exclude_each-requires-clause-places : goal.exclude_each-requires-clause-places
exclude_each-requires-clause-places c =
    each_at_edge_of c.args.instance.now c.args.start.now c.in_ok-state.state _
    (c.as_slice.ensures.value ∙ c.in-Ok.ensures.items)
    (ap (λ (s : PlainEdges). s.dims) c.in_ok-state.ensures ∙ c.dims-dims.ensures.value)
    (ap (λ (s : PlainEdges). s.boxes) c.in_ok-state.ensures ∙ c.len-count.ensures.value) c.requires
