use Rattle.std.proofs.Common.{◌+◌, ℕ, List, ap, subst, ◌∙◌, drop, get_or, Some, IsSome}
use Rattle.std.proofs.lemmas.List.{drop_more}
use Rattle.tree_terms.specs.Trees.{node_at}
use Rattle.edge_state.specs.Edges.{PlainEdges}
use Rattle.class_search.specs.declared.visit.NodeKind.TheVariants.{Divided}
use Rattle.class_search.specs.Visits.{kind_tree}
use Rattle.class_search.proofs.Paths.{path_next}
use Rattle.class_search.proofs.walk.descend.Goals as goal

pub loop-number-preserved : goal.loop-number-preserved
loop-number-preserved c =
    let instance = c.args.search.now.instance.now in
    let path = c.args.path.now in
    let split = c.in-Divided.split in
    let rank = c.in-Divided.rank in
    let met = c.visit_child-node.ensures in
    let before = rw c.in-Divided.is at c.loop-number.invariant.node in
    let way = subst IsSome before c.requires.there in
    let rest = drop_more path c.loop-number.number-index 0 c.loop-number-test.true in
    let tree = kind_tree instance c.loop-number.state.trail (Divided split rank) in
    record {
      node = before
          ∙ (ap (λ (p : List ℕ). node_at (Some tree) p) rest
          ∙ path_next instance c.loop-number.state.trail split rank (get_or path c.loop-number.number-index 0)
          (drop (c.loop-number.number-index + 1) path) c.visit_child-node.new.state.trail
          c.visit_child-node.result (rw c.numbered-child.ensures at met.met) (rw rest at way));
      known = met.met.known;
      same_dims = ap (λ (s : PlainEdges). s.dims) met.sizes ∙ c.loop-number.invariant.same_dims;
      same_boxes = ap (λ (s : PlainEdges). s.boxes) met.sizes ∙ c.loop-number.invariant.same_boxes;
      same_box_capacity = ap (λ (s : PlainEdges). s.room) met.sizes ∙ c.loop-number.invariant.same_box_capacity;
      same_closer = met.closer ∙ c.loop-number.invariant.same_closer;
    }
