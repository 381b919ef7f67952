use Rattle.std.proofs.Common.{◌≡◌, Some, drop}
use Rattle.tree_terms.specs.Trees.{node_at}
use Rattle.class_search.specs.Visits.{kind_tree, IsKind}
use Rattle.class_search.proofs.walk.descend.Given as goal

abbrev pub invariant-loop-number : goal.invariant-loop-number
invariant-loop-number l = record {
  node : node_at (Some (kind_tree l.search.instance.now l.fn.state.trail l.fn.node)) l.path
      ≡ node_at (Some (kind_tree l.search.instance.now l.state.trail l.node)) (drop l.number-index l.path);
  known : IsKind l.search.instance.now l.state.trail l.node;
  same_dims : l.state.dims ≡ l.fn.state.dims;
  same_boxes : l.state.boxes ≡ l.fn.state.boxes;
  same_box_capacity : l.state.room ≡ l.fn.state.room;
  same_closer : l.closer ≡ l.fn.closer;
}
