use Rattle.std.proofs.Common.{◌-◌, length, take, drop, ap, refl, ◌∙◌, arith}
use Rattle.std.proofs.lemmas.List.{length-drop}
use Rattle.class_search.specs.declared.walk.Walk.{Walk}
use Rattle.class_search.specs.declared.kept.Refuted.{Refuted as RefutedNode}
use Rattle.tree_terms.specs.Paths.{node_view}
use Rattle.work_share.specs.Nodes.{plain_node}
use Rattle.class_search.proofs.Rerooting.{head_apart, met_some, met_size, met_node, met_among}
use Rattle.class_search.proofs.Rerooting.{left_first, left_second, left_behind}
use Rattle.class_search.proofs.kept.PausedWalk.division.Goals as goal

pub drop_first-requires : goal.drop_first-requires
drop_first-requires c =
    let l = c.remove-split.ensures.len in
    let f = head_apart c.args.self.walk.frames.items c.remove-split.result (omega (arith, l))
    c.remove-split.ensures.value in
    let m = (met_some c.args.self c.remove-split.result _ f c.requires).0 in
    m

pub overflow_sub-walk : goal.overflow_sub-walk
overflow_sub-walk c =
    let l = c.remove-split.ensures.len in
    let f = head_apart c.args.self.walk.frames.items c.remove-split.result (omega (arith, l))
    c.remove-split.ensures.value in
    (met_some c.args.self c.remove-split.result _ f c.requires).1

pub to_node-node-requires : goal.to_node-node-requires
to_node-node-requires c =
    let l = c.remove-split.ensures.len in
    let f = head_apart c.args.self.walk.frames.items c.remove-split.result (omega (arith, l))
    c.remove-split.ensures.value in
    let a = met_among c.args.self c.remove-split.result _ f c.requires in
    let dim = a.dim in
    let there = a.there in
    let most_dims = c.len-limits.ensures.limits.container.dimensions.1 in
    let most = c.len-limits.ensures.limits.boxes.count.1 in
    record { dim = omega (arith, dim, most_dims); rising = a.rising; there = omega (arith, there, most) }

pub returns-in_default : goal.returns-in_default
returns-in_default c =
    let l = c.remove-split.ensures.len in
    let f = head_apart c.args.self.walk.frames.items c.remove-split.result (omega (arith, l))
    c.remove-split.ensures.value in
    let m = (met_some c.args.self c.remove-split.result _ f c.requires).1 in
    let w : Walk = record {
      frames = c.remove-split.new.self;
      tokens = c.drop_first.new.self;
      count = c.args.self.walk.count - 1;
      node = c.args.self.walk.node;
    } in
    record {
      node = met_node c.args.self c.remove-split.result _ f c.requires node_view (plain_node c.to_node-node.result)
          (λ es. c.to_node-node.ensures c.args.self.instance.now es);
      parts = left_first c.args.self c.remove-split.result _ f c.requires w c.in_default.is
          c.remove-split.ensures.items
          (λ t ts e. c.drop_first.ensures ∙ ap (drop 1) e) (omega (arith, m)) refl;
    }

pub split_at-requires : goal.split_at-requires
split_at-requires c =
    let l = c.remove-split.ensures.len in
    let f = head_apart c.args.self.walk.frames.items c.remove-split.result (omega (arith, l))
    c.remove-split.ensures.value in
    let m = (met_size c.args.self c.remove-split.result _ f c.requires c.in-Some.size c.in-Some.is).0 in
    let d = ap length c.drop_first.ensures ∙ length-drop 1 c.args.self.walk.tokens in
    omega (arith, m, d)

pub overflow_sub-walk-2 : goal.overflow_sub-walk-2
overflow_sub-walk-2 c =
    let l = c.remove-split.ensures.len in
    let f = head_apart c.args.self.walk.frames.items c.remove-split.result (omega (arith, l))
    c.remove-split.ensures.value in
    let m = (met_size c.args.self c.remove-split.result _ f c.requires c.in-Some.size c.in-Some.is).1 in
    omega (arith, m)

pub overflow_sub-walk-3 : goal.overflow_sub-walk-3
overflow_sub-walk-3 c =
    let l = c.remove-split.ensures.len in
    let f = head_apart c.args.self.walk.frames.items c.remove-split.result (omega (arith, l))
    c.remove-split.ensures.value in
    let m = (met_size c.args.self c.remove-split.result _ f c.requires c.in-Some.size c.in-Some.is).1 in
    omega (arith, m)

pub returns : goal.returns
returns c =
    let l = c.remove-split.ensures.len in
    let f = head_apart c.args.self.walk.frames.items c.remove-split.result (omega (arith, l))
    c.remove-split.ensures.value in
    let size = c.in-Some.size in
    let m = (met_size c.args.self c.remove-split.result _ f c.requires size c.in-Some.is).1 in
    let w : Walk = record {
      frames = c.remove-split.new.self;
      tokens = c.in-Ok.rest;
      count = c.args.self.walk.count - 1 - size.count;
      node = c.args.self.walk.node;
    } in
    let refuted : RefutedNode = record { tokens = c.in-Ok.tokens; count = size.count } in
    record {
      node = met_node c.args.self c.remove-split.result _ f c.requires node_view (plain_node c.to_node-node.result)
          (λ es. c.to_node-node.ensures c.args.self.instance.now es);
      parts = (
        left_behind c.args.self c.remove-split.result _ f c.requires refuted size c.in-Some.is
            (λ t ts e. c.in-Ok.ensures.first
            ∙ ap (take size.tokens) (c.drop_first.ensures ∙ ap (drop 1) e)) refl,
        left_second c.args.self c.remove-split.result _ f c.requires w size c.in-Some.is c.remove-split.ensures.items
            (λ t ts e. c.in-Ok.ensures.rest
            ∙ ap (drop size.tokens) (c.drop_first.ensures ∙ ap (drop 1) e))
            (omega (arith, m)) refl,
      );
    }
