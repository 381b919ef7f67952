use Rattle.std.proofs.Common.{◌≤◌, ◌<◌, ◌-◌, ◌*◌, ◌/◌, ◌∙◌, ◌≡◌, refl, sym, ap, not, false, arith, length}
use Rattle.packing_terms.specs.Exclusions.{IsEdge, excludes}
use Rattle.packing_terms.specs.Places.{HasNoEmptyMask}
use Rattle.relation_table.specs.Masks.{mask_has}
use Rattle.packing_terms.specs.declared.Rel.{Rel}
use Rattle.edge_state.specs.Edges.{PlainEdges}
use Rattle.edge_state.specs.Work.{HasApplied, IsDue}
use Rattle.rule_passes.proofs.Followed.{followed_step, held_grown, some_left}
use Rattle.packing_terms.proofs.Applied.{extends_refl, extends_trans}
use Rattle.edge_state.proofs.Worked.{worked_kept}
use Rattle.edge_state.proofs.Settled.{change_edge, trail_short, behind_within, grown_past, settled_all, chained_all}
use Rattle.edge_state.proofs.Looked.{looked_step}
use Rattle.rule_passes.proofs.worklist.drain_worklist.Goals as goal

pub loop-change-init : goal.loop-change-init
loop-change-init g c = record {
  same_dims = refl;
  same_boxes = refl;
  same_box_capacity = refl;
  extends = extends_refl _ _;
  later = omega arith;
  within = c.requires.mark;
  looked = c.requires.looked;
  followed = c.requires.followed;
  still = λ e. refl;
}

pub mask_in-left-requires-clause-edge : goal.mask_in-left-requires-clause-edge
mask_in-left-requires-clause-edge g c =
    let s = c.loop-change.state in
    change_edge s.dims s.boxes s.trail c.loop-change.next _ c.in-Some.change c.dims-sizes.ensures.limits.trail
    c.in-Some.ensures

pub is_empty_left-requires : goal.is_empty_left-requires
is_empty_left-requires g c =
    let s = c.loop-change.state in
    let edge = change_edge s.dims s.boxes s.trail c.loop-change.next _ c.in-Some.change
    c.dims-sizes.ensures.limits.trail c.in-Some.ensures in
    record {
      sizes = record {
        same_dims = c.loop-change.invariant.same_dims ∙ c.requires.dims;
        same_boxes = c.loop-change.invariant.same_boxes ∙ c.requires.boxes;
        there = omega (arith, edge.dim, c.loop-change.invariant.same_dims, c.requires.dims);
      };
      u = omega (arith, edge.first, c.loop-change.invariant.same_boxes, c.requires.boxes);
      v = omega (arith, edge.second, c.loop-change.invariant.same_boxes, c.requires.boxes);
      distinct = edge.distinct;
      left = c.mask_in-left.ensures;
    }

pub shut_long_chain-requires : goal.shut_long_chain-requires
shut_long_chain-requires g c =
    let s = c.loop-change.state in
    let edge = change_edge s.dims s.boxes s.trail c.loop-change.next _ c.in-Some.change
    c.dims-sizes.ensures.limits.trail c.in-Some.ensures in (
      omega (arith, c.requires.words.0.1),
      (
        omega (arith, c.requires.words.0.1),
        (
          c.requires.words,
          (
            c.loop-change.invariant.same_dims ∙ c.requires.dims,
            (
              c.loop-change.invariant.same_boxes ∙ c.requires.boxes,
              (
                c.requires.all,
                (
                  c.in-Some.ensures,
                  (
                    c.mask_in-left.ensures,
                    (
                      some_left c.args.instance.now (excludes s.trail) c.in-Some.change.dim c.in-Some.change.u
                          c.in-Some.change.v c.mask_in-left.result (record {
                            dim = omega (arith, edge.dim, c.loop-change.invariant.same_dims, c.requires.dims);
                            first = omega (arith, edge.first, c.loop-change.invariant.same_boxes, c.requires.boxes);
                            second = omega (arith, edge.second, c.loop-change.invariant.same_boxes, c.requires.boxes);
                            distinct = edge.distinct;
                          }) c.if-is_empty_left.ensures c.mask_in-left.ensures,
                      c.loop-change.invariant.followed,
                    ),
                  ),
                ),
              ),
            ),
          ),
        ),
      ),
    )

pub longest_side-most-requires : goal.longest_side-most-requires
longest_side-most-requires g c =
    let s = c.loop-change.state in
    let edge = change_edge s.dims s.boxes s.trail c.loop-change.next _ c.in-Some.change
    c.dims-sizes.ensures.limits.trail c.in-Some.ensures in
    omega (arith, edge.dim, c.loop-change.invariant.same_dims, c.requires.dims)

pub propagate_edge-requires : goal.propagate_edge-requires
propagate_edge-requires g c =
    let s = c.loop-change.state in
    let same = c.shut_long_chain.ensures.same c.if-shut_long_chain.false in
    let left : (r : Rel) → mask_has c.mask_in-left.result r
    ≡ not (excludes c.shut_long_chain.new.state.trail c.in-Some.change.dim c.in-Some.change.u c.in-Some.change.v r) =
    rw same c.mask_in-left.ensures in
    let edge = change_edge s.dims s.boxes s.trail c.loop-change.next _ c.in-Some.change
    c.dims-sizes.ensures.limits.trail c.in-Some.ensures in (
      omega (arith, c.requires.words.0.1),
      (
        c.requires.words,
        (
          record {
            same_dims = ap (λ (z : PlainEdges). z.dims) same ∙ (c.loop-change.invariant.same_dims ∙ c.requires.dims);
            same_boxes = ap (λ (z : PlainEdges). z.boxes) same ∙ (c.loop-change.invariant.same_boxes ∙ c.requires.boxes);
            there = omega (arith, edge.dim, c.loop-change.invariant.same_dims, c.requires.dims);
          },
          (
            omega (arith, edge.first, c.loop-change.invariant.same_boxes, c.requires.boxes),
            (
              omega (arith, edge.second, c.loop-change.invariant.same_boxes, c.requires.boxes),
              (
                edge.distinct,
                (
                  c.requires.all,
                  (
                    left,
                    c.longest_side-most.ensures,
                  ),
                ),
              ),
            ),
          ),
        ),
      ),
    )

pub loop-change-smaller : goal.loop-change-smaller
loop-change-smaller g c =
    let s = c.loop-change.state in
    let short : length s.trail ≤ 3 * c.args.state.now.dims * c.args.state.now.boxes * (c.args.state.now.boxes - 1) / 2
    = rw (← c.loop-change.invariant.same_dims, ← c.loop-change.invariant.same_boxes)
    (trail_short s.dims s.boxes s.trail c.dims-sizes.ensures.limits.trail) in
    let change = c.in-Some.ensures in
    let before_last : c.loop-change.next < length s.trail = change.before_last in
    let past = behind_within s.trail c.loop-change.next _ c.in-Some.change _ before_last
    c.mark_after_change-after.ensures in
    omega (arith, short, before_last, past.0)

pub loop-change-preserved : goal.loop-change-preserved
loop-change-preserved g c =
    let s = c.loop-change.state in
    let change = c.in-Some.ensures in
    let edge = change_edge s.dims s.boxes s.trail c.loop-change.next _ c.in-Some.change
    c.dims-sizes.ensures.limits.trail change in
    let same = c.shut_long_chain.ensures.same c.if-shut_long_chain.false in
    let due : HasApplied c.args.instance.now c.shut_long_chain.new.state c.propagate_edge.new.state false
    (λ rule. HasNoEmptyMask c.args.instance.now (excludes c.shut_long_chain.new.state.trail)
    × IsDue (λ r. not (mask_has c.mark_after_change-after.result.1 r)) c.in-Some.change.dim c.in-Some.change.u c.in-Some.change.v rule)
    = worked_kept _ _ _ _ _ c.if-propagate_edge.false c.propagate_edge.ensures in
    let work : HasApplied c.args.instance.now s c.propagate_edge.new.state false
    (λ rule. HasNoEmptyMask c.args.instance.now (excludes s.trail)
    × IsDue (λ r. not (mask_has c.mark_after_change-after.result.1 r)) c.in-Some.change.dim c.in-Some.change.u c.in-Some.change.v rule)
    = rw same at due in
    let past = behind_within s.trail c.loop-change.next _ c.in-Some.change _ change.before_last
    c.mark_after_change-after.ensures in
    let here : IsEdge c.args.instance.now c.in-Some.change.dim c.in-Some.change.u c.in-Some.change.v
    = record {
      dim = omega (arith, edge.dim, c.loop-change.invariant.same_dims, c.requires.dims);
      first = omega (arith, edge.first, c.loop-change.invariant.same_boxes, c.requires.boxes);
      second =
          omega (arith, edge.second, c.loop-change.invariant.same_boxes, c.requires.boxes);
      distinct = edge.distinct;
    } in
    record {
      same_dims = work.same_dims ∙ c.loop-change.invariant.same_dims;
      same_boxes = work.same_boxes ∙ c.loop-change.invariant.same_boxes;
      same_box_capacity = work.same_box_capacity ∙ c.loop-change.invariant.same_box_capacity;
      extends = extends_trans _ _ _ _ c.loop-change.invariant.extends work.extends;
      later = omega (arith, c.loop-change.invariant.later, past.0);
      within = grown_past c.args.instance.now _ _ _ _ _ _ work.extends change.before_last c.mark_after_change-after.ensures;
      looked = looked_step c.args.instance.now _ _ c.in-Some.change _ _ _ _ _ here c.if-is_empty_left.ensures work
          change
          c.mark_after_change-after.ensures
          c.shut_long_chain.ensures.clean c.shut_long_chain.ensures.unordered c.shut_long_chain.ensures.within
          c.loop-change.invariant.looked;
      followed = followed_step _ _ _ _ _ _ _ _ same due.extends change.before_last c.mark_after_change-after.ensures.counted
          (c.shut_long_chain.ensures.followed c.if-shut_long_chain.false);
      still = λ e. absurd (omega (arith, e, c.loop-change.invariant.later, past.0));
    }

pub returns-then-propagate_edge-clause-extends : goal.returns-then-propagate_edge-clause-extends
returns-then-propagate_edge-clause-extends g c =
    extends_trans _ _ _ _ (extends_trans _ _ _ _ c.loop-change.invariant.extends c.shut_long_chain.ensures.extends)
    c.propagate_edge.ensures.extends

pub returns-then-propagate_edge-clause-held : goal.returns-then-propagate_edge-clause-held
returns-then-propagate_edge-clause-held g c = held_grown _ _ _ c.propagate_edge.ensures.extends _ c.shut_long_chain.ensures.held

pub returns-then-shut_long_chain-clause-extends : goal.returns-then-shut_long_chain-clause-extends
returns-then-shut_long_chain-clause-extends g c =
    extends_trans _ _ _ _ c.loop-change.invariant.extends c.shut_long_chain.ensures.extends

pub returns-clause-looked : goal.returns-clause-looked
returns-clause-looked g c e =
    let looked = c.loop-change.invariant.looked in record {
      settled = settled_all _ _ _ c.in_default.ensures looked.settled;
      chained = λ i h off. chained_all _ i _ _ c.in_default.ensures (looked.chained i h off);
      within = looked.within;
    }

pub returns-clause-followed : goal.returns-clause-followed
returns-clause-followed g c e = rw (← c.in_default.ensures) c.loop-change.invariant.followed

pub returns-clause-still : goal.returns-clause-still
returns-clause-still g c e same = c.loop-change.invariant.still (c.in_default.ensures ∙ sym same)
