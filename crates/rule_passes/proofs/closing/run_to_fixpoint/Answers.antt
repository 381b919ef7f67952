use Rattle.std.proofs.Common.{arith, rules, ◌≤◌, ◌-◌, ◌*◌, ◌/◌, ◌∙◌, ◌<◌, ap, length}
use Rattle.packing_terms.proofs.Applied.{extends_trans}
use Rattle.edge_state.specs.Edges.{PlainEdges}
use Rattle.edge_state.specs.BitRows.{row_has}
use Rattle.edge_state.proofs.RowBits.{members_few}
use Rattle.edge_state.proofs.Worked.{worked_kept}
use Rattle.edge_state.proofs.Settled.{trail_short, settled_transitive, stable_settled, up_to_date}
use Rattle.edge_state.proofs.Looked.{looked_after, less_to_do, marked}
use Rattle.rule_passes.proofs.Followed.{good_at_end}
use Rattle.rule_passes.proofs.closing.run_to_fixpoint.Goals as goal

pub propagate_chains-requires : goal.propagate_chains-requires
propagate_chains-requires g c =
    let looked = c.loop-dim.invariant.looked in
    let there = looked.within _ c.in-Some.ensures in (
      search rules,
      (
        search rules,
        (
          c.requires.words,
          (
            record {
              same_dims = c.loop-dim.invariant.same_dims ∙ c.requires.dims;
              same_boxes = c.loop-dim.invariant.same_boxes ∙ c.requires.boxes;
              there = there;
            },
            (
              looked.settled.full,
              (
                settled_transitive _ _ _ there (up_to_date _ _ looked.settled),
                (c.requires.all, c.loop-dim.invariant.followed),
              ),
            ),
          ),
        ),
      ),
    )

pub returns-then-propagate_chains-clause-extends : goal.returns-then-propagate_chains-clause-extends
returns-then-propagate_chains-clause-extends g c =
    extends_trans _ _ _ _ c.loop-dim.invariant.extends c.propagate_chains.ensures.worked.extends

pub drain_worklist-requires-in-Some : goal.drain_worklist-requires-in-Some
drain_worklist-requires-in-Some g c = (
  omega (arith, c.requires.words.0.1),
  (
    omega (arith, c.requires.words.0.1),
    (
      c.requires.words,
      (
        c.propagate_chains.ensures.worked.same_dims ∙ (c.loop-dim.invariant.same_dims ∙ c.requires.dims),
        (
          c.propagate_chains.ensures.worked.same_boxes ∙ (c.loop-dim.invariant.same_boxes ∙ c.requires.boxes),
          (
            c.requires.all,
            (
              marked _ _ _ _ c.mark-next.ensures c.propagate_chains.ensures.worked.extends,
              (
                looked_after _ _ _ _ _ _ _ c.loop-dim.invariant.looked
                    (worked_kept _ _ _ _ _ c.if-propagate_chains.false c.propagate_chains.ensures.worked) c.mark-next.ensures
                    (c.propagate_chains.ensures.dirty c.if-propagate_chains.false),
                rw c.mark-next.ensures (c.propagate_chains.ensures.followed c.if-propagate_chains.false),
              ),
            ),
          ),
        ),
      ),
    ),
  ),
)

pub returns-then-drain_worklist-2-clause-extends : goal.returns-then-drain_worklist-2-clause-extends
returns-then-drain_worklist-2-clause-extends g c =
    extends_trans _ _ _ _ c.loop-dim.invariant.extends
    (extends_trans _ _ _ _ c.propagate_chains.ensures.worked.extends c.drain_worklist-in-Some.ensures.extends)

pub loop-dim-smaller : goal.loop-dim-smaller
loop-dim-smaller g c =
    let s = c.drain_worklist-in-Some.new.state in
    let room = 3 * c.args.state.now.dims * c.args.state.now.boxes * (c.args.state.now.boxes - 1) / 2 in
    let same_dims = ap (λ (z : PlainEdges). z.dims) c.drain_worklist-in-Some.ensures.sizes
    ∙ (c.propagate_chains.ensures.worked.same_dims ∙ c.loop-dim.invariant.same_dims) in
    let same_boxes = ap (λ (z : PlainEdges). z.boxes) c.drain_worklist-in-Some.ensures.sizes
    ∙ (c.propagate_chains.ensures.worked.same_boxes ∙ c.loop-dim.invariant.same_boxes) in
    let short : length s.trail ≤ room =
    rw (← same_dims, ← same_boxes) (trail_short s.dims s.boxes s.trail c.dims-sizes.ensures.limits.trail) in
    let small : c.in-Some.dim < 64 = omega (
      arith,
      c.loop-dim.invariant.looked.within _ c.in-Some.ensures,
      c.loop-dim.invariant.same_dims,
      c.requires.dims,
      same_dims,
      c.dims-sizes.ensures.limits.dimensions.1,
    ) in
    less_to_do c.args.instance.now _ _ _ room c.mark-next.result c.in-Some.dim c.loop-dim.pending.dirty
    c.propagate_chains.new.pending.dirty c.drain_worklist-in-Some.new.pending.dirty
    c.propagate_chains.ensures.worked.extends c.drain_worklist-in-Some.ensures.extends c.mark-next.ensures short
    (members_few (row_has c.drain_worklist-in-Some.new.pending.dirty) 64)
    (c.drain_worklist-in-Some.ensures.still c.if-drain_worklist-2.false)
    (c.propagate_chains.ensures.dirty c.if-propagate_chains.false) c.in-Some.ensures small

pub loop-dim-preserved : goal.loop-dim-preserved
loop-dim-preserved g c = record {
  same_dims = ap (λ (z : PlainEdges). z.dims) c.drain_worklist-in-Some.ensures.sizes
      ∙ (c.propagate_chains.ensures.worked.same_dims ∙ c.loop-dim.invariant.same_dims);
  same_boxes = ap (λ (z : PlainEdges). z.boxes) c.drain_worklist-in-Some.ensures.sizes
      ∙ (c.propagate_chains.ensures.worked.same_boxes ∙ c.loop-dim.invariant.same_boxes);
  same_box_capacity = ap (λ (z : PlainEdges). z.room) c.drain_worklist-in-Some.ensures.sizes
      ∙ (c.propagate_chains.ensures.worked.same_box_capacity ∙ c.loop-dim.invariant.same_box_capacity);
  extends = extends_trans _ _ _ _ c.loop-dim.invariant.extends
      (extends_trans _ _ _ _ c.propagate_chains.ensures.worked.extends c.drain_worklist-in-Some.ensures.extends);
  looked = c.drain_worklist-in-Some.ensures.looked c.if-drain_worklist-2.false;
  followed = c.drain_worklist-in-Some.ensures.followed c.if-drain_worklist-2.false;
}

pub returns-clause-good : goal.returns-clause-good
returns-clause-good g c e = good_at_end _ _ _ _ c.loop-dim.invariant.followed c.in_default.ensures

pub returns-clause-ended : goal.returns-clause-ended
returns-clause-ended g c =
    let looked = c.loop-dim.invariant.looked in (
      stable_settled _ _ (up_to_date _ _ looked.settled) (λ i h. looked.chained i h (c.in_default.ensures i)),
      looked.settled.full,
    )
