use Rattle.std.proofs.Common.{arith, subst, sym}
use Rattle.packing_terms.specs.Packing.{box_count}
use Rattle.packing_terms.specs.Exclusions.{excludes}
use Rattle.edge_state.specs.Edges.{PlainEdges}
use Rattle.edge_state.specs.States.{IsSized}
use Rattle.refutation_steps.specs.Links.{IsLinkedAt}
use Rattle.refutation_steps.proofs.Linked.{trying_start, trying_next, trying_stop, trying_end}
use Rattle.refutation_steps.proofs.links.link_row.Goals as goal

pub link-requires-clause-sizes : goal.link-requires-clause-sizes
link-requires-clause-sizes c = subst (λ (s : PlainEdges). IsSized c.args.instance.now s c.args.dim)
    (sym c.loop-x.invariant.same) c.requires.sizes

pub loop-x-init : goal.loop-x-init
loop-x-init c = trying_start c.args.instance.now _ _
    (λ s k. IsLinkedAt (box_count c.args.instance.now) (excludes s.trail) c.args.dim c.args.u c.args.v k)

pub loop-x-preserved : goal.loop-x-preserved
loop-x-preserved c = trying_next c.args.instance.now _ _ _ _ _ _
    (λ s k. IsLinkedAt (box_count c.args.instance.now) (excludes s.trail) c.args.dim c.args.u c.args.v k) c.loop-x.x _
    c.loop-x.invariant c.in_ok-changed.ensures c.if-changed.false

pub returns-then-changed : goal.returns-then-changed
returns-then-changed c = trying_stop c.args.instance.now _ _ _ _ _ _
    (λ s k. IsLinkedAt (box_count c.args.instance.now) (excludes s.trail) c.args.dim c.args.u c.args.v k) c.loop-x.x _ _
    _ c.loop-x.invariant c.in_ok-changed.ensures c.if-changed.true

pub returns : goal.returns
returns c = trying_end c.args.instance.now _ _ _ _
    (λ s k. IsLinkedAt (box_count c.args.instance.now) (excludes s.trail) c.args.dim c.args.u c.args.v k) c.loop-x.x
    (box_count c.args.instance.now) (let l = c.loop-x-test.false in let f =
    c.len-x-end.ensures.value in omega (arith, l, f)) c.loop-x.invariant
