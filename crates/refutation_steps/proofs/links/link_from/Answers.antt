use Rattle.std.proofs.Common.{◌<◌, ℕ, arith, subst, sym}
use Rattle.packing_terms.specs.Packing.{box_count}
use Rattle.packing_terms.specs.Exclusions.{excludes}
use Rattle.edge_state.specs.Edges.{PlainEdges}
use Rattle.edge_state.specs.States.{IsSized}
use Rattle.refutation_steps.specs.Links.{IsLinkedAt}
use Rattle.refutation_steps.proofs.Linked.{trying_start, trying_next, trying_stop, trying_end}
use Rattle.refutation_steps.proofs.links.link_from.Goals as goal

pub link_pair-requires-clause-sizes : goal.link_pair-requires-clause-sizes
link_pair-requires-clause-sizes c = subst (λ (s : PlainEdges). IsSized c.args.instance.now s c.args.dim)
    (sym c.loop-v.invariant.same) c.requires.sizes

pub loop-v-init : goal.loop-v-init
loop-v-init c = trying_start c.args.instance.now _ _
    (λ s k. (x : ℕ) → x < box_count c.args.instance.now
    → IsLinkedAt (box_count c.args.instance.now) (excludes s.trail) c.args.dim c.args.u k x)

pub loop-v-preserved : goal.loop-v-preserved
loop-v-preserved c = trying_next c.args.instance.now _ _ _ _ _ _
    (λ s k. (x : ℕ) → x < box_count c.args.instance.now
    → IsLinkedAt (box_count c.args.instance.now) (excludes s.trail) c.args.dim c.args.u k x) c.loop-v.v _
    c.loop-v.invariant c.in_ok-changed.ensures c.if-changed.false

pub returns-then-changed : goal.returns-then-changed
returns-then-changed c = trying_stop c.args.instance.now _ _ _ _ _ _
    (λ s k. (x : ℕ) → x < box_count c.args.instance.now
    → IsLinkedAt (box_count c.args.instance.now) (excludes s.trail) c.args.dim c.args.u k x) c.loop-v.v _ _ _
    c.loop-v.invariant c.in_ok-changed.ensures c.if-changed.true

pub returns : goal.returns
returns c = trying_end c.args.instance.now _ _ _ _
    (λ s k. (x : ℕ) → x < box_count c.args.instance.now
    → IsLinkedAt (box_count c.args.instance.now) (excludes s.trail) c.args.dim c.args.u k x) c.loop-v.v
    (box_count c.args.instance.now) (let l = c.loop-v-test.false in let f =
    c.len-v-end.ensures.value in omega (arith, l, f)) c.loop-v.invariant
