use Rattle.std.proofs.Common.{◌<◌, ℕ, arith, subst, sym}
use Rattle.packing_terms.specs.Packing.{box_count}
use Rattle.packing_terms.specs.Exclusions.{excludes}
use Rattle.edge_state.specs.Edges.{PlainEdges}
use Rattle.edge_state.specs.States.{IsSized}
use Rattle.refutation_steps.specs.Links.{IsLinkedAt}
use Rattle.refutation_steps.proofs.Linked.{trying_start, trying_next, trying_stop, trying_end}
use Rattle.refutation_steps.proofs.links.link_any.Goals as goal

pub link_from-requires-clause-sizes : goal.link_from-requires-clause-sizes
link_from-requires-clause-sizes c = subst (λ (s : PlainEdges). IsSized c.args.instance.now s c.args.dim)
    (sym c.loop-u.invariant.same) c.requires.sizes

pub loop-u-init : goal.loop-u-init
loop-u-init c = trying_start c.args.instance.now _ _
    (λ s k. (v : ℕ) → v < box_count c.args.instance.now → (x : ℕ) → x < box_count c.args.instance.now
    → IsLinkedAt (box_count c.args.instance.now) (excludes s.trail) c.args.dim k v x)

pub loop-u-preserved : goal.loop-u-preserved
loop-u-preserved c = trying_next c.args.instance.now _ _ _ _ _ _
    (λ s k. (v : ℕ) → v < box_count c.args.instance.now → (x : ℕ) → x < box_count c.args.instance.now
    → IsLinkedAt (box_count c.args.instance.now) (excludes s.trail) c.args.dim k v x) c.loop-u.u _ c.loop-u.invariant
    c.in_ok-changed.ensures c.if-changed.false

pub returns-then-changed : goal.returns-then-changed
returns-then-changed c = trying_stop c.args.instance.now _ _ _ _ _ _
    (λ s k. (v : ℕ) → v < box_count c.args.instance.now → (x : ℕ) → x < box_count c.args.instance.now
    → IsLinkedAt (box_count c.args.instance.now) (excludes s.trail) c.args.dim k v x) c.loop-u.u _ _ _
    c.loop-u.invariant c.in_ok-changed.ensures c.if-changed.true

pub returns : goal.returns
returns c = trying_end c.args.instance.now _ _ _ _
    (λ s k. (v : ℕ) → v < box_count c.args.instance.now → (x : ℕ) → x < box_count c.args.instance.now
    → IsLinkedAt (box_count c.args.instance.now) (excludes s.trail) c.args.dim k v x) c.loop-u.u
    (box_count c.args.instance.now) (let l = c.loop-u-test.false in let f =
    c.len-u-end.ensures.value in omega (arith, l, f)) c.loop-u.invariant
