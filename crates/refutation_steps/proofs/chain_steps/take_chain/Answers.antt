use Rattle.std.proofs.Common.{◌<◌, slice_index, arith, ap, List, ℕ}
use Rattle.packing_terms.specs.Packing.{box_count, dims}
use Rattle.packing_terms.proofs.Internal.{side_small}
use Rattle.packing_terms.proofs.Runs.{run_small, few_boxes}
use Rattle.refutation_steps.proofs.Heavy.{light_sought}
use Rattle.refutation_steps.proofs.chain_steps.take_chain.Goals as goal

pub overflow_add-head : goal.overflow_add-head
overflow_add-head c =
    let p = c.requires.placed in
    let d = p.edge.dim in
    let first = p.edge.first in
    let second = p.edge.second in
    let hi : c.args.e.dim < dims c.args.instance.now = omega (arith, d, p.dims) in
    let hu : c.args.e.u < box_count c.args.instance.now = omega (arith, first, p.boxes) in
    let hv : c.args.e.v < box_count c.args.instance.now = omega (arith, second, p.boxes) in
    let head = run_small _ _ _ 1000000 c.args.e.u _
    (λ x hx. side_small _ c.len-count.ensures.limits x c.args.e.dim hx hi)
    (c.weigh_chains.ensures.heads.heaviest c.args.e.u hu).some in
    let tail = run_small _ _ _ 1000000 c.args.e.v _
    (λ x hx. side_small _ c.len-count.ensures.limits x c.args.e.dim hx hi)
    (c.weigh_chains.ensures.tails.heaviest c.args.e.v hv).some in
    let a = ap (λ (l : List ℕ). slice_index l c.args.e.u) c.as_slice.ensures.value in
    let b = ap (λ (l : List ℕ). slice_index l c.args.e.v) c.as_slice-2.ensures.value in
    omega (arith, head, tail, few_boxes _ c.len-count.ensures.limits, a, b)

pub returns-then-head-tail-clause-sought : goal.returns-then-head-tail-clause-sought
returns-then-head-tail-clause-sought c =
    let h = c.if-head-tail.true in
    let a = ap (λ (l : List ℕ). slice_index l c.args.e.u) c.as_slice.ensures.value in
    let b = ap (λ (l : List ℕ). slice_index l c.args.e.v) c.as_slice-2.ensures.value in
    let f = c.from.ensures in
    let g = c.container_side.ensures in
    light_sought c.args.instance.now c.args.state.now _ c.args.e _ _ c.weigh_chains.ensures.heads
    c.weigh_chains.ensures.tails
    (omega (arith, h, f, g, a, b))
