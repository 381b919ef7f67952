use Rattle.std.proofs.Common.{arith, ap, ◌/◌}
use Rattle.conservative_scales.proofs.Edges.{half_best, best_takes, best_keeps, best_is}
use Rattle.conservative_scales.proofs.listed.next_edge.Goals as goal
use Rattle.conservative_scales.proofs.listed.next_edge.Goals.{then-above-side+then-side-next, else-above-side}
use Rattle.conservative_scales.proofs.listed.next_edge.Goals.{else-above-side-via-then-above-side+else-side-next}
use Rattle.conservative_scales.proofs.listed.next_edge.Goals.{else-above-side-via-else-above-side}

pub loop-box_no-init : goal.loop-box_no-init
loop-box_no-init c = half_best c.args.instance.now c.args.dim c.args.above _
    (ap (λ x. x / 2) c.container_side-half.ensures) c.if-above-half.false

pub loop-box_no-preserved : goal.loop-box_no-preserved
loop-box_no-preserved c =
    elim c.if-above-side.branch [
      | then-above-side+then-side-next w ↦
          rw w.next-is (best_takes c.args.instance.now c.args.dim c.args.above _ _ _ c.loop-box_no.invariant
          c.side-side.ensures (omega arith) w.if-above-side.true w.if-side-next.true)
      | else-above-side w ↦
          rw w.next-is (best_keeps c.args.instance.now c.args.dim c.args.above _ _ _ c.loop-box_no.invariant
          c.side-side.ensures
          (λ l. elim w.else-above-side.branch [
            | else-above-side-via-then-above-side+else-side-next v ↦ v.if-side-next.false
            | else-above-side-via-else-above-side v ↦ absurd (omega arith)
          ]))
    ]

pub returns-clause-next : goal.returns-clause-next
returns-clause-next c = best_is c.args.instance.now c.args.dim c.args.above _ _ c.loop-box_no.invariant (omega arith)
