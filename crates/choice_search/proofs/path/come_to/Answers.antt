use Rattle.std.proofs.Common.{[], ℕ, ap, ◌∙◌, arith, Vec, Global}
use Rattle.choice_search.proofs.Along.{step_in, step_out}
use Rattle.choice_search.specs.Paths.{taken_along}
use Rattle.choice_search.proofs.path.come_to.Goals.{then-path-k-eq0+in_ok-put_box, else-path-k-eq0}
use Rattle.choice_search.proofs.path.come_to.Goals as goal

pub loop-k-preserved : goal.loop-k-preserved
loop-k-preserved c =
    elim c.if-path-k-eq0.branch [
      | then-path-k-eq0+in_ok-put_box w ↦
          step_in c.loop-k.taken.items c.args.order.now c.args.path.now (taken_along [] c.args.order.now c.args.path.now)
          c.loop-k.k (omega (arith, c.loop-k-test.true)) (omega (arith, c.loop-k-test.true, c.requires))
          c.loop-k.invariant
          (omega (arith, w.if-path-k-eq0.true)) c.if-path-k-eq0.taken.items
          (ap (λ (x : Vec ℕ Global). x.items) w.taken-is ∙ w.in_ok-put_box.ensures.inserts)
      | else-path-k-eq0 w ↦ step_out c.loop-k.taken.items c.args.order.now c.args.path.now
          (taken_along [] c.args.order.now c.args.path.now) c.loop-k.k (omega (arith, c.loop-k-test.true))
          (omega (arith, c.loop-k-test.true, c.requires)) c.loop-k.invariant
          w.if-path-k-eq0.false c.if-path-k-eq0.taken.items (ap (λ (x : Vec ℕ Global). x.items) w.taken-is)
    ]
