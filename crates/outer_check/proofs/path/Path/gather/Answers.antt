use Rattle.std.proofs.Common.{◌∙◌, ap, arith, ◌<◌}
use Rattle.outer_check.specs.Frames.{PlainPath}
use Rattle.outer_check.proofs.Paths.{any_put, put_more, push_length}
use Rattle.outer_check.proofs.path.Path.gather.Goals as goal

pub loop-v-preserved : goal.loop-v-preserved
loop-v-preserved c =
    let small : c.loop-v.v < 128 = omega (arith, c.loop-v-test.true, c.boxes-v-end.ensures.value, c.boxes-v-end.ensures.limits.1) in (
      put_more c.args.self.now.frames c.args.child c.loop-v.v _ _ _ c.loop-v.invariant.0
          (c.boxes_in-put.ensures c.loop-v.v small ∙ any_put c.args.self.now.frames _ _ c.args.child c.loop-v.v
          c.as_slice.ensures.value (ap (λ (p : PlainPath). p.frames) c.self.view_is))
          c.push_where.ensures.items,
      push_length c.loop-v.v _ _ _ c.push_where.ensures.items c.loop-v.invariant.1,
      c.push_where.ensures.room ∙ c.loop-v.invariant.2,
    )
