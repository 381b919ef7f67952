use Rattle.std.proofs.Common.{◌<◌, ◌||◌, eqb, add-one, sym, ap, ◌∙◌, arith, length, take, get_or}
use Rattle.std.proofs.Math.Seq.{take-suc}
use Rattle.set_search.proofs.Memories.{has_push}
use Rattle.set_search.proofs.key.SetKey.of.Goals as goal

pub loop-v-preserved : goal.loop-v-preserved
loop-v-preserved c x =
    let there : c.loop-v.v-index < length c.args.keep.now = omega (arith, c.loop-v-test.true) in
    rw (add-one, take-suc c.args.keep.now c.loop-v.v-index 0)
    (c.with-key.ensures x ∙ (ap (λ b. b || eqb x (get_or c.args.keep.now c.loop-v.v-index 0)) (c.loop-v.invariant x)
    ∙ sym (has_push (take c.loop-v.v-index c.args.keep.now) (get_or c.args.keep.now c.loop-v.v-index 0) x)))
