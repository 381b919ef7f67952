use Rattle.std.proofs.Common.{◌≡◌, ◌∙◌, ap, ◌||◌, eqb, arith}
use Rattle.edge_state.proofs.Tables.{below_none, below_one_more}
use Rattle.rule_passes.proofs.rows.all_boxes.Goals as goal

pub loop-v-init : goal.loop-v-init
loop-v-init g c x = c.empty-all.ensures x ∙ below_none x

pub loop-v-preserved : goal.loop-v-preserved
loop-v-preserved g c x = c.with-all.ensures x
    ∙ (ap (λ b. b || eqb x c.loop-v.v) (c.loop-v.invariant x) ∙ below_one_more x c.loop-v.v)

pub returns : goal.returns
returns g c x = let last : c.loop-v.v ≡ c.args.boxes = omega arith in rw (← last) (c.loop-v.invariant x)
