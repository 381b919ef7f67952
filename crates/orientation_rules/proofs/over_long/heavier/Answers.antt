use Rattle.std.proofs.Common.{◌*◌, ◌∙◌, sym, nat_lt, slice_index}
use Rattle.std.proofs.lemmas.Bool.{and_parts, lt-ltb}
use Rattle.edge_state.specs.BitRows.{row_has}
use Rattle.edge_state.proofs.RowBits.{members_fewer}
use Rattle.orientation_rules.proofs.OverLong.{heavier_take}
use Rattle.orientation_rules.proofs.over_long.heavier.Goals as goal

pub loop-v-smaller : goal.loop-v-smaller
loop-v-smaller g c =
    members_fewer (row_has c.loop-v.rest) (row_has c.without-rest.result) c.in-Some.v (64 * g.row.K)
    c.without-rest.ensures c.in-Some.ensures.least.there c.in-Some.ensures.limit

pub loop-v-smaller-then-weights-v : goal.loop-v-smaller-then-weights-v
loop-v-smaller-then-weights-v g c =
    members_fewer (row_has c.loop-v.rest) (row_has c.without-rest.result) c.in-Some.v (64 * g.row.K)
    c.without-rest.ensures c.in-Some.ensures.least.there c.in-Some.ensures.limit

pub loop-v-preserved-then-weights-v : goal.loop-v-preserved-then-weights-v
loop-v-preserved-then-weights-v g c = record {
  told = heavier_take (row_has c.args.row) (row_has c.loop-v.heavy) (row_has c.with-heavy.result)
      (row_has c.loop-v.rest) (row_has c.without-rest.result)
      (λ v. nat_lt c.args.most (slice_index c.args.weights.now v)) c.in-Some.v
      c.without-rest.ensures c.with-heavy.ensures c.in-Some.ensures.least.there
      (lt-ltb _ _ c.if-weights-v.true) c.loop-v.invariant.told;
  within = λ v h. c.loop-v.invariant.within v (and_parts _ _ (sym (c.without-rest.ensures v) ∙ h)).0;
}
