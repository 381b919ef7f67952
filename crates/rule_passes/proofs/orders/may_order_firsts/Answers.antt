use Rattle.std.proofs.Common.{◌*◌, ◌<◌, ◌∙◌, ℕ, sym}
use Rattle.std.proofs.lemmas.Bool.{and_parts, true≢false}
use Rattle.packing_terms.specs.Packing.{box_count}
use Rattle.packing_terms.specs.Exclusions.{excludes}
use Rattle.packing_terms.specs.Rules.{Order}
use Rattle.edge_state.specs.BitRows.{row_has}
use Rattle.edge_state.proofs.RowBits.{members_fewer}
use Rattle.edge_state.specs.Work.{IsCovered}
use Rattle.edge_state.proofs.Members.{member_next}
use Rattle.rule_passes.proofs.orders.may_order_firsts.Goals as goal

pub loop-a-init : goal.loop-a-init
loop-a-init g c = record { covered = λ x on off. absurd (true≢false (sym on ∙ off)); within = c.requires.within }

pub loop-a-smaller : goal.loop-a-smaller
loop-a-smaller g c =
    members_fewer (row_has c.loop-a.rest) (row_has c.without-rest.result) c.in-Some.a (64 * g.row.K)
    c.without-rest.ensures c.in-Some.ensures.least.there c.in-Some.ensures.limit

pub loop-a-preserved : goal.loop-a-preserved
loop-a-preserved g c = record {
  covered = member_next (row_has c.args.firsts) (row_has c.loop-a.rest) (row_has c.without-rest.result) c.in-Some.a
      (λ x. (y : ℕ) → y < box_count c.args.instance.now
      → IsCovered c.args.instance.now (excludes c.args.state.now.trail) c.args.state.now.trail
      (Order c.args.dim x y c.args.c c.args.d))
      c.without-rest.ensures c.loop-a.invariant.covered
      (λ y small. c.beyond_orders_to.ensures.others y small (c.is_empty.ensures.none c.if-not-is_empty.false y));
  within = λ x h. c.loop-a.invariant.within x (and_parts _ _ (sym (c.without-rest.ensures x) ∙ h)).0;
}

pub returns : goal.returns
returns g c off x on = c.loop-a.invariant.covered x on (c.in_default.ensures.least x)
