use Rattle.std.proofs.Common.{◌*◌, ◌<◌, ◌∙◌, ℕ, sym}
use Rattle.std.proofs.lemmas.Bool.{and_parts, true≢false}
use Rattle.packing_terms.specs.Packing.{box_count}
use Rattle.packing_terms.specs.Exclusions.{excludes}
use Rattle.packing_terms.specs.Rules.{Order}
use Rattle.edge_state.specs.BitRows.{row_has}
use Rattle.edge_state.proofs.RowBits.{members_fewer}
use Rattle.edge_state.specs.Work.{IsCovered}
use Rattle.edge_state.proofs.Members.{member_next}
use Rattle.rule_passes.proofs.orders.may_order_lasts.Goals as goal

pub loop-d-init : goal.loop-d-init
loop-d-init g c = record { covered = λ x on off. absurd (true≢false (sym on ∙ off)); within = c.requires.within }

pub loop-d-smaller : goal.loop-d-smaller
loop-d-smaller g c =
    members_fewer (row_has c.loop-d.rest) (row_has c.without-rest.result) c.in-Some.d (64 * g.row.K)
    c.without-rest.ensures c.in-Some.ensures.least.there c.in-Some.ensures.limit

pub loop-d-preserved : goal.loop-d-preserved
loop-d-preserved g c = record {
  covered = member_next (row_has c.args.lasts) (row_has c.loop-d.rest) (row_has c.without-rest.result) c.in-Some.d
      (λ x. (y : ℕ) → y < box_count c.args.instance.now
      → IsCovered c.args.instance.now (excludes c.args.state.now.trail) c.args.state.now.trail
      (Order c.args.dim c.args.a c.args.b y x))
      c.without-rest.ensures c.loop-d.invariant.covered
      (λ y small. c.beyond_orders_from.ensures.others y small (c.is_empty.ensures.none c.if-not-is_empty.false y));
  within = λ x h. c.loop-d.invariant.within x (and_parts _ _ (sym (c.without-rest.ensures x) ∙ h)).0;
}

pub returns : goal.returns
returns g c off x on = c.loop-d.invariant.covered x on (c.in_default.ensures.least x)
