use Rattle.std.proofs.Common.{◌*◌, ◌≡◌, ◌<◌, ◌⊎◌, inl, inr, ◌∙◌, ℕ, sym, true, false}
use Rattle.std.proofs.lemmas.Bool.{and_parts, true≢false, cases_Bool}
use Rattle.packing_terms.specs.declared.Rel.TheVariants.{Overlap}
use Rattle.packing_terms.specs.Packing.{box_count}
use Rattle.packing_terms.specs.Exclusions.{excludes}
use Rattle.packing_terms.specs.Rules.{Order, IsRuleInstance, Premises}
use Rattle.packing_terms.proofs.Sets.{excludes_symmetric}
use Rattle.edge_state.specs.BitRows.{row_has}
use Rattle.edge_state.specs.Work.{IsCovered}
use Rattle.edge_state.proofs.Kept.{row_shut}
use Rattle.edge_state.proofs.RowBits.{members_fewer}
use Rattle.edge_state.proofs.Members.{member_next, both_on}
use Rattle.edge_state.proofs.Needed.{order_shut}
use Rattle.rule_passes.proofs.orders.may_order_seconds.Goals as goal

pub returns-then-is_empty : goal.returns-then-is_empty
returns-then-is_empty g c off x on y small =
    order_shut c.args.instance.now _ _ c.args.dim c.args.a x y c.args.d
    (λ is p ad bd ac. absurd (true≢false (sym
    (c.thirds_before-thirds.ensures.others y small is.1.1.1.0 (λ e. is.1.2.2.1.0 (sym e))
    (c.is_empty.ensures.none c.if-is_empty.true y) p.1) ∙ ac)))

pub loop-b-init : goal.loop-b-init
loop-b-init g c = record { covered = λ x on off. absurd (true≢false (sym on ∙ off)); within = c.requires.within }

pub loop-b-smaller : goal.loop-b-smaller
loop-b-smaller g c =
    members_fewer (row_has c.loop-b.rest) (row_has c.without-rest.result) c.in-Some.b (64 * g.row.K)
    c.without-rest.ensures c.in-Some.ensures.least.there c.in-Some.ensures.limit

pub loop-b-preserved : goal.loop-b-preserved
loop-b-preserved g c = record {
  covered = member_next (row_has c.args.seconds) (row_has c.loop-b.rest) (row_has c.without-rest.result) c.in-Some.b
      (λ x. (y : ℕ) → y < box_count c.args.instance.now
      → IsCovered c.args.instance.now (excludes c.args.state.now.trail) c.args.state.now.trail
      (Order c.args.dim c.args.a x y c.args.d))
      c.without-rest.ensures c.loop-b.invariant.covered
      (λ y small. order_shut c.args.instance.now _ _ c.args.dim c.args.a c.in-Some.b y c.args.d
      (λ is p ad bd ac. shut y small is p ac (cases_Bool (row_has c.thirds_before-thirds.result y))));
  within = λ x h. c.loop-b.invariant.within x (and_parts _ _ (sym (c.without-rest.ensures x) ∙ h)).0;
}
  where
    shut : (y : ℕ) → y < box_count c.args.instance.now
        → IsRuleInstance c.args.instance.now (Order c.args.dim c.args.a c.in-Some.b y c.args.d)
        → Premises c.args.instance.now (excludes c.args.state.now.trail) (Order c.args.dim c.args.a c.in-Some.b y c.args.d)
        → excludes c.args.state.now.trail c.args.dim c.args.a y Overlap ≡ false
        → (row_has c.thirds_before-thirds.result y ≡ true) ⊎ (row_has c.thirds_before-thirds.result y ≡ false)
        → excludes c.args.state.now.trail c.args.dim y c.in-Some.b Overlap ≡ true
    shut y small is p ac (inl on) =
        excludes_symmetric c.args.state.now.trail c.args.dim c.in-Some.b y Overlap
        (row_shut (box_count c.args.instance.now) c.args.dim c.in-Some.b y (excludes c.args.state.now.trail) Overlap
        _ small is.1.2.1.0 ((rw c.requires.sizes.same_boxes at c.row_in-near.ensures) y)
        (both_on _ _ on (sym (c.and.ensures y) ∙ c.is_empty-in-Some.ensures.none c.if-not-is_empty.false y)))
    shut y small is p ac (inr off) = absurd (true≢false (sym
        (c.thirds_before-thirds.ensures.others y small is.1.1.1.0 (λ e. is.1.2.2.1.0 (sym e)) off p.1) ∙ ac))

pub returns : goal.returns
returns g c off x on = c.loop-b.invariant.covered x on (c.in_default.ensures.least x)
