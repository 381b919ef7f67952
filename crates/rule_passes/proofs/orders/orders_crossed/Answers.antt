use Rattle.std.proofs.Common.{◌≡◌, ◌∙◌, ℕ, sym, Bool, true, false, arith}
use Rattle.std.proofs.lemmas.Bool.{true≢false}
use Rattle.packing_terms.specs.declared.Rel.{Rel}
use Rattle.packing_terms.specs.declared.Rel.TheVariants.{Overlap, Before}
use Rattle.packing_terms.specs.Packing.{box_count}
use Rattle.packing_terms.specs.Exclusions.{excludes}
use Rattle.packing_terms.specs.Rules.{Order, IsRuleInstance, Premises, Follows}
use Rattle.packing_terms.proofs.Monotone.{open_less}
use Rattle.packing_terms.proofs.Sets.{excludes_symmetric}
use Rattle.edge_state.specs.BitRows.{row_has}
use Rattle.edge_state.proofs.Kept.{open_is}
use Rattle.edge_state.proofs.RowSteps.{box_apart}
use Rattle.edge_state.proofs.Filters.{covered_never}
use Rattle.edge_state.proofs.Members.{covered_named}
use Rattle.edge_state.proofs.Needed.{order_shut}
use Rattle.edge_state.proofs.Worked.{worked_none}
use Rattle.rule_passes.proofs.CycleRows.{unless}
use Rattle.rule_passes.proofs.Guards.{shut_off}
use Rattle.rule_passes.proofs.RowRules.{worked_from, named_shut, order_follows_back}
use Rattle.rule_passes.proofs.orders.orders_crossed.Goals as goal

pub returns-then-not-may_order_crossed : goal.returns-then-not-may_order_crossed
returns-then-not-may_order_crossed g c = c.may_order_crossed.ensures c.if-not-may_order_crossed.true

pub returns-then-has : goal.returns-then-has
returns-then-has g c =
    worked_none c.args.instance.now _ _
    (λ rule e. covered_named c.args.instance.now _ rule (Order c.args.dim c.args.a e.0 e.2.0 c.args.d) e.2.2
    (covered_never c.args.instance.now _ (Order c.args.dim c.args.a e.0 e.2.0 c.args.d)
    (λ is p. true≢false (sym p.2 ∙ open_is _ _ (c.mask_in.ensures Before) (sym c.has.ensures ∙ c.if-has.true)))))

pub returns : goal.returns
returns g c =
    worked_from c.args.instance.now _ _ _ _ (λ e rule r. named_shut c.args.instance.now _ _ rule _ r.2.2
    (order_shut c.args.instance.now _ _ c.args.dim c.args.a r.0 r.2.0 c.args.d
    (λ is p ad bd ac. excludes_symmetric c.exclude_overlaps.new.state.trail c.args.dim r.0 r.2.0 Overlap
    (c.exclude_overlaps.ensures.excluded e r.0 r.2.0 (second_in r.0 r.2.0 is p bd) (third_in r.0 r.2.0 is p ac)
    is.1.2.1.0))))
    c.exclude_overlaps.ensures.worked
  where
    X : ℕ → ℕ → ℕ → Rel → Bool
    X = excludes c.args.state.now.trail

    Y : ℕ → ℕ → ℕ → Rel → Bool
    Y = excludes c.exclude_overlaps.new.state.trail

    old : (u v : ℕ) → Y c.args.dim u v Overlap ≡ false → X c.args.dim u v Overlap ≡ false
    old u v h = open_less X Y c.exclude_overlaps.ensures.worked.extends.kept c.args.dim u v Overlap h

    second_in : (b x : ℕ) → IsRuleInstance c.args.instance.now (Order c.args.dim c.args.a b x c.args.d)
        → Premises c.args.instance.now X (Order c.args.dim c.args.a b x c.args.d)
        → Y c.args.dim b c.args.d Overlap ≡ false → row_has c.seconds_after-seconds.result b ≡ true
    second_in b x is p bd = unless (row_has c.seconds_after-seconds.result b) (λ off. true≢false (sym
        (excludes_symmetric c.args.state.now.trail c.args.dim c.args.d b Overlap
        (c.seconds_after-seconds.ensures.others b is.1.2.0 is.1.1.0 (λ e. is.1.2.1.1.0 (sym e)) off p.0)) ∙ old _ _ bd))

    third_in : (b x : ℕ) → IsRuleInstance c.args.instance.now (Order c.args.dim c.args.a b x c.args.d)
        → Premises c.args.instance.now X (Order c.args.dim c.args.a b x c.args.d)
        → Y c.args.dim c.args.a x Overlap ≡ false → row_has c.thirds_before-thirds.result x ≡ true
    third_in b x is p ac = unless (row_has c.thirds_before-thirds.result x) (λ off. true≢false (sym
        (c.thirds_before-thirds.ensures.others x is.1.2.2.0 is.1.1.1.0 (λ e. is.1.2.2.1.0 (sym e)) off p.1) ∙ old _ _ ac))

pub exclude_overlaps-requires : goal.exclude_overlaps-requires
exclude_overlaps-requires g c = (
  omega (arith, c.requires.words.0.1),
  (
    c.requires.words,
    (
      c.requires.sizes,
      (c.seconds_after-seconds.ensures.within, (c.thirds_before-thirds.ensures.within, follows)),
    ),
  ),
)
  where
    follows : (b x : ℕ) → row_has c.seconds_after-seconds.result b ≡ true
        → row_has c.thirds_before-thirds.result x ≡ true → (b ≡ x → ⊥)
        → Follows c.args.instance.now (excludes c.args.state.now.trail) c.args.dim b x Overlap
    follows b x one two ne =
        let n = box_count c.args.instance.now in
        let b_not_d = box_apart n c.args.d b (c.seconds_after-seconds.ensures.last b one) in
        (order_follows_back c.args.instance.now (excludes c.args.state.now.trail) c.args.dim c.args.a b x c.args.d (
          c.requires.sizes.there,
          (
            c.requires.a,
            (
              c.seconds_after-seconds.ensures.first b one,
              (box_apart n c.args.a x (c.thirds_before-thirds.ensures.first x two), (c.requires.distinct, tt)),
            ),
            (
              c.seconds_after-seconds.ensures.within b one,
              (ne, ((λ e. b_not_d (sym e)), tt)),
              (
                c.thirds_before-thirds.ensures.within x two,
                ((λ e. c.thirds_before-thirds.ensures.last x two (sym e)), tt),
                (c.requires.d, tt, tt),
              ),
            ),
          ),
        ) (
          c.seconds_after-seconds.ensures.sure b one,
          c.thirds_before-thirds.ensures.sure x two,
          shut_off _ _ (c.mask_in.ensures Before) (sym c.has.ensures ∙ c.if-has.false),
        )).0
