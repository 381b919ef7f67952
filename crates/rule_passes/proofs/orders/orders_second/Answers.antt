use Rattle.std.proofs.Common.{◌≡◌, ◌⊎◌, inl, inr, ◌∙◌, ℕ, refl, sym, Bool, true, false, arith}
use Rattle.std.proofs.lemmas.Bool.{and_parts, true≢false, cases_Bool}
use Rattle.packing_terms.specs.declared.Rel.{Rel}
use Rattle.packing_terms.specs.declared.Rel.TheVariants.{Overlap, Before, After}
use Rattle.packing_terms.specs.Packing.{box_count}
use Rattle.packing_terms.specs.Exclusions.{excludes, IsSurelyBefore}
use Rattle.packing_terms.specs.Rules.{Order, IsRuleInstance, Premises, Follows}
use Rattle.packing_terms.proofs.Monotone.{open_less}
use Rattle.packing_terms.proofs.Sets.{excludes_symmetric}
use Rattle.packing_terms.proofs.Steps.{open_mirrored}
use Rattle.edge_state.specs.BitRows.{row_has}
use Rattle.edge_state.specs.Edges.{is_other_box}
use Rattle.edge_state.proofs.RowSteps.{box_apart}
use Rattle.edge_state.proofs.Filters.{covered_never}
use Rattle.edge_state.proofs.Members.{covered_named}
use Rattle.edge_state.proofs.Needed.{order_shut, one_of_neither}
use Rattle.edge_state.proofs.Worked.{worked_none}
use Rattle.rule_passes.proofs.CycleRows.{unless}
use Rattle.rule_passes.proofs.RowRules.{worked_from, named_shut, order_follows}
use Rattle.rule_passes.proofs.orders.orders_second.Goals as goal

pub returns-then-not-may_order_second : goal.returns-then-not-may_order_second
returns-then-not-may_order_second g c = c.may_order_second.ensures c.if-not-may_order_second.true

pub returns-then-not-sure_before_in : goal.returns-then-not-sure_before_in
returns-then-not-sure_before_in g c =
    worked_none c.args.instance.now _ _
    (λ rule e. covered_named c.args.instance.now _ rule (Order c.args.dim e.0 e.2.0 c.args.c c.args.d) e.2.2
    (covered_never c.args.instance.now _ (Order c.args.dim e.0 e.2.0 c.args.c c.args.d)
    (λ is p. true≢false (sym (c.sure_before_in.ensures ∙ (rw (p.1.0, p.1.1) refl)) ∙ c.if-not-sure_before_in.true))))

pub returns : goal.returns
returns g c =
    worked_from c.args.instance.now _ _ _ _ (λ e rule r. named_shut c.args.instance.now _ _ rule _ r.2.2
    (order_shut c.args.instance.now _ _ c.args.dim r.0 r.2.0 c.args.c c.args.d
    (λ is p ad bd ac. go r.0 r.2.0 is p ad bd ac (cases_Bool (row_has c.near_both-open.result r.2.0)))))
    c.exclude_each.ensures.worked
  where
    X : ℕ → ℕ → ℕ → Rel → Bool
    X = excludes c.args.state.now.trail

    Y : ℕ → ℕ → ℕ → Rel → Bool
    Y = excludes c.exclude_each.new.state.trail

    -- overlap that is left afterwards was left before, read from the other box
    old : (u v : ℕ) → Y c.args.dim u v Overlap ≡ false → X c.args.dim v u Overlap ≡ false
    old u v h = open_mirrored c.args.state.now.trail c.args.dim u v Overlap
        (open_less X Y c.exclude_each.ensures.worked.extends.kept c.args.dim u v Overlap h)

    first_in : (a x : ℕ) → IsRuleInstance c.args.instance.now (Order c.args.dim a x c.args.c c.args.d)
        → Premises c.args.instance.now X (Order c.args.dim a x c.args.c c.args.d)
        → Y c.args.dim a c.args.d Overlap ≡ false → Y c.args.dim a c.args.c Overlap ≡ false
        → row_has c.near_both_without-firsts.result a ≡ true
    first_in a x is p ad ac = unless (row_has c.near_both_without-firsts.result a) (λ off. one_of_neither _ _
        (c.near_both_without-firsts.ensures.others a is.1.0 (λ e. is.1.1.1.1.0 (sym e)) (λ e. is.1.1.1.0 (sym e)) off
        (excludes_symmetric c.args.state.now.trail c.args.dim a c.args.d Before p.2)) (old _ _ ad) (old _ _ ac))

    second_in : (a x : ℕ) → IsRuleInstance c.args.instance.now (Order c.args.dim a x c.args.c c.args.d)
        → Premises c.args.instance.now X (Order c.args.dim a x c.args.c c.args.d)
        → row_has c.near_both_without-firsts.result a ≡ true → row_has c.gone_of_any-seconds.result x ≡ true
    second_in a x is p first = unless (row_has c.gone_of_any-seconds.result x) (λ off.
        c.gone_of_any-seconds.ensures.others a x first is.1.2.0 is.1.1.0 off p.0.0 p.0.1)

    near : (x : ℕ) → (X c.args.dim c.args.c x Overlap ≡ true) ⊎ (X c.args.dim c.args.d x Overlap ≡ true)
        → Y c.args.dim x c.args.d Overlap ≡ false → Y c.args.dim c.args.c x Overlap ≡ true
    near x (inl h) bd = c.exclude_each.ensures.worked.extends.kept c.args.dim c.args.c x Overlap h
    near x (inr h) bd = absurd (true≢false (sym h ∙ old _ _ bd))

    go : (a x : ℕ) → IsRuleInstance c.args.instance.now (Order c.args.dim a x c.args.c c.args.d)
        → Premises c.args.instance.now X (Order c.args.dim a x c.args.c c.args.d)
        → Y c.args.dim a c.args.d Overlap ≡ false → Y c.args.dim x c.args.d Overlap ≡ false
        → Y c.args.dim a c.args.c Overlap ≡ false
        → (row_has c.near_both-open.result x ≡ true) ⊎ (row_has c.near_both-open.result x ≡ false)
        → Y c.args.dim c.args.c x Overlap ≡ true
    go a x is p ad bd ac (inl h) =
        c.exclude_each.ensures.excluded x
        (c.and.ensures x ∙ (rw (second_in a x is p (first_in a x is p ad ac), h) refl))
    go a x is p ad bd ac (inr h) =
        near x (c.near_both-open.ensures.others x is.1.2.0 (λ e. is.1.2.1.0 (sym e)) (λ e. is.1.2.1.1.0 (sym e)) h) bd

pub exclude_each-requires : goal.exclude_each-requires
exclude_each-requires g c = (
  omega (arith, c.requires.words.0.1),
  (c.requires.words, (c.requires.sizes, (c.requires.c, (others, follows)))),
)
  where
    sure_cd : IsSurelyBefore (excludes c.args.state.now.trail) c.args.dim c.args.c c.args.d
    sure_cd = and_parts (excludes c.args.state.now.trail c.args.dim c.args.c c.args.d Overlap) (excludes c.args.state.now.trail c.args.dim c.args.c c.args.d After) (sym c.sure_before_in.ensures ∙ c.if-not-sure_before_in.false)

    others : (x : ℕ) → row_has c.and.result x ≡ true → is_other_box (box_count c.args.instance.now) c.args.c x ≡ true
    others x on = c.near_both-open.ensures.first x
        (and_parts (row_has c.gone_of_any-seconds.result x) (row_has c.near_both-open.result x)
        (sym (c.and.ensures x) ∙ on)).1

    follows : (x : ℕ) → row_has c.and.result x ≡ true
        → Follows c.args.instance.now (excludes c.args.state.now.trail) c.args.dim c.args.c x Overlap
    follows x on =
        let both = and_parts (row_has c.gone_of_any-seconds.result x) (row_has c.near_both-open.result x)
        (sym (c.and.ensures x) ∙ on) in
        let n = box_count c.args.instance.now in
        let first = c.gone_of_any-seconds.ensures.gone x both.0 in
        let not_c = box_apart n c.args.c first.box (c.near_both_without-firsts.ensures.second first.box first.member) in
        let not_d = box_apart n c.args.d first.box (c.near_both_without-firsts.ensures.first first.box first.member) in
        let x_not_c = box_apart n c.args.c x (c.near_both-open.ensures.first x both.1) in
        let x_not_d = box_apart n c.args.d x (c.near_both-open.ensures.second x both.1) in
        (order_follows c.args.instance.now (excludes c.args.state.now.trail) c.args.dim first.box x c.args.c c.args.d (
          c.requires.sizes.there,
          (
            c.near_both_without-firsts.ensures.within first.box first.member,
            (first.distinct, ((λ e. not_c (sym e)), ((λ e. not_d (sym e)), tt))),
            (
              c.near_both-open.ensures.within x both.1,
              ((λ e. x_not_c (sym e)), ((λ e. x_not_d (sym e)), tt)),
              (c.requires.c, (c.requires.distinct, tt), (c.requires.d, tt, tt)),
            ),
          ),
        ) (
          (first.one, first.other),
          sure_cd,
          excludes_symmetric c.args.state.now.trail c.args.dim c.args.d first.box After
              (c.near_both_without-firsts.ensures.excluded first.box first.member),
        )).0
