use Rattle.std.proofs.Common.{◌≡◌, ◌⊎◌, inl, inr, ◌∙◌, ℕ, refl, sym, Bool, true, false, arith}
use Rattle.std.proofs.lemmas.Bool.{and_parts, true≢false, cases_Bool}
use Rattle.packing_terms.specs.declared.Rel.{Rel}
use Rattle.packing_terms.specs.declared.Rel.TheVariants.{Overlap, Before, After}
use Rattle.packing_terms.specs.Packing.{box_count}
use Rattle.packing_terms.specs.Exclusions.{excludes, IsSurelyBefore}
use Rattle.packing_terms.specs.Rules.{Order, IsRuleInstance, Premises, Follows}
use Rattle.packing_terms.proofs.Monotone.{open_less}
use Rattle.packing_terms.proofs.Sets.{excludes_symmetric}
use Rattle.edge_state.specs.BitRows.{row_has}
use Rattle.edge_state.specs.Edges.{is_other_box}
use Rattle.edge_state.proofs.RowSteps.{box_apart}
use Rattle.edge_state.proofs.Filters.{covered_never}
use Rattle.edge_state.proofs.Members.{covered_named}
use Rattle.edge_state.proofs.Needed.{order_shut, one_of_neither}
use Rattle.edge_state.proofs.Worked.{worked_none}
use Rattle.rule_passes.proofs.CycleRows.{unless}
use Rattle.rule_passes.proofs.RowRules.{worked_from, named_shut, order_follows_back}
use Rattle.rule_passes.proofs.orders.orders_first.Goals as goal

pub returns-then-not-may_order_first : goal.returns-then-not-may_order_first
returns-then-not-may_order_first g c = c.may_order_first.ensures c.if-not-may_order_first.true

pub returns-then-not-sure_before_in : goal.returns-then-not-sure_before_in
returns-then-not-sure_before_in g c =
    worked_none c.args.instance.now _ _
    (λ rule e. covered_named c.args.instance.now _ rule (Order c.args.dim c.args.a c.args.b e.2.0 e.0) e.2.2
    (covered_never c.args.instance.now _ (Order c.args.dim c.args.a c.args.b e.2.0 e.0)
    (λ is p. true≢false (sym (c.sure_before_in.ensures ∙ (rw (p.0.0, p.0.1) refl)) ∙ c.if-not-sure_before_in.true))))

pub returns : goal.returns
returns g c =
    worked_from c.args.instance.now _ _ _ _ (λ e rule r. named_shut c.args.instance.now _ _ rule _ r.2.2
    (order_shut c.args.instance.now _ _ c.args.dim c.args.a c.args.b r.2.0 r.0
    (λ is p ad bd ac. go r.2.0 r.0 is p ad bd ac (cases_Bool (row_has c.near_both-open.result r.2.0)))))
    c.exclude_each.ensures.worked
  where
    X : ℕ → ℕ → ℕ → Rel → Bool
    X = excludes c.args.state.now.trail

    Y : ℕ → ℕ → ℕ → Rel → Bool
    Y = excludes c.exclude_each.new.state.trail

    old : (u v : ℕ) → Y c.args.dim u v Overlap ≡ false → X c.args.dim u v Overlap ≡ false
    old u v h = open_less X Y c.exclude_each.ensures.worked.extends.kept c.args.dim u v Overlap h

    last_in : (x d : ℕ) → IsRuleInstance c.args.instance.now (Order c.args.dim c.args.a c.args.b x d)
        → Premises c.args.instance.now X (Order c.args.dim c.args.a c.args.b x d)
        → Y c.args.dim c.args.a d Overlap ≡ false → Y c.args.dim c.args.b d Overlap ≡ false
        → row_has c.near_both_without-lasts.result d ≡ true
    last_in x d is p ad bd = unless (row_has c.near_both_without-lasts.result d) (λ off. one_of_neither _ _
        (c.near_both_without-lasts.ensures.others d is.1.2.2.2.0 is.1.1.1.1.0 is.1.2.1.1.0 off p.2) (old _ _ ad)
        (old _ _ bd))

    third_in : (x d : ℕ) → IsRuleInstance c.args.instance.now (Order c.args.dim c.args.a c.args.b x d)
        → Premises c.args.instance.now X (Order c.args.dim c.args.a c.args.b x d)
        → row_has c.near_both_without-lasts.result d ≡ true → row_has c.gone_of_any-thirds.result x ≡ true
    third_in x d is p last = unless (row_has c.gone_of_any-thirds.result x) (λ off.
        c.gone_of_any-thirds.ensures.others d x last is.1.2.2.0 (λ e. is.1.2.2.1.0 (sym e)) off
        (excludes_symmetric c.args.state.now.trail c.args.dim x d Overlap p.1.0)
        (excludes_symmetric c.args.state.now.trail c.args.dim x d After p.1.1))

    near : (x : ℕ) → (X c.args.dim c.args.b x Overlap ≡ true) ⊎ (X c.args.dim c.args.a x Overlap ≡ true)
        → Y c.args.dim c.args.a x Overlap ≡ false → Y c.args.dim c.args.b x Overlap ≡ true
    near x (inl h) ac = c.exclude_each.ensures.worked.extends.kept c.args.dim c.args.b x Overlap h
    near x (inr h) ac = absurd (true≢false (sym h ∙ old _ _ ac))

    go : (x d : ℕ) → IsRuleInstance c.args.instance.now (Order c.args.dim c.args.a c.args.b x d)
        → Premises c.args.instance.now X (Order c.args.dim c.args.a c.args.b x d)
        → Y c.args.dim c.args.a d Overlap ≡ false → Y c.args.dim c.args.b d Overlap ≡ false
        → Y c.args.dim c.args.a x Overlap ≡ false
        → (row_has c.near_both-open.result x ≡ true) ⊎ (row_has c.near_both-open.result x ≡ false)
        → Y c.args.dim x c.args.b Overlap ≡ true
    go x d is p ad bd ac (inl h) =
        excludes_symmetric c.exclude_each.new.state.trail c.args.dim c.args.b x Overlap
        (c.exclude_each.ensures.excluded x
        (c.and.ensures x ∙ (rw (third_in x d is p (last_in x d is p ad bd), h) refl)))
    go x d is p ad bd ac (inr h) =
        excludes_symmetric c.exclude_each.new.state.trail c.args.dim c.args.b x Overlap
        (near x (c.near_both-open.ensures.others x is.1.2.2.0 is.1.2.1.0 is.1.1.1.0 h) ac)

pub exclude_each-requires : goal.exclude_each-requires
exclude_each-requires g c = (
  omega (arith, c.requires.words.0.1),
  (c.requires.words, (c.requires.sizes, (c.requires.b, (others, follows)))),
)
  where
    sure_ab : IsSurelyBefore (excludes c.args.state.now.trail) c.args.dim c.args.a c.args.b
    sure_ab = and_parts (excludes c.args.state.now.trail c.args.dim c.args.a c.args.b Overlap) (excludes c.args.state.now.trail c.args.dim c.args.a c.args.b After) (sym c.sure_before_in.ensures ∙ c.if-not-sure_before_in.false)

    others : (x : ℕ) → row_has c.and.result x ≡ true → is_other_box (box_count c.args.instance.now) c.args.b x ≡ true
    others x on = c.near_both-open.ensures.first x
        (and_parts (row_has c.gone_of_any-thirds.result x) (row_has c.near_both-open.result x)
        (sym (c.and.ensures x) ∙ on)).1

    follows : (x : ℕ) → row_has c.and.result x ≡ true
        → Follows c.args.instance.now (excludes c.args.state.now.trail) c.args.dim c.args.b x Overlap
    follows x on =
        let both = and_parts (row_has c.gone_of_any-thirds.result x) (row_has c.near_both-open.result x)
        (sym (c.and.ensures x) ∙ on) in
        let n = box_count c.args.instance.now in
        let last = c.gone_of_any-thirds.ensures.gone x both.0 in
        (order_follows_back c.args.instance.now (excludes c.args.state.now.trail) c.args.dim c.args.a c.args.b x last.box (
          c.requires.sizes.there,
          (
            c.requires.a,
            (
              c.requires.distinct,
              (
                box_apart n c.args.a x (c.near_both-open.ensures.second x both.1),
                (box_apart n c.args.a last.box (c.near_both_without-lasts.ensures.first last.box last.member), tt),
              ),
            ),
            (
              c.requires.b,
              (
                box_apart n c.args.b x (c.near_both-open.ensures.first x both.1),
                (box_apart n c.args.b last.box (c.near_both_without-lasts.ensures.second last.box last.member), tt),
              ),
              (
                c.near_both-open.ensures.within x both.1,
                (λ e. last.distinct (sym e), tt),
                (c.near_both_without-lasts.ensures.within last.box last.member, tt, tt),
              ),
            ),
          ),
        ) (
          sure_ab,
          (
            excludes_symmetric c.args.state.now.trail c.args.dim last.box x Overlap last.one,
            excludes_symmetric c.args.state.now.trail c.args.dim last.box x Before last.other,
          ),
          c.near_both_without-lasts.ensures.excluded last.box last.member,
        )).0
