use Rattle.std.proofs.Common.{◌≡◌, ◌⊎◌, inl, inr, ◌∙◌, ℕ, refl, sym, Bool, true, false, arith}
use Rattle.std.proofs.lemmas.Bool.{and_parts, true≢false, cases_Bool}
use Rattle.packing_terms.specs.declared.Rel.{Rel}
use Rattle.packing_terms.specs.declared.Rel.TheVariants.{Before, After}
use Rattle.packing_terms.specs.Packing.{box_count}
use Rattle.packing_terms.specs.Exclusions.{excludes, IsJoined}
use Rattle.packing_terms.specs.Rules.{Cycle, IsRuleInstance, Premises, Follows}
use Rattle.edge_state.specs.BitRows.{row_has}
use Rattle.edge_state.specs.Edges.{is_other_box}
use Rattle.edge_state.proofs.RowSteps.{box_apart}
use Rattle.packing_terms.specs.Applied.{added}
use Rattle.edge_state.proofs.Filters.{covered_never}
use Rattle.edge_state.proofs.Members.{covered_named}
use Rattle.edge_state.proofs.Worked.{worked_none}
use Rattle.rule_passes.proofs.CycleRows.{joined_back, unless}
use Rattle.rule_passes.proofs.RowRules.{worked_from, covered_shut, named_shut, shut_joined, cycle_follows, before_no_overlap, after_no_overlap}
use Rattle.rule_passes.proofs.RowStates.{other_there}
use Rattle.rule_passes.proofs.cycles.cycles.Goals as goal

pub returns-then-not-may_cycle : goal.returns-then-not-may_cycle
returns-then-not-may_cycle g c = c.may_cycle.ensures c.if-not-may_cycle.true

pub returns-then-not-joined_in : goal.returns-then-not-joined_in
returns-then-not-joined_in g c =
    worked_none c.args.instance.now _ _
    (λ rule e. covered_named c.args.instance.now _ rule (Cycle c.args.dim c.args.a c.args.b e.0 e.2.0) e.2.2
    (covered_never c.args.instance.now _ (Cycle c.args.dim c.args.a c.args.b e.0 e.2.0)
    (λ is p. true≢false (sym (c.joined_in.ensures ∙ (rw (p.0.0, p.0.1) refl)) ∙ c.if-not-joined_in.true))))

pub returns : goal.returns
returns g c =
    worked_from c.args.instance.now _ _ _ _ (λ e rule r. named_shut c.args.instance.now _ _ rule _ r.2.2
    (covered_shut c.args.instance.now _ _ (Cycle c.args.dim c.args.a c.args.b r.0 r.2.0)
    (λ is p s k. shut_joined (excludes c.exclude_both.new.state.trail) c.args.dim c.args.b r.2.0 s k
    (go e r.0 r.2.0 is p (cases_Bool (row_has c.cycle_fourths-fourths.result r.2.0))
    (cases_Bool (row_has c.gone_of_any-closing.result r.2.0))))))
    c.exclude_both.ensures.worked
  where
    X : ℕ → ℕ → ℕ → Rel → Bool
    X = excludes c.args.state.now.trail

    third_in : (x d : ℕ) → IsRuleInstance c.args.instance.now (Cycle c.args.dim c.args.a c.args.b x d)
        → Premises c.args.instance.now X (Cycle c.args.dim c.args.a c.args.b x d)
        → row_has c.cycle_thirds-thirds.result x ≡ true
    third_in x d is p = unless (row_has c.cycle_thirds-thirds.result x) (λ off. c.cycle_thirds-thirds.ensures.others x is.1.2.2.0 is.1.1.1.0 is.1.2.1.0 off p.1 p.4)

    go : c.exclude_both.result ≡ false → (x d : ℕ)
        → IsRuleInstance c.args.instance.now (Cycle c.args.dim c.args.a c.args.b x d)
        → Premises c.args.instance.now X (Cycle c.args.dim c.args.a c.args.b x d)
        → (row_has c.cycle_fourths-fourths.result d ≡ true) ⊎ (row_has c.cycle_fourths-fourths.result d ≡ false)
        → (row_has c.gone_of_any-closing.result d ≡ true) ⊎ (row_has c.gone_of_any-closing.result d ≡ false)
        → (excludes c.exclude_both.new.state.trail c.args.dim c.args.b d Before ≡ true)
        × (excludes c.exclude_both.new.state.trail c.args.dim c.args.b d After ≡ true)
    go e x d is p (inl h) (inl k) = c.exclude_both.ensures.excluded e d (c.and-row.ensures d ∙ (rw (h, k) refl))
    go e x d is p (inl h) (inr k) =
        absurd (c.gone_of_any-closing.ensures.others x d (third_in x d is p) is.1.2.2.2.0 is.1.2.2.1.0 k p.2.0 p.2.1)
    go e x d is p (inr h) k =
        let covered = c.cycle_fourths-fourths.ensures.others d is.1.2.2.2.0 h x in (
          c.exclude_both.ensures.worked.extends.kept c.args.dim c.args.b d Before
              (covered.holds c.args.dim c.args.b d Before (added Before is p (λ f. before_no_overlap f)) tt),
          c.exclude_both.ensures.worked.extends.kept c.args.dim c.args.b d After
              (covered.holds c.args.dim c.args.b d After (added After is p (λ f. after_no_overlap f)) tt),
        )

pub gone_of_any-closing-requires : goal.gone_of_any-closing-requires
gone_of_any-closing-requires g c = (
  omega (arith, c.requires.words.0.1),
  (c.requires.words, (c.requires.sizes, (c.requires.all, c.cycle_thirds-thirds.ensures.within))),
)

pub exclude_both-requires : goal.exclude_both-requires
exclude_both-requires g c = (
  omega (arith, c.requires.words.0.1),
  (c.requires.words, (c.requires.sizes, (c.requires.b, (others, follows)))),
)
  where
    joined_ab : IsJoined (excludes c.args.state.now.trail) c.args.dim c.args.a c.args.b
    joined_ab = and_parts _ _ (sym c.joined_in.ensures ∙ c.if-not-joined_in.false)

    others : (d : ℕ) → row_has c.and-row.result d ≡ true → is_other_box (box_count c.args.instance.now) c.args.b d ≡ true
    others d on = c.cycle_fourths-fourths.ensures.other d (and_parts _ _ (sym (c.and-row.ensures d) ∙ on)).0

    follows : (d : ℕ) → row_has c.and-row.result d ≡ true
        → Follows c.args.instance.now (excludes c.args.state.now.trail) c.args.dim c.args.b d Before
        × Follows c.args.instance.now (excludes c.args.state.now.trail) c.args.dim c.args.b d After
    follows d on =
        let both = and_parts _ _ (sym (c.and-row.ensures d) ∙ on) in
        let other = c.cycle_fourths-fourths.ensures.other d both.0 in
        let small = other_there (box_count c.args.instance.now) c.args.b d other in
        let first = c.cycle_fourths-fourths.ensures.joined d both.0 in
        let third = c.gone_of_any-closing.ensures.gone d both.1 in
        let among = c.cycle_thirds-thirds.ensures.members third.box third.member in
        cycle_follows c.args.instance.now (excludes c.args.state.now.trail) c.args.dim c.args.a c.args.b third.box d (
          c.requires.sizes.there,
          (
            c.requires.a,
            (c.requires.distinct, (among.0, (first.0, tt))),
            (
              c.requires.b,
              (among.1.0, (box_apart (box_count c.args.instance.now) c.args.b d other, tt)),
              (
                c.cycle_thirds-thirds.ensures.within third.box third.member,
                (third.distinct, tt),
                (small, tt, tt),
              ),
            ),
          ),
        ) (
          joined_ab,
          among.1.1.0,
          (third.one, third.other),
          joined_back c.args.state.now.trail c.args.dim c.args.a d first.1,
          among.1.1.1,
        )
