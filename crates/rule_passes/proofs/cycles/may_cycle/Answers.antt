use Rattle.std.proofs.Common.{◌≡◌, ◌<◌, ◌⊎◌, inl, inr, ◌∙◌, ℕ, refl, sym, Bool, not, true, false, arith}
use Rattle.std.proofs.lemmas.Bool.{true≢false, cases_Bool}
use Rattle.packing_terms.specs.declared.Rel.{Rel}
use Rattle.packing_terms.specs.Packing.{box_count}
use Rattle.packing_terms.specs.Exclusions.{excludes}
use Rattle.packing_terms.specs.Rules.{Cycle, IsRuleInstance, Premises}
use Rattle.edge_state.specs.BitRows.{row_has}
use Rattle.edge_state.specs.Work.{IsCovered}
use Rattle.edge_state.proofs.Filters.{covered_never}
use Rattle.edge_state.proofs.Members.{covered_named}
use Rattle.edge_state.proofs.Worked.{worked_none}
use Rattle.rule_passes.proofs.CycleRows.{unless}
use Rattle.rule_passes.proofs.cycles.may_cycle.Goals as goal

pub returns-then-is_empty : goal.returns-then-is_empty
returns-then-is_empty g c h =
    worked_none c.args.instance.now _ _
    (λ rule e. covered_named c.args.instance.now _ rule (Cycle c.args.dim c.args.a c.args.b e.0 e.2.0) e.2.2
    (c.cycle_fourths-fourths.ensures.others e.2.0 e.2.1 (c.is_empty.ensures.none c.if-is_empty.true e.2.0) e.0))

-- what isn't so is so, where that is so
turned : (b : Bool) → not b ≡ false → b ≡ true
turned true h = refl
turned false h = absurd (true≢false h)

pub returns : goal.returns
returns g c h =
    worked_none c.args.instance.now _ _
    (λ rule e. covered_named c.args.instance.now _ rule (Cycle c.args.dim c.args.a c.args.b e.0 e.2.0) e.2.2
    (go e.0 e.2.0 e.2.1 (cases_Bool (row_has c.cycle_fourths-fourths.result e.2.0))
    (cases_Bool (row_has c.gone_of_any-closing.result e.2.0))))
  where
    X : ℕ → ℕ → ℕ → Rel → Bool
    X = excludes c.args.state.now.trail

    third_in : (x d : ℕ) → IsRuleInstance c.args.instance.now (Cycle c.args.dim c.args.a c.args.b x d)
        → Premises c.args.instance.now X (Cycle c.args.dim c.args.a c.args.b x d)
        → row_has c.cycle_thirds-thirds.result x ≡ true
    third_in x d is p =
        unless (row_has c.cycle_thirds-thirds.result x)
        (λ off. c.cycle_thirds-thirds.ensures.others x is.1.2.2.0 is.1.1.1.0 is.1.2.1.0 off p.1 p.4)

    go : (x d : ℕ) → d < box_count c.args.instance.now
        → (row_has c.cycle_fourths-fourths.result d ≡ true) ⊎ (row_has c.cycle_fourths-fourths.result d ≡ false)
        → (row_has c.gone_of_any-closing.result d ≡ true) ⊎ (row_has c.gone_of_any-closing.result d ≡ false)
        → IsCovered c.args.instance.now X c.args.state.now.trail (Cycle c.args.dim c.args.a c.args.b x d)
    go x d small (inl on) (inl k) =
        absurd (true≢false (sym (c.and.ensures d ∙ (rw (on, k) refl)) ∙ c.is_empty-2.ensures.none (turned _ h) d))
    go x d small (inl on) (inr k) = covered_never c.args.instance.now _ (Cycle c.args.dim c.args.a c.args.b x d)
        (λ is p. c.gone_of_any-closing.ensures.others x d (third_in x d is p) is.1.2.2.2.0 is.1.2.2.1.0 k p.2.0 p.2.1)
    go x d small (inr off) k = c.cycle_fourths-fourths.ensures.others d small off x

pub gone_of_any-closing-requires : goal.gone_of_any-closing-requires
gone_of_any-closing-requires g c = (
  omega (arith, c.requires.words.0.1),
  (c.requires.words, (c.requires.sizes, (c.requires.all, c.cycle_thirds-thirds.ensures.within))),
)
