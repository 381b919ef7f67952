use Rattle.std.proofs.Common.{◌≡◌, ◌<◌, ◌⊎◌, ℕ, inl, inr, sym, ◌∙◌, false}
use Rattle.std.proofs.lemmas.Bool.{and_parts, eq-eqb, true≢false}
use Rattle.packing_terms.specs.Packing.{box_count}
use Rattle.packing_terms.specs.Exclusions.{excludes}
use Rattle.packing_terms.specs.Rules.{Cycle}
use Rattle.edge_state.specs.BitRows.{row_has}
use Rattle.edge_state.specs.Work.{IsCovered}
use Rattle.edge_state.proofs.Filters.{without_off}
use Rattle.edge_state.proofs.Worked.{covered_no_instance}
use Rattle.rule_passes.proofs.CycleRows.{covered_fourth}
use Rattle.rule_passes.proofs.RowStates.{not_true}
use Rattle.rule_passes.proofs.candidates.cycle_fourths.Goals as goal

pub returns-clause-other : goal.returns-clause-other
returns-clause-other g c d on =
    c.either-free.ensures.other d
    (and_parts _ _ (sym (c.minus.ensures d) ∙ (and_parts _ _ (sym (c.without.ensures d) ∙ on)).0)).0

pub returns-clause-joined : goal.returns-clause-joined
returns-clause-joined g c d on =
    let outer = and_parts _ _ (sym (c.without.ensures d) ∙ on) in
    let inner = and_parts _ _ (sym (c.minus.ensures d) ∙ outer.0) in
    let ne : c.args.a ≡ d → ⊥ = λ e. true≢false (sym (eq-eqb d c.args.a (sym e)) ∙ not_true _ outer.1) in
    (ne, c.either-first.ensures.excluded d (c.either-free.ensures.within d inner.0) ne (not_true _ inner.1))

pub returns-clause-others : goal.returns-clause-others
returns-clause-others g c = λ d small off e. go d e small (without_off _ d c.args.a (sym (c.without.ensures d) ∙ off))
  where
    go : (d e : ℕ) → d < box_count c.args.instance.now
        → (row_has c.minus.result d ≡ false) ⊎ (d ≡ c.args.a)
        → IsCovered c.args.instance.now (excludes c.args.state.now.trail) c.args.state.now.trail
        (Cycle c.args.dim c.args.a c.args.b e d)
    go d e small (inl f) =
        covered_fourth c.args.instance.now c.args.state.now.trail c.args.dim c.args.a c.args.b e d _ _
        (sym (c.minus.ensures d) ∙ f)
        (λ ne f. c.either-free.ensures.excluded d small ne f) (λ on. c.either-first.ensures.some d on)
    go d e small (inr same) =
        covered_no_instance c.args.instance.now _ c.args.state.now.trail (Cycle c.args.dim c.args.a c.args.b e d)
        (λ is. is.1.1.1.1.0 (sym same))
