use Rattle.std.proofs.Common.{◌≡◌, ◌⊎◌, inl, inr, sym, ◌∙◌, true, false}
use Rattle.std.proofs.lemmas.Bool.{and_parts, true≢false, eq-eqb}
use Rattle.packing_terms.specs.Packing.{box_count}
use Rattle.packing_terms.specs.declared.Rel.TheVariants.{Overlap}
use Rattle.packing_terms.specs.Exclusions.{excludes}
use Rattle.edge_state.specs.BitRows.{row_has}
use Rattle.edge_state.proofs.Kept.{row_open, row_shut}
use Rattle.edge_state.proofs.Filters.{minus_off, without_off}
use Rattle.rule_passes.proofs.RowStates.{not_true}
use Rattle.rule_passes.proofs.candidates.cycle_thirds.Goals as goal

pub returns-clause-within : goal.returns-clause-within
returns-clause-within g c x on =
    c.gone-joined.ensures.within x
    (and_parts _ _ (sym (c.minus.ensures x) ∙ (and_parts _ _ (sym (c.without.ensures x) ∙ on)).0)).0

pub returns-clause-members : goal.returns-clause-members
returns-clause-members g c x on =
    let outer = and_parts _ _ (sym (c.without.ensures x) ∙ on) in
    let inner = and_parts _ _ (sym (c.minus.ensures x) ∙ outer.0) in
    let ne : c.args.a ≡ x → ⊥ = λ e. true≢false (sym (eq-eqb x c.args.a (sym e)) ∙ not_true _ outer.1) in (
      ne,
      (
        c.gone-joined.ensures.distinct x inner.0,
        (
          c.gone-joined.ensures.excluded x inner.0,
          row_shut (box_count c.args.instance.now) c.args.dim c.args.a x (excludes c.args.state.now.trail) Overlap _
              (c.gone-joined.ensures.within x inner.0) ne
              ((rw c.requires.sizes.same_boxes at c.row_in-near.ensures) x) (not_true _ inner.1),
        ),
      ),
    )

pub returns-clause-others : goal.returns-clause-others
returns-clause-others g c x small first second off joined apart =
    go (without_off _ x c.args.a (sym (c.without.ensures x) ∙ off))
  where
    inner : (row_has c.gone-joined.result x ≡ false) ⊎ (row_has c.row_in-near.result x ≡ true) → ⊥
    inner (inl f) = c.gone-joined.ensures.others x small second f joined.0 joined.1
    inner (inr h) = true≢false (sym apart ∙ row_open _ c.args.dim c.args.a x (excludes c.args.state.now.trail) Overlap _
        (c.row_in-near.ensures x) h)

    go : (row_has c.minus.result x ≡ false) ⊎ (x ≡ c.args.a) → ⊥
    go (inl f) = inner (minus_off _ _ (sym (c.minus.ensures x) ∙ f))
    go (inr e) = first (sym e)
