use Rattle.std.proofs.Common.{◌≡◌, ◌⊎◌, inl, inr, sym, ◌∙◌, false}
use Rattle.std.proofs.lemmas.Bool.{and_parts, lt-ltb, eq-eqb, true≢false}
use Rattle.packing_terms.specs.Packing.{box_count}
use Rattle.edge_state.specs.BitRows.{row_has}
use Rattle.edge_state.proofs.Filters.{gone_within, gone_other, without_off}
use Rattle.rule_passes.proofs.RowStates.{not_true}
use Rattle.rule_passes.proofs.rows.gone.Goals as goal

pub returns-clause-within : goal.returns-clause-within
returns-clause-within g c v on =
    gone_within (box_count c.args.instance.now) v _ _ _ (c.requires.all v) (c.minus.ensures v)
    (and_parts _ _ (sym (c.without.ensures v) ∙ on)).0

pub returns-clause-distinct : goal.returns-clause-distinct
returns-clause-distinct g c v on e =
    true≢false (sym (eq-eqb v c.args.u (sym e)) ∙ not_true _ (and_parts _ _ (sym (c.without.ensures v) ∙ on)).1)

pub returns-clause-excluded : goal.returns-clause-excluded
returns-clause-excluded g c v on =
    let both = and_parts _ _ (sym (c.without.ensures v) ∙ on) in
    let within = gone_within (box_count c.args.instance.now) v _ _ _ (c.requires.all v) (c.minus.ensures v) both.0 in
    c.either-left.ensures.excluded v within
    (λ e. true≢false (sym (eq-eqb v c.args.u (sym e)) ∙ not_true _ both.1))
    (not_true _ (and_parts _ _ (sym (c.minus.ensures v) ∙ both.0)).1)

pub returns-clause-others : goal.returns-clause-others
returns-clause-others g c v small ne off one other = go (without_off _ v c.args.u (sym (c.without.ensures v) ∙ off))
  where
    go : (row_has c.minus.result v ≡ false) ⊎ (v ≡ c.args.u) → ⊥
    go (inl f) =
        c.either-left.ensures.some v (gone_other (box_count c.args.instance.now) v _ _ _ (lt-ltb v _ small)
        (c.requires.all v) (c.minus.ensures v) f) one other
    go (inr e) = ne (sym e)
