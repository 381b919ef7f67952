use Rattle.std.proofs.Common.{◌≡◌, ◌⊎◌, inl, inr, sym, ◌∙◌, false}
use Rattle.std.proofs.lemmas.Bool.{and_parts, and_cases}
use Rattle.packing_terms.specs.declared.Rel.TheVariants.{Before, After}
use Rattle.packing_terms.proofs.Sets.{excludes_symmetric}
use Rattle.edge_state.specs.BitRows.{row_has}
use Rattle.rule_passes.proofs.candidates.cycle_seconds.Goals as goal

pub returns-clause-within : goal.returns-clause-within
returns-clause-within g c x on = c.gone-first.ensures.within x (and_parts _ _ (sym (c.and.ensures x) ∙ on)).0

pub returns-clause-members : goal.returns-clause-members
returns-clause-members g c x on =
    let both = and_parts _ _ (sym (c.and.ensures x) ∙ on) in (
      c.gone-first.ensures.distinct x both.0,
      (c.gone.ensures.distinct x both.1, (c.gone-first.ensures.excluded x both.0, c.gone.ensures.excluded x both.1)),
    )

pub returns-clause-others : goal.returns-clause-others
returns-clause-others g c x small first second off one two = go (and_cases _ _ (sym (c.and.ensures x) ∙ off))
  where
    go : (row_has c.gone-first.result x ≡ false) ⊎ (row_has c.gone.result x ≡ false) → ⊥
    go (inl f) = c.gone-first.ensures.others x small first f one.0 one.1
    go (inr h) = c.gone.ensures.others x small second h
        (excludes_symmetric c.args.state.now.trail c.args.dim x c.args.c After two.1)
        (excludes_symmetric c.args.state.now.trail c.args.dim x c.args.c Before two.0)
