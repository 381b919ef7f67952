use Rattle.std.proofs.Common.{◌≡◌, ◌⊎◌, inl, inr, ◌∙◌, sym, true, false}
use Rattle.std.proofs.lemmas.Bool.{cases_Bool}
use Rattle.packing_terms.specs.declared.Rel.TheVariants.{Overlap, After}
use Rattle.packing_terms.specs.Packing.{box_count}
use Rattle.packing_terms.specs.Exclusions.{excludes}
use Rattle.packing_terms.proofs.Sets.{excludes_symmetric}
use Rattle.edge_state.specs.BitRows.{row_has}
use Rattle.edge_state.proofs.Kept.{row_shut}
use Rattle.rule_passes.proofs.RowStates.{off_with}
use Rattle.rule_passes.proofs.orders.thirds_before.Goals as goal

pub returns-clause-others : goal.returns-clause-others
returns-clause-others g c x small ax dx off sure = go (cases_Bool (row_has c.gone-before.result x))
  where
    go : (row_has c.gone-before.result x ≡ true) ⊎ (row_has c.gone-before.result x ≡ false)
        → excludes c.args.state.now.trail c.args.dim c.args.a x Overlap ≡ true
    go (inl on) =
        row_shut (box_count c.args.instance.now) c.args.dim c.args.a x (excludes c.args.state.now.trail) Overlap
        (row_has c.row_in-near.result x) small ax ((rw c.requires.sizes.same_boxes at c.row_in-near.ensures) x)
        (off_with (row_has c.gone-before.result x) (row_has c.row_in-near.result x) on (sym (c.and.ensures x) ∙ off))
    go (inr gone) = absurd (c.gone-before.ensures.others x small dx gone
        (excludes_symmetric c.args.state.now.trail c.args.dim x c.args.d Overlap sure.0)
        (excludes_symmetric c.args.state.now.trail c.args.dim x c.args.d After sure.1))
