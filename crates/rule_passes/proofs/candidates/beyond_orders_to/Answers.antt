use Rattle.std.proofs.Common.{◌≡◌, ◌⊎◌, inl, inr, sym, ◌∙◌, false}
use Rattle.std.proofs.lemmas.Bool.{and_parts}
use Rattle.packing_terms.specs.Exclusions.{excludes}
use Rattle.packing_terms.specs.Rules.{Order}
use Rattle.edge_state.specs.BitRows.{row_has}
use Rattle.edge_state.specs.Work.{IsCovered}
use Rattle.edge_state.proofs.Worked.{covered_no_instance}
use Rattle.edge_state.proofs.Filters.{covered_order_to, without_off}
use Rattle.rule_passes.proofs.candidates.beyond_orders_to.Goals as goal

pub returns-clause-within : goal.returns-clause-within
returns-clause-within g c x on =
    c.requires.within x
    (and_parts _ _ (sym (c.minus.ensures x) ∙ (and_parts _ _ (sym (c.without.ensures x) ∙ on)).0)).0

pub returns-clause-others : goal.returns-clause-others
returns-clause-others g c x small off = go (without_off _ x c.args.a (sym (c.without.ensures x) ∙ off))
  where
    go : (row_has c.minus.result x ≡ false) ⊎ (x ≡ c.args.a)
        → IsCovered c.args.instance.now (excludes c.args.state.now.trail) c.args.state.now.trail
        (Order c.args.dim c.args.a x c.args.c c.args.d)
    go (inl f) =
        covered_order_to c.args.instance.now c.args.state.now.trail c.args.dim c.args.a x c.args.c c.args.d _ _
        (sym (c.minus.ensures x) ∙ f)
        (λ ne nd f. c.requires.free x small ne nd f) (λ on. c.requires.first x on)
    go (inr e) =
        covered_no_instance c.args.instance.now _ c.args.state.now.trail (Order c.args.dim c.args.a x c.args.c c.args.d)
        (λ is. is.1.1.0 (sym e))
