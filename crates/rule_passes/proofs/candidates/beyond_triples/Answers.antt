use Rattle.std.proofs.Common.{◌≡◌, ◌⊎◌, inl, inr, sym, ◌∙◌, false}
use Rattle.std.proofs.lemmas.Bool.{and_parts, eq-eqb, true≢false}
use Rattle.packing_terms.specs.Packing.{box_count}
use Rattle.packing_terms.proofs.Sets.{excludes_symmetric}
use Rattle.packing_terms.specs.declared.Rel.TheVariants.{Overlap}
use Rattle.packing_terms.specs.Exclusions.{excludes}
use Rattle.packing_terms.specs.Rules.{Triple}
use Rattle.edge_state.specs.BitRows.{row_has}
use Rattle.edge_state.proofs.Kept.{row_open, row_shut}
use Rattle.edge_state.specs.Work.{IsCovered}
use Rattle.edge_state.proofs.Worked.{covered_no_instance}
use Rattle.edge_state.proofs.Filters.{covered_triple, without_off}
use Rattle.rule_passes.proofs.RowStates.{not_true}
use Rattle.rule_passes.proofs.candidates.beyond_triples.Goals as goal

pub returns-clause-within : goal.returns-clause-within
returns-clause-within g c v on =
    c.either-free.ensures.within v
    (and_parts _ _ (sym (c.minus.ensures v) ∙ (and_parts _ _ (sym (c.without.ensures v) ∙ on)).0)).0

pub returns-clause-other : goal.returns-clause-other
returns-clause-other g c v on =
    c.either-free.ensures.other v
    (and_parts _ _ (sym (c.minus.ensures v) ∙ (and_parts _ _ (sym (c.without.ensures v) ∙ on)).0)).0

pub returns-clause-apart : goal.returns-clause-apart
returns-clause-apart g c v on =
    let outer = and_parts _ _ (sym (c.without.ensures v) ∙ on) in
    let inner = and_parts _ _ (sym (c.minus.ensures v) ∙ outer.0) in
    let ne : v ≡ c.args.x → ⊥ = λ e. true≢false (sym (eq-eqb v c.args.x e) ∙ not_true _ outer.1) in (
      ne,
      excludes_symmetric c.args.state.now.trail c.args.dim c.args.x v Overlap
          (row_shut (box_count c.args.instance.now) c.args.dim c.args.x v (excludes c.args.state.now.trail) Overlap _
          (c.either-free.ensures.within v inner.0) (λ e. ne (sym e))
          ((rw c.requires.sizes.same_boxes at c.row_in-near.ensures) v) (not_true _ inner.1)),
    )

pub returns-clause-others : goal.returns-clause-others
returns-clause-others g c v small off = go (without_off _ v c.args.x (sym (c.without.ensures v) ∙ off))
  where
    go : (row_has c.minus.result v ≡ false) ⊎ (v ≡ c.args.x)
        → IsCovered c.args.instance.now (excludes c.args.state.now.trail) c.args.state.now.trail
        (Triple c.args.dim c.args.u v c.args.x)
    go (inl f) =
        covered_triple c.args.instance.now c.args.state.now.trail c.args.dim c.args.u v c.args.x _ _
        (sym (c.minus.ensures v) ∙ f)
        (λ ne f. c.either-free.ensures.excluded v small ne f)
        (λ on. row_open _ c.args.dim c.args.x v (excludes c.args.state.now.trail) Overlap _
        (c.row_in-near.ensures v) on)
    go (inr e) =
        covered_no_instance c.args.instance.now _ c.args.state.now.trail (Triple c.args.dim c.args.u v c.args.x)
        (λ is. is.1.2.1.0 e)
