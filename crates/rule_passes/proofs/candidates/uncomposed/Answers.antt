use Rattle.std.proofs.Common.{◌≡◌, ◌∙◌, ℕ, ap, sym, not, eqb, ◌&&◌, Bool}
use Rattle.std.proofs.lemmas.Bool.{and_parts, eq-eqb, true≢false}
use Rattle.packing_terms.specs.declared.Rel.{Rel}
use Rattle.packing_terms.specs.declared.Rel.TheVariants.{Overlap, Before, After}
use Rattle.packing_terms.specs.Packing.{box_count}
use Rattle.packing_terms.specs.Exclusions.{excludes}
use Rattle.relation_table.specs.Masks.{mask_has}
use Rattle.edge_state.specs.BitRows.{row_has}
use Rattle.edge_state.specs.Edges.{is_other_box}
use Rattle.edge_state.specs.Rows.{in_each_relation}
use Rattle.rule_passes.specs.Reached.{composed}
use Rattle.rule_passes.proofs.RowRules.{compose_follows, compose_shut, compose_kept}
use Rattle.rule_passes.proofs.RowStates.{not_true}
use Rattle.rule_passes.proofs.candidates.uncomposed.Goals as goal

pub returns-then-has-clause-other : goal.returns-then-has-clause-other
returns-then-has-clause-other g c = λ x on. absurd (true≢false (sym on ∙ c.empty.ensures x))

pub returns-then-has-clause-follows : goal.returns-then-has-clause-follows
returns-then-has-clause-follows g c = λ x on. absurd (true≢false (sym on ∙ c.empty.ensures x))

pub returns-then-has-clause-excluded : goal.returns-then-has-clause-excluded
returns-then-has-clause-excluded g c = λ x off q s is concludes.
    absurd (compose_kept c.args.instance.now (excludes c.args.state.now.trail) c.args.dim c.args.u c.args.v x c.args.rel
    s.0 (mask_has c.args.left) c.requires.left (sym c.has.ensures ∙ c.if-has.true) s.1 concludes)

pub returns-clause-other : goal.returns-clause-other
returns-clause-other g c = λ x on.
    let outer = and_parts _ _ (sym (c.without.ensures x) ∙ on) in
    let inner = and_parts _ _ (sym (c.minus.ensures x) ∙ outer.0) in
    (and_parts _ _ (sym ((rw c.requires.sizes.same_boxes at c.row_in-open.ensures) x) ∙ inner.0)).0

pub returns-clause-follows : goal.returns-clause-follows
returns-clause-follows g c = λ x on.
    let outer = and_parts _ _ (sym (c.without.ensures x) ∙ on) in
    let inner = and_parts _ _ (sym (c.minus.ensures x) ∙ outer.0) in
    let other = (and_parts _ _ (sym ((rw c.requires.sizes.same_boxes at c.row_in-open.ensures) x) ∙ inner.0)).0 in
    compose_follows c.args.instance.now (excludes c.args.state.now.trail) c.args.dim c.args.u c.args.v x c.args.rel
    (mask_has c.args.left) (row_at x) c.requires.sizes.there c.requires.u c.requires.v c.requires.distinct other
    (λ e. true≢false (sym (eq-eqb x c.args.v (sym e)) ∙ not_true _ outer.1)) c.requires.left (at x)
    (sym c.has.ensures ∙ c.if-has.false) (sym (c.composed_row-allowed.ensures x) ∙ not_true _ inner.1)
  where
    row_at : ℕ → Rel → Bool
    row_at x = in_each_relation (row_has c.row_in-overlap.result x) (row_has c.row_in-before.result x)
        (row_has c.row_in-after.result x)

    at : (x : ℕ) (s : Rel) → row_at x s ≡ is_other_box (box_count c.args.instance.now) c.args.v x
        && not (excludes c.args.state.now.trail c.args.dim c.args.v x s)
    at x Overlap = (rw c.requires.sizes.same_boxes at c.row_in-overlap.ensures) x
    at x Before = (rw c.requires.sizes.same_boxes at c.row_in-before.ensures) x
    at x After = (rw c.requires.sizes.same_boxes at c.row_in-after.ensures) x

pub returns-clause-excluded : goal.returns-clause-excluded
returns-clause-excluded g c = λ x off q s is concludes.
    compose_shut c.args.instance.now (excludes c.args.state.now.trail) c.args.dim c.args.u c.args.v x c.args.rel q.0 s.0
    (mask_has c.args.left) (row_at x) _ _ is c.requires.left (at x)
    ((rw c.requires.sizes.same_boxes at c.row_in-open.ensures) x) q.1 s.1 (sym c.has.ensures ∙ c.if-has.false)
    (found x) off concludes
  where
    row_at : ℕ → Rel → Bool
    row_at x = in_each_relation (row_has c.row_in-overlap.result x) (row_has c.row_in-before.result x)
        (row_has c.row_in-after.result x)

    at : (x : ℕ) (s : Rel) → row_at x s ≡ is_other_box (box_count c.args.instance.now) c.args.v x
        && not (excludes c.args.state.now.trail c.args.dim c.args.v x s)
    at x Overlap = (rw c.requires.sizes.same_boxes at c.row_in-overlap.ensures) x
    at x Before = (rw c.requires.sizes.same_boxes at c.row_in-before.ensures) x
    at x After = (rw c.requires.sizes.same_boxes at c.row_in-after.ensures) x

    found : (x : ℕ) → row_has c.without.result x ≡ (row_has c.row_in-open.result x
        && not (composed c.args.rel (mask_has c.args.left) (row_at x))) && not (eqb x c.args.v)
    found x = c.without.ensures x ∙ ap (λ b. b && not (eqb x c.args.v)) (c.minus.ensures x
        ∙ ap (λ b. row_has c.row_in-open.result x && not b) (c.composed_row-allowed.ensures x))
