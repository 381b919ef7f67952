use Rattle.std.proofs.Common.{◌≡◌, ◌<◌, ℕ, sym, ◌∙◌, ap, not, arith, Bool}
use Rattle.std.proofs.lemmas.Bool.{or_parts}
use Rattle.packing_terms.specs.Packing.{box_count}
use Rattle.packing_terms.specs.Relations.{mirror}
use Rattle.packing_terms.specs.declared.Rel.{Rel}
use Rattle.packing_terms.specs.Exclusions.{excludes, IsEdge}
use Rattle.packing_terms.specs.Rules.{Compose}
use Rattle.relation_table.specs.Masks.{mask_has}
use Rattle.edge_state.proofs.Worked.{covered_if}
use Rattle.edge_state.specs.BitRows.{row_has}
use Rattle.edge_state.proofs.Tables.{excludes_mirror}
use Rattle.rule_passes.proofs.Guards.{none_composed}
use Rattle.rule_passes.proofs.prechecks.may_compose.Goals as goal

pub beyond_compositions-back-requires : goal.beyond_compositions-back-requires
beyond_compositions-back-requires g c = (
  omega (arith, c.requires.words.0.1),
  (
    c.requires.words,
    (
      c.requires.sizes,
      (
        c.requires.v,
        (
          c.requires.u,
          (
            λ e. c.requires.distinct (sym e),
            λ r. c.flip.ensures.exact r ∙ (c.requires.left (mirror r)
                ∙ ap not (excludes_mirror c.args.state.now.trail c.args.dim c.args.u c.args.v r)),
          ),
        ),
      ),
    ),
  ),
)

pub returns-then-is_empty : goal.returns-then-is_empty
returns-then-is_empty g c e =
    let instance = c.args.instance.now in
    none_composed instance _ (row_has c.beyond_compositions-there.result) (row_has c.beyond_compositions-back.result)
    c.args.dim c.args.u c.args.v
    (λ x small off full. covered_if instance X _ (Compose c.args.dim c.args.u c.args.v x)
    (λ is. let q = full c.args.dim c.args.u c.args.v here in
    c.beyond_compositions-there.ensures.others x small off (q.0, c.requires.left q.0 ∙ ap not q.1)
    (full c.args.dim c.args.v x (beside c.args.v x c.requires.v small is.1.2.1.0))))
    (λ x small off full. covered_if instance X _ (Compose c.args.dim c.args.v c.args.u x)
    (λ is. let q = full c.args.dim c.args.v c.args.u back in
    c.beyond_compositions-back.ensures.others x small off (q.0, turned_is q.0 ∙ ap not q.1)
    (full c.args.dim c.args.u x (beside c.args.u x c.requires.u small is.1.2.1.0))))
    (λ x. or_parts _ _ (sym (c.or.ensures x) ∙ c.is_empty.ensures.none c.if-is_empty.true x))
  where
    X : ℕ → ℕ → ℕ → Rel → Bool
    X = excludes c.args.state.now.trail

    beside : (a x : ℕ) → a < box_count c.args.instance.now → x < box_count c.args.instance.now → (a ≡ x → ⊥)
        → IsEdge c.args.instance.now c.args.dim a x
    beside a x first second distinct =
        record { dim = c.requires.sizes.there; first = first; second = second; distinct = distinct }

    here : IsEdge c.args.instance.now c.args.dim c.args.u c.args.v
    here = beside c.args.u c.args.v c.requires.u c.requires.v c.requires.distinct

    back : IsEdge c.args.instance.now c.args.dim c.args.v c.args.u
    back = beside c.args.v c.args.u c.requires.v c.requires.u (λ f. c.requires.distinct (sym f))

    turned_is : (r : Rel) → mask_has c.flip.result r ≡ not (X c.args.dim c.args.v c.args.u r)
    turned_is r = c.flip.ensures.exact r ∙ (c.requires.left (mirror r)
        ∙ ap not (excludes_mirror c.args.state.now.trail c.args.dim c.args.u c.args.v r))
