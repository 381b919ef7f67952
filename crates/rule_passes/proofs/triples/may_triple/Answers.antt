use Rattle.std.proofs.Common.{◌≡◌, sym, ◌∙◌, ◌⊎◌, inl, inr, ◌<◌, arith, ℕ, refl, Bool, ◌||◌, true, false}
use Rattle.std.proofs.lemmas.Bool.{or_parts, cases_Bool}
use Rattle.packing_terms.specs.Packing.{box_count, side}
use Rattle.packing_terms.specs.Exclusions.{excludes}
use Rattle.packing_terms.specs.Rules.{Rule, Triple}
use Rattle.edge_state.specs.BitRows.{row_has}
use Rattle.edge_state.specs.Instances.{Triples}
use Rattle.edge_state.specs.Work.{IsCovered}
use Rattle.edge_state.proofs.Filters.{covered_never}
use Rattle.edge_state.proofs.Members.{covered_named}
use Rattle.edge_state.proofs.Worked.{worked_none}
use Rattle.rule_passes.proofs.Guards.{worked_no_rows}
use Rattle.rule_passes.proofs.triples.may_triple.Goals as goal

pub returns-then-is_empty : goal.returns-then-is_empty
returns-then-is_empty g c e =
    worked_no_rows c.args.instance.now _ (box_count c.args.instance.now) (row_has c.beyond_triples-there.result)
    (row_has c.beyond_triples-back.result)
    (λ v. Triple c.args.dim c.args.u v c.args.x) (λ v. Triple c.args.dim c.args.x v c.args.u)
    c.beyond_triples-there.ensures.others c.beyond_triples-back.ensures.others
    (λ v. or_parts _ _ (sym (c.or.ensures v) ∙ c.is_empty.ensures.none c.if-is_empty.true v))

pub returns-then-from-least : goal.returns-then-from-least
returns-then-from-least g c h = worked_none c.args.instance.now _ _ (λ rule r. go rule r)
  where
    go : (rule : Rule) → Triples c.args.instance.now c.args.dim c.args.u c.args.x rule
        ⊎ Triples c.args.instance.now c.args.dim c.args.x c.args.u rule
        → IsCovered c.args.instance.now (excludes c.args.state.now.trail) c.args.state.now.trail rule
    go rule (inl e) = covered_named c.args.instance.now _ rule (Triple c.args.dim c.args.u e.0 c.args.x) e.2
        (covered_never c.args.instance.now _ (Triple c.args.dim c.args.u e.0 c.args.x)
        (λ is p. (let l : side c.args.instance.now e.0 c.args.dim < c.least_third-least.result
        = omega (arith, c.requires.most e.0 e.1, c.if-from-least.true) in
        let fits = c.least_third-least.ensures.least _ l in omega (arith, p.2, fits))))
    go rule (inr e) = covered_named c.args.instance.now _ rule (Triple c.args.dim c.args.x e.0 c.args.u) e.2
        (covered_never c.args.instance.now _ (Triple c.args.dim c.args.x e.0 c.args.u)
        (λ is p. (let l : side c.args.instance.now e.0 c.args.dim < c.least_third-least.result
        = omega (arith, c.requires.most e.0 e.1, c.if-from-least.true) in
        let fits = c.least_third-least.ensures.least _ l in omega (arith, p.2, fits))))

-- what is in the second is in one of both
on_second : (a b : Bool) → b ≡ true → a || b ≡ true
on_second true b h = refl
on_second false b h = h

pub returns : goal.returns
returns g c h = worked_none c.args.instance.now _ _ (λ rule r. go rule r)
  where
    there : (v : ℕ) → v < box_count c.args.instance.now
        → (row_has c.beyond_triples-there.result v ≡ true) ⊎ (row_has c.beyond_triples-there.result v ≡ false)
        → IsCovered c.args.instance.now (excludes c.args.state.now.trail) c.args.state.now.trail
        (Triple c.args.dim c.args.u v c.args.x)
    there v small (inl on) = covered_never c.args.instance.now _ (Triple c.args.dim c.args.u v c.args.x)
        (λ is p. (let fits = c.least_third-least.ensures.least _
        (c.has_long.ensures h v (c.or-2.ensures v ∙ (rw on refl))) in omega (arith, p.2, fits)))
    there v small (inr off) = c.beyond_triples-there.ensures.others v small off

    back : (v : ℕ) → v < box_count c.args.instance.now
        → (row_has c.beyond_triples-back.result v ≡ true) ⊎ (row_has c.beyond_triples-back.result v ≡ false)
        → IsCovered c.args.instance.now (excludes c.args.state.now.trail) c.args.state.now.trail
        (Triple c.args.dim c.args.x v c.args.u)
    back v small (inl on) = covered_never c.args.instance.now _ (Triple c.args.dim c.args.x v c.args.u)
        (λ is p. (let fits = c.least_third-least.ensures.least _
        (c.has_long.ensures h v (c.or-2.ensures v ∙ on_second _ _ on)) in omega (arith, p.2, fits)))
    back v small (inr off) = c.beyond_triples-back.ensures.others v small off

    go : (rule : Rule) → Triples c.args.instance.now c.args.dim c.args.u c.args.x rule
        ⊎ Triples c.args.instance.now c.args.dim c.args.x c.args.u rule
        → IsCovered c.args.instance.now (excludes c.args.state.now.trail) c.args.state.now.trail rule
    go rule (inl e) = covered_named c.args.instance.now _ rule (Triple c.args.dim c.args.u e.0 c.args.x) e.2
        (there e.0 e.1 (cases_Bool (row_has c.beyond_triples-there.result e.0)))
    go rule (inr e) = covered_named c.args.instance.now _ rule (Triple c.args.dim c.args.x e.0 c.args.u) e.2
        (back e.0 e.1 (cases_Bool (row_has c.beyond_triples-back.result e.0)))
