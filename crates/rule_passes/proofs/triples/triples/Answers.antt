use Rattle.std.proofs.Common.{◌≡◌, ◌⊎◌, inl, inr, ◌∙◌, ℕ, sym, true, arith}
use Rattle.std.proofs.lemmas.Bool.{true≢false}
use Rattle.packing_terms.specs.declared.Rel.TheVariants.{Overlap}
use Rattle.packing_terms.specs.Packing.{box_count}
use Rattle.packing_terms.specs.Exclusions.{excludes}
use Rattle.packing_terms.specs.Rules.{Rule, Triple}
use Rattle.packing_terms.proofs.Sets.{excludes_symmetric}
use Rattle.edge_state.specs.BitRows.{row_has}
use Rattle.edge_state.proofs.Kept.{open_is}
use Rattle.edge_state.specs.Instances.{Triples}
use Rattle.edge_state.specs.Work.{IsCovered}
use Rattle.edge_state.proofs.Filters.{covered_never}
use Rattle.edge_state.proofs.Members.{covered_named}
use Rattle.edge_state.proofs.Worked.{worked_none, worked_kept, worked_then, worked_lost_first, sizes_worked}
use Rattle.rule_passes.proofs.Guards.{Among, worked_rows, shut_off}
use Rattle.rule_passes.proofs.triples.triples.Goals as goal

pub returns-then-not-may_triple : goal.returns-then-not-may_triple
returns-then-not-may_triple g c = c.may_triple.ensures c.if-not-may_triple.true

pub returns-then-has : goal.returns-then-has
returns-then-has g c = worked_none c.args.instance.now _ _ (λ rule r. go rule r)
  where
    near : excludes c.args.state.now.trail c.args.dim c.args.u c.args.x Overlap ≡ true → ⊥
    near h = true≢false (sym h ∙ open_is _ _ (c.mask_in.ensures Overlap) (sym c.has.ensures ∙ c.if-has.true))

    go : (rule : Rule) → Triples c.args.instance.now c.args.dim c.args.u c.args.x rule
        ⊎ Triples c.args.instance.now c.args.dim c.args.x c.args.u rule
        → IsCovered c.args.instance.now (excludes c.args.state.now.trail) c.args.state.now.trail rule
    go rule (inl e) = covered_named c.args.instance.now _ rule (Triple c.args.dim c.args.u e.0 c.args.x) e.2
        (covered_never c.args.instance.now _ (Triple c.args.dim c.args.u e.0 c.args.x) (λ is p. near p.0))
    go rule (inr e) = covered_named c.args.instance.now _ rule (Triple c.args.dim c.args.x e.0 c.args.u) e.2
        (covered_never c.args.instance.now _ (Triple c.args.dim c.args.x e.0 c.args.u)
        (λ is p. near (excludes_symmetric c.args.state.now.trail c.args.dim c.args.x c.args.u Overlap p.0)))

pub returns-then-triples_among : goal.returns-then-triples_among
returns-then-triples_among g c = worked_lost_first _ _ _ _ _ _ c.if-triples_among.true c.triples_among.ensures

pub returns : goal.returns
returns g c =
    let instance = c.args.instance.now in
    let n = box_count instance in
    let there = row_has c.beyond_triples-there.result in
    let back = row_has c.beyond_triples-back.result in
    let one : ℕ → Rule = λ v. Triple c.args.dim c.args.u v c.args.x in
    let two : ℕ → Rule = λ v. Triple c.args.dim c.args.x v c.args.u in
    worked_rows instance _ _ _ n there back one two c.beyond_triples-there.ensures.others
    c.beyond_triples-back.ensures.others
    (worked_then instance _ _ _ _ (Among n there one) (Among n back two)
    (worked_kept instance _ _ _ (Among n there one) c.if-triples_among.false c.triples_among.ensures)
    c.triples_among-2.ensures)

pub triples_among-requires : goal.triples_among-requires
triples_among-requires g c = (
  omega (arith, c.requires.words.0.1),
  (
    c.requires.words,
    (
      c.requires.sizes,
      (
        c.requires.u,
        (
          c.requires.x,
          (
            c.requires.distinct,
            (
              shut_off _ _ (c.mask_in.ensures Overlap) (sym c.has.ensures ∙ c.if-has.false),
              (
                c.beyond_triples-there.ensures.within,
                (
                  c.beyond_triples-there.ensures.other,
                  (
                    c.beyond_triples-there.ensures.apart,
                    (c.least_third-least.ensures.least, c.least_third-least.ensures.over),
                  ),
                ),
              ),
            ),
          ),
        ),
      ),
    ),
  ),
)

pub triples_among-requires-2 : goal.triples_among-requires-2
triples_among-requires-2 g c = (
  omega (arith, c.requires.words.0.1),
  (
    c.requires.words,
    (
      sizes_worked _ _ _ _ _ _ c.triples_among.ensures c.requires.sizes,
      (
        c.requires.x,
        (
          c.requires.u,
          (
            λ e. c.requires.distinct (sym e),
            (
              c.triples_among.ensures.extends.kept c.args.dim c.args.x c.args.u Overlap
                  (excludes_symmetric c.args.state.now.trail c.args.dim c.args.u c.args.x Overlap
                  (shut_off _ _ (c.mask_in.ensures Overlap) (sym c.has.ensures ∙ c.if-has.false))),
              (
                c.beyond_triples-back.ensures.within,
                (
                  c.beyond_triples-back.ensures.other,
                  (
                    λ v on. (
                      (c.beyond_triples-back.ensures.apart v on).0,
                      c.triples_among.ensures.extends.kept c.args.dim v c.args.u Overlap
                          (c.beyond_triples-back.ensures.apart v on).1,
                    ),
                    (
                      λ w l. (let fits = c.least_third-least.ensures.least w l in omega (arith, fits)),
                      λ w l. (let long = c.least_third-least.ensures.over w l in omega (arith, long)),
                    ),
                  ),
                ),
              ),
            ),
          ),
        ),
      ),
    ),
  ),
)
