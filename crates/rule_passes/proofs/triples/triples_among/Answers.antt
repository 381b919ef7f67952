use Rattle.std.proofs.Common.{◌≡◌, ◌≢◌, ◌<◌, ◌+◌, ◌⊎◌, inl, inr, ℕ, arith, true, false}
use Rattle.std.proofs.lemmas.Bool.{cases_Bool}
use Rattle.packing_terms.specs.declared.Rel.{Rel}
use Rattle.packing_terms.specs.declared.Rel.TheVariants.{Overlap, Before, After}
use Rattle.packing_terms.specs.Packing.{box_count, side, container_side}
use Rattle.packing_terms.specs.Exclusions.{excludes}
use Rattle.packing_terms.specs.Rules.{Triple, Follows}
use Rattle.edge_state.specs.BitRows.{row_has}
use Rattle.edge_state.proofs.RowSteps.{box_apart}
use Rattle.rule_passes.proofs.RowRules.{worked_from, covered_shut, named_shut, shut_joined, triple_follows}
use Rattle.rule_passes.proofs.triples.triples_among.Goals as goal

pub returns : goal.returns
returns g c =
    worked_from c.args.instance.now _ _ _ _ (λ e rule r. named_shut c.args.instance.now _ _ rule _ r.2.1
    (covered_shut c.args.instance.now _ _ (Triple c.args.dim c.args.u r.0 c.args.x)
    (λ is p s k. go e r.0 r.2.0 p.2 s k (cases_Bool (row_has c.long_among-long.result r.0)))))
    c.exclude_both.ensures.worked
  where
    go : c.exclude_both.result ≡ false → (v : ℕ) → row_has c.args.thirds v ≡ true
        → container_side c.args.instance.now c.args.dim < side c.args.instance.now c.args.u c.args.dim
        + side c.args.instance.now v c.args.dim + side c.args.instance.now c.args.x c.args.dim
        → (s : Rel) → s ≢ Overlap
        → (row_has c.long_among-long.result v ≡ true) ⊎ (row_has c.long_among-long.result v ≡ false)
        → excludes c.exclude_both.new.state.trail c.args.dim c.args.u v s ≡ true
    go e v on over s k (inl h) = shut_joined (excludes c.exclude_both.new.state.trail) c.args.dim c.args.u v s k (c.exclude_both.ensures.excluded e v h)
    go e v on over s k (inr h) =
        let fits = c.requires.least _ (c.long_among-long.ensures.others v on h) in absurd (omega (arith, over, fits))

pub exclude_both-requires : goal.exclude_both-requires
exclude_both-requires g c = (
  omega (arith, c.requires.words.0.1),
  (
    c.requires.words,
    (
      c.requires.sizes,
      (c.requires.u, (λ v on. c.requires.other v (c.long_among-long.ensures.long v on).0, follows)),
    ),
  ),
)
  where
    follows : (v : ℕ) → row_has c.long_among-long.result v ≡ true
        → Follows c.args.instance.now (excludes c.args.state.now.trail) c.args.dim c.args.u v Before
        × Follows c.args.instance.now (excludes c.args.state.now.trail) c.args.dim c.args.u v After
    follows v on =
        let long = c.long_among-long.ensures.long v on in
        let apart = c.requires.thirds v long.0 in
        triple_follows c.args.instance.now (excludes c.args.state.now.trail) c.args.dim c.args.u v c.args.x (
          c.requires.sizes.there,
          (
            c.requires.u,
            (
              box_apart (box_count c.args.instance.now) c.args.u v (c.requires.other v long.0),
              (c.requires.distinct, tt),
            ),
            (c.requires.within v long.0, (apart.0, tt), (c.requires.x, tt, tt)),
          ),
        )
        (c.requires.apart, apart.1, c.requires.over _ long.1)
