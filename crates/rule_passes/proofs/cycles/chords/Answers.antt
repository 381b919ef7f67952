use Rattle.std.proofs.Common.{◌≡◌, ◌<◌, ◌⊎◌, inl, inr, ◌∙◌, ℕ, sym, Bool, true, false, arith}
use Rattle.std.proofs.lemmas.Bool.{true≢false}
use Rattle.packing_terms.specs.declared.Rel.{Rel}
use Rattle.packing_terms.specs.declared.Rel.TheVariants.{Overlap, Before, After}
use Rattle.packing_terms.specs.Packing.{box_count}
use Rattle.packing_terms.specs.Exclusions.{excludes}
use Rattle.packing_terms.specs.Rules.{Rule, Cycle, IsRuleInstance, Premises, Follows}
use Rattle.packing_terms.proofs.Sets.{excludes_symmetric}
use Rattle.edge_state.specs.BitRows.{row_has}
use Rattle.edge_state.proofs.Kept.{open_is}
use Rattle.edge_state.specs.Instances.{Chords}
use Rattle.edge_state.specs.Work.{IsCovered}
use Rattle.edge_state.proofs.Filters.{covered_never}
use Rattle.edge_state.proofs.Members.{covered_named}
use Rattle.edge_state.proofs.Worked.{worked_none}
use Rattle.rule_passes.proofs.CycleRows.{joined_back, unless}
use Rattle.rule_passes.proofs.Guards.{shut_off}
use Rattle.rule_passes.proofs.RowRules.{worked_from, covered_shut, named_shut, shut_joined, cycle_follows}
use Rattle.rule_passes.proofs.cycles.chords.Goals as goal

pub returns-then-not-may_chord : goal.returns-then-not-may_chord
returns-then-not-may_chord g c = c.may_chord.ensures c.if-not-may_chord.true

pub returns-then-has : goal.returns-then-has
returns-then-has g c = worked_none c.args.instance.now _ _ (λ rule r. go rule r)
  where
    near : excludes c.args.state.now.trail c.args.dim c.args.a c.args.c Overlap ≡ true → ⊥
    near h = true≢false (sym h ∙ open_is _ _ (c.mask_in.ensures Overlap) (sym c.has.ensures ∙ c.if-has.true))

    go : (rule : Rule) → Chords c.args.instance.now c.args.dim c.args.a c.args.c rule
        ⊎ Chords c.args.instance.now c.args.dim c.args.c c.args.a rule
        → IsCovered c.args.instance.now (excludes c.args.state.now.trail) c.args.state.now.trail rule
    go rule (inl e) = covered_named c.args.instance.now _ rule (Cycle c.args.dim c.args.a e.0 c.args.c e.2.0) e.2.2
        (covered_never c.args.instance.now _ (Cycle c.args.dim c.args.a e.0 c.args.c e.2.0) (λ is p. near p.4))
    go rule (inr e) = covered_named c.args.instance.now _ rule (Cycle c.args.dim c.args.c e.0 c.args.a e.2.0) e.2.2
        (covered_never c.args.instance.now _ (Cycle c.args.dim c.args.c e.0 c.args.a e.2.0)
        (λ is p. near (excludes_symmetric c.args.state.now.trail c.args.dim c.args.c c.args.a Overlap p.4)))

pub returns : goal.returns
returns g c =
    worked_from c.args.instance.now _ _ _ _ (λ e rule r. go e rule r) c.exclude_between.ensures.worked
  where
    X : ℕ → ℕ → ℕ → Rel → Bool
    X = excludes c.args.state.now.trail

    -- a box that is joined with both
    among : (b : ℕ) → b < box_count c.args.instance.now → (c.args.a ≡ b → ⊥) → (c.args.c ≡ b → ⊥)
        → (X c.args.dim c.args.a b Before ≡ true) × (X c.args.dim c.args.a b After ≡ true)
        → (X c.args.dim b c.args.c Before ≡ true) × (X c.args.dim b c.args.c After ≡ true)
        → row_has c.cycle_seconds-row.result b ≡ true
    among b small one two h k = unless (row_has c.cycle_seconds-row.result b) (λ off. c.cycle_seconds-row.ensures.others b small one two off h k)

    there : c.exclude_between.result ≡ false → (b d : ℕ)
        → IsRuleInstance c.args.instance.now (Cycle c.args.dim c.args.a b c.args.c d)
        → Premises c.args.instance.now X (Cycle c.args.dim c.args.a b c.args.c d)
        → (excludes c.exclude_between.new.state.trail c.args.dim b d Before ≡ true)
        × (excludes c.exclude_between.new.state.trail c.args.dim b d After ≡ true)
    there e b d is p =
        c.exclude_between.ensures.excluded e b d
        (among b is.1.2.0 is.1.1.0 (λ q. is.1.2.1.0 (sym q)) p.0 p.1)
        (among d is.1.2.2.2.0 is.1.1.1.1.0 is.1.2.2.1.0 (joined_back c.args.state.now.trail c.args.dim d c.args.a p.3)
        (joined_back c.args.state.now.trail c.args.dim c.args.c d p.2)) is.1.2.2.2.0 is.1.2.1.1.0

    back : c.exclude_between.result ≡ false → (b d : ℕ)
        → IsRuleInstance c.args.instance.now (Cycle c.args.dim c.args.c b c.args.a d)
        → Premises c.args.instance.now X (Cycle c.args.dim c.args.c b c.args.a d)
        → (excludes c.exclude_between.new.state.trail c.args.dim b d Before ≡ true)
        × (excludes c.exclude_between.new.state.trail c.args.dim b d After ≡ true)
    back e b d is p =
        c.exclude_between.ensures.excluded e b d
        (among b is.1.2.0 (λ q. is.1.2.1.0 (sym q)) is.1.1.0 (joined_back c.args.state.now.trail c.args.dim b c.args.a p.1)
        (joined_back c.args.state.now.trail c.args.dim c.args.c b p.0))
        (among d is.1.2.2.2.0 is.1.2.2.1.0 is.1.1.1.1.0 p.2 p.3) is.1.2.2.2.0 is.1.2.1.1.0

    go : c.exclude_between.result ≡ false → (rule : Rule)
        → Chords c.args.instance.now c.args.dim c.args.a c.args.c rule
        ⊎ Chords c.args.instance.now c.args.dim c.args.c c.args.a rule
        → IsCovered c.args.instance.now (excludes c.args.state.now.trail) c.exclude_between.new.state.trail rule
    go e rule (inl r) = named_shut c.args.instance.now c.args.state.now.trail c.exclude_between.new.state.trail rule (Cycle c.args.dim c.args.a r.0 c.args.c r.2.0) r.2.2
        (covered_shut c.args.instance.now c.args.state.now.trail c.exclude_between.new.state.trail (Cycle c.args.dim c.args.a r.0 c.args.c r.2.0)
        (λ is p s k. shut_joined (excludes c.exclude_between.new.state.trail) c.args.dim r.0 r.2.0 s k (there e r.0 r.2.0 is p)))
    go e rule (inr r) = named_shut c.args.instance.now c.args.state.now.trail c.exclude_between.new.state.trail rule (Cycle c.args.dim c.args.c r.0 c.args.a r.2.0) r.2.2
        (covered_shut c.args.instance.now c.args.state.now.trail c.exclude_between.new.state.trail (Cycle c.args.dim c.args.c r.0 c.args.a r.2.0)
        (λ is p s k. shut_joined (excludes c.exclude_between.new.state.trail) c.args.dim r.0 r.2.0 s k (back e r.0 r.2.0 is p)))

pub exclude_between-requires : goal.exclude_between-requires
exclude_between-requires g c = (
  omega (arith, c.requires.words.0.1),
  (c.requires.words, (c.requires.sizes, (c.cycle_seconds-row.ensures.within, follows))),
)
  where
    follows : (b d : ℕ) → row_has c.cycle_seconds-row.result b ≡ true → row_has c.cycle_seconds-row.result d ≡ true
        → (b ≡ d → ⊥) → Follows c.args.instance.now (excludes c.args.state.now.trail) c.args.dim b d Before
        × Follows c.args.instance.now (excludes c.args.state.now.trail) c.args.dim b d After
    follows b d one two ne =
        let first = c.cycle_seconds-row.ensures.members b one in
        let second = c.cycle_seconds-row.ensures.members d two in
        cycle_follows c.args.instance.now (excludes c.args.state.now.trail) c.args.dim c.args.a b c.args.c d (
          c.requires.sizes.there,
          (
            c.requires.a,
            (first.0, (c.requires.distinct, (second.0, tt))),
            (
              c.cycle_seconds-row.ensures.within b one,
              (λ e. first.1.0 (sym e), (ne, tt)),
              (c.requires.c, (second.1.0, tt), (c.cycle_seconds-row.ensures.within d two, tt, tt)),
            ),
          ),
        ) (
          first.1.1.0,
          joined_back c.args.state.now.trail c.args.dim c.args.c b first.1.1.1,
          second.1.1.1,
          joined_back c.args.state.now.trail c.args.dim c.args.a d second.1.1.0,
          shut_off _ _ (c.mask_in.ensures Overlap) (sym c.has.ensures ∙ c.if-has.false),
        )
