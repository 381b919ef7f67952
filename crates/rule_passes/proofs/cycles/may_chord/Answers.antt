use Rattle.std.proofs.Common.{◌≡◌, ◌<◌, ◌⊎◌, inl, inr, ℕ, sym, Bool, true}
use Rattle.packing_terms.specs.declared.Rel.{Rel}
use Rattle.packing_terms.specs.declared.Rel.TheVariants.{Before, After}
use Rattle.packing_terms.specs.Packing.{box_count}
use Rattle.packing_terms.specs.Exclusions.{excludes, IsJoined}
use Rattle.packing_terms.specs.Rules.{Rule, Cycle, IsRuleInstance, Premises}
use Rattle.edge_state.specs.BitRows.{row_has}
use Rattle.edge_state.specs.Instances.{Chords}
use Rattle.edge_state.specs.Work.{IsCovered}
use Rattle.edge_state.proofs.Worked.{worked_none}
use Rattle.rule_passes.proofs.CycleRows.{joined_back, unless}
use Rattle.rule_passes.proofs.RowRules.{covered_shut, named_shut, shut_joined}
use Rattle.rule_passes.proofs.cycles.may_chord.Goals as goal

pub returns : goal.returns
returns g c h = worked_none c.args.instance.now _ _ (λ rule r. go rule r)
  where
    X : ℕ → ℕ → ℕ → Rel → Bool
    X = excludes c.args.state.now.trail

    -- a box that is joined with both
    among : (b : ℕ) → b < box_count c.args.instance.now → (c.args.a ≡ b → ⊥) → (c.args.c ≡ b → ⊥)
        → (X c.args.dim c.args.a b Before ≡ true) × (X c.args.dim c.args.a b After ≡ true)
        → (X c.args.dim b c.args.c Before ≡ true) × (X c.args.dim b c.args.c After ≡ true)
        → row_has c.cycle_seconds-seconds.result b ≡ true
    among b small one two h k =
        unless (row_has c.cycle_seconds-seconds.result b)
        (λ off. c.cycle_seconds-seconds.ensures.others b small one two off h k)

    there : (b d : ℕ) → IsRuleInstance c.args.instance.now (Cycle c.args.dim c.args.a b c.args.c d)
        → Premises c.args.instance.now X (Cycle c.args.dim c.args.a b c.args.c d) → IsJoined X c.args.dim b d
    there b d is p =
        c.has_open_pair.ensures h b d
        (among b is.1.2.0 is.1.1.0 (λ q. is.1.2.1.0 (sym q)) p.0 p.1)
        (among d is.1.2.2.2.0 is.1.1.1.1.0 is.1.2.2.1.0 (joined_back c.args.state.now.trail c.args.dim d c.args.a p.3)
        (joined_back c.args.state.now.trail c.args.dim c.args.c d p.2)) is.1.2.1.1.0

    back : (b d : ℕ) → IsRuleInstance c.args.instance.now (Cycle c.args.dim c.args.c b c.args.a d)
        → Premises c.args.instance.now X (Cycle c.args.dim c.args.c b c.args.a d) → IsJoined X c.args.dim b d
    back b d is p =
        c.has_open_pair.ensures h b d
        (among b is.1.2.0 (λ q. is.1.2.1.0 (sym q)) is.1.1.0
        (joined_back c.args.state.now.trail c.args.dim b c.args.a p.1)
        (joined_back c.args.state.now.trail c.args.dim c.args.c b p.0))
        (among d is.1.2.2.2.0 is.1.2.2.1.0 is.1.1.1.1.0 p.2 p.3) is.1.2.1.1.0

    go : (rule : Rule) → Chords c.args.instance.now c.args.dim c.args.a c.args.c rule
        ⊎ Chords c.args.instance.now c.args.dim c.args.c c.args.a rule
        → IsCovered c.args.instance.now X c.args.state.now.trail rule
    go rule (inl r) =
        named_shut c.args.instance.now c.args.state.now.trail c.args.state.now.trail rule
        (Cycle c.args.dim c.args.a r.0 c.args.c r.2.0) r.2.2
        (covered_shut c.args.instance.now c.args.state.now.trail c.args.state.now.trail
        (Cycle c.args.dim c.args.a r.0 c.args.c r.2.0)
        (λ is p s k. shut_joined X c.args.dim r.0 r.2.0 s k (there r.0 r.2.0 is p)))
    go rule (inr r) =
        named_shut c.args.instance.now c.args.state.now.trail c.args.state.now.trail rule
        (Cycle c.args.dim c.args.c r.0 c.args.a r.2.0) r.2.2
        (covered_shut c.args.instance.now c.args.state.now.trail c.args.state.now.trail
        (Cycle c.args.dim c.args.c r.0 c.args.a r.2.0)
        (λ is p s k. shut_joined X c.args.dim r.0 r.2.0 s k (back r.0 r.2.0 is p)))
