use Rattle.std.proofs.Common.{List, subst, sym}
use Rattle.packing_terms.specs.declared.Exclusion.{Exclusion}
use Rattle.packing_terms.specs.Exclusions.{excludes, exclusion_at}
use Rattle.packing_terms.specs.Closure.{IsStable}
use Rattle.packing_terms.specs.Places.{HasNoEmptyMask}
use Rattle.packing_terms.specs.Steps.{with_exclusion}
use Rattle.edge_state.proofs.Undone.{back_one, within_one, back_all}
use Rattle.rule_tests.proofs.descents.try_since.Goals as goal

pub close_since-requires-clause-mark : goal.close_since-requires-clause-mark
close_since-requires-clause-mark c =
    rw c.exclude.ensures.state (within_one c.args.state.now.trail (exclusion_at c.args.dim c.args.u c.args.v c.args.rel)
    c.mark-mark.result c.mark-mark.ensures)

pub close_since-requires-clause-stable : goal.close_since-requires-clause-stable
close_since-requires-clause-stable c =
    let e = back_one c.args.state.now.trail (exclusion_at c.args.dim c.args.u c.args.v c.args.rel) c.mark-mark.result
    c.mark-mark.ensures in
    rw c.exclude.ensures.state (subst (λ (l : List Exclusion). IsStable c.args.instance.now (excludes l)) (sym e)
    c.requires.stable)

pub close_since-requires-clause-full : goal.close_since-requires-clause-full
close_since-requires-clause-full c =
    let e = back_one c.args.state.now.trail (exclusion_at c.args.dim c.args.u c.args.v c.args.rel) c.mark-mark.result
    c.mark-mark.ensures in
    rw c.exclude.ensures.state (subst (λ (l : List Exclusion). HasNoEmptyMask c.args.instance.now (excludes l)) (sym e)
    c.requires.full)

pub returns-in-Conflict-clause-stable : goal.returns-in-Conflict-clause-stable
returns-in-Conflict-clause-stable c =
    let e = exclusion_at c.args.dim c.args.u c.args.v c.args.rel in
    let es = c.args.state.now.trail in
    let grown = rw c.exclude.ensures.state at c.close_since.ensures.extends.grown in
    let same = back_all es (with_exclusion es e) c.close_since.new.state.trail c.close_since.ensures.extends.more
    c.mark-mark.result
    (within_one es e c.mark-mark.result c.mark-mark.ensures) grown
    (back_one es e c.mark-mark.result c.mark-mark.ensures) in
    rw c.undo.ensures (subst (λ (l : List Exclusion). IsStable c.args.instance.now (excludes l)) (sym same)
    c.requires.stable)

pub returns-in-Conflict-clause-full : goal.returns-in-Conflict-clause-full
returns-in-Conflict-clause-full c =
    let e = exclusion_at c.args.dim c.args.u c.args.v c.args.rel in
    let es = c.args.state.now.trail in
    let grown = rw c.exclude.ensures.state at c.close_since.ensures.extends.grown in
    let same = back_all es (with_exclusion es e) c.close_since.new.state.trail c.close_since.ensures.extends.more
    c.mark-mark.result
    (within_one es e c.mark-mark.result c.mark-mark.ensures) grown
    (back_one es e c.mark-mark.result c.mark-mark.ensures) in
    rw c.undo.ensures (subst (λ (l : List Exclusion). HasNoEmptyMask c.args.instance.now (excludes l)) (sym same)
    c.requires.full)
