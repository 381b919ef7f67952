use Rattle.std.proofs.Common.{sym, subst, length, ◌≤◌, List}
use Rattle.packing_terms.specs.declared.Exclusion.{Exclusion}
use Rattle.packing_terms.specs.Exclusions.{excludes}
use Rattle.packing_terms.specs.Closure.{Derives}
use Rattle.refutation_check.specs.Nodes.{node_exclusions}
use Rattle.refutation_check.proofs.Nodes.{entered_longer, entered_same, entered_is, ready_parts}
use Rattle.refutation_check.proofs.node.enter.Goals as goal

pub returns-then-is_none-clause-extends : goal.returns-then-is_none-clause-extends
returns-then-is_none-clause-extends c =
    rw (← entered_is c.args.node c.args.state.now c.undo.new.self c.exclude_some.new.state c.exclude_some-2.new.state
    c.undo.ensures c.exclude_some.ensures c.exclude_some-2.ensures)
    c.close_all.ensures.extends

pub returns-then-is_none-clause-ended : goal.returns-then-is_none-clause-ended
returns-then-is_none-clause-ended c above h =
    let instance = c.args.instance.now in
    let is = entered_is c.args.node c.args.state.now c.undo.new.self c.exclude_some.new.state c.exclude_some-2.new.state
    c.undo.ensures c.exclude_some.ensures c.exclude_some-2.ensures in
    let same = entered_same instance c.args.node above c.args.state.now.trail h in
    let N = excludes (node_exclusions c.args.node above) in
    c.close_all.ensures.ended N
    (subst (λ (l : List Exclusion). Derives instance (excludes l) N) (sym is) same.there)
    (subst (λ (l : List Exclusion). Derives instance N (excludes l)) (sym is) same.back)

pub close_since-requires-clause-mark : goal.close_since-requires-clause-mark
close_since-requires-clause-mark c =
    let is = entered_is c.args.node c.args.state.now c.undo.new.self c.exclude_some.new.state c.exclude_some-2.new.state
    c.undo.ensures c.exclude_some.ensures c.exclude_some-2.ensures in
    subst (λ (l : List Exclusion). c.args.node.mark ≤ length l) (sym is)
    (entered_longer c.args.node c.args.state.now.trail c.requires.over.mark)

pub close_since-requires-clause-stable : goal.close_since-requires-clause-stable
close_since-requires-clause-stable c =
    (ready_parts c.args.instance.now c.args.node c.args.state.now.trail _ c.is_none.result c.requires.over.mark
    c.requires.over.ready
    (entered_is c.args.node c.args.state.now c.undo.new.self c.exclude_some.new.state c.exclude_some-2.new.state
    c.undo.ensures c.exclude_some.ensures c.exclude_some-2.ensures)
    c.if-is_none.false c.is_none.ensures).0

pub close_since-requires-clause-full : goal.close_since-requires-clause-full
close_since-requires-clause-full c =
    (ready_parts c.args.instance.now c.args.node c.args.state.now.trail _ c.is_none.result c.requires.over.mark
    c.requires.over.ready
    (entered_is c.args.node c.args.state.now c.undo.new.self c.exclude_some.new.state c.exclude_some-2.new.state
    c.undo.ensures c.exclude_some.ensures c.exclude_some-2.ensures)
    c.if-is_none.false c.is_none.ensures).1

pub returns-clause-extends : goal.returns-clause-extends
returns-clause-extends c =
    rw (← entered_is c.args.node c.args.state.now c.undo.new.self c.exclude_some.new.state c.exclude_some-2.new.state
    c.undo.ensures c.exclude_some.ensures c.exclude_some-2.ensures)
    c.close_since.ensures.extends

pub returns-clause-ended : goal.returns-clause-ended
returns-clause-ended c above h =
    let instance = c.args.instance.now in
    let is = entered_is c.args.node c.args.state.now c.undo.new.self c.exclude_some.new.state c.exclude_some-2.new.state
    c.undo.ensures c.exclude_some.ensures c.exclude_some-2.ensures in
    let same = entered_same instance c.args.node above c.args.state.now.trail h in
    let N = excludes (node_exclusions c.args.node above) in
    c.close_since.ensures.ended N
    (subst (λ (l : List Exclusion). Derives instance (excludes l) N) (sym is) same.there)
    (subst (λ (l : List Exclusion). Derives instance N (excludes l)) (sym is) same.back)
