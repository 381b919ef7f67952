use Rattle.std.proofs.Common.{◌∙◌, sym, ap, take, drop, None}
use Rattle.std.proofs.lemmas.Bool.{and_from}
use Rattle.edge_state.specs.Edges.{PlainEdges}
use Rattle.verdict_terms.specs.declared.check_answers.RefuseCode.TheVariants.{Range, Choice}
use Rattle.verdict_terms.proofs.Judged.{unless_true, unless_false}
use Rattle.refutation_check.specs.Nodes.{node_exclusions}
use Rattle.refutation_check.proofs.Beside.{no_join, join_told, tested_entered, all_named, named_among, joinable}
use Rattle.refutation_check.proofs.joining.test_boxes.Goals as goal

pub returns-then-enter-clause-tested : goal.returns-then-enter-clause-tested
returns-then-enter-clause-tested c =
    tested_entered _ _ _ _ _ c.args.dim (take c.args.begun c.args.family.now) (drop c.args.begun c.args.family.now)
    c.enter.result c.requires.over.mark c.enter.ensures.extends c.enter.ensures.ended
    (λ A e. unless_false _ Choice None
    (no_join c.args.instance.now (node_exclusions c.args.node A) _ c.args.dim (take c.args.begun c.args.family.now)
    (drop c.args.begun c.args.family.now) c.enter.result c.if-enter.true e)
    ∙ unless_true _ Range _ (and_from _ _ (sym c.names_dim.ensures ∙ c.if-not-names_dim.false)
    (sym c.are_named.ensures ∙ c.if-not-are_named.false)))

pub are_aside-requires-clause-names : goal.are_aside-requires-clause-names
are_aside-requires-clause-names c =
    named_among c.args.instance.now c.args.family.now c.enter.new.state.boxes
    (ap (λ (s : PlainEdges). s.boxes) c.enter.ensures.sizes ∙ c.requires.over.same_boxes)
    (all_named c.args.instance.now c.args.family.now c.args.begun c.requires.named
    (sym c.are_named.ensures ∙ c.if-not-are_named.false))

pub returns-then-are_aside-clause-tested : goal.returns-then-are_aside-clause-tested
returns-then-are_aside-clause-tested c =
    tested_entered _ _ _ _ _ c.args.dim (take c.args.begun c.args.family.now) (drop c.args.begun c.args.family.now)
    c.enter.result c.requires.over.mark c.enter.ensures.extends c.enter.ensures.ended
    (λ A e. unless_true _ Choice None
    (join_told c.args.instance.now (node_exclusions c.args.node A) _ c.args.dim (take c.args.begun c.args.family.now)
    (drop c.args.begun c.args.family.now) c.enter.result c.if-enter.false e
    ∙ (sym c.are_aside.ensures ∙ c.if-are_aside.true))
    ∙ unless_true _ Range _ (and_from _ _ (sym c.names_dim.ensures ∙ c.if-not-names_dim.false)
    (sym c.are_named.ensures ∙ c.if-not-are_named.false)))

pub returns-else-are_aside-clause-tested : goal.returns-else-are_aside-clause-tested
returns-else-are_aside-clause-tested c =
    tested_entered _ _ _ _ _ c.args.dim (take c.args.begun c.args.family.now) (drop c.args.begun c.args.family.now)
    c.enter.result c.requires.over.mark c.enter.ensures.extends c.enter.ensures.ended
    (λ A e. unless_false _ Choice None
    (join_told c.args.instance.now (node_exclusions c.args.node A) _ c.args.dim (take c.args.begun c.args.family.now)
    (drop c.args.begun c.args.family.now) c.enter.result c.if-enter.false e
    ∙ (sym c.are_aside.ensures ∙ c.if-are_aside.false))
    ∙ unless_true _ Range _ (and_from _ _ (sym c.names_dim.ensures ∙ c.if-not-names_dim.false)
    (sym c.are_named.ensures ∙ c.if-not-are_named.false)))

pub returns-then-are_aside-clause-named : goal.returns-then-are_aside-clause-named
returns-then-are_aside-clause-named c =
    joinable c.args.instance.now c.args.dim c.args.family.now c.args.begun
    (sym c.names_dim.ensures ∙ c.if-not-names_dim.false) c.requires.named
    (sym c.are_named.ensures ∙ c.if-not-are_named.false)
