use Rattle.std.proofs.Common.{◌∙◌, ap, List, [], ◌∷◌}
use Rattle.std.proofs.lemmas.Result.{IfOk-weaker}
use Rattle.packing_terms.specs.declared.Exclusion.{Exclusion}
use Rattle.verdict_terms.specs.Trees.Tree.{InnerTree}
use Rattle.document_check.proofs.Beginnings.{inner_begun}
use Rattle.document_check.proofs.phases.begin_refuter.Goals as goal

pub returns-clause-tree : goal.returns-clause-tree
returns-clause-tree c =
    IfOk-weaker c.starting.result _ _
    (λ r h. inner_begun r c.args.level.now c.as_slice.result.now h
    ∙ ap (λ (es : List Exclusion). InnerTree c.args.level.now (es ∷ []))
    (c.as_slice.ensures.value ∙ c.in_ok-start.ensures))
    c.starting.ensures
