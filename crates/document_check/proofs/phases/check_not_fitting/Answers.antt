use Rattle.std.proofs.Common.{◌∙◌, sym, ap, subst}
use Rattle.text_terms.specs.declared.claim.Claim.{Claim}
use Rattle.text_terms.specs.declared.claim.Claim.TheVariants.{NotFitting}
use Rattle.verdict_terms.specs.Stages.{Stage, claimed}
use Rattle.verdict_terms.specs.Stages.Stage.{Refuting}
use Rattle.document_check.specs.Passes.{IsCheckedFrom}
use Rattle.document_check.proofs.Beginnings.{start_edges}
use Rattle.document_check.proofs.Passes.{memory_here}
use Rattle.document_check.proofs.phases.check_not_fitting.Goals as goal

pub begin_refuter-requires : goal.begin_refuter-requires
begin_refuter-requires g c = start_edges c.args.head.now.heading c.args.head.now.instance c.dims-dims.ensures.limits

pub returns-in-Ok : goal.returns-in-Ok
returns-in-Ok g c =
    subst
    (λ (s : Stage). IsCheckedFrom (g.S.Source.left c.args.input.now) (g.S.Source.left c.check_tokens.new.input)
    (g.S.Source.faults c.args.input.now) (g.S.Source.faults c.check_tokens.new.input)
    c.args.at.now s c.check_tokens.result)
    (ap (Refuting NotFitting) c.in-Ok.ensures.tree
    ∙ ap (λ (claim : Claim). claimed c.args.head.now.heading c.args.head.now.instance claim) (sym c.requires.is))
    c.check_tokens.ensures

pub returns-in-Err : goal.returns-in-Err
returns-in-Err g c = memory_here _ _ c.args.at.now _ c.requires.at.1
