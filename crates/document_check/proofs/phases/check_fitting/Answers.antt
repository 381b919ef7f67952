use Rattle.std.proofs.Common.{subst, None}
use Rattle.text_terms.specs.declared.claim.Claim.TheVariants.{Fitting}
use Rattle.verdict_terms.specs.Stages.{Stage}
use Rattle.verdict_terms.specs.Stages.Stage.{Ending}
use Rattle.document_check.specs.Passes.{IsCheckedFrom}
use Rattle.document_check.proofs.Beginnings.{fitting_placed, fitting_claimed}
use Rattle.document_check.proofs.Passes.{then_from}
use Rattle.document_check.proofs.phases.check_fitting.Goals as goal

pub returns-in-None : goal.returns-in-None
returns-in-None g c =
    subst
    (λ (s : Stage). IsCheckedFrom (g.S.Source.left c.args.input.now) (g.S.Source.left c.check_end.new.input)
    (g.S.Source.faults c.args.input.now) (g.S.Source.faults c.check_end.new.input)
    c.args.at.now s c.check_end.result)
    (fitting_claimed c.args.head.now.heading c.args.head.now.instance c.args.head.now.claim c.requires.is)
    (then_from _ _ _ _ _ _ c.args.at.now c.read_places.new.at _ _ c.check_end.result c.in-None.ensures.goes
    (Ending Fitting None) (fitting_placed c.args.head.now.heading c.args.head.now.claim _ c.requires.is) c.check_end.ensures)
