use Rattle.std.proofs.Common.{sym, subst}
use Rattle.packing_terms.specs.Exclusions.{AreAtEdges}
use Rattle.packing_terms.specs.Packing.{PlainInstance}
use Rattle.verdict_terms.specs.Stages.{start_exclusions}
use Rattle.document_check.proofs.Beginnings.{level_edges}
use Rattle.document_check.proofs.Passes.{memory_here}
use Rattle.document_check.proofs.phases.check_heights.Goals as goal

pub returns-in_default : goal.returns-in_default
returns-in_default g c = memory_here _ _ c.args.at.now _ c.requires.at.1

pub returns-in_default-with_last_side : goal.returns-in_default-with_last_side
returns-in_default-with_last_side g c = memory_here _ _ c.args.at.now _ c.requires.at.1

pub check_placed-requires-clause-edges : goal.check_placed-requires-clause-edges
check_placed-requires-clause-edges g c =
    subst (λ (i : PlainInstance). AreAtEdges i (start_exclusions c.args.head.now.heading c.args.head.now.instance))
    (sym c.in-Ok-with_last_side.ensures)
    (level_edges c.args.head.now.heading c.args.head.now.instance c.args.refuted c.dims-some_dims.ensures.limits)
