use Rattle.packing_terms.proofs.Internal.{internal_sides, some_dimension}
use Rattle.packing_terms.proofs.Levels.{none_fits_under}
use Rattle.packing_terms.proofs.Respected.{some_packing_respects}
use Rattle.packing_terms.proofs.symmetry_laws.facts_keep_an_answer.Goals as goal

pub returns-clause-fits : goal.returns-clause-fits
returns-clause-fits c instance limits = (
  (λ f. some_packing_respects instance (internal_sides instance limits) (some_dimension instance limits) f.0 f.1),
  (λ h. (h.0, h.1)),
)

pub returns-clause-refuted : goal.returns-clause-refuted
returns-clause-refuted c instance tokens limits refutes =
    none_fits_under instance (internal_sides instance limits) (some_dimension instance limits) tokens refutes
