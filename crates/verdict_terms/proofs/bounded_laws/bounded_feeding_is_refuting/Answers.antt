use Rattle.std.proofs.Common.{[], ◌∷◌}
use Rattle.packing_terms.specs.OuterRefutation.{no_choice}
use Rattle.verdict_terms.proofs.BoundedFed.{bounded_append, bounded_part, bounded_fed, fed_refutes_bounded}
use Rattle.verdict_terms.proofs.bounded_laws.bounded_feeding_is_refuting.Goals as goal

pub returns-clause-whole : goal.returns-clause-whole
returns-clause-whole c instance goal_value tokens =
    (fed_refutes_bounded instance goal_value tokens (no_choice ∷ []), λ h. bounded_fed instance goal_value h)

pub returns-clause-parts : goal.returns-clause-parts
returns-clause-parts c instance goal_value nodes left first second = (
  bounded_part instance goal_value nodes first second left,
  λ h. bounded_append instance goal_value nodes h.0 first second left h.1 h.2,
)
