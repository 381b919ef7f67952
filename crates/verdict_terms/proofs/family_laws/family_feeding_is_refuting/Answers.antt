use Rattle.std.proofs.Common.{[]}
use Rattle.verdict_terms.proofs.FamilyFed.{families_append, families_part, families_fed, fed_refutes_families}
use Rattle.verdict_terms.proofs.family_laws.family_feeding_is_refuting.Goals as goal

pub returns-clause-whole : goal.returns-clause-whole
returns-clause-whole c instance n tokens =
    (fed_refutes_families instance n tokens, λ h. families_fed instance h [])

pub returns-clause-parts : goal.returns-clause-parts
returns-clause-parts c instance nodes left first second = (
  families_part instance nodes first second left,
  λ h. families_append instance nodes h.0 first second left h.1 h.2,
)
