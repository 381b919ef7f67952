use Rattle.packing_terms.proofs.Internal.{some_dimension}
use Rattle.packing_terms.proofs.SymmetryMembers.{facts_at_edges}
use Rattle.packing_terms.proofs.symmetry_laws.facts_are_at_edges.Goals as goal

pub returns : goal.returns
returns c instance limits = facts_at_edges instance (some_dimension instance limits)
