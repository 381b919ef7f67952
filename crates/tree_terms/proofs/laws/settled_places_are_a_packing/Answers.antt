use Rattle.tree_terms.proofs.laws.settled_places_are_a_packing.Goals as goal
use Rattle.packing_terms.proofs.Internal.{internal_sides}
use Rattle.tree_terms.proofs.ClosedPlaces.{closed_ends, closed_pack}
use Rattle.tree_terms.proofs.UniquePlaces.{settled_only}

pub returns-clause-ends : goal.returns-clause-ends
returns-clause-ends c instance es limits fit placed calm =
    closed_ends instance es (internal_sides instance limits) fit placed calm

pub returns-clause-packing : goal.returns-clause-packing
returns-clause-packing c instance es limits fit placed calm =
    closed_pack instance es (internal_sides instance limits) fit placed calm

pub returns-clause-only : goal.returns-clause-only
returns-clause-only c instance es places limits fit placed stable full count ends =
    settled_only instance es limits placed stable full fit places count ends
