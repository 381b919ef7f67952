use Rattle.packing_terms.proofs.PlacesLemmas.{places_pack}
use Rattle.packing_terms.proofs.rule_laws.settled_sets_give_packings.Goals as goal

pub returns : goal.returns
returns c instance X places stable symmetric full sides fit settled count ends =
    places_pack instance X stable symmetric full sides fit places ends count settled
