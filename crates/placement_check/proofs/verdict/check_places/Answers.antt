use Rattle.std.proofs.Common.{sym}
use Rattle.verdict_terms.proofs.Places.{places_tested}
use Rattle.placement_check.proofs.verdict.check_places.Goals as goal

pub returns-clause-exact : goal.returns-clause-exact
returns-clause-exact c = sym ((places_tested c.args.instance.now c.args.places.now c.tested.result c.requires).1
    c.tested.ensures)
