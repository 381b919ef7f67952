use Rattle.proposed_answers.proofs.Choices.{crossing_bad}
use Rattle.proposed_answers.proofs.choice_testing.is_packing.Goals as goal

pub returns-in-Overlap : goal.returns-in-Overlap
returns-in-Overlap c =
    crossing_bad c.args.set.now c.args.places.now c.check_places.result c.check_places.ensures.exact c.in-Overlap.first
    c.in-Overlap.second c.in-Overlap.is
