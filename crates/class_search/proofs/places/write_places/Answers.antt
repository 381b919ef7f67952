use Rattle.std.proofs.Common.{◌∙◌}
use Rattle.tree_terms.proofs.UniquePlaces.{places_are}
use Rattle.class_search.proofs.places.write_places.Goals as goal

pub returns : goal.returns
returns c =
    places_are c.args.instance.now c.args.state.now.dims c.args.state.now.boxes c.args.state.now.trail
    c.place_from.new.into c.len-boxes.ensures.limits c.requires.dims c.requires.boxes
    c.dims-dims.ensures.limits.trail c.requires.closed c.requires.full c.requires.fit
    (c.place_from.auto.into ∙ c.requires.count) c.place_from.ensures.ends
