use Rattle.std.proofs.Common.{arith, ◌<◌, ◌∙◌}
use Rattle.packing_terms.specs.Packing.{dims}
use Rattle.packing_terms.specs.Exclusions.{excludes}
use Rattle.packing_terms.proofs.Internal.{internal_sides}
use Rattle.packing_terms.proofs.Sets.{excludes_symmetric}
use Rattle.packing_terms.proofs.PlacesLemmas.{places_pack}
use Rattle.coordinates.proofs.StartLemmas.{trans_at, ends_are}
use Rattle.coordinates.proofs.places.place_from.Goals as goal

pub heads-requires-clause-transitive : goal.heads-requires-clause-transitive
heads-requires-clause-transitive c =
    let hi : c.loop-dim.dim < dims c.args.instance.now = omega arith in
    trans_at _ _ c.len.ensures.limits c.requires.fit c.requires.closed c.requires.full c.loop-dim.dim hi

pub returns-clause-ends : goal.returns-clause-ends
returns-clause-ends c =
    ends_are _ _ _ _ _ c.dims-sizes.ensures.limits.trail c.len.ensures.limits c.requires.fit c.requires.closed
    c.requires.full
    (λ i hi. c.loop-dim.invariant i (omega arith))

pub returns-clause-packing : goal.returns-clause-packing
returns-clause-packing c =
    let ends = ends_are c.args.instance.now c.args.state.now.trail c.loop-dim.into _ _ c.dims-sizes.ensures.limits.trail
    c.len.ensures.limits c.requires.fit c.requires.closed c.requires.full
    (λ i hi. c.loop-dim.invariant i (omega arith)) in
    places_pack c.args.instance.now (excludes c.args.state.now.trail) c.requires.closed
    (excludes_symmetric c.args.state.now.trail) c.requires.full
    (internal_sides _ c.len.ensures.limits) c.requires.fit c.loop-dim.into ends
    (c.loop-dim.auto.into ∙ c.requires.count) c.requires.settled
