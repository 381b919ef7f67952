use Rattle.std.proofs.Common.{◌≡◌, refl, arith}
use Rattle.packing_terms.specs.Packing.{dims}
use Rattle.pack_streams.proofs.Writers.{more, same}
use Rattle.answer_streams.proofs.Joined.{coordinate_more, coordinates_all}
use Rattle.answer_streams.proofs.documents.write_coordinates.Goals as goal

pub loop-dim-preserved : goal.loop-dim-preserved
loop-dim-preserved g c = same _ _ _ _ _ _ _ _
    (coordinate_more c.args.instance.now c.args.places.now c.args.box_no c.loop-dim.dim _ refl)
    (more _ _ _ _ _ _ _ _ _ _ _ c.loop-dim.invariant
    (more _ _ _ _ _ _ _ _ _ _ _ c.write_on-named.ensures.goes_on
    (rw c.dims-dims.ensures.value at c.write_number-now.ensures.goes_on)))

pub returns : goal.returns
returns g c =
    let whole : c.loop-dim.dim ≡ dims c.args.instance.now = omega (arith, c.dims-dims.ensures.value) in
    same _ _ _ _ _ _ _ _ (coordinates_all c.args.instance.now c.args.places.now c.args.box_no _ _ whole)
    c.loop-dim.invariant
