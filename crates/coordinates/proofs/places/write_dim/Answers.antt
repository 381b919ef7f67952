use Rattle.std.proofs.Common.{arith, ◌<◌, ◌≡◌, ◌∙◌}
use Rattle.packing_terms.specs.Packing.{box_count, dims}
use Rattle.packing_terms.specs.Exclusions.{excludes}
use Rattle.packing_terms.proofs.Internal.{side_small}
use Rattle.packing_terms.proofs.Runs.{run_small, few_boxes}
use Rattle.packing_terms.proofs.Turned.{run_of_head}
use Rattle.coordinates.proofs.StartLemmas.{write_next, write_other}
use Rattle.coordinates.proofs.places.write_dim.Goals as goal

pub overflow_cast-into : goal.overflow_cast-into
overflow_cast-into c =
    let hv : c.loop-v.v < box_count c.args.instance.now = omega arith in
    let small = run_small _ _ _ 1000000 c.loop-v.v _
    (λ u hu. side_small _ c.dims-dims.ensures.limits u c.args.dim hu c.requires.dim)
    (run_of_head _ _ _ _ _ (c.requires.heads c.loop-v.v hv).some) in
    omega (arith, few_boxes _ c.dims-dims.ensures.limits)

pub loop-v-preserved : goal.loop-v-preserved
loop-v-preserved c =
    let hv : c.loop-v.v < box_count c.args.instance.now = omega arith in
    let at : c.dims-dims.result ≡ dims c.args.instance.now = omega arith in
    rw (at, c.from.ensures, c.side.ensures) (record {
      heads = write_next _ (excludes c.args.state.now.trail) c.loop-v.into c.args.dim c.loop-v.v _ c.requires.dim hv
          (c.loop-v.auto.into ∙ c.requires.count)
          (c.requires.heads c.loop-v.v hv) c.loop-v.invariant.heads;
      others = λ v i hi ne. write_other c.args.instance.now c.loop-v.into c.args.dim c.loop-v.v _ v i c.requires.dim hi
          ne ∙ c.loop-v.invariant.others v i hi ne;
    })
