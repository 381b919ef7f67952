use Rattle.std.proofs.Common.{◌<◌, arith}
use Rattle.packing_terms.specs.Packing.{box_count}
use Rattle.packing_terms.proofs.Internal.{side_small}
use Rattle.packing_terms.proofs.Runs.{run_small, few_boxes}
use Rattle.orientation_rules.proofs.fresh_weights.weigh_in.Goals as goal

pub write_weights-requires-clause-small : goal.write_weights-requires-clause-small
write_weights-requires-clause-small g c v hv =
    let there : v < box_count c.args.instance.now = omega (arith, hv, c.requires.head_count) in
    let most = run_small _ _ _ 1000000 v _
    (λ u hu. side_small _ c.len-count.ensures.limits u c.args.dim hu c.requires.dim)
    (c.weigh_both.ensures.heads v there).some in
    omega (arith, most, few_boxes _ c.len-count.ensures.limits)

pub write_weights-requires-2-clause-small : goal.write_weights-requires-2-clause-small
write_weights-requires-2-clause-small g c v hv =
    let there : v < box_count c.args.instance.now = omega (arith, hv, c.requires.tail_count) in
    let most = run_small _ _ _ 1000000 v _
    (λ u hu. side_small _ c.len-count.ensures.limits u c.args.dim hu c.requires.dim)
    (c.weigh_both.ensures.tails v there).some in
    omega (arith, most, few_boxes _ c.len-count.ensures.limits)
