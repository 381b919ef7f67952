use Rattle.std.proofs.Common.{arith, ◌<◌, ◌+◌, refl, [], ◌∷◌}
use Rattle.packing_terms.specs.declared.Rel.TheVariants.{Before}
use Rattle.packing_terms.specs.Packing.{container_side}
use Rattle.packing_terms.specs.Rules.{Chain, weight}
use Rattle.packing_terms.specs.Exclusions.{excludes}
use Rattle.packing_terms.proofs.Applied.{applied_by}
use Rattle.relation_table.specs.Masks.{mask_has}
use Rattle.orientation_rules.proofs.Keeps.{rest_drops, rest_only, full_without}
use Rattle.orientation_rules.proofs.ListedChains.{emptied}
use Rattle.orientation_rules.proofs.chain_lines.apply_long_chain.Goals as goal

pub returns-clause-extends : goal.returns-clause-extends
returns-clause-extends c =
    let long = c.requires.long in
    let wide : container_side c.args.instance.now c.args.dim < weight c.args.instance.now c.args.dim
    (c.args.u ∷ []) + weight c.args.instance.now c.args.dim (c.args.v ∷ long.tail.after)
    = omega (arith, long.long, long.tail.heavy) in
    let full = full_without _ _ Before c.all.ensures c.without.ensures.others in
    rw c.keep_only.ensures.state
    ((applied_by c.args.instance.now (Chain c.args.dim [] c.args.u c.args.v long.tail.after) _
    (mask_has c.without.result)
    (c.requires.sizes.there, (long.edge.first, tt, tt), long.tail.boxes, long.edge.distinct) (tt, long.tail.chain, wide)
    (rest_drops _ Before full) (rest_only _ Before full)).step.extends)

pub returns-clause-empty : goal.returns-clause-empty
returns-clause-empty c =
    let long = c.requires.long in
    let full = full_without _ _ Before c.all.ensures c.without.ensures.others in
    emptied c.args.instance.now (excludes c.args.state.now.trail) (excludes c.keep_only.new.state.trail) c.args.dim
    c.args.u c.args.v (mask_has c.without.result) long.edge long.ordered (rest_only _ Before full Before refl)
    (λ r. (c.keep_only.ensures.kept c.args.dim c.args.u c.args.v r).1)
