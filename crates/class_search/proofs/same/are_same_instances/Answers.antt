use Rattle.std.proofs.Common.{◌≡◌, arith}
use Rattle.packing_terms.specs.Packing.{box_count}
use Rattle.class_search.proofs.EqualParts.{same_instances}
use Rattle.class_search.proofs.same.are_same_instances.Goals as goal

pub returns : goal.returns
returns c =
    let count : box_count c.args.first.now ≡ box_count c.args.second.now =
    omega (arith, c.len.ensures.value, c.len-2.ensures.value, c.if-len.false) in
    same_instances c.args.first.now c.args.second.now c.len.ensures.limits c.len-2.ensures.limits
    c.if-not-are_same_containers.ensures count (λ v l. c.loop-v.invariant v (omega (arith, l)))
