use Rattle.std.proofs.Common.{ap, arith, length}
use Rattle.packing_terms.specs.Packing.{box_count}
use Rattle.packing_terms.specs.Rank.{ranked}
use Rattle.packing_terms.proofs.RankLemmas.{ranked_are_boxes}
use Rattle.tree_terms.proofs.ChoiceSearch.{below_at}
use Rattle.bin_search.proofs.walk.assign.Goals as goal

pub overflow_add-result : goal.overflow_add-result
overflow_add-result c =
    let e = ap length c.requires.order in
    let small = below_at (box_count c.args.instance.now) (ranked c.args.instance.now)
    (ranked_are_boxes c.args.instance.now) c.args.placed 0 (omega (arith, e, c.requires.there)) in
    let few = c.len-limits.ensures.limits.boxes.count.1 in
    rw c.requires.order (omega (arith, small, few))
