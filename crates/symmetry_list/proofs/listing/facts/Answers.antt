use Rattle.std.proofs.Common.{sym, ◌∙◌, subst, List, ℕ, ◌<◌}
use Rattle.std.specs.List.{AllByRecursion}
use Rattle.packing_terms.specs.Packing.{box_count}
use Rattle.packing_terms.proofs.Boxes.{box_in, each_from}
use Rattle.packing_terms.proofs.Ranges.{flat_map_last_below}
use Rattle.packing_terms.specs.Rank.{ranked}
use Rattle.packing_terms.proofs.RankLemmas.{ranked_are_boxes}
use Rattle.packing_terms.specs.Facts.{twin_facts}
use Rattle.symmetry_list.proofs.listing.facts.Goals as goal

pub loop-u-preserved : goal.loop-u-preserved
loop-u-preserved c = let a = c.in_ok-add_twins.ensures in let h = c.loop-u.invariant in
    rw (flat_map_last_below (twin_facts c.args.instance.now) c.loop-u.u, ← h) a

pub single_boxes-requires : goal.single_boxes-requires
single_boxes-requires c =
    let e = c.as_slice.ensures.value in
    let f = c.in_ok-order.ensures in
    subst (λ (xs : List ℕ). AllByRecursion (λ v. v < box_count c.args.instance.now) xs) (sym (e ∙ f))
    (each_from (λ v. v < box_count c.args.instance.now) (ranked c.args.instance.now)
    (λ v i. box_in _ (ranked c.args.instance.now) (ranked_are_boxes c.args.instance.now) v i))
