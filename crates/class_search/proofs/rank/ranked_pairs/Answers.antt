use Rattle.std.proofs.Common.{◌≡◌, arith}
use Rattle.class_search.proofs.RankedPairs.{pairs_next}
use Rattle.class_search.proofs.rank.ranked_pairs.Goals as goal

pub loop-later-preserved : goal.loop-later-preserved
loop-later-preserved c =
    let same : c.loop-earlier.earlier ≡ c.loop-later.later =
    omega (arith, c.loop-earlier-test.false, c.loop-earlier.auto.earlier-end) in
    pairs_next c.args.instance.now c.loop-later.pairs.items c.loop-earlier.pairs.items c.in_ok-order.order.items
    c.loop-later.later (omega (arith, c.in_ok-order.order.ok.0))
    c.loop-later.invariant (rw same at c.loop-earlier.invariant)
