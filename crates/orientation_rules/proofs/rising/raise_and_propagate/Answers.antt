use Rattle.std.proofs.Common.{arith, length}
use Rattle.orientation_rules.proofs.PropagatedWeights.{history_next, least_trans, linked_by, rising_next, still_there, taken_fewer}
use Rattle.orientation_rules.proofs.rising.raise_and_propagate.Goals as goal

pub loop-x-smaller : goal.loop-x-smaller
loop-x-smaller g c =
    taken_fewer g.row.K (length c.loop-x.weights.log) (length c.propagate_from.new.weights.log) c.loop-x.rest
    c.propagate_from.new.rest c.without-rest.result c.in-Some.x c.in_ok-propagate_from.ensures.fewer c.without-rest.ensures
    (still_there _ _ _ _ _ _ _ _ _ _ c.in-Some.x c.in_ok-propagate_from.ensures.raised c.in-Some.ensures.least.there)
    c.in-Some.ensures.limit

pub loop-x-preserved : goal.loop-x-preserved
loop-x-preserved g c =
    let i = c.loop-x.invariant in
    record {
      history = history_next _ _ _ i.history c.propagate_from.ensures.history;
      rising = rising_next c.args.instance.now c.args.state.now c.args.dim c.args.direction _ _ _ c.loop-x.rest
          c.propagate_from.new.rest c.without-rest.result c.loop-x.risen c.propagate_from.new.risen c.in-Some.x i.rising
          c.propagate_from.ensures.other c.in_ok-propagate_from.ensures.raised c.in_ok-propagate_from.ensures.settled
          c.without-rest.ensures;
      enough = least_trans _ _ _ i.enough (c.in_ok-propagate_from.ensures.raised.grows c.args.v);
    }

pub returns-clause-linked : goal.returns-clause-linked
returns-clause-linked g c x hx more =
    linked_by c.args.instance.now c.args.state.now c.args.dim c.args.direction _ _ c.loop-x.rest c.loop-x.risen c.args.v x
    c.args.weight c.loop-x.invariant.rising c.in_default.ensures.least (omega (arith, c.requires.v, c.requires.boxes)) hx
    more c.loop-x.invariant.enough
