use Rattle.std.proofs.Common.{◌-◌, length}
use Rattle.packing_terms.specs.Packing.{box_count}
use Rattle.refutation_steps.specs.Chains.{HasWeights}
use Rattle.refutation_steps.proofs.Replayed.{IsSoFar}
use Rattle.refutation_steps.proofs.replay.replay_on.Given as goal

abbrev pub invariant-loop-change : goal.invariant-loop-change
invariant-loop-change l =
    record {
      so_far : IsSoFar l.instance l.fn.state l.state l.fn.lines l.lines
          l.closed.trail l.fn.from l.at;
      room : HasWeights (box_count l.instance) l.room.head.items l.room.tail.items;
    }

abbrev pub decreases-loop-change : goal.decreases-loop-change
decreases-loop-change l = length l.closed.trail - l.at
