use Rattle.std.proofs.Common.{◌≡◌, ◌-◌, ◌≤◌, length, drop, reverse}
use Rattle.std.specs.Prelude.{vec_capacity}
use Rattle.edge_state.specs.ChainWeights.{taken_back, AreSized}
use Rattle.edge_state.proofs.chain_weights.ChainWeights.take_back.Given as goal

abbrev pub invariant-loop-self : goal.invariant-loop-self
invariant-loop-self l = record {
  sized : AreSized (record {
    limits = l.self-inside.limits;
    sides = l.self-inside.sides.items;
    numbers = l.self-inside.numbers.items;
    log = reverse l.self-inside.log.items;
    ends = reverse l.self-inside.ends.items;
  }) (vec_capacity l.self-inside.log) (vec_capacity l.self-inside.ends);
  limits : l.self-inside.limits ≡ l.fn.self.limits;
  sides : l.self-inside.sides.items ≡ l.fn.self.sides;
  ends : reverse l.self-inside.ends.items ≡ l.fn.self.ends;
  few : length l.self-inside.log.items ≤ length l.fn.self.log;
  above : length l.fn.self.log - length l.self-inside.log.items ≤ length l.fn.self.log - l.first;
  numbers : l.self-inside.numbers.items
      ≡ taken_back (length l.fn.self.log - length l.self-inside.log.items) l.fn.self.numbers l.fn.self.log;
  log : reverse l.self-inside.log.items ≡ drop (length l.fn.self.log - length l.self-inside.log.items) l.fn.self.log;
}

abbrev pub decreases-loop-self : goal.decreases-loop-self
decreases-loop-self l = length l.self-inside.log.items
