use Rattle.std.proofs.Common.{◌≡◌}
use Rattle.proposed_answers.proofs.values.decide_rising.Given as goal

abbrev pub invariant-loop-k : goal.invariant-loop-k
invariant-loop-k g l = l.search ≡ record { instance = l.fn.instance; scales = l.fn.settings.scales }
