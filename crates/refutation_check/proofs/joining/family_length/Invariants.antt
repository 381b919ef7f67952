use Rattle.std.proofs.Common.{◌≡◌, ◌≤◌, ◌*◌, take}
use Rattle.verdict_terms.specs.Families.{family_length}
use Rattle.refutation_check.proofs.joining.family_length.Given as goal

abbrev pub invariant-loop-k : goal.invariant-loop-k
invariant-loop-k l = (l.sum ≡ family_length l.instance l.dim (take l.k l.family)) × (l.sum ≤ l.k * 4294967295)
