use Rattle.std.proofs.Common.{◌≡◌, ◌<◌, ℕ, true}
use Rattle.std.specs.Prelude.{nat_le}
use Rattle.packing_terms.specs.Packing.{side}
use Rattle.outer_check.proofs.exchanging.is_no_longer.Given as goal

abbrev pub invariant-loop-dim : goal.invariant-loop-dim
invariant-loop-dim l = (i : ℕ) → i < l.dim → nat_le (side l.instance l.u i) (side l.instance l.v i) ≡ true
