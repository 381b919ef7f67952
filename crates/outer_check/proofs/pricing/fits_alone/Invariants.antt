use Rattle.std.proofs.Common.{◌≡◌, ◌<◌, ℕ, true}
use Rattle.std.specs.Prelude.{nat_le}
use Rattle.packing_terms.specs.Packing.{container_side, side}
use Rattle.outer_check.proofs.pricing.fits_alone.Given as goal

abbrev pub invariant-loop-dim : goal.invariant-loop-dim
invariant-loop-dim l = (i : ℕ) → i < l.dim → nat_le (side l.instance l.v i) (container_side l.instance i) ≡ true
