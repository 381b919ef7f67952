-- The first dimension other than the last in which a box is longer than the container.
use Rattle.std.specs.Prelude.{ℕ, ◌-◌, ◌<◌}
use Rattle.packing_terms.specs.Packing.{PlainInstance, dims, container_side, side}
use Rattle.packing_terms.specs.TooLarge.{IsNotLongerBelow}

pub record IsFirstWideDim (instance : PlainInstance) (v dim : ℕ) : Type 0 where
  pub in_range : dim < dims instance - 1
  pub large : container_side instance dim < side instance v dim
  pub shorter : IsNotLongerBelow instance dim v
