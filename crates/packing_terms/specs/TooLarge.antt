-- The first box that is longer than the container, and its first such dimension. Boxes and
-- dimensions are counted from 0.
use Rattle.std.specs.Prelude.{ℕ, ◌-◌, ◌<◌, ◌≤◌}
use Rattle.packing_terms.specs.Packing.{PlainInstance, dims, box_count, container_side, side}

-- the box is no longer than the container in the dimensions below d
abbrev pub IsNotLongerBelow : PlainInstance → ℕ → ℕ → Type 0
IsNotLongerBelow instance d v = (i : ℕ) → i < d → side instance v i ≤ container_side instance i

-- The first box that exceeds the container in a dimension below d, with its first such dimension:
-- no box before it does, nor it in one before.
pub record IsFirstLongerBelow (instance : PlainInstance) (d box_no dim : ℕ) : Type 0 where
  pub there : box_no < box_count instance
  pub in_range : dim < d
  pub large : container_side instance dim < side instance box_no dim
  pub shorter : IsNotLongerBelow instance dim box_no
  pub earlier : (v : ℕ) → v < box_no → IsNotLongerBelow instance d v

-- the first box that exceeds the container, with its first such dimension
abbrev pub IsFirstTooLarge : PlainInstance → ℕ → ℕ → Type 0
IsFirstTooLarge instance v i = IsFirstLongerBelow instance (dims instance) v i

-- the first box that exceeds the container in a dimension other than the last, with its first such
-- dimension
abbrev pub IsFirstTooWide : PlainInstance → ℕ → ℕ → Type 0
IsFirstTooWide instance v i = IsFirstLongerBelow instance (dims instance - 1) v i
