-- The front of least sizes: the widths and heights of a container in which two-dimensional boxes
-- fit, and of which neither can be less.
--
--     height
--       |  #  #  .  .  .  .            a point of the front: o
--       |  #  #  o  .  .  .            reached: . and o
--       |  #  #  #  #  o  .            not reached: #
--       |  #  #  #  #  #  #
--       +------------------- width
use Rattle.std.specs.Prelude.{ℕ, ◌-◌, ◌≤◌, Bool, true, false, List, [], ◌∷◌, map}
use Rattle.std.specs.List.{AllByRecursion, Contains}
use Rattle.packing_terms.specs.Packing.{PlainInstance, written_container, Fits}
use Rattle.packing_terms.specs.Rising.{AreRising}

-- the boxes with their kerfs, and a written container of two sides
abbrev pub with_container : PlainInstance → ℕ → ℕ → PlainInstance
with_container instance width height = record instance { container = width ∷ height ∷ [] }

-- the boxes fit a container of these written sides, which are at least 1 and at most those of the
-- instance
pub record IsReached (instance : PlainInstance) (width height : ℕ) : Type 0 where
  pub width_from : 1 ≤ width
  pub width_to : width ≤ written_container instance 0
  pub height_from : 1 ≤ height
  pub height_to : height ≤ written_container instance 1
  pub fits : Fits (with_container instance width height)

-- it is reached, and neither the width nor the height can be one less
pub record IsLeastSize (instance : PlainInstance) (width height : ℕ) : Type 0 where
  pub reached : IsReached instance width height
  pub narrower : ¬ IsReached instance (width - 1) height
  pub lower : ¬ IsReached instance width (height - 1)

-- The front: all least pairs of a width and a height, by rising width. So each stands there once.
pub record IsFront (instance : PlainInstance) (sizes : List (ℕ × ℕ)) : Type 0 where
  pub least : AllByRecursion (λ s. IsLeastSize instance s.0 s.1) sizes
  pub complete : (width height : ℕ) → IsLeastSize instance width height → Contains sizes (width, height)
  pub rising : AreRising (map (λ s. s.0) sizes)

-- the part of the front up to a width
pub record IsFrontUpTo (instance : PlainInstance) (most : ℕ) (sizes : List (ℕ × ℕ)) : Type 0 where
  pub least : AllByRecursion (λ s. IsLeastSize instance s.0 s.1) sizes
  pub complete : (width height : ℕ) → IsLeastSize instance width height → width ≤ most → Contains sizes (width, height)
  pub rising : AreRising (map (λ s. s.0) sizes)

-- the width of the last pair, and the one given where there is none
abbrev pub last_width : ℕ → List (ℕ × ℕ) → ℕ
last_width width [] = width
last_width width (s ∷ sizes) = last_width s.0 sizes

-- What a list of pairs claims to be: the whole front, or, where it isn't complete, the part of the
-- front up to the width of its last pair. No pair that isn't complete claims nothing.
abbrev pub IsClaimed : PlainInstance → Bool → List (ℕ × ℕ) → Type 0
IsClaimed instance true sizes = IsFront instance sizes
IsClaimed instance false [] = Unit {0}
IsClaimed instance false (s ∷ sizes) = IsFrontUpTo instance (last_width s.0 sizes) (s ∷ sizes)
