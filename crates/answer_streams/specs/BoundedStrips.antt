-- What the writer of a document of `bounded strip` needs to know of an answer.
use Rattle.std.specs.Prelude.{ℕ, ◌<◌, ◌*◌, ◌≡◌, length}
use Rattle.packing_terms.specs.Packing.{PlainInstance, dims, box_count}
use Rattle.bounded_answers.specs.declared.height_levels.BoundedStrip.{BoundedStrip}
use Rattle.bounded_answers.specs.declared.height_levels.BoundedStrip.TheVariants.{Levels, NoneFits}

-- the placed height is above the refuted one
abbrev pub IsRising : BoundedStrip → Type 0
IsRising (Levels levels) = levels.refuted < levels.placed
IsRising (NoneFits v i) = Unit {0}

-- it is, and there are as many coordinates as the boxes have; a box that is too wide is one of the instance
abbrev pub IsReadyStrip : PlainInstance → BoundedStrip → Type 0
IsReadyStrip instance (Levels levels) =
    (levels.refuted < levels.placed) × (length levels.places.items ≡ box_count instance * dims instance)
IsReadyStrip instance (NoneFits v i) = (v < box_count instance) × (i < dims instance)
