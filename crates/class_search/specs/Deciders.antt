-- What a decider keeps: the sizes of its state, and the pairs of boxes by rank.
use Rattle.std.specs.Prelude.{ℕ, List}
use Rattle.packing_terms.specs.Packing.{PlainInstance, dims, box_count}
use Rattle.packing_terms.specs.Rank.{ranked_pairs}

pub record PlainDecider : Type 0 where
  pub dims : ℕ
  pub boxes : ℕ
  pub pairs : List (ℕ × ℕ)

-- that of an instance, and of each other one with as many dimensions and with the same boxes
abbrev pub decider_of : PlainInstance → PlainDecider
decider_of instance = record { dims = dims instance; boxes = box_count instance; pairs = ranked_pairs instance }
