-- The generator of instances: each number names one made instance, which is the same on every
-- machine.
--
-- number 0      seeds 0, 12345, 1406932606, 654583775      draws 0, 21468, 9988      one box, 219
-- 239, in the container 1000 1000
--
-- Source: the pseudo-random numbers are those of the example of `rand` in the C standard.
use Rattle.std.specs.Prelude.{ℕ, zero, suc, ◌+◌, ◌*◌, ◌/◌, ◌%◌, ◌^◌, [], ◌∷◌, map}
use Rattle.std.specs.List.{range_with_len}
use Rattle.packing_terms.specs.Packing.{PlainBox, PlainInstance}

-- the seed behind a seed
abbrev pub next_seed : ℕ → ℕ
next_seed s = (1103515245 * s + 12345) % 2 ^ 31

-- seed k of a number, which is its seed 0
abbrev pub seed : ℕ → ℕ → ℕ
seed number zero = number
seed number (suc k) = next_seed (seed number k)

-- draw k, from 1 on: the seed without its low 16 bits
abbrev pub draw : ℕ → ℕ → ℕ
draw number k = seed number k / 65536

-- draw 1 gives the number of boxes, from 1 to 64
abbrev pub made_count : ℕ → ℕ
made_count number = 1 + draw number 1 % 64

-- a side by draw k, from 1 to 250
abbrev pub made_side : ℕ → ℕ → ℕ
made_side number k = 1 + draw number k % 250

-- box v: the sides of the boxes follow one another, dimension 1 first, each by the next draw
abbrev pub made_box : ℕ → ℕ → PlainBox
made_box number v = record { sides = made_side number (2 * v + 2) ∷ made_side number (2 * v + 3) ∷ []; value = 1 }

-- the made instance of a number
unfoldable pub made_instance : ℕ → PlainInstance
made_instance number = record {
  container = 1000 ∷ 1000 ∷ [];
  kerfs = 0 ∷ 0 ∷ [];
  boxes = map (made_box number) (range_with_len 0 (made_count number));
}
