-- Sets of boxes that no exchange makes better.
--
-- Box u comes before box v if no side of u is longer and u is worth no less; of two boxes that are
-- equal in all of these, the one of the lower number comes before the other. If a set that fits has
-- v and not u, then u in the place of v makes a set that fits too, and is worth no less. So some
-- set of the greatest value has with each of its boxes all that come before it: it is complete.
--
--     container 10 10, boxes: 0: 6 6 of value 5   1: 6 7 of value 5   2: 6 6 of value 5
--     0 comes before 1 and 2, and 2 comes before 1; complete sets: none, 0, 0 2, 0 1 2
--
-- Source: dominance between the items of a knapsack (Martello and Toth, "Knapsack Problems", 1990).
use Rattle.std.specs.Prelude.{ℕ, pred, ◌<◌, ◌≤◌, Bool, not, ◌&&◌, ◌||◌, nat_le, nat_lt, List, IsTrue}
use Rattle.std.specs.List.{list_all, range_with_len}
use Rattle.packing_terms.specs.Packing.{PlainInstance, dims, box_count, side, value}
use Rattle.packing_terms.specs.OuterRefutation.{Choice, has_box}

-- whether no side of box u is longer than that of box v
abbrev pub is_no_longer : PlainInstance → ℕ → ℕ → Bool
is_no_longer instance u v =
    list_all (λ i. nat_le (side instance u i) (side instance v i)) (range_with_len 0 (dims instance))

-- whether box u can take the place of box v in any set that fits, and is worth no less
abbrev pub replaces : PlainInstance → ℕ → ℕ → Bool
replaces instance u v = is_no_longer instance u v && nat_le (value instance v) (value instance u)

-- whether box u comes before box v: it replaces it, and of two boxes that replace each other it has
-- the lower number
abbrev pub comes_before : PlainInstance → ℕ → ℕ → Bool
comes_before instance u v = replaces instance u v && (not (replaces instance v u) || nat_lt u v)

-- the set has with each of its boxes all that come before it
abbrev pub IsComplete : PlainInstance → List ℕ → Type 0
IsComplete instance keep =
    (u v : ℕ) → u < box_count instance → IsTrue (comes_before instance u v) → IsTrue (has_box v keep)
    → IsTrue (has_box u keep)

-- At the node, box u of the text is out, and box v, which u comes before, is in. So no complete set
-- has what is in and misses what is out.
pub record IsExchange (instance : PlainInstance) (c : Choice) (u v : ℕ) : Type 0 where
  pub out_from : 1 ≤ u
  pub out_to : u ≤ box_count instance
  pub in_from : 1 ≤ v
  pub in_to : v ≤ box_count instance
  pub out : IsTrue (has_box (pred u) c.left)
  pub taken : IsTrue (has_box (pred v) c.taken)
  pub before : IsTrue (comes_before instance (pred u) (pred v))
