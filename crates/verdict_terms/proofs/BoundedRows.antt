-- Shares, priced out nodes and exchanges of small instances, computed from the definitions.
use Rattle.std.proofs.Common.{◌≡◌, ℕ, refl, true, false, List, [], ◌∷◌, ltb, Some, None}
use Rattle.packing_terms.specs.declared.ScaleFn.{ScaleFn}
use Rattle.packing_terms.specs.declared.ScaleFn.TheVariants.{Id, Step, Count}
use Rattle.packing_terms.specs.Packing.{PlainInstance, PlainBox}
use Rattle.packing_terms.specs.OuterRefutation.{Choice}
use Rattle.verdict_terms.specs.declared.check_answers.RefuseCode.TheVariants.{Range, Choice as NotOpen}
use Rattle.verdict_terms.specs.Exchanges.{comes_before}
use Rattle.verdict_terms.specs.BoundedJudging.{exchange_refusal}
use Rattle.verdict_terms.specs.Shares.{share, shares, fits_alone, gain, supply, demand}

abbrev box : ℕ → ℕ → ℕ → PlainBox
box a b worth = record { sides = a ∷ b ∷ []; value = worth }

-- four squares, of which one fits
abbrev pub squares : PlainInstance
squares = record {
  container = 10 ∷ 10 ∷ [];
  kerfs = 0 ∷ 0 ∷ [];
  boxes = box 6 6 5 ∷ box 6 6 5 ∷ box 6 6 5 ∷ box 6 6 5 ∷ [];
}

abbrev areas : List ScaleFn
areas = Id ∷ Id ∷ []

abbrev pub halves : List ScaleFn
halves = Step 1 ∷ Step 1 ∷ []

-- 36 of 100
area_share : share squares areas 0 ≡ 360000000
area_share = refl

-- a side above half of the container's has the whole as its image
half_share : share squares halves 0 ≡ 1000000000
half_share = refl

-- by areas less than 14 is reached: with 360000000 for a unit of value and 5 for a share nothing
-- gains, and the container's shares cost 5000000000
area_gain : gain squares areas 360000000 5 0 ≡ 0
area_gain = refl

area_supply : supply squares areas 360000000 5 [] (0 ∷ 1 ∷ 2 ∷ 3 ∷ []) ≡ 5000000000
area_supply = refl

area_demand_of_13 : demand squares areas 360000000 5 [] 13 ≡ 4680000000
area_demand_of_13 = refl

area_demand_of_14 : demand squares areas 360000000 5 [] 14 ≡ 5040000000
area_demand_of_14 = refl

-- by halves less than 6, which is exact
half_supply : supply squares halves 1000000000 5 [] (0 ∷ 1 ∷ 2 ∷ 3 ∷ []) ≡ 5000000000
half_supply = refl

half_demand_of_5 : demand squares halves 1000000000 5 [] 5 ≡ 5000000000
half_demand_of_5 = refl

half_demand_of_6 : demand squares halves 1000000000 5 [] 6 ≡ 6000000000
half_demand_of_6 = refl

-- with one box in, its share and its value stand on the two sides
half_supply_with_one : supply squares halves 1000000000 5 (0 ∷ []) (1 ∷ 2 ∷ 3 ∷ []) ≡ 10000000000
half_supply_with_one = refl

half_demand_with_one : demand squares halves 1000000000 5 (0 ∷ []) 6 ≡ 11000000000
half_demand_with_one = refl

-- a box of more value for its share gains: 5 of 360000000 and 9 of 100000000
abbrev mixed : PlainInstance
mixed = record {
  container = 10 ∷ 10 ∷ [];
  kerfs = 0 ∷ 0 ∷ [];
  boxes = box 6 6 5 ∷ box 2 5 9 ∷ box 11 1 7 ∷ [];
}

mixed_gain : gain mixed areas 360000000 5 1 ≡ 2740000000
mixed_gain = refl

-- a box that is too long counts as out
too_long : fits_alone mixed 2 ≡ false
too_long = refl

too_long_gain : gain mixed areas 360000000 5 2 ≡ 0
too_long_gain = refl

-- shares are rounded down, and kerfs belong to the sides: 3 of 7
abbrev thirds : PlainInstance
thirds = record { container = 6 ∷ 1 ∷ []; kerfs = 1 ∷ 0 ∷ []; boxes = box 2 1 1 ∷ [] }

rounded_share : share thirds areas 0 ≡ 428571428
rounded_share = refl

-- three of seven copies of it are below the whole by what was rounded off
count_share : shares thirds (Count 2 ∷ Id ∷ []) (0 ∷ []) ≡ 333333333
count_share = refl

-- what `q` of 0 says: the boxes that are in exceed, whatever the goal
in_exceeds : ltb (supply squares halves 0 1 (0 ∷ 1 ∷ []) (2 ∷ 3 ∷ [])) (demand squares halves 0 1 (0 ∷ 1 ∷ []) 0) ≡ true
in_exceeds = refl

-- ---- exchanges

-- of equal boxes the lower number comes first, and no box before itself
equal_boxes : comes_before squares 0 1 ≡ true
equal_boxes = refl

equal_boxes_turned : comes_before squares 1 0 ≡ false
equal_boxes_turned = refl

itself : comes_before squares 1 1 ≡ false
itself = refl

-- a smaller box that is worth more comes before a larger one of a lower number
smaller : comes_before mixed 1 0 ≡ true
smaller = refl

-- a box with one longer side doesn't, though it is worth more and has less area
longer : comes_before mixed 2 0 ≡ false
longer = refl

-- nor does a smaller box that is worth less
less_worth : comes_before (record squares { boxes = box 2 2 4 ∷ box 6 6 5 ∷ [] }) 0 1 ≡ false
less_worth = refl

-- the leaf names the box that is out, and then the one that is in
abbrev second_in : Choice
second_in = record { taken = 1 ∷ []; left = 0 ∷ [] }

exchange_open : exchange_refusal squares second_in 1 2 ≡ None
exchange_open = refl

exchange_turned : exchange_refusal squares second_in 2 1 ≡ Some NotOpen
exchange_turned = refl

exchange_undecided : exchange_refusal squares (record second_in { left = [] }) 1 2 ≡ Some NotOpen
exchange_undecided = refl

exchange_out_of_range : exchange_refusal squares second_in 0 5 ≡ Some Range
exchange_out_of_range = refl
