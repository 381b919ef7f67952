-- Weights of chains that a state keeps for its closings, and what they were at the ends of earlier
-- closings.
use Rattle.std.specs.Prelude.{ℕ, zero, suc, ◌≡◌, ◌+◌, ◌-◌, ◌<◌, ◌≤◌, List, [], ◌∷◌, length, drop, set, slice_index, slice_index_or}
use Rattle.std.specs.Prelude.{false}
use Rattle.std.specs.List.{AllByRecursion}
use Rattle.packing_terms.specs.declared.Exclusion.{Exclusion}
use Rattle.packing_terms.specs.declared.Direction.{Direction}
use Rattle.packing_terms.specs.declared.Direction.TheVariants.{Forwards, Backwards}
use Rattle.packing_terms.specs.declared.Rel.TheVariants.{Before}
use Rattle.packing_terms.specs.Packing.{PlainInstance, dims, box_count, side, container_side}
use Rattle.packing_terms.specs.Exclusions.{excludes, Exclusions}
use Rattle.packing_terms.specs.Runs.{HasNoHeavierRun, Leads, most_weight}
use Rattle.edge_state.specs.Edges.{oldest}
use Rattle.edge_state.specs.declared.chain_weights.Raise.{Raise}
use Rattle.edge_state.specs.declared.chain_weights.ClosingEnd.{ClosingEnd}

-- Some walk that starts in a box has this weight: `R` leads from each box to the next, which is
-- another one, and a box may come again. Within a worklist `R` isn't transitive yet, so weights are
-- of walks. If `R` is transitive and goes one way, each walk is a run.
pub data IsWalk (n : ℕ) (R : ℕ → ℕ → Type 0) (w : ℕ → ℕ) : ℕ → ℕ → Type 0 where
  alone : (v : ℕ) → v < n → IsWalk n R w v (w v)
  further : (v x k : ℕ) → v < n → (v ≡ x → ⊥) → R v x → IsWalk n R w x k → IsWalk n R w v (w v + k)

-- for each box its number is the weight of a walk that starts in it
abbrev pub AreWalks : ℕ → (ℕ → ℕ → Type 0) → (ℕ → ℕ) → List ℕ → Type 0
AreWalks n R w ks = (v : ℕ) → v < n → IsWalk n R w v (slice_index ks v)

-- for each two boxes the number of the first can't be raised by that of the second
abbrev pub AreSettled : ℕ → (ℕ → ℕ → Type 0) → (ℕ → ℕ) → List ℕ → Type 0
AreSettled n R w ks = (v x : ℕ) → v < n → x < n → HasNoHeavierRun R w ks v x

-- if the first of two boxes may be before the second, they fit: the weight of the chains that end in
-- the first and that of the chains that start in the second are together within the limit
abbrev pub FitsBefore : ℕ → Exclusions → ℕ → List ℕ → List ℕ → ℕ → ℕ → Type 0
FitsBefore i X limit head tail u v = (u ≡ v → ⊥) → X i u v Before ≡ false
    → slice_index head u + slice_index tail v ≤ limit

-- the index of the list for the chains of a dimension that end in each box, or that start in it
abbrev pub list_number : Direction → ℕ → ℕ
list_number Backwards i = i
list_number Forwards i = 4 + i

-- the weights of one direction and dimension
abbrev pub weights_in : List (List ℕ) → Direction → ℕ → List ℕ
weights_in numbers direction i = slice_index_or numbers (list_number direction i) []

-- the numbers with one of them replaced
abbrev pub with_number : List (List ℕ) → (list at number : ℕ) → List (List ℕ)
with_number numbers list at number = set numbers list (set (slice_index_or numbers list []) at number)

-- the weights are settled weights of walks by these exclusions, and each two boxes fit
pub record AreGood (n i : ℕ) (X : Exclusions) (w : ℕ → ℕ) (limit : ℕ) (numbers : List (List ℕ)) : Type 0 where
  pub walks : (direction : Direction) → AreWalks n (Leads X i direction) w (weights_in numbers direction i)
  pub settled : (direction : Direction) → AreSettled n (Leads X i direction) w (weights_in numbers direction i)
  pub fit : (u v : ℕ) → u < n → v < n
      → FitsBefore i X limit (weights_in numbers Backwards i) (weights_in numbers Forwards i) u v

-- the numbers after the newest raises of the log are taken back
abbrev pub taken_back : ℕ → List (List ℕ) → List Raise → List (List ℕ)
taken_back zero numbers log = numbers
taken_back (suc k) numbers [] = numbers
taken_back (suc k) numbers (r ∷ log) = taken_back k (with_number numbers r.list r.at r.old) log

-- The view of weights: the sides of their container and boxes, the lists of numbers, the log of
-- raises and the ends of closings, both newest first.
pub record PlainWeights : Type 0 where
  pub limits : List ℕ
  pub sides : List (List ℕ)
  pub numbers : List (List ℕ)
  pub log : List Raise
  pub ends : List ClosingEnd

-- the end of a closing has a mark up to `last`, and the numbers at that end were good for the state
-- there
pub record HoldsAt (d n : ℕ) (limits : List ℕ) (sides : List (List ℕ)) (es : List Exclusion) (last : ℕ)
    (numbers : List (List ℕ)) (log : List Raise) (end : ClosingEnd) : Type 0 where
  pub within : end.mark ≤ last
  pub raised : end.raises ≤ length log
  pub good : (i : ℕ) → i < d → AreGood n i (excludes (oldest end.mark es)) (λ u. slice_index (slice_index_or sides u []) i)
      (slice_index limits i) (taken_back (length log - end.raises) numbers log)

-- at each end the numbers were good, and no end has a later mark than a newer one
abbrev pub HoldBack : (d n : ℕ) (limits : List ℕ) (sides : List (List ℕ)) → List Exclusion → (last : ℕ)
    → (numbers : List (List ℕ)) → List Raise → List ClosingEnd → Type 0
HoldBack d n limits sides es last numbers log [] = Unit {0}
HoldBack d n limits sides es last numbers log (end ∷ ends) =
    HoldsAt d n limits sides es last numbers log end
    × HoldBack d n limits sides es end.mark (taken_back (length log - end.raises) numbers log)
    (drop (length log - end.raises) log) ends

-- taken back to any end of a closing, the weights are good for the state at its mark
abbrev pub AreOf : (d n : ℕ) → List Exclusion → PlainWeights → Type 0
AreOf d n es k = HoldBack d n k.limits k.sides es (length es) k.numbers k.log k.ends

-- the weights are of the sides of this container and these boxes
pub record AreForInstance (instance : PlainInstance) (k : PlainWeights) : Type 0 where
  pub limits : (i : ℕ) → i < dims instance → slice_index k.limits i ≡ container_side instance i
  pub sides : (u i : ℕ) → u < box_count instance → i < dims instance
      → slice_index (slice_index_or k.sides u []) i ≡ side instance u i

-- The sides stay, and at each end of a closing the numbers stay what they were. The numbers now and
-- the log may differ.
pub record IsSameHistory (old new : PlainWeights) : Type 0 where
  pub limits : new.limits ≡ old.limits
  pub sides : new.sides ≡ old.sides
  pub held : (d n : ℕ) (es : List Exclusion) → AreOf d n es old → AreOf d n es new

-- an entry of the log names a list and a box, and a number up to the greatest weight
pub record IsLogged (r : Raise) : Type 0 where
  pub list : r.list < 8
  pub at : r.at < 128
  pub small : r.old ≤ most_weight

-- There are eight lists of 128 numbers, none above the greatest weight, now or in the log, and four
-- sides for each of 128 boxes; `log_room` and `end_room` are the capacities.
pub record AreSized (k : PlainWeights) (log_room end_room : ℕ) : Type 0 where
  pub lists : length k.numbers ≡ 8
  pub each : (list : ℕ) → list < 8 → length (slice_index_or k.numbers list []) ≡ 128
  pub small : (list at : ℕ) → slice_index (slice_index_or k.numbers list []) at ≤ most_weight
  pub raises : AllByRecursion IsLogged k.log
  pub sides : length k.sides ≡ 128
  pub each_side : (u : ℕ) → u < 128 → length (slice_index_or k.sides u []) ≡ 4
  pub limits : length k.limits ≡ 4
  pub log_memory : 4096 ≤ log_room
  pub end_memory : 1024 ≤ end_room

-- the end is the newest of the list
pub record IsNewestEnd (ends : List ClosingEnd) (end : ClosingEnd) : Type 0 where
  pub older : List ClosingEnd
  pub first : ends ≡ end ∷ older

-- in each dimension the weights are good by these exclusions, for these boxes and this container
abbrev pub AreGoodFor : PlainInstance → Exclusions → List (List ℕ) → Type 0
AreGoodFor instance X numbers = (i : ℕ) → i < dims instance
    → AreGood (box_count instance) i X (λ u. side instance u i) (container_side instance i) numbers
