-- The splits on the path to the current node of an outer tree, the newest first, as a refuter holds
-- them: for each its box, which of its children is on the path, how many it has, and for bins how many
-- are used at its node.
use Rattle.std.specs.Prelude.{ℕ, ◌≡◌, suc, ◌<◌, ◌≤◌, ◌==◌, ◌&&◌, ◌^◌, Bool, true, false, not, max, nat_lt}
use Rattle.std.specs.Prelude.{if◌then◌else◌, List, [], ◌∷◌}
use Rattle.std.specs.List.{list_any, filter, range_with_len}
use Rattle.packing_terms.specs.Limits.{IsBoxCount}
use Rattle.outer_check.specs.declared.path.Frame.{Frame}

-- the number of boxes of the instance, and the splits
pub record PlainPath : Type 0 where
  pub boxes : ℕ
  pub frames : List Frame

-- a split by the box of the text, on to the first of `children` children
abbrev pub first_split : ℕ → ℕ → ℕ → Frame
first_split box_no children used = record { box_no = box_no; child = 0; children = children; used = used }

-- whether some split is by the box of the text
abbrev pub is_decided : List Frame → ℕ → Bool
is_decided frames box_no = list_any (λ (f : Frame). f.box_no == box_no) frames

-- whether some split puts the box, counted from 0, into its child of this number
abbrev pub is_put : List Frame → ℕ → ℕ → Bool
is_put frames child v = list_any (λ (f : Frame). (f.box_no == suc v) && (f.child == child)) frames

-- whether some split puts its box into its child of this number
abbrev pub is_some_put : List Frame → ℕ → Bool
is_some_put frames child = list_any (λ (f : Frame). f.child == child) frames

-- the boxes that the splits put into their child of this number, by rising number
abbrev pub boxes_put : ℕ → List Frame → ℕ → List ℕ
boxes_put n frames child = filter (λ v. is_put frames child v) (range_with_len 0 n)

-- the boxes that no split is by, by rising number
abbrev pub open_boxes : ℕ → List Frame → List ℕ
open_boxes n frames = filter (λ v. not (is_decided frames (suc v))) (range_with_len 0 n)

-- how many bins are used behind the newest split: its child of the greatest number is a new bin
abbrev pub used_behind : List Frame → ℕ
used_behind [] = 0
used_behind (f ∷ frames) = max f.used (suc f.child)

-- the path on to the next child of the newest split that has one
abbrev pub next_frames : List Frame → List Frame
next_frames [] = []
next_frames (f ∷ frames) = if nat_lt (suc f.child) f.children then record f { child = suc f.child }
    ∷ frames else next_frames frames

-- each split is by a box of the text that is there, and has the child on the path
abbrev pub AreSplits : ℕ → List Frame → Type 0
AreSplits n [] = Unit {0}
AreSplits n (f ∷ frames) = (1 ≤ f.box_no) × (f.box_no ≤ n) × (f.child < f.children) × (f.children < 2 ^ 32)
    × AreSplits n frames

-- no split is by the box of an older one
abbrev pub HaveDistinctBoxes : List Frame → Type 0
HaveDistinctBoxes [] = Unit {0}
HaveDistinctBoxes (f ∷ frames) = (is_decided frames f.box_no ≡ false) × HaveDistinctBoxes frames

-- the splits are by boxes that are there, each by another one
pub record ArePath (p : PlainPath) : Type 0 where
  pub splits : AreSplits p.boxes p.frames
  pub apart : HaveDistinctBoxes p.frames

-- what a path keeps: room for a split by each box
pub record IsKept (p : PlainPath) (capacity : ℕ) : Type 0 where
  pub path : ArePath p
  pub boxes : IsBoxCount p.boxes
  pub room : p.boxes ≤ capacity

-- whether a split is left
abbrev pub is_some_frame : List Frame → Bool
is_some_frame [] = false
is_some_frame (f ∷ frames) = true

-- it is the newest split
abbrev pub IsNewest : List Frame → Frame → Type 0
IsNewest frames frame = (older : List Frame) × (frames ≡ frame ∷ older)
