-- Outer refutations: lists of tokens that show that an instance doesn't fit in k bins, or doesn't
-- reach a value.
--
-- For bins a node says which boxes share a bin, and nothing of which bin that is: the used bins
-- stand in the order of their first use. For a value a node says which boxes are in and which are
-- out.
use Rattle.std.specs.Prelude.{ℕ, zero, suc, pred, ◌+◌, ◌<◌, ◌≤◌, ◌≡◌, ◌==◌, ◌||◌, not, List, [], ◌∷◌, ◌++◌, length, map}
use Rattle.std.specs.Prelude.{Bool, false, Some, None, nat_lt, if◌then◌else◌, slice_index_or}
use Rattle.std.specs.List.{filter, range_with_len, list_any}
use Rattle.packing_terms.specs.declared.ScaleFn.{ScaleFn}
use Rattle.packing_terms.specs.Packing.{PlainInstance, box_count}
use Rattle.packing_terms.specs.Scales.{Exceeds}
use Rattle.packing_terms.specs.Goals.{subset, worth}
use Rattle.packing_terms.specs.Tokens.{PlainToken}
use Rattle.packing_terms.specs.Tokens.PlainToken.{Assign, Choose, SetRefuted, ValueShort, GlobalScales}
use Rattle.packing_terms.specs.Refutation.{Refutes}

-- the used bins in the order of their first use, the boxes of each by rising number
abbrev pub Bins : Type 0
Bins = List (List ℕ)

-- the box put among those of a set, by rising number
abbrev pub insert_box : ℕ → List ℕ → List ℕ
insert_box v [] = v ∷ []
insert_box v (u ∷ us) = if nat_lt v u then v ∷ u ∷ us else u ∷ insert_box v us

-- whether the box is in the set
abbrev pub has_box : ℕ → List ℕ → Bool
has_box v us = list_any (λ u. u == v) us

-- the box put into the used bin of this number
abbrev pub with_box : Bins → ℕ → ℕ → Bins
with_box [] b v = []
with_box (us ∷ bins) zero v = insert_box v us ∷ bins
with_box (us ∷ bins) (suc b) v = us ∷ with_box bins b v

-- the box in each used bin in turn, and then in a new one where fewer than k are used
abbrev pub placements : ℕ → Bins → ℕ → List Bins
placements k bins v =
    map (λ b. with_box bins b v) (range_with_len 0 (length bins))
    ++ (if nat_lt (length bins) k then (bins ++ (v ∷ []) ∷ []) ∷ [] else [])

-- the number of the text names a used bin
pub record IsUsedBin (bins : Bins) (bin : ℕ) : Type 0 where
  pub from : 1 ≤ bin
  pub to : bin ≤ length bins

-- the number of the text names a box that has no bin yet
pub record IsUnplaced (instance : PlainInstance) (bins : Bins) (box_no : ℕ) : Type 0 where
  pub from : 1 ≤ box_no
  pub to : box_no ≤ box_count instance
  pub unplaced : list_any (has_box (pred box_no)) bins ≡ false

-- the boxes of a used bin, by its number in the text
abbrev pub bin_named : Bins → ℕ → List ℕ
bin_named bins bin = slice_index_or bins (pred bin) []

-- The tokens refute the nodes of the list for k bins, one node after another. An outer refutation
-- for k bins refutes the root, where no bin is used.
pub data RefutesBins (instance : PlainInstance) (k : ℕ) : List Bins → List PlainToken → Type 0 where
  none_left : RefutesBins instance k [] []
  by_scales : {bins : Bins} {nodes : List Bins} {fs : List ScaleFn} {z : List PlainToken} → Exceeds instance fs k
      → RefutesBins instance k nodes z → RefutesBins instance k (bins ∷ nodes) (GlobalScales fs ∷ z)
  by_set : {bins : Bins} {nodes : List Bins} {b : ℕ} {x y z : List PlainToken} → IsUsedBin bins b
      → Refutes (subset instance (bin_named bins b)) [] x → z ≡ x ++ y
      → RefutesBins instance k nodes y → RefutesBins instance k (bins ∷ nodes) (SetRefuted (Some b) ∷ z)
  by_box : {bins : Bins} {nodes : List Bins} {v : ℕ} {z : List PlainToken} → IsUnplaced instance bins v
      → RefutesBins instance k (placements k bins (pred v) ++ nodes) z
      → RefutesBins instance k (bins ∷ nodes) (Assign v ∷ z)

-- the tokens show that the instance doesn't fit in k bins
abbrev pub IsBinRefutation : PlainInstance → ℕ → List PlainToken → Type 0
IsBinRefutation instance k tokens = RefutesBins instance k ([] ∷ []) tokens

-- a node for a value: the boxes that are in, by rising number, and those that are out
pub record Choice : Type 0 where
  pub taken : List ℕ
  pub left : List ℕ

-- nothing is decided
abbrev pub no_choice : Choice
no_choice = record { taken = []; left = [] }

-- the boxes that are neither in nor out
abbrev pub undecided : PlainInstance → Choice → List ℕ
undecided instance c =
    filter (λ v. not (has_box v c.taken || has_box v c.left)) (range_with_len 0 (box_count instance))

-- the node with one box more in
abbrev pub with_taken : Choice → ℕ → Choice
with_taken c v = record c { taken = insert_box v c.taken }

-- the node with one box more out
abbrev pub with_left : Choice → ℕ → Choice
with_left c v = record c { left = insert_box v c.left }

-- the number of the text names a box that is neither in nor out
pub record IsOpenBox (instance : PlainInstance) (c : Choice) (box_no : ℕ) : Type 0 where
  pub from : 1 ≤ box_no
  pub to : box_no ≤ box_count instance
  pub not_taken : has_box (pred box_no) c.taken ≡ false
  pub not_left : has_box (pred box_no) c.left ≡ false

-- what is in and what is undecided is together worth less than the goal
abbrev pub IsShort : PlainInstance → ℕ → Choice → Type 0
IsShort instance goal c = worth instance c.taken + worth instance (undecided instance c) < goal

-- The tokens refute the nodes of the list for a value, one node after another. An outer refutation
-- for a value refutes the root, where nothing is decided.
pub data RefutesValue (instance : PlainInstance) (goal : ℕ) : List Choice → List PlainToken → Type 0 where
  none_left : RefutesValue instance goal [] []
  by_value : {c : Choice} {nodes : List Choice} {z : List PlainToken} → IsShort instance goal c
      → RefutesValue instance goal nodes z → RefutesValue instance goal (c ∷ nodes) (ValueShort ∷ z)
  by_set : {c : Choice} {nodes : List Choice} {x y z : List PlainToken} → 1 ≤ length c.taken
      → Refutes (subset instance c.taken) [] x → z ≡ x ++ y
      → RefutesValue instance goal nodes y → RefutesValue instance goal (c ∷ nodes) (SetRefuted None ∷ z)
  by_box : {c : Choice} {nodes : List Choice} {v : ℕ} {z : List PlainToken} → IsOpenBox instance c v
      → RefutesValue instance goal (with_taken c (pred v) ∷ with_left c (pred v) ∷ nodes) z
      → RefutesValue instance goal (c ∷ nodes) (Choose v ∷ z)

-- the tokens show that the instance doesn't reach the value
abbrev pub IsValueRefutation : PlainInstance → ℕ → List PlainToken → Type 0
IsValueRefutation instance goal tokens = RefutesValue instance goal (no_choice ∷ []) tokens
