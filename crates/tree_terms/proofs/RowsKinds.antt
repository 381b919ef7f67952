-- Rows of kinds that the other rows lack: several boxes that are too large, equal volumes, three
-- and four dimensions, the last side 0, a kerf in a
-- strip, one bin for each box, values 0, and a box that fits no container.
use Rattle.std.proofs.Common.{◌≡◌, ℕ, refl, List, [], ◌∷◌, None, true, false}
use Rattle.packing_terms.specs.declared.ScaleFn.TheVariants.{Id, Step}
use Rattle.packing_terms.specs.Packing.{PlainInstance, PlainBox}
use Rattle.packing_terms.specs.Goals.{with_last_side}
use Rattle.packing_terms.specs.Tokens.PlainToken.{Rules, TooLarge, SetRefuted, Choose, ValueShort, GlobalScales}
use Rattle.tree_terms.specs.Trees.{Yes, No, outcome}
use Rattle.packing_terms.specs.Rank.{ranked}
use Rattle.tree_terms.specs.ClassTree.{class_tree}
use Rattle.tree_terms.specs.Levels.{height_run, bin_run, value_run}

abbrev box : List ℕ → PlainBox
box sides = record { sides = sides; value = 1 }

abbrev worth_box : List ℕ → ℕ → PlainBox
worth_box sides value = record { sides = sides; value = value }

-- an instance without kerfs
abbrev plain : List ℕ → List ℕ → List PlainBox → PlainInstance
plain container kerfs boxes = record { container = container; kerfs = kerfs; boxes = boxes }

abbrev flat : List ℕ
flat = 0 ∷ 0 ∷ []

abbrev solid : List ℕ
solid = 0 ∷ 0 ∷ 0 ∷ []

abbrev four : List ℕ
four = 0 ∷ 0 ∷ 0 ∷ 0 ∷ []

-- the first of several boxes that are too large, and its first such dimension; it comes before a conflict
several_too_large : outcome (class_tree
    (plain (5 ∷ 5 ∷ []) flat (box (2 ∷ 2 ∷ []) ∷ box (6 ∷ 3 ∷ []) ∷ box (7 ∷ 7 ∷ []) ∷ [])) [] true)
    ≡ No (TooLarge 2 1 ∷ []) 0
several_too_large = refl

too_large_in_the_second : outcome
    (class_tree (plain (5 ∷ 5 ∷ []) flat (box (3 ∷ 9 ∷ []) ∷ box (9 ∷ 9 ∷ []) ∷ [])) [] true) ≡ No (TooLarge 1 2 ∷ []) 0
too_large_in_the_second = refl

too_large_before_a_conflict : outcome
    (class_tree (plain (4 ∷ 4 ∷ 4 ∷ []) solid (box (3 ∷ 3 ∷ 3 ∷ []) ∷ box (3 ∷ 3 ∷ 5 ∷ []) ∷ [])) [] true)
    ≡ No (TooLarge 2 3 ∷ []) 0
too_large_before_a_conflict = refl

-- no last side
last_side_zero : outcome (class_tree
    (with_last_side (plain (5 ∷ 9 ∷ []) flat (box (3 ∷ 3 ∷ []) ∷ box (3 ∷ 2 ∷ []) ∷ [])) 0) [] true)
    ≡ No (TooLarge 1 2 ∷ []) 0
last_side_zero = refl

-- four dimensions
two_in_four : outcome (class_tree
    (plain (4 ∷ 2 ∷ 2 ∷ 2 ∷ []) four (box (2 ∷ 2 ∷ 2 ∷ 2 ∷ []) ∷ box (2 ∷ 2 ∷ 2 ∷ 2 ∷ []) ∷ [])) [] true)
    ≡ Yes (0 ∷ 0 ∷ 0 ∷ 0 ∷ 2 ∷ 0 ∷ 0 ∷ 0 ∷ []) 1
two_in_four = refl

conflict_in_four : outcome (class_tree
    (plain (4 ∷ 4 ∷ 4 ∷ 4 ∷ []) four (box (3 ∷ 3 ∷ 3 ∷ 3 ∷ []) ∷ box (3 ∷ 3 ∷ 3 ∷ 3 ∷ []) ∷ [])) [] true)
    ≡ No (Rules ∷ []) 0
conflict_in_four = refl

-- equal volumes, which stand by their numbers
abbrev equal_volumes : PlainInstance
equal_volumes = plain (6 ∷ 5 ∷ []) flat (box (2 ∷ 3 ∷ []) ∷ box (3 ∷ 2 ∷ []) ∷ box (6 ∷ 1 ∷ []) ∷ [])

equal_ranked : ranked equal_volumes ≡ 0 ∷ 1 ∷ 2 ∷ []
equal_ranked = refl

equal_placed : outcome (class_tree equal_volumes [] true) ≡ Yes (0 ∷ 0 ∷ 2 ∷ 0 ∷ 0 ∷ 3 ∷ []) 2
equal_placed = refl

three_in_a_slab : outcome (class_tree
    (plain (3 ∷ 3 ∷ 2 ∷ []) solid (box (2 ∷ 2 ∷ 2 ∷ []) ∷ box (1 ∷ 3 ∷ 2 ∷ []) ∷ box (2 ∷ 1 ∷ 2 ∷ []) ∷ [])) [] true)
    ≡ Yes (0 ∷ 0 ∷ 0 ∷ 2 ∷ 0 ∷ 0 ∷ 0 ∷ 2 ∷ 0 ∷ []) 2
three_in_a_slab = refl

-- strips, with the last side left unread: in three dimensions, with kerfs, and without a branching
strip_in_three : height_run (plain (4 ∷ 4 ∷ 1 ∷ []) solid (box (2 ∷ 4 ∷ 2 ∷ []) ∷ box (2 ∷ 4 ∷ 3 ∷ []) ∷ []))
    1000000 true
    ≡ record {
      refuted = 2;
      tokens = TooLarge 2 3 ∷ [];
      placed = 3;
      numbers = 0 ∷ 0 ∷ 0 ∷ 2 ∷ 0 ∷ 0 ∷ [];
      spent = false;
    }
strip_in_three = refl

strip_with_kerfs : height_run (plain (6 ∷ 1 ∷ []) (1 ∷ 1 ∷ []) (box (5 ∷ 2 ∷ []) ∷ box (5 ∷ 3 ∷ []) ∷ [])) 1000000 true
    ≡ record { refuted = 5; tokens = Rules ∷ []; placed = 6; numbers = 0 ∷ 0 ∷ 0 ∷ 3 ∷ []; spent = false }
strip_with_kerfs = refl

strip_between : height_run (plain (5 ∷ 1 ∷ []) flat
    (box (3 ∷ 3 ∷ []) ∷ box (3 ∷ 2 ∷ []) ∷ box (2 ∷ 4 ∷ []) ∷ [])) 0 true
    ≡ record { refuted = 4; tokens = Rules ∷ []; placed = 9; numbers = 0 ∷ 0 ∷ 0 ∷ 3 ∷ 0 ∷ 5 ∷ []; spent = true }
strip_between = refl

-- one box, and a bin for each box without a branching
one_bin : bin_run (plain (5 ∷ 5 ∷ []) flat (box (5 ∷ 5 ∷ []) ∷ [])) 1000000 true
    ≡ record {
      refuted = 0;
      tokens = GlobalScales (Id ∷ Id ∷ []) ∷ [];
      placed = 1;
      numbers = 0 ∷ 0 ∷ 0 ∷ [];
      spent = false;
    }
one_bin = refl

bin_for_each : bin_run (plain (5 ∷ 5 ∷ []) flat (box (3 ∷ 3 ∷ []) ∷ box (3 ∷ 3 ∷ []) ∷ box (3 ∷ 3 ∷ []) ∷ [])) 0 true
    ≡ record {
      refuted = 2;
      tokens = GlobalScales (Step 1 ∷ Step 1 ∷ []) ∷ [];
      placed = 3;
      numbers = 0 ∷ 0 ∷ 0 ∷ 1 ∷ 0
          ∷ 0 ∷ 2 ∷ 0 ∷ 0 ∷ [];
      spent = false;
    }
bin_for_each = refl

-- values 0: nothing is taken, and the level 1 is refuted by the values alone
values_zero : value_run (plain (5 ∷ 5 ∷ []) flat (worth_box (3 ∷ 3 ∷ []) 0 ∷ worth_box (3 ∷ 3 ∷ []) 0 ∷ []))
    1000000 true
    ≡ record { refuted = 1; tokens = ValueShort ∷ []; placed = 0; numbers = []; spent = false }
values_zero = refl

-- a box that fits no container is left out
too_long_is_left : value_run (plain (5 ∷ 5 ∷ []) flat (worth_box (6 ∷ 1 ∷ []) 7 ∷ worth_box (2 ∷ 2 ∷ []) 2 ∷ []))
    1000000 true
    ≡ record {
      refuted = 3;
      tokens = Choose 1 ∷ SetRefuted None ∷ TooLarge 1 1 ∷ ValueShort ∷ [];
      placed = 2;
      numbers = 1 ∷ 0 ∷ 0 ∷ [];
      spent = false;
    }
too_long_is_left = refl

value_in_three : value_run (plain (4 ∷ 4 ∷ 4 ∷ []) solid
    (worth_box (3 ∷ 3 ∷ 3 ∷ []) 2 ∷ worth_box (3 ∷ 3 ∷ 3 ∷ []) 5 ∷ [])) 1000000 true
    ≡ record {
      refuted = 6;
      tokens = Choose 1 ∷ Choose 2 ∷ SetRefuted None ∷ Rules ∷ ValueShort ∷ ValueShort ∷ [];
      placed = 5;
      numbers = 1 ∷ 0 ∷ 0 ∷ 0 ∷ [];
      spent = false;
    }
value_in_three = refl
