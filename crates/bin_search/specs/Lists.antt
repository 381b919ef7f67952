-- Lists of vectors, as lists of lists.
use Rattle.std.specs.Prelude.{ℕ, pred, List, length, map, take, slice_set, Option, Some, None, Vec}
use Rattle.std.specs.Option.{option_map}
use Rattle.std.specs.declared.alloc.Global.{Global}

-- the lists of a list
abbrev pub lists_of : List (Vec ℕ Global) → List (List ℕ)
lists_of lists = map (λ list. list.items) lists

-- what stood in the place of a list, if any
abbrev pub list_before : Option (Vec ℕ Global) → Option (List ℕ)
list_before before = option_map (λ list. list.items) before

-- the lists before one of them was replaced, or was put behind the others
abbrev pub restored : List (List ℕ) → ℕ → Option (List ℕ) → List (List ℕ)
restored lists at (Some list) = slice_set lists at list
restored lists at None = take (pred (length lists)) lists
