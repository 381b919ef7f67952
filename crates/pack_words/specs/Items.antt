-- What the words of a command line say, read from left to right: options with their values, and job
-- words.
--
--     fit --workers=8 --budget 5 -- x      fit | workers 8 | budget 5 | x
use Rattle.std.specs.Prelude.{ℕ, ◌==◌, ◌&&◌, Bool, false, List, [], ◌∷◌, Option, Some, None, map, drop, codes}
use Rattle.std.specs.Prelude.{if◌then◌else◌}
use Rattle.std.specs.Str.{bytes_eq}
use Rattle.std.specs.List.{list_any, before_first, after_first}

-- a text, by its bytes
abbrev pub Text : Type 0
Text = List ℕ

-- one thing that the words say
pub data Item : Type 0 where
  option : (name : Text) → (value : Text) → Item
  word : (text : Text) → Item

-- the word ends the options
abbrev pub is_separator : Text → Bool
is_separator w = bytes_eq w (codes "--")

abbrev pub begins_with_hyphen : Text → Bool
begins_with_hyphen [] = false
begins_with_hyphen (b ∷ bs) = b == 45

abbrev pub begins_with_two_hyphens : Text → Bool
begins_with_two_hyphens [] = false
begins_with_two_hyphens (b ∷ bs) = (b == 45) && begins_with_hyphen bs

abbrev pub option_names : List Text
option_names = codes "workers" ∷ codes "budget" ∷ codes "scales" ∷ codes "number" ∷ codes "proposals"
    ∷ codes "facts" ∷ codes "bounds" ∷ []

abbrev pub is_option_name : Text → Bool
is_option_name name = list_any (λ n. bytes_eq n name) option_names

abbrev pub is_equals : ℕ → Bool
is_equals b = b == 61

-- the name in `--NAME` or `--NAME=VALUE`
abbrev pub option_name : Text → Text
option_name w = before_first is_equals (drop 2 w)

-- the value in `--NAME=VALUE`, which is the text after the first `=`
abbrev pub option_value : Text → Option Text
option_value w = if list_any is_equals (drop 2 w) then Some (after_first is_equals (drop 2 w)) else None

-- an item before others, where they are some
abbrev pub before : Item → Option (List Item) → Option (List Item)
before item None = None
before item (Some items) = Some (item ∷ items)

-- an option before others; without a value in its own word it waits for the next word
abbrev pub valued : Text → Option Text → (Option Text → Option (List Item)) → Option (List Item)
valued name (Some value) rest = before (option name value) (rest None)
valued name None rest = rest (Some name)

-- The items of these words, where an option may wait for its value. There are none where an option
-- has no value, or one that begins with `-`, and where another word than an option begins with `-`.
-- Behind `--` each word is a job word.
abbrev pub items_from : Option Text → List Text → Option (List Item)
items_from None [] = Some []
items_from (Some name) [] = None
items_from (Some name) (w ∷ ws) = if begins_with_hyphen w then None else before (option name w) (items_from None ws)
items_from None (w ∷ ws) =
    if is_separator w then Some (map word ws)
    else (if begins_with_two_hyphens w && is_option_name (option_name w) then valued (option_name w) (option_value w)
    (λ waits. items_from waits ws)
    else (if begins_with_hyphen w then None
    else before (word w) (items_from None ws)))
