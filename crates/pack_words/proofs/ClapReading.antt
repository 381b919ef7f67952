-- How `clap` reads the words of the command line.
use Rattle.std.specs.Prelude.{ℕ, List, [], ◌∷◌, ◌++◌, Option, Some, None, Bool, false, if◌then◌else◌, codes, is_some}
use Rattle.std.specs.Prelude.{map, option_and_then, slice_get}
use Rattle.std.specs.Str.{bytes_eq, chars}
use Rattle.std.specs.Option.{option_map_or}
use Rattle.clap.specs.Walk.{Text, Row, has_row}
use Rattle.clap.specs.Takes.{is_given}
use Rattle.clap.specs.Lexer.{long_of, short_of}
use Rattle.clap.specs.declared.parser.matches.ValueSource.TheVariants.{CommandLine}
use Rattle.clap.specs.declared.builder.value_parser.Reading.TheVariants as reading
use Rattle.pack_words.specs.Items.{Item, before, valued, is_option_name}
use Rattle.pack_words.specs.Items as item

-- the row of one use
abbrev pub row : Text → Text → Row
row id value = record {
  id = id;
  values = value ∷ [];
  count = None;
  source = Some CommandLine;
  reading = reading.AsWritten;
}

abbrev pub place : List Row → Text → Text → Option (List Row)
place rows id v = if has_row id rows then None else Some (rows ++ row id v ∷ [])

abbrev pub finish : List Row → List Item → Option (List Row)
finish rows [] = if is_given (codes "job") rows then Some rows else None
finish rows (item.option name v ∷ items) = option_and_then (λ rs. finish rs items) (place rows name v)
finish rows (item.word text ∷ items) = option_and_then (λ rs. finish rs items) (place rows (codes "job") text)

abbrev pub dashes : Text
dashes = 45 ∷ 45 ∷ []

-- the first character of what follows one `-`
abbrev pub first_flag : Text → Option ℕ
first_flag flags = slice_get (chars flags) 0

abbrev pub is_flag : Text → Bool
is_flag w = option_map_or (λ flags. is_some (first_flag flags)) (short_of w) false

-- a word that begins with `--`, by its name and its value
abbrev pub dashed : Option (Text × Option Text) → (Option Text → Option (List Item)) → Option (List Item)
dashed None next = None
dashed (Some p) next = if is_option_name p.0 then valued p.0 p.1 next else None

abbrev pub read_other : Option (Text × Option Text) → Bool → Text → (Option Text → Option (List Item))
    → Option (List Item)
read_other (Some p) flag w go = dashed (Some p) go
read_other None flag w go = if flag then None else before (item.word w) (go None)

abbrev pub reads : Option Text → List Text → Option (List Item)
reads None [] = Some []
reads (Some name) [] = None
reads None (w ∷ ws) =
    if bytes_eq w dashes then Some (map item.word ws) else read_other (long_of w) (is_flag w) w
    (λ wanted. reads wanted ws)
reads (Some name) (w ∷ ws) =
    if bytes_eq w dashes then None
    else (if is_some (long_of w) then None else
    (if is_flag w then None else before (item.option name w) (reads None ws)))

abbrev pub expect : Option (List Row) → Option (List Item) → Option (List Row)
expect settled_rows r = option_and_then (λ items. option_and_then (λ rs. finish rs items) settled_rows) r

-- the rows of these words, where they are well formed
abbrev pub rows_said : List Text → Option (List Row)
rows_said words = expect (Some []) (reads None words)
