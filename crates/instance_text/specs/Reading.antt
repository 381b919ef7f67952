-- What the calls that read a line give.
use Rattle.std.specs.Prelude.{ℕ, ◌+◌, ◌≡◌, Bool, true, replicate, List, ◌++◌, map, Option, Some, None, Result, Ok, Err}
use Rattle.std.specs.Prelude.{Vec}
use Rattle.std.specs.declared.alloc.Global.{Global}
use Rattle.std.specs.Prelude.{◌⊎◌}
use Rattle.smallvec.specs.SmallVec.{SmallVec}
use Rattle.packing_terms.specs.Packing.{PlainInstance}
use Rattle.box_instances.specs.declared.instance.BoxItem.{BoxItem}
use Rattle.box_instances.specs.Plain.{plain_box}
use Rattle.text_terms.specs.declared.fault.TextFault.{TextFault}
use Rattle.text_terms.specs.Texts.{Parts, Ending as PlainEnding, IsWithinLimits, at_end}
use Rattle.text_terms.specs.Feeding.{Lexer, take_line}
use Rattle.instance_text.specs.declared.parts.Added.{Added}
use Rattle.instance_text.specs.declared.parts.Added.TheVariants.{Nothing, Format, Container, Kerf, Items}
use Rattle.instance_text.specs.declared.parts.Ending.{Ending}
use Rattle.instance_text.specs.declared.reader.ReadTextError.{ReadTextError}
use Rattle.instance_text.specs.declared.reader.ReadTextError.TheVariants.{Fault, NoMemory}

-- the parts with what a line adds
abbrev pub with_added : Parts → Added → Parts
with_added parts Nothing = parts
with_added parts (Format n) = record parts { format = n }
with_added parts (Container sides kerf) = record parts { container = sides.items; kerfs = kerf.items }
with_added parts (Kerf kerf) = record parts { has_kerf = true; kerfs = kerf.items }
with_added parts (Items item times) = record parts { boxes = parts.boxes ++ replicate times (plain_box item) }

-- what stands behind the sides, in plain numbers
abbrev pub plain_ending : Ending → PlainEnding
plain_ending ending = record { value = ending.value; times = ending.times }

-- how many words a `box` line may have, where the sides end before this one
abbrev pub HasEnding : ℕ → ℕ → ℕ → Type 0
HasEnding format from n = (n ≡ from) ⊎ ((n ≡ from + 2) ⊎ ((format ≡ 2) × (n ≡ from + 4)))

-- what is given, seen by view, is what reading gives
abbrev pub IsReadAs : {X Y : Type 0} → (X → Y) → Result X ℕ → Result Y ℕ → Type 0
IsReadAs view (Ok x) read = read ≡ Ok (view x)
IsReadAs view (Err code) read = read ≡ Err code

abbrev pub parts_of : ℕ → List ℕ → Bool → List ℕ → List BoxItem → Parts
parts_of format container has_kerf kerf boxes =
    record { format = format; container = container; has_kerf = has_kerf; kerfs = kerf; boxes = map plain_box boxes }

-- a reader is its parts, or its error
abbrev pub reader_view : ℕ → SmallVec ℕ → Bool → SmallVec ℕ → Vec BoxItem Global → Option ReadTextError
    → Result Parts ReadTextError
reader_view format container has_kerf kerf boxes None =
    Ok (parts_of format container.items has_kerf kerf.items boxes.items)
reader_view format container has_kerf kerf boxes (Some error) = Err error

abbrev pub IsReaderWithinLimits : Result Parts ReadTextError → Type 0
IsReaderWithinLimits (Ok parts) = IsWithinLimits parts
IsReaderWithinLimits (Err error) = Unit {0}

abbrev pub as_read : {X : Type 0} → Result X TextFault → Result X ReadTextError
as_read (Ok x) = Ok x
as_read (Err fault) = Err (Fault fault)

-- a line: an error stays, and else the line is added, its fault is kept, or memory was refused
abbrev pub Steps : Result Parts ReadTextError → Lexer → Result Parts ReadTextError → Type 0
Steps (Err error) line new = new ≡ Err error
Steps (Ok parts) line new = (new ≡ Err NoMemory) ⊎ (new ≡ as_read (take_line parts line))

-- a call answers the error that is kept
abbrev pub Answers : {X Y : Type 0} → Result X ReadTextError → Result Y ReadTextError → Type 0
Answers (Ok x) (Ok y) = Unit {0}
Answers (Err e) (Err f) = f ≡ e
Answers _ _ = ⊥

-- the instance of what is held after n lines, or the error that is kept
abbrev pub finished_instance : Result Parts ReadTextError → ℕ → Result PlainInstance ReadTextError
finished_instance (Ok parts) n = as_read (at_end parts n)
finished_instance (Err error) n = Err error

-- what is read, unless memory was refused
abbrev pub ReadsAs : {X : Type 0} → Result X TextFault → Result X ReadTextError → Type 0
ReadsAs read (Ok x) = read ≡ Ok x
ReadsAs read (Err (Fault fault)) = read ≡ Err fault
ReadsAs read (Err NoMemory) = Unit {0}
