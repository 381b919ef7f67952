-- What reading an instance from a source does.
use Rattle.std.specs.Prelude.{ℕ, ◌≡◌, ◌+◌, ◌<◌, ◌≤◌, List, length, Result, Ok, Err}
use Rattle.std.specs.declared.option.Option.{Option}
use Rattle.std.specs.Io.KnownBytes.{IsAtEnd}
use Rattle.packing_terms.specs.Packing.{PlainInstance}
use Rattle.text_terms.specs.Texts.{text_instance}
use Rattle.pack_streams.specs.Moves.{Consumed}
use Rattle.pack_streams.specs.Reading.{block}
use Rattle.pack_command.specs.declared.stop.Stop.{Stop}
use Rattle.pack_command.specs.declared.stop.Stop.TheVariants.{Words, TooLong, Text, Dimensions, ReadFault, WriteFault}
use Rattle.pack_command.specs.declared.stop.Stop.TheVariants.{NoMemory}

-- the most bytes that the text of an instance may have: 2 ^ 20
abbrev pub max_instance_bytes : ℕ
max_instance_bytes = 1048576

-- the most bytes that `audit` and `explain` read: 2 ^ 24
abbrev pub max_audit_bytes : ℕ
max_audit_bytes = 16777216

-- these bytes are all that the source had to give, and not too many
pub record IsWholeInput (old new : Option (List ℕ)) (bytes : List ℕ) : Type 0 where
  pub taken : Consumed old new bytes
  pub ended : IsAtEnd new
  pub within : length bytes ≤ max_instance_bytes

-- bytes were taken, not more than one block beyond the limit
pub record IsPartTaken (old new : Option (List ℕ)) : Type 0 where
  pub bytes : List ℕ
  pub taken : Consumed old new bytes
  pub within : length bytes ≤ max_instance_bytes + block

-- the instance of the whole input, or why there is none
abbrev pub IsInputRead : Option (List ℕ) → Option (List ℕ) → Result PlainInstance Stop → Type 0
IsInputRead old new (Ok instance) =
    (bytes : List ℕ) × IsWholeInput old new bytes × (text_instance bytes ≡ Ok instance)
IsInputRead old new (Err (Text fault)) =
    (bytes : List ℕ) × IsWholeInput old new bytes × (text_instance bytes ≡ Err fault)
IsInputRead old new (Err TooLong) =
    (bytes : List ℕ) × Consumed old new bytes × (max_instance_bytes < length bytes)
    × (length bytes ≤ max_instance_bytes + block)
IsInputRead old new (Err ReadFault) = (bytes : List ℕ) × Consumed old new bytes × (length bytes ≤ max_instance_bytes)
IsInputRead old new (Err NoMemory) = IsPartTaken old new
IsInputRead old new (Err Words) = ⊥
IsInputRead old new (Err Dimensions) = ⊥
IsInputRead old new (Err WriteFault) = ⊥
