-- What a reader of the lines of an instance text holds.
use Rattle.std.specs.Prelude.{◌≡◌, Result, Ok, Err}
use Rattle.text_terms.specs.Texts.{Parts, no_parts}
use Rattle.instance_text.specs.declared.reader.ReadTextError.{ReadTextError}

-- the parts that are held
abbrev pub held_parts : Result Parts ReadTextError → Parts
held_parts (Ok parts) = parts
held_parts (Err error) = no_parts

abbrev pub IsHeldHead : Result Parts ReadTextError → Type 0
IsHeldHead parts = parts ≡ Ok (held_parts parts)
