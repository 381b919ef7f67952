-- A line of a front as it is read, by its words.
use Rattle.std.specs.Prelude.{ℕ, List, [], ◌∷◌, Option, Some, None}
use Rattle.text_terms.specs.Lines.{number_of}
use Rattle.proof_tree.specs.Plain.{plain_token}
use Rattle.verdict_terms.specs.Lines.{PlainLine, CornerAt, PointAt, PlaceAt, TreeToken}
use Rattle.document_audits.specs.declared.front_lines.NamedLine.{NamedLine}
use Rattle.document_audits.specs.declared.front_lines.NamedLine.TheVariants.{Corner, Point, Place, Tree}

-- two numbers, if both are
abbrev pub both : Option ℕ → Option ℕ → Option (ℕ × ℕ)
both (Some x) (Some y) = Some (x, y)
both _ _ = None

-- the two numbers behind the first word of a line of three
abbrev pub pair_behind : List (List ℕ) → Option (ℕ × ℕ)
pair_behind (key ∷ first ∷ second ∷ []) = both (number_of first) (number_of second)
pair_behind _ = None

abbrev pub plain_named : NamedLine → PlainLine
plain_named (Corner width height) = CornerAt width height
plain_named (Point width height) = PointAt width height
plain_named (Place first second) = PlaceAt (first ∷ second ∷ [])
plain_named (Tree token) = TreeToken (plain_token token)
