-- Lines of a front as the plain data of the definitions.
use Rattle.proof_tree.specs.Plain.{plain_token}
use Rattle.verdict_terms.specs.Lines.{PlainLine, CornerAt, PointAt, PlaceAt, TreeToken}
use Rattle.front_check.specs.declared.line.FrontLine.{FrontLine}
use Rattle.front_check.specs.declared.line.FrontLine.TheVariants.{Corner as CornerLine, Point as PointLine}
use Rattle.front_check.specs.declared.line.FrontLine.TheVariants.{Place as PlaceLine, Tree as TreeLine}

abbrev pub plain_line : FrontLine → PlainLine
plain_line (CornerLine width height) = CornerAt width height
plain_line (PointLine width height) = PointAt width height
plain_line (PlaceLine sides) = PlaceAt sides.items
plain_line (TreeLine token) = TreeToken (plain_token token)
