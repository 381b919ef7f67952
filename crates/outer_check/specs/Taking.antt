-- What a token makes of the parts of an outer refuter, as long as nothing was refused.
use Rattle.std.specs.Prelude.{◌≡◌, Some, None, Result, Ok, Err}
use Rattle.packing_terms.specs.Packing.{PlainInstance}
use Rattle.packing_terms.specs.Tokens.{PlainToken}
use Rattle.verdict_terms.specs.declared.check_answers.RefuseCode.{RefuseCode}
use Rattle.refutation_check.specs.Refuters.{PlainRefuter}
use Rattle.outer_check.specs.declared.goal.Goal.{Goal}
use Rattle.outer_check.specs.declared.point.Point.{Point}
use Rattle.outer_check.specs.Frames.{PlainPath}
use Rattle.outer_check.specs.Outers.{tree_seen, tree_refusal, tree_after, IsGoing}

-- Accepted, the tree is that of the definition and goes on; refused, it is as it was, and the code
-- is that of the first test that failed.
abbrev pub IsTaken : PlainInstance → Goal → PlainPath → Point → PlainRefuter → PlainToken → PlainPath → Point
    → PlainRefuter → Result (Unit {0}) RefuseCode → Type 0
IsTaken instance goal path point inner t path' point' inner' (Ok u) =
    (tree_refusal instance (tree_seen goal path.frames point inner) t ≡ None)
    × (tree_seen goal path'.frames point' inner' ≡ tree_after (tree_seen goal path.frames point inner) t)
    × IsGoing instance goal path' point' inner'
IsTaken instance goal path point inner t path' point' inner' (Err code) =
    (tree_refusal instance (tree_seen goal path.frames point inner) t ≡ Some code)
    × (tree_seen goal path'.frames point' inner' ≡ tree_seen goal path.frames point inner)
    × (path'.boxes ≡ path.boxes)
