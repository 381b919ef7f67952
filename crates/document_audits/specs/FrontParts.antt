-- What lines behind the result line make of a front, part by part.
use Rattle.std.specs.Prelude.{ℕ, suc, ◌-◌, ◌≤◌, ◌≡◌, ◌++◌, ◌==◌, length, not, cond, nat_le, Bool, true, false, List, []}
use Rattle.std.specs.Prelude.{◌∷◌, Option, Some, None, Result, Ok, Err, codes}
use Rattle.packing_terms.specs.declared.Exclusion.{Exclusion}
use Rattle.packing_terms.specs.Packing.{PlainInstance}
use Rattle.box_instances.specs.Sets.{all_boxes}
use Rattle.text_terms.specs.Lines.{Line}
use Rattle.verdict_terms.specs.Checking.{inner_after}
use Rattle.verdict_terms.specs.Placing.{place_verdict}
use Rattle.verdict_terms.specs.declared.check_answers.PlaceVerdict.{PlaceVerdict}
use Rattle.verdict_terms.specs.declared.check_answers.PlaceVerdict.TheVariants.{Good, Outside, Overlap}
use Rattle.refutation_check.specs.Refuters.{PlainRefuter}
use Rattle.verdict_terms.specs.declared.reason.Reason.{Reason}
use Rattle.verdict_terms.specs.declared.reason.Reason.TheVariants.{Token, OutsideAt, OverlapAt, TooShort}
use Rattle.verdict_terms.specs.Reasons.{form, range}
use Rattle.verdict_terms.specs.Numbers.{require, max_coordinate, are_coordinates}
use Rattle.verdict_terms.specs.Stages.{is_word, coded}
use Rattle.verdict_terms.specs.declared.front_answers.FrontReason.{FrontReason}
use Rattle.verdict_terms.specs.declared.front_answers.FrontReason.TheVariants.{Tree, Places}
use Rattle.verdict_terms.specs.Lines.{PlainLine, PlaceAt, TreeToken, FrontStage}
use Rattle.verdict_terms.specs.FrontDocumentVerdicts.{DocumentStage, Fronting, Ended, line_named, named_line}
use Rattle.verdict_terms.specs.FrontDocumentVerdicts.{front_filled_line}
use Rattle.front_check.specs.declared.parts.Stage.{Stage}
use Rattle.front_check.specs.Audits.{plain_stage, growing, placing, pointed, IsInside, IsPartInside}
use Rattle.instance_text.specs.declared.cursor.Cursor.{Cursor}
use Rattle.instance_text.specs.Lines.{lines_left}
use Rattle.document_audits.specs.declared.front_audit.FrontAudit.{FrontAudit}
use Rattle.document_audits.specs.declared.front_opening.OpenPart.{OpenPart}
use Rattle.document_audits.specs.declared.front_opening.OpenPart.TheVariants.{Corner as OpenCorner, Point as OpenPoint}
use Rattle.document_audits.specs.declared.front_reading.PlaceStop.{PlaceStop}
use Rattle.document_audits.specs.declared.front_reading.PlaceStop.TheVariants.{Refused as RefusedPlace}
use Rattle.document_audits.specs.declared.front_reading.PlaceStop.TheVariants.{NoMemory as NoPlaceMemory}
use Rattle.document_audits.specs.FrontAudits.{claim_of, verdict_left, IsVerdict}

-- behind the result line of a claim
abbrev pub at_front : PlainInstance → Bool → ℕ → FrontStage → DocumentStage
at_front instance complete points s = Fronting instance (claim_of complete points) s

-- ---- where a corner, a point or `end` is wanted

-- what is opened may be: its container isn't greater than that of the instance
abbrev pub IsOpenable : PlainInstance → Stage → OpenPart → Type 0
IsOpenable instance s (OpenCorner width height) = IsInside instance width height
IsOpenable instance s (OpenPoint width height) = IsInside instance width height × (1 ≤ s.left)

-- where the first line of what is opened is wanted
abbrev pub opened_stage : Stage → OpenPart → FrontStage
opened_stage s (OpenCorner width height) = growing s.left width height ([] ∷ [])
opened_stage s (OpenPoint width height) = placing (s.left - 1) width height []

-- what a line opens, by `made`: what it makes of a document that announces a given number of points
abbrev pub IsOpened : PlainInstance → Bool → Stage → (ℕ → Result DocumentStage Reason)
    → Result (Option OpenPart) Reason → Type 0
IsOpened instance complete s made (Ok (Some part)) =
    IsOpenable instance s part × ((points : ℕ)
    → made points ≡ Ok (at_front instance complete points (opened_stage s part)))
IsOpened instance complete s made (Ok None) =
    (points : ℕ) → made points ≡ Ok (Ended instance (claim_of complete points))
IsOpened instance complete s made (Err reason) = (points : ℕ) → made points ≡ Err reason

-- what a line makes of it: by the line of a lexer, and by its words
abbrev pub taken_by : PlainInstance → Bool → Stage → Line → ℕ → Result DocumentStage Reason
taken_by instance complete s line points = front_filled_line (at_front instance complete points (plain_stage s)) line

abbrev pub opened_by : PlainInstance → Bool → Stage → PlainLine → ℕ → Result DocumentStage Reason
opened_by instance complete s line points = named_line instance (claim_of complete points) (plain_stage s) (Some line)

-- a number as one of 32 bits
abbrev pub clamped : ℕ → ℕ
clamped n = cond (nat_le n max_coordinate) n max_coordinate

-- a reason that isn't one of places
abbrev pub told_code : FrontReason → Reason
told_code (Tree code) = Token code
told_code (Places verdict) = form

-- ---- a token where one is wanted

-- no token was refused, and a node is open
pub record IsOpenTree (r : PlainRefuter) : Type 0 where
  pub whole : r.keep ≡ all_boxes r.instance
  pub on : r.checked.refused ≡ None
  pub node : List Exclusion
  pub nodes : List (List Exclusion)
  pub opens : r.checked.nodes ≡ node ∷ nodes

-- the nodes that a line of a front leaves open
abbrev pub nodes_by : PlainInstance → List (List Exclusion) → Option PlainLine → Result (List (List Exclusion)) Reason
nodes_by sized nodes (Some (TreeToken t)) = coded (inner_after sized nodes t)
nodes_by sized nodes _ = Err form

abbrev pub nodes_behind : PlainInstance → List (List Exclusion) → Line → Result (List (List Exclusion)) Reason
nodes_behind sized nodes line =
    require (not line.bad) form (cond (is_word (codes "end") line.words) (Err TooShort)
    (nodes_by sized nodes (line_named line.words)))

-- the line ends the tree, or it goes on, or the line is refused
abbrev pub IsGrown : PlainRefuter → PlainRefuter → Line → Result Bool Reason → Type 0
IsGrown old new line (Ok true) = nodes_behind old.instance old.checked.nodes line ≡ Ok []
IsGrown old new line (Ok false) =
    (nodes_behind old.instance old.checked.nodes line ≡ Ok new.checked.nodes) × (new.instance ≡ old.instance)
    × IsOpenTree new
IsGrown old new line (Err reason) = nodes_behind old.instance old.checked.nodes line ≡ Err reason

-- ---- a place where one is wanted

abbrev pub place_by : Option PlainLine → Result (List ℕ) Reason
place_by (Some (PlaceAt xs)) = require (are_coordinates xs) range (cond (length xs == 2) (Ok xs) (Err form))
place_by _ = Err form

abbrev pub place_of : Line → Result (List ℕ) Reason
place_of line = require (not line.bad) form
    (cond (is_word (codes "end") line.words) (Err form) (place_by (line_named line.words)))

-- the place is put behind the others, or the reason of the refusal
abbrev pub TakesPlace : List ℕ → Line → List ℕ → Result (Unit {0}) PlaceStop → Type 0
TakesPlace places line new (Ok u) = (xs : List ℕ) × (place_of line ≡ Ok xs) × (new ≡ places ++ xs)
TakesPlace places line new (Err (RefusedPlace reason)) = place_of line ≡ Err reason
TakesPlace places line new (Err NoPlaceMemory) = Unit {0}

-- why places are refused
abbrev pub reason_of : PlaceVerdict → Option Reason
reason_of Good = None
reason_of (Outside v i) = Some (OutsideAt (suc v) (suc i))
reason_of (Overlap u v) = Some (OverlapAt (suc u) (suc v))

abbrev pub places_reason : PlainInstance → List ℕ → Option Reason
places_reason instance places = reason_of (place_verdict instance places)

-- ---- a whole part

-- how a tree or places begin and end, by how many points are left
abbrev pub tree_stage : ℕ → ℕ → ℕ → FrontStage
tree_stage width height left = growing left width height ([] ∷ [])

abbrev pub whole_stage : ℕ → ℕ → ℕ → FrontStage
whole_stage width height left = growing left width height []

abbrev pub places_stage : ℕ → ℕ → ℕ → FrontStage
places_stage width height left = placing left width height []

abbrev pub point_stage : ℕ → ℕ → ℕ → FrontStage
point_stage width height left = pointed left width height

-- the lines up to the end of a part are read, or the verdict is known
abbrev pub IsPartRead : List ℕ → Cursor → Cursor → PlainInstance → (ℕ → FrontStage) → (ℕ → FrontStage)
    → Option FrontAudit → Type 0
IsPartRead bytes old new instance s t None = (complete : Bool) (points left : ℕ)
    → verdict_left bytes old (at_front instance complete points (s left))
    ≡ verdict_left bytes new (at_front instance complete points (t left))
IsPartRead bytes old new instance s t (Some end) = (complete : Bool) (points left : ℕ)
    → IsVerdict (verdict_left bytes old (at_front instance complete points (s left))) end

-- the same of what is opened
pub record IsReadOn (bytes : List ℕ) (old new : Cursor) (instance : PlainInstance) (s : Stage) (part : OpenPart)
    (t : Stage) : Type 0 where
  pub inside : IsPartInside instance t.part
  pub later : length (lines_left bytes new) ≤ length (lines_left bytes old)
  pub same : (complete : Bool) (points : ℕ)
      → verdict_left bytes old (at_front instance complete points (opened_stage s part))
      ≡ verdict_left bytes new (at_front instance complete points (plain_stage t))

abbrev pub IsReadUpTo : List ℕ → Cursor → PlainInstance → Stage → OpenPart → FrontAudit → Type 0
IsReadUpTo bytes old instance s part end =
    (complete : Bool) (points : ℕ)
    → IsVerdict (verdict_left bytes old (at_front instance complete points (opened_stage s part))) end
