-- What a token does at an outer node, by the splits on the path.
use Rattle.std.specs.Prelude.{ℕ, ◌≡◌, ◌≤◌, false, List, [], ◌∷◌, length, Option, Some, None}
use Rattle.packing_terms.specs.Packing.{PlainInstance, box_count}
use Rattle.packing_terms.specs.Tokens.{PlainToken}
use Rattle.packing_terms.specs.OuterRefutation.{no_choice}
use Rattle.packing_terms.specs.OuterFeeding.{Outer}
use Rattle.packing_terms.specs.OuterPaths.{At, Inside, OuterView, Whole, On, OuterStep, stepped, bins_with, bin_step}
use Rattle.packing_terms.specs.OuterPaths.{choices_with, choice_step}
use Rattle.verdict_terms.specs.declared.check_answers.RefuseCode.{RefuseCode}
use Rattle.verdict_terms.specs.OuterJudging.{bin_refusal, value_refusal}
use Rattle.outer_check.specs.declared.path.Frame.{Frame}
use Rattle.outer_check.specs.declared.goal.Goal.{Goal}
use Rattle.outer_check.specs.declared.goal.Goal.TheVariants.{Bins, Value}
use Rattle.outer_check.specs.declared.step.Step.{Step}
use Rattle.outer_check.specs.declared.step.Step.TheVariants.{Refuse, Close, Enter, Begin}
use Rattle.outer_check.specs.Frames.{first_split, next_frames, is_decided, boxes_put}
use Rattle.outer_check.specs.Nodes.{node_below, path_below}
use Rattle.outer_check.specs.declared.point.Point.{Point}
use Rattle.outer_check.specs.declared.point.Point.TheVariants.{AtNode, AtEnd}
use Rattle.outer_check.specs.Outers.{AreOf}

-- where the path stands behind a closed node
abbrev pub point_behind : List Frame → Point
point_behind [] = AtEnd
point_behind (f ∷ frames) = AtNode

-- a split by a box of the text that isn't decided, with its children
pub record IsEntry (goal : Goal) (n : ℕ) (frames : List Frame) (box_no children used : ℕ) : Type 0 where
  pub from : 1 ≤ box_no
  pub to : box_no ≤ n
  pub new : is_decided frames box_no ≡ false
  pub some : 1 ≤ children
  pub are : AreOf goal (first_split box_no children used ∷ frames)

-- the view of a tree that stands at an outer node, or at its end
abbrev pub standing : {Node : Type 0} → (Node → ℕ → List Node) → Node → List Frame → Point → OuterView Node
standing below root frames AtNode = On (path_below below root frames) (At (node_below below root frames))
standing below root frames _ = Whole

-- what a step does to the view of the tree
abbrev pub StepLeadsTo : {Node : Type 0} → Goal → (Node → ℕ → List Node) → Node → ℕ → List Frame → Option RefuseCode
    → OuterStep → Step → Type 0
StepLeadsTo goal below root n frames refusal step (Refuse code) = refusal ≡ Some code
StepLeadsTo goal below root n frames refusal step Close =
    (refusal ≡ None) × (stepped below (path_below below root frames) (node_below below root frames) step
    ≡ standing below root (next_frames frames) (point_behind (next_frames frames)))
StepLeadsTo goal below root n frames refusal step (Enter box_no children used) =
    (refusal ≡ None) × (stepped below (path_below below root frames) (node_below below root frames) step
    ≡ standing below root (first_split box_no children used ∷ frames) AtNode)
    × IsEntry goal n frames box_no children used
StepLeadsTo goal below root n frames refusal step (Begin child) =
    (refusal ≡ None) × (stepped below (path_below below root frames) (node_below below root frames) step
    ≡ On (path_below below root frames) (Inside (boxes_put n frames child) [] []))
    × (1 ≤ length (boxes_put n frames child))

-- the step of a token at the node that the splits lead to
abbrev pub IsTokenStep : PlainInstance → Goal → List Frame → PlainToken → Step → Type 0
IsTokenStep instance (Bins k) frames t step =
    StepLeadsTo (Bins k) (bins_with k) [] (box_count instance) frames
    (bin_refusal instance k (Outer (node_below (bins_with k) [] frames)) t)
    (bin_step (node_below (bins_with k) [] frames) t) step
IsTokenStep instance (Value y) frames t step =
    StepLeadsTo (Value y) choices_with no_choice (box_count instance) frames
    (value_refusal instance y (Outer (node_below choices_with no_choice frames)) t)
    (choice_step (node_below choices_with no_choice frames) t) step
