-- An outer refuter after a token, and how long its path is.
use Rattle.std.proofs.Common.{◌≡◌, ℕ, ◌≤◌, suc, refl, ap, arith, List, [], ◌∷◌, length, Option}
use Rattle.packing_terms.specs.declared.Exclusion.{Exclusion}
use Rattle.packing_terms.specs.Packing.{PlainInstance, box_count}
use Rattle.packing_terms.specs.OuterRefutation.{no_choice}
use Rattle.packing_terms.specs.OuterPaths.{bins_with, choices_with}
use Rattle.verdict_terms.specs.declared.check_answers.RefuseCode.{RefuseCode}
use Rattle.refutation_check.specs.Refuters.{PlainRefuter}
use Rattle.outer_check.specs.declared.path.Frame.{Frame}
use Rattle.outer_check.specs.declared.goal.Goal.{Goal}
use Rattle.outer_check.specs.declared.goal.Goal.TheVariants.{Bins, Value}
use Rattle.outer_check.specs.declared.point.Point.{Point}
use Rattle.outer_check.specs.declared.point.Point.TheVariants.{AtNode, InSet, AtEnd}
use Rattle.outer_check.specs.Frames.{PlainPath, ArePath}
use Rattle.outer_check.specs.Nodes.{node_below, path_below}
use Rattle.outer_check.specs.Outers.{tree_seen, view_by, inside_view, view_length, path_length}
use Rattle.outer_check.proofs.Paths.{few_splits}

path_same : {Node : Type 0} (below : Node → ℕ → List Node) (root : Node) (frames : List Frame)
    → length (path_below below root frames) ≡ length frames
path_same below root [] = refl
path_same below root (f ∷ frames) = ap suc (path_same below root frames)

view_few : {Node : Type 0} (below : Node → ℕ → List Node) (root : Node) (frames : List Frame) (point : Point)
    (inner : PlainRefuter) → view_length (view_by below root frames point inner) ≤ length frames
view_few below root frames AtNode inner = let e = path_same below root frames in omega (arith, e)
view_few below root frames AtEnd inner = omega arith
view_few below root frames InSet inner = go inner.checked.nodes
  where
    go : (ns : List (List Exclusion))
        → view_length (inside_view (path_below below root frames) (node_below below root frames) inner.keep ns)
        ≤ length frames
    go [] = let e = path_same below root frames in omega (arith, e)
    go (n ∷ ns) = let e = path_same below root frames in omega (arith, e)

pub path_few : (instance : PlainInstance) (goal : Goal) (path : PlainPath) (point : Point) (inner : PlainRefuter)
    (refused : Option RefuseCode) → ArePath path → path.boxes ≡ box_count instance
    → path_length (record { instance = instance; tree = tree_seen goal path.frames point inner; refused = refused })
    ≤ box_count instance
path_few instance (Bins k) path point inner refused are same =
    let a = view_few (bins_with k) [] path.frames point inner in let b = few_splits path are in
    omega (arith, a, b, same)
path_few instance (Value y) path point inner refused are same =
    let a = view_few choices_with no_choice path.frames point inner in let b = few_splits path are in
    omega (arith, a, b, same)
