-- What the splits on a path stand for: the node that they lead to, and the path of the definition.
use Rattle.std.specs.Prelude.{ℕ, suc, ◌≡◌, nat_lt, if◌then◌else◌, List, [], ◌∷◌, length, slice_index_or}
use Rattle.packing_terms.specs.OuterPaths.{PathNode, bins_with}
use Rattle.outer_check.specs.declared.path.Frame.{Frame}

-- the node that the splits lead to from the root
abbrev pub node_below : {Node : Type 0} → (Node → ℕ → List Node) → Node → List Frame → Node
node_below below root [] = root
node_below below root (f ∷ frames) =
    slice_index_or (below (node_below below root frames) f.box_no) f.child (node_below below root frames)

-- the path to it
abbrev pub path_below : {Node : Type 0} → (Node → ℕ → List Node) → Node → List Frame → List (PathNode Node)
path_below below root [] = []
path_below below root (f ∷ frames) =
    record { node = node_below below root frames; box_no = f.box_no; closed = f.child } ∷ path_below below root frames

-- each split has as many children as its node has by its box
abbrev pub HaveChildren : {Node : Type 0} → (Node → ℕ → List Node) → Node → List Frame → Type 0
HaveChildren below root [] = Unit {0}
HaveChildren below root (f ∷ frames) =
    (f.children ≡ length (below (node_below below root frames) f.box_no)) × HaveChildren below root frames

-- for `k` bins each split states how many are used at its node
abbrev pub HaveUsed : ℕ → List Frame → Type 0
HaveUsed k [] = Unit {0}
HaveUsed k (f ∷ frames) = (f.used ≡ length (node_below (bins_with k) [] frames)) × HaveUsed k frames

-- a node for k bins has as many children as bins are used, and one more where fewer than k are
abbrev pub bin_count : ℕ → ℕ → ℕ
bin_count k used = if nat_lt used k then suc used else used
