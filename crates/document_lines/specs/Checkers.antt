-- The checkers of trees.
use Rattle.std.specs.Prelude.{Bool, true, false, not, List, [], ◌∷◌, Option, Some, None}
use Rattle.packing_terms.specs.Goals.{subset}
use Rattle.verdict_terms.specs.declared.check_answers.RefuseCode.{RefuseCode}
use Rattle.packing_terms.specs.OuterPaths.{open_nodes, bins_with, choices_with}
use Rattle.outer_check.specs.Outers.{PlainOuter, ForBins, ForValue, is_whole_tree}
use Rattle.refutation_check.specs.Refuters.{PlainRefuter}
use Rattle.verdict_terms.specs.Trees.{Tree}
use Rattle.verdict_terms.specs.Trees.Tree.{InnerTree, BinTree, ValueTree}

-- nothing was refused, and a node is open
abbrev pub has_open : {Node : Type 0} → Option RefuseCode → List Node → Bool
has_open (Some code) nodes = false
has_open None [] = false
has_open None (node ∷ nodes) = true

abbrev pub shown_inner_tree : PlainRefuter → Tree
shown_inner_tree r = InnerTree (subset r.instance r.keep) r.checked.nodes

abbrev pub is_inner_open : PlainRefuter → Bool
is_inner_open r = has_open r.checked.refused r.checked.nodes

abbrev pub shown_outer_tree : PlainOuter → Tree
shown_outer_tree o =
    elim o.tree [
      | ForBins k view ↦ BinTree o.instance k (open_nodes (bins_with k) view)
      | ForValue y view ↦ ValueTree o.instance y (open_nodes choices_with view)
    ]

-- nothing was refused, and the tree isn't whole
abbrev pub is_outer_open : PlainOuter → Bool
is_outer_open o = elim o.refused [ None ↦ not (is_whole_tree o.tree) | Some code ↦ false ]
