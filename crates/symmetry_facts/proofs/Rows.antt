-- The trees of small instances that begin with their symmetry facts, computed from the definitions.
use Rattle.std.proofs.Common.{◌≡◌, refl, [], ◌∷◌, true, false}
use Rattle.packing_terms.specs.Tokens.PlainToken.{Rules}
use Rattle.tree_terms.specs.Trees.{Yes, No, outcome}
use Rattle.tree_terms.specs.ClassTree.{class_tree}
use Rattle.packing_terms.specs.Facts.{symmetry_facts}
use Rattle.packing_terms.proofs.SymmetryRows.{two, row_of_four}

two_reduced : outcome (class_tree two (symmetry_facts two) true) ≡ Yes (0 ∷ 0 ∷ 0 ∷ 4 ∷ []) 0
two_reduced = refl

-- four twins in a row, where only three have room: five branchings without the facts
four_reduced : outcome (class_tree row_of_four (symmetry_facts row_of_four) false) ≡ No (Rules ∷ []) 0
four_reduced = refl
