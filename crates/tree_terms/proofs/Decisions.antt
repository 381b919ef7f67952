-- The outcome of the class tree is right under its starting exclusions, and without any it is yes
-- exactly where the instance fits.
use Rattle.std.proofs.Common.{◌↔◌, Bool, List, []}
use Rattle.packing_terms.specs.declared.Exclusion.{Exclusion}
use Rattle.packing_terms.specs.Packing.{PlainInstance, Fits}
use Rattle.packing_terms.specs.Limits.{IsInternalInstance}
use Rattle.packing_terms.specs.ExcessLaw.{ExcessLaw}
use Rattle.packing_terms.proofs.Internal.{internal_sides, some_dimension, some_box}
use Rattle.packing_terms.proofs.Refuted.{none_fits}
use Rattle.tree_terms.specs.Trees.{Verdict, Yes, No, outcome}
use Rattle.tree_terms.specs.ClassTree.{class_tree}
use Rattle.packing_terms.specs.Exclusions.{AreAtEdges}
use Rattle.tree_terms.specs.Search.{IsSearch, IsRightUnder, IsYesVerdict}
use Rattle.tree_terms.proofs.ClassSearch.{class_search}
use Rattle.tree_terms.proofs.Searches.{outcome_right}

module _ (instance : PlainInstance) (limits : IsInternalInstance instance) where
  pub class_tree_search : (es : List Exclusion) → AreAtEdges instance es → (scales : Bool)
      → IsSearch instance es (class_tree instance es scales)
  class_tree_search = class_search instance (internal_sides instance limits) (some_dimension instance limits)
      (some_box instance limits)

  pub class_tree_right : (es : List Exclusion) → AreAtEdges instance es → (scales : Bool)
      → IsRightUnder instance es (outcome (class_tree instance es scales))
  class_tree_right es placed scales =
      outcome_right instance (class_tree instance es scales) es (class_tree_search es placed scales)

  pub decides : ExcessLaw → (scales : Bool) → Fits instance ↔ IsYesVerdict (outcome (class_tree instance [] scales))
  decides law scales = (
    there (outcome (class_tree instance [] scales)) (class_tree_right [] tt scales),
    back (outcome (class_tree instance [] scales)) (class_tree_right [] tt scales),
  )
    where
      there : (v : Verdict) → IsRightUnder instance [] v → Fits instance → IsYesVerdict v
      there (Yes places count) h fits = tt
      there (No tokens count) h fits = none_fits law instance (internal_sides instance limits) tokens h fits

      back : (v : Verdict) → IsRightUnder instance [] v → IsYesVerdict v → Fits instance
      back (Yes places count) h is_yes = (places, h)
      back (No tokens count) h is_yes = absurd is_yes
