-- The outcomes of the outer trees are right, and are yes exactly where the instance fits in the
-- bins, or reaches the value.
use Rattle.std.proofs.Common.{ℕ, ◌↔◌, Bool, []}
use Rattle.packing_terms.specs.Packing.{PlainInstance}
use Rattle.packing_terms.specs.Limits.{IsInternalInstance}
use Rattle.packing_terms.specs.Goals.{FitsInBins, ReachesValue}
use Rattle.packing_terms.specs.ExcessLaw.{ExcessLaw}
use Rattle.packing_terms.specs.OuterRefutation.{no_choice}
use Rattle.packing_terms.proofs.Internal.{internal_sides, some_dimension, some_box}
use Rattle.packing_terms.proofs.BinsRefuted.{none_fits_bins}
use Rattle.packing_terms.proofs.ValueRefuted.{none_reaches}
use Rattle.tree_terms.specs.Trees.{Verdict, Yes, No, outcome}
use Rattle.tree_terms.specs.OuterTrees.{bin_tree, choice_tree}
use Rattle.tree_terms.specs.Search.{IsYesVerdict}
use Rattle.tree_terms.specs.OuterSearch.{bins_in, places_in, IsBinSearch, IsBinRight, IsChoiceSearch, IsChoiceRight}
use Rattle.tree_terms.proofs.BinSearch.{bin_search}
use Rattle.tree_terms.proofs.ChoiceSearch.{choice_search}
use Rattle.tree_terms.proofs.OuterOutcomes.{bins_right, value_right}

module _ (instance : PlainInstance) (limits : IsInternalInstance instance) where
  pub bin_tree_search : (k : ℕ) (scales : Bool) → IsBinSearch instance k [] (bin_tree instance k scales)
  bin_tree_search k scales = bin_search instance (internal_sides instance limits) (some_dimension instance limits)
      scales k (some_box instance limits)

  pub choice_tree_search : (goal : ℕ) (scales : Bool)
      → IsChoiceSearch instance goal no_choice (choice_tree instance goal scales)
  choice_tree_search goal scales =
      choice_search instance (internal_sides instance limits) (some_dimension instance limits) scales goal

  pub bin_tree_right : (k : ℕ) (scales : Bool) → IsBinRight instance k [] (outcome (bin_tree instance k scales))
  bin_tree_right k scales = bins_right instance k (bin_tree instance k scales) [] (bin_tree_search k scales)

  pub choice_tree_right : (goal : ℕ) (scales : Bool)
      → IsChoiceRight instance goal no_choice (outcome (choice_tree instance goal scales))
  choice_tree_right goal scales =
      value_right instance goal (choice_tree instance goal scales) no_choice (choice_tree_search goal scales)

  pub decides_bins : ExcessLaw → (k : ℕ) (scales : Bool)
      → FitsInBins instance k ↔ IsYesVerdict (outcome (bin_tree instance k scales))
  decides_bins law k scales = (
    there (outcome (bin_tree instance k scales)) (bin_tree_right k scales),
    back (outcome (bin_tree instance k scales)) (bin_tree_right k scales),
  )
    where
      there : (v : Verdict) → IsBinRight instance k [] v → FitsInBins instance k → IsYesVerdict v
      there (Yes numbers count) h fits = tt
      there (No tokens count) h fits = none_fits_bins law instance (internal_sides instance limits) k tokens h fits

      back : (v : Verdict) → IsBinRight instance k [] v → IsYesVerdict v → FitsInBins instance k
      back (Yes numbers count) h is_yes = (bins_in instance numbers, places_in instance numbers, h.packing)
      back (No tokens count) h is_yes = absurd is_yes

  pub decides_value : ExcessLaw → (goal : ℕ) (scales : Bool)
      → ReachesValue instance goal ↔ IsYesVerdict (outcome (choice_tree instance goal scales))
  decides_value law goal scales = (
    there (outcome (choice_tree instance goal scales)) (choice_tree_right goal scales),
    back (outcome (choice_tree instance goal scales)) (choice_tree_right goal scales),
  )
    where
      there : (v : Verdict) → IsChoiceRight instance goal no_choice v → ReachesValue instance goal → IsYesVerdict v
      there (Yes numbers count) h reached = tt
      there (No tokens count) h reached =
          none_reaches law instance (internal_sides instance limits) goal tokens h reached

      back : (v : Verdict) → IsChoiceRight instance goal no_choice v → IsYesVerdict v → ReachesValue instance goal
      back (Yes numbers count) h is_yes = (h.taken, h.set, h.reached, (h.places, h.packing))
      back (No tokens count) h is_yes = absurd is_yes
