-- What an outcome of the tree that begins with the symmetry facts is worth.
use Rattle.std.proofs.Common.{◌≡◌, ℕ, Bool, true, false, nat_lt, if◌then◌else◌, List}
use Rattle.packing_terms.specs.Packing.{PlainInstance, Fits}
use Rattle.packing_terms.specs.Limits.{IsInternalInstance}
use Rattle.packing_terms.specs.Tokens.{PlainToken}
use Rattle.packing_terms.specs.Refutation.{Refutes}
use Rattle.packing_terms.proofs.Internal.{internal_sides, some_dimension}
use Rattle.packing_terms.proofs.Refuted.{refutes_sound}
use Rattle.packing_terms.proofs.Excess.{excess_law}
use Rattle.tree_terms.specs.Trees.{PlainOutcome, Decided, Past, Verdict, Yes, No, outcome, count_of, under_budget}
use Rattle.tree_terms.specs.Search.{IsRightUnder}
use Rattle.tree_terms.specs.ClassTree.{class_tree}
use Rattle.tree_terms.proofs.Decisions.{class_tree_right}
use Rattle.class_search.specs.Right.{IsRight, Decides}
use Rattle.packing_terms.specs.Facts.{symmetry_facts}
use Rattle.packing_terms.proofs.SymmetryMembers.{facts_at_edges}
use Rattle.packing_terms.proofs.Respected.{some_packing_respects}

module _ (instance : PlainInstance) (limits : IsInternalInstance instance) (scales : Bool) (budget : ℕ) where
  verdict_right : IsRightUnder instance (symmetry_facts instance)
      (outcome (class_tree instance (symmetry_facts instance) scales))
  verdict_right = class_tree_right instance limits (symmetry_facts instance)
      (facts_at_edges instance (some_dimension instance limits)) scales

  pub reduced_right : (r : PlainOutcome)
      → r ≡ under_budget budget (outcome (class_tree instance (symmetry_facts instance) scales))
      → IsRight instance (symmetry_facts instance) r
  reduced_right r e = rw e (go (nat_lt budget
      (count_of (outcome (class_tree instance (symmetry_facts instance) scales)))))
    where
      go : (b : Bool) → IsRight instance (symmetry_facts instance)
          (if b then Past else Decided (outcome (class_tree instance (symmetry_facts instance) scales)))
      go true = tt
      go false = verdict_right

  no_fits : (tokens : List PlainToken) → Refutes instance (symmetry_facts instance) tokens → Fits instance → ⊥
  no_fits tokens h fits =
      let k = some_packing_respects instance (internal_sides instance limits) (some_dimension instance limits)
      fits.0 fits.1 in
      refutes_sound excess_law instance (internal_sides instance limits) k.0 k.1 h k.2

  decides_by : (v : Verdict) → IsRightUnder instance (symmetry_facts instance) v → Decides instance (Decided v)
  decides_by (Yes places count) h = (places, h)
  decides_by (No tokens count) h = λ fits. no_fits tokens h fits

  pub reduced_decides : (r : PlainOutcome)
      → r ≡ under_budget budget (outcome (class_tree instance (symmetry_facts instance) scales)) → Decides instance r
  reduced_decides r e = rw e (go
      (nat_lt budget (count_of (outcome (class_tree instance (symmetry_facts instance) scales)))))
    where
      go : (b : Bool) → Decides instance
          (if b then Past else Decided (outcome (class_tree instance (symmetry_facts instance) scales)))
      go true = tt
      go false = decides_by (outcome (class_tree instance (symmetry_facts instance) scales)) verdict_right
