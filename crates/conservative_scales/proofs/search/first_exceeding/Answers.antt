use Rattle.std.proofs.Common.{◌≡◌, ℕ, List, Option, None, Some}
use Rattle.std.specs.Prelude.{IfSome, MatchOption}
use Rattle.packing_terms.specs.Packing.{PlainInstance}
use Rattle.packing_terms.specs.Limits.{IsInternalInstance}
use Rattle.packing_terms.specs.Goals.{FitsInBins}
use Rattle.packing_terms.specs.Scales.{Exceeds, SidesFit}
use Rattle.packing_terms.specs.Tuples.{first_excess}
use Rattle.packing_terms.specs.declared.ScaleFn.{ScaleFn}
use Rattle.packing_terms.proofs.Internal.{internal_sides, some_box}
use Rattle.packing_terms.proofs.Listed.{first_exceeds, container_wide}
use Rattle.packing_terms.proofs.Excess.{excess_law}
use Rattle.conservative_scales.proofs.search.first_exceeding.Goals as goal

module _ {X : Type 0} (items : X → List ScaleFn) (instance : PlainInstance) (c : ℕ)
    (limits : IsInternalInstance instance) (fit : SidesFit instance) where
  found_exceeds : (r : Option X)
      → MatchOption r (first_excess instance c ≡ None) (λ t. first_excess instance c ≡ Some (items t))
      → IfSome r (λ t. Exceeds instance (items t) c)
  found_exceeds None e = tt
  found_exceeds (Some t) e = first_exceeds instance
      (container_wide instance (internal_sides instance limits) fit (some_box instance limits)) fit c _ e

  found_refutes : (r : Option X)
      → MatchOption r (first_excess instance c ≡ None) (λ t. first_excess instance c ≡ Some (items t))
      → IfSome r (λ t. ¬ FitsInBins instance c)
  found_refutes None e = tt
  found_refutes (Some t) e = excess_law.bins _ _ _ (found_exceeds (Some t) e)

pub returns-clause-exceeds : goal.returns-clause-exceeds
returns-clause-exceeds c = found_exceeds _ c.args.instance.now c.args.copies c.len-limits.ensures.limits c.requires.fit
    c.first_of.result c.first_of.ensures

pub returns-clause-refutes : goal.returns-clause-refutes
returns-clause-refutes c = found_refutes _ c.args.instance.now c.args.copies c.len-limits.ensures.limits c.requires.fit
    c.first_of.result c.first_of.ensures
