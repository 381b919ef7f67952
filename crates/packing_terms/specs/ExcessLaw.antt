-- What excess says of packings, as a premise by name. It is a theorem about scale functions, which
-- stands in the crate that has them.
-- Source: Fekete and Schepers, volume bounds from dual feasible functions.
use Rattle.std.specs.Prelude.{ℕ, List}
use Rattle.packing_terms.specs.declared.ScaleFn.{ScaleFn}
use Rattle.packing_terms.specs.Packing.{PlainInstance, Fits}
use Rattle.packing_terms.specs.Scales.{Exceeds}
use Rattle.packing_terms.specs.Goals.{FitsInBins}

-- where a tuple exceeds for one copy the instance doesn't fit, and where it exceeds for c copies it
-- doesn't fit in c bins
pub record ExcessLaw : Type 0 where
  pub one : (instance : PlainInstance) (fs : List ScaleFn) → Exceeds instance fs 1 → ¬ Fits instance
  pub bins : (instance : PlainInstance) (fs : List ScaleFn) (c : ℕ) → Exceeds instance fs c → ¬ FitsInBins instance c
