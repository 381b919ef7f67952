-- What one worker decides all heights with.
use Rattle.std.specs.Prelude.{◌≡◌, List, []}
use Rattle.packing_terms.specs.declared.Exclusion.{Exclusion}
use Rattle.packing_terms.specs.Packing.{PlainInstance}
use Rattle.class_search.specs.Deciders.{PlainDecider, decider_of}

-- it is one for the boxes of the instance, and decides by trees that begin with no exclusion
abbrev pub IsReadyFor : PlainInstance → List Exclusion → PlainDecider → Type 0
IsReadyFor instance start d = (d ≡ decider_of instance) × (start ≡ [])
