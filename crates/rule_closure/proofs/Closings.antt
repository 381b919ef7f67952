-- What the end of the work says of the closure of the old exclusions.
use Rattle.std.proofs.Common.{◌≡◌, List, Bool, true, false, MatchBool}
use Rattle.packing_terms.specs.declared.Exclusion.{Exclusion}
use Rattle.packing_terms.specs.Packing.{PlainInstance}
use Rattle.packing_terms.specs.Exclusions.{excludes}
use Rattle.packing_terms.specs.Closure.{IsStable}
use Rattle.packing_terms.specs.Applied.{Extends}
use Rattle.packing_terms.specs.Places.{HasNoEmptyMask}
use Rattle.edge_state.specs.States.{HasEmptyMask}
use Rattle.edge_state.proofs.Ends.{ended_closure, ended_conflict}
use Rattle.rule_closure.specs.Closes.{IsClosed}
use Rattle.rule_closure.specs.declared.closer.Closed.{Closed}
use Rattle.rule_closure.specs.declared.closer.Closed.TheVariants.{Stable, Conflict}

pub closed_ended : (instance : PlainInstance) (old new : List Exclusion) (is_empty : Bool) (answer : Closed)
    → Extends instance old new
    → MatchBool is_empty (HasEmptyMask instance (excludes new))
    (IsStable instance (excludes new) × HasNoEmptyMask instance (excludes new))
    → MatchBool is_empty (answer ≡ Conflict) (answer ≡ Stable) → IsClosed instance old new answer
closed_ended instance old new true answer extends ended is =
    rw is (ended_conflict instance _ old new extends (λ i u v r d. d) ended)
closed_ended instance old new false answer extends ended is =
    rw is (ended_closure instance _ old new extends (λ i u v r d. d) (λ i u v r d. d) ended.0 ended.1)
