-- What the end of the work says of the closure.
use Rattle.std.proofs.Common.{◌≡◌, List, Bool, true, false, MatchBool}
use Rattle.std.proofs.lemmas.Bool.{true≢false}
use Rattle.packing_terms.specs.declared.Exclusion.{Exclusion}
use Rattle.packing_terms.specs.Packing.{PlainInstance}
use Rattle.packing_terms.specs.Exclusions.{Exclusions, excludes}
use Rattle.packing_terms.specs.Closure.{Derives, IsStable}
use Rattle.packing_terms.specs.Applied.{Extends}
use Rattle.packing_terms.specs.Places.{HasNoEmptyMask}
use Rattle.edge_state.specs.States.{HasEmptyMask}
use Rattle.edge_state.specs.Ends.{IsClosureOf}
use Rattle.edge_state.proofs.Ends.{ended_closure, ended_conflict}
use Rattle.refutation_check.specs.Ended.{IsEnded}

pub ended : (instance : PlainInstance) (E : Exclusions) (old new : List Exclusion) (conflict : Bool)
    → Extends instance old new
    → Derives instance (excludes old) E → Derives instance E (excludes old)
    → MatchBool conflict (HasEmptyMask instance (excludes new))
    (IsStable instance (excludes new) × HasNoEmptyMask instance (excludes new))
    → IsEnded instance E new conflict
ended instance E old new true extends there back empty = ended_conflict instance E old new extends there empty
ended instance E old new false extends there back both =
    ended_closure instance E old new extends there back both.0 both.1

pub closure_ended : (instance : PlainInstance) (E : Exclusions) (es : List Exclusion) (conflict : Bool)
    → conflict ≡ false → IsEnded instance E es conflict
    → IsClosureOf instance E es
closure_ended instance E es true e h = absurd (true≢false e)
closure_ended instance E es false e h = h
