-- What a closing found, and what of it was explained.
use Rattle.std.specs.Prelude.{◌≡◌, ◌⊎◌, List, Bool, false, IsTrue}
use Rattle.packing_terms.specs.declared.Exclusion.{Exclusion}
use Rattle.packing_terms.specs.Packing.{PlainInstance}
use Rattle.packing_terms.specs.Relations.{mirror}
use Rattle.packing_terms.specs.Exclusions.{excludes}
use Rattle.packing_terms.specs.Rules.{Rule, Follows, Pair, Apart, Triple, Chain, Compose, Cycle, Order}
use Rattle.packing_terms.specs.Closure.{IsSubset}
use Rattle.edge_state.specs.Edges.{PlainEdges}
use Rattle.edge_state.specs.States.{HasEmptyMask}
use Rattle.verdict_terms.specs.Steps.{PlainStep}
use Rattle.refutation_steps.specs.Goes.{Goes, IsThere, IsTried}
use Rattle.refutation_steps.specs.Places.{IsPlain}

-- the exclusion, read from its second box
abbrev pub turned_of : Exclusion → Exclusion
turned_of e = record { dim = e.dim; u = e.v; v = e.u; rel = mirror e.rel }

-- steps were taken, after which the exclusion is there if a rule other than CHAIN gives it or its
-- mirror before
pub record IsPlainSought (instance : PlainInstance) (old new : PlainEdges) (before after : List PlainStep)
    (e : Exclusion) : Type 0 where
  pub goes : Goes instance old new before after
  pub here : (rule : Rule) → IsPlain rule → IsTried instance old new rule e
  pub mirrored : (rule : Rule) → IsPlain rule → IsTried instance old new rule (turned_of e)

abbrev pub IsChainRule : Rule → Type 0
IsChainRule (Chain i before u v after) = Unit {0}
IsChainRule (Pair i u v) = ⊥
IsChainRule (Apart i u v) = ⊥
IsChainRule (Triple i u v x) = ⊥
IsChainRule (Compose i u v x) = ⊥
IsChainRule (Cycle i a b c d) = ⊥
IsChainRule (Order i a b c d) = ⊥

-- the same of CHAIN, unless some mask is empty
pub record AreChainsTried (instance : PlainInstance) (old new : PlainEdges) (before after : List PlainStep)
    (e : Exclusion) (stopped : Bool) : Type 0 where
  pub goes : Goes instance old new before after
  pub empty : IsTrue stopped → HasEmptyMask instance (excludes new.trail)
  pub here : stopped ≡ false → (rule : Rule) → IsChainRule rule → IsTried instance old new rule e
  pub mirrored : stopped ≡ false → (rule : Rule) → IsChainRule rule → IsTried instance old new rule (turned_of e)

-- steps were taken, after which the exclusion is there if it follows by a rule before, or some mask
-- is empty
pub record IsMade (instance : PlainInstance) (old new : PlainEdges) (before after : List PlainStep) (e : Exclusion)
    (stopped : Bool) : Type 0 where
  pub goes : Goes instance old new before after
  pub empty : IsTrue stopped → HasEmptyMask instance (excludes new.trail)
  pub made : stopped ≡ false → IsTrue (excludes old.trail e.dim e.u e.v e.rel) ⊎ Follows instance (excludes old.trail)
      e.dim e.u e.v e.rel → IsThere new.trail e

-- steps were taken, after which all is there that the closed list has, or some mask is empty
pub record IsReplayed (instance : PlainInstance) (old new : PlainEdges) (before after : List PlainStep)
    (closed : List Exclusion) (stopped : Bool) : Type 0 where
  pub goes : Goes instance old new before after
  pub empty : IsTrue stopped → HasEmptyMask instance (excludes new.trail)
  pub holds : stopped ≡ false → IsSubset (excludes closed) (excludes new.trail)
