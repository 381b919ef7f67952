-- What is sought at the place of an exclusion.
use Rattle.std.specs.Prelude.{◌≡◌, List}
use Rattle.packing_terms.specs.declared.Exclusion.{Exclusion}
use Rattle.packing_terms.specs.Packing.{PlainInstance, dims, box_count}
use Rattle.packing_terms.specs.Exclusions.{IsEdgeAmong}
use Rattle.packing_terms.specs.Rules.{Rule, Pair, Apart, Triple, Chain, Compose, Cycle, Order}
use Rattle.edge_state.specs.Edges.{PlainEdges}
use Rattle.verdict_terms.specs.Steps.{PlainStep}
use Rattle.refutation_steps.specs.Goes.{Goes, IsTried}

-- the state has the sizes of the instance, and the exclusion is at an edge
pub record IsPlaced (instance : PlainInstance) (s : PlainEdges) (e : Exclusion) : Type 0 where
  pub dims : s.dims ≡ dims instance
  pub boxes : s.boxes ≡ box_count instance
  pub edge : IsEdgeAmong s.dims s.boxes e.dim e.u e.v

-- steps were taken, after which the exclusion is there if a rule of this kind gives it before
pub record IsSought (instance : PlainInstance) (old new : PlainEdges) (before after : List PlainStep) (e : Exclusion)
    (kind : Rule → Type 0) : Type 0 where
  pub goes : Goes instance old new before after
  pub tried : (rule : Rule) → kind rule → IsTried instance old new rule e

-- a rule other than CHAIN
abbrev pub IsPlain : Rule → Type 0
IsPlain (Chain i before u v after) = ⊥
IsPlain (Pair i u v) = Unit {0}
IsPlain (Apart i u v) = Unit {0}
IsPlain (Triple i u v x) = Unit {0}
IsPlain (Compose i u v x) = Unit {0}
IsPlain (Cycle i a b c d) = Unit {0}
IsPlain (Order i a b c d) = Unit {0}
