-- Chains that are found along the weights of heaviest chains.
use Rattle.std.specs.Prelude.{ℕ, ◌≡◌, ◌≢◌, ◌<◌, ◌≤◌, List, [], ◌∷◌, ◌++◌, length, slice_index, Bool, false, IsTrue}
use Rattle.std.specs.List.{sum_by}
use Rattle.packing_terms.specs.declared.Rel.TheVariants.{Before}
use Rattle.packing_terms.specs.declared.Exclusion.{Exclusion}
use Rattle.packing_terms.specs.Packing.{PlainInstance, box_count, side}
use Rattle.packing_terms.specs.Exclusions.{excludes}
use Rattle.packing_terms.specs.Rules.{Rule, Chain, AreBoxesAmong, AreBoxes, IsChain, weight, IsRuleInstance, Premises}
use Rattle.packing_terms.specs.declared.Direction.{Direction}
use Rattle.packing_terms.specs.Runs.{IsRun, Leads, IsTransitive, IsOneWay, IsHeaviestRun}
use Rattle.edge_state.specs.Edges.{PlainEdges}
use Rattle.edge_state.specs.States.{IsSized, HasEmptyMask}
use Rattle.verdict_terms.specs.Steps.{PlainStep}
use Rattle.refutation_steps.specs.Goes.{Goes, IsTried}
use Rattle.refutation_steps.specs.Replays.{IsChainRule}

-- each number is the weight of the heaviest chain of the box, in this direction
pub record AreWeighed (instance : PlainInstance) (s : PlainEdges) (i : ℕ) (direction : Direction) (ks : List ℕ) : Type 0
  where
    pub sizes : IsSized instance s i
    pub positive : (v : ℕ) → v < box_count instance → 1 ≤ side instance v i
    pub count : length ks ≡ box_count instance
    pub transitive : IsTransitive (box_count instance) (Leads (excludes s.trail) i direction)
    pub one_way : IsOneWay (box_count instance) (Leads (excludes s.trail) i direction)
    pub heaviest : (v : ℕ) → v < box_count instance
        → IsHeaviestRun (box_count instance) (Leads (excludes s.trail) i direction) (λ u. side instance u i) v
        (slice_index ks v)

-- `w` is a successor of the box, and the weight from `w` on is at least `least`
pub record IsNextBox (instance : PlainInstance) (s : PlainEdges) (i : ℕ) (direction : Direction) (ks : List ℕ)
    (least v w : ℕ) : Type 0 where
  pub there : w < box_count instance
  pub distinct : v ≢ w
  pub leads : Leads (excludes s.trail) i direction v w
  pub heavy : least ≤ slice_index ks w

-- a chain of the box doesn't go on to w, or those from w on weigh less
abbrev pub IsNoNextBox : PlainInstance → PlainEdges → ℕ → Direction → List ℕ → ℕ → ℕ → ℕ → Type 0
IsNoNextBox instance s i direction ks least v w =
    v ≢ w → Leads (excludes s.trail) i direction v w → slice_index ks w < least

-- behind the list came the boxes of a chain of this box, which weighs at least as much as its number
pub record IsRunPushed (instance : PlainInstance) (s : PlainEdges) (i : ℕ) (direction : Direction) (ks : List ℕ) (v : ℕ)
    (old new : List ℕ) : Type 0 where
  pub rest : List ℕ
  pub items : new ≡ old ++ v ∷ rest
  pub boxes : AreBoxesAmong (box_count instance) (v ∷ rest)
  pub run : IsRun (Leads (excludes s.trail) i direction) (v ∷ rest)
  pub heavy : slice_index ks v ≤ sum_by (λ u. side instance u i) (v ∷ rest)

-- a chain that ends in the box, of at least this weight
pub record IsChainTo (instance : PlainInstance) (s : PlainEdges) (i v least : ℕ) (found : List ℕ) : Type 0 where
  pub before : List ℕ
  pub items : found ≡ before ++ v ∷ []
  pub boxes : AreBoxes instance (before ++ v ∷ [])
  pub chain : IsChain (excludes s.trail) i (before ++ v ∷ [])
  pub heavy : least ≤ weight instance i (before ++ v ∷ [])

-- a chain that starts in the box, of at least this weight
pub record IsChainFrom (instance : PlainInstance) (s : PlainEdges) (i v least : ℕ) (found : List ℕ) : Type 0 where
  pub after : List ℕ
  pub items : found ≡ v ∷ after
  pub boxes : AreBoxes instance (v ∷ after)
  pub chain : IsChain (excludes s.trail) i (v ∷ after)
  pub heavy : least ≤ weight instance i (v ∷ after)

-- steps were taken, after which some mask is empty, or the exclusion is there if CHAIN gives it
-- before
pub record IsChainTry (instance : PlainInstance) (old new : PlainEdges) (before after : List PlainStep) (e : Exclusion)
    (stopped : Bool) : Type 0 where
  pub goes : Goes instance old new before after
  pub empty : IsTrue stopped → HasEmptyMask instance (excludes new.trail)
  pub tried : stopped ≡ false → (rule : Rule) → IsChainRule rule → IsTried instance old new rule e

-- a weight for each box, of the chains that end in it and of those that start there
pub record HasWeights (n : ℕ) (head tail : List ℕ) : Type 0 where
  pub heads : length head ≡ n
  pub tails : length tail ≡ n

-- two chains of the lists make an instance of CHAIN whose premises hold
pub record IsChainFound (instance : PlainInstance) (es : List Exclusion) (i u v : ℕ) (to from : List ℕ) : Type 0 where
  pub before : List ℕ
  pub after : List ℕ
  pub to_items : to ≡ before ++ u ∷ []
  pub from_items : from ≡ v ∷ after
  pub is : IsRuleInstance instance (Chain i before u v after)
  pub premises : Premises instance (excludes es) (Chain i before u v after)

-- it was written as a step
pub record IsChainStepped (instance : PlainInstance) (old new : PlainEdges) (before after : List PlainStep)
    (i u v : ℕ) : Type 0 where
  pub goes : Goes instance old new before after
  pub there : IsTrue (excludes new.trail i u v Before)
