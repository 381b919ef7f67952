-- Open nodes of a refutation that is walked: the exclusions that are given, closed up to a position,
-- and those that are held, to which steps lead.
use Rattle.std.specs.Prelude.{ℕ, ◌≡◌, ◌≤◌, List, [], ◌∷◌, ◌++◌, length, Option, Some, None}
use Rattle.packing_terms.specs.declared.Exclusion.{Exclusion}
use Rattle.packing_terms.specs.Packing.{PlainInstance, dims, box_count}
use Rattle.packing_terms.specs.Exclusions.{excludes, IsEdgeAmong}
use Rattle.packing_terms.specs.Closure.{IsSubset, IsStable, AreDerived}
use Rattle.packing_terms.specs.Tokens.{PlainToken}
use Rattle.packing_terms.specs.Refutation.{Refutes}
use Rattle.packing_terms.specs.Steps.{with_exclusion}
use Rattle.packing_terms.specs.Places.{HasNoEmptyMask}
use Rattle.edge_state.specs.Edges.{PlainEdges, oldest}
use Rattle.edge_state.specs.States.{HasEmptyMask}
use Rattle.verdict_terms.specs.Steps.{PlainStep}
use Rattle.verdict_terms.specs.Explaining.{Explains}
use Rattle.refutation_steps.specs.declared.pending.Pending.{Pending}
use Rattle.refutation_steps.specs.Goes.{Goes}

-- ---- closings

-- no rule adds to the oldest exclusions, up to a position, and no mask is empty there
pub record IsClosedAt (instance : PlainInstance) (es : List Exclusion) (mark : ℕ) : Type 0 where
  pub within : mark ≤ length es
  pub stable : IsStable instance (excludes (oldest mark es))
  pub full : HasNoEmptyMask instance (excludes (oldest mark es))

-- the same where a position is named
abbrev pub IsKnown : PlainInstance → List Exclusion → Option ℕ → Type 0
IsKnown instance es None = Unit {0}
IsKnown instance es (Some mark) = IsClosedAt instance es mark

-- what is given is closed and held; or a mask of what is held is empty
abbrev pub IsEnd : PlainInstance → List Exclusion → List Exclusion → Option ℕ → Type 0
IsEnd instance given held None = HasEmptyMask instance (excludes held)
IsEnd instance given held (Some mark) = (mark ≡ length given) × IsClosedAt instance given mark × IsSubset
    (excludes given) (excludes held)

-- steps were taken to what a closing adds
pub record IsSettled (instance : PlainInstance) (old new : PlainEdges) (before after : List PlainStep)
    (given : List Exclusion) (end_ : Option ℕ) : Type 0 where
  pub goes : Goes instance old new before after
  pub ended : IsEnd instance given new.trail end_

-- ---- nodes

-- some exclusions are given, what is given is held, and all that is held is derived from them
pub record IsDrawn (instance : PlainInstance) (es given held : List Exclusion) (closed : Option ℕ) : Type 0 where
  pub given_all : IsSubset (excludes es) (excludes given)
  pub held_all : IsSubset (excludes given) (excludes held)
  pub given_derived : AreDerived instance (excludes es) (excludes given)
  pub held_derived : AreDerived instance (excludes es) (excludes held)
  pub known : IsKnown instance given closed

-- the tokens refute under them
pub record IsOpenNode (instance : PlainInstance) (es given held : List Exclusion) (closed : Option ℕ)
    (tokens : List PlainToken) : Type 0 where
  pub refutes : Refutes instance es tokens
  pub drawn : IsDrawn instance es given held closed

-- an exclusion that may be there
abbrev pub with_some : List Exclusion → Option Exclusion → List Exclusion
with_some es None = es
with_some es (Some e) = with_exclusion es e

abbrev pub IsAtAmong : ℕ → ℕ → Option Exclusion → Type 0
IsAtAmong d n None = Unit {0}
IsAtAmong d n (Some e) = IsEdgeAmong d n e.dim e.u e.v

-- the exclusions of a node, from those of its parent
abbrev pub entered : Pending → List Exclusion → List Exclusion
entered p es = with_some (with_some es p.second) p.first

-- The tokens begin with those of a node that is entered from these exclusions of its parent, and
-- the others are right for the nodes behind it.
pub record IsAwaited (instance : PlainInstance) (given held : List Exclusion) (p : Pending)
    (rest : List PlainToken → Type 0) (tokens : List PlainToken) : Type 0 where
  pub es : List Exclusion
  pub own : List PlainToken
  pub others : List PlainToken
  pub parts : tokens ≡ own ++ others
  pub opened : IsOpenNode instance es (entered p given) (entered p held) p.closed own
  pub first : IsAtAmong (dims instance) (box_count instance) p.first
  pub second : IsAtAmong (dims instance) (box_count instance) p.second
  pub after : rest others

-- the tokens are those of the nodes that wait, the next one first, where the two lists are these
abbrev pub AreAwaiting : PlainInstance → List Exclusion → List Exclusion → List Pending → List PlainToken → Type 0
AreAwaiting instance given held [] tokens = tokens ≡ []
AreAwaiting instance given held (p ∷ ps) tokens =
    (p.given ≤ length given) × (p.held ≤ length held)
    × IsAwaited instance (oldest p.given given) (oldest p.held held) p
    (AreAwaiting instance (oldest p.given given) (oldest p.held held) ps) tokens

-- what is held at each of them
abbrev pub held_of : List Exclusion → List Pending → List (List Exclusion)
held_of held [] = []
held_of held (p ∷ ps) = entered p (oldest p.held held) ∷ held_of (oldest p.held held) ps

-- the lines begin with some that explain under the exclusions, and the others are right
pub record ExplainsFirst (instance : PlainInstance) (es : List Exclusion) (rest : List PlainStep → Type 0)
    (lines : List PlainStep) : Type 0 where
  pub own : List PlainStep
  pub others : List PlainStep
  pub parts : lines ≡ own ++ others
  pub explains : Explains instance es own
  pub after : rest others

-- the lines explain under each of the lists in turn
abbrev pub ExplainsEach : PlainInstance → List (List Exclusion) → List PlainStep → Type 0
ExplainsEach instance [] lines = lines ≡ []
ExplainsEach instance (es ∷ ess) lines = ExplainsFirst instance es (ExplainsEach instance ess) lines

-- the lines so far explain the instance before those that explain under these lists
abbrev pub LeadsOn : PlainInstance → List (List Exclusion) → List PlainStep → Type 0
LeadsOn instance ess lines = (more : List PlainStep) → ExplainsEach instance ess more
    → Explains instance [] (lines ++ more)

-- ---- the walk

-- between two nodes: the tokens that are left are those of the nodes that wait
pub record IsWalking (instance : PlainInstance) (given held : List Exclusion) (ps : List Pending)
    (lines : List PlainStep) (tokens : List PlainToken) : Type 0 where
  pub awaits : AreAwaiting instance given held ps tokens
  pub leads : LeadsOn instance (held_of held ps) lines

-- at a node: the tokens that are left are its own, and then those of the nodes that wait
pub record IsAtNode (instance : PlainInstance) (given held : List Exclusion) (closed : Option ℕ) (ps : List Pending)
    (lines : List PlainStep) (tokens : List PlainToken) : Type 0 where
  pub es : List Exclusion
  pub own : List PlainToken
  pub others : List PlainToken
  pub parts : tokens ≡ own ++ others
  pub opened : IsOpenNode instance es given held closed own
  pub rest : AreAwaiting instance given held ps others
  pub leads : LeadsOn instance (held ∷ held_of held ps) lines
