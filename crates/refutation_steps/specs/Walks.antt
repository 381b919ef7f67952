-- What a walk over tokens holds.
use Rattle.std.specs.Prelude.{ℕ, ◌≡◌, List, [], ◌∷◌, ◌++◌, length, Option, Some, None, reverse}
use Rattle.packing_terms.specs.Packing.{PlainInstance, dims, box_count}
use Rattle.packing_terms.specs.declared.Rel.TheVariants.{Overlap, Before, After}
use Rattle.packing_terms.specs.declared.Exclusion.{Exclusion}
use Rattle.packing_terms.specs.Tokens.{PlainToken}
use Rattle.packing_terms.specs.Tokens.PlainToken.{Apart, Order}
use Rattle.packing_terms.specs.Refutation.{exclusion_in_text}
use Rattle.verdict_terms.specs.Steps.{tokens_among}
use Rattle.verdict_terms.specs.Steps.PlainStep.{Plain}
use Rattle.refutation_steps.specs.declared.pending.Pending.{Pending}
use Rattle.refutation_steps.specs.declared.walk_state.Walk.{Walk}
use Rattle.refutation_steps.specs.Chains.{HasWeights}
use Rattle.refutation_steps.specs.Nodes.{IsWalking, IsAtNode}

-- all has the sizes of the instance
pub record IsFor (instance : PlainInstance) (w : Walk) : Type 0 where
  pub same_dims : w.state.dims ≡ dims instance
  pub same_boxes : w.state.boxes ≡ box_count instance
  pub given_dims : w.given.dims ≡ dims instance
  pub given_boxes : w.given.boxes ≡ box_count instance
  pub closer_for : w.closer ≡ record { dims = dims instance; boxes = box_count instance }
  pub weights : HasWeights (box_count instance) w.room.head.items w.room.tail.items

-- between two nodes, before these tokens
abbrev pub IsBetween : PlainInstance → Walk → List PlainToken → Type 0
IsBetween instance w tokens = IsWalking instance w.given.trail w.state.trail (reverse w.pending.items)
    w.lines tokens

-- at a node, before these tokens
abbrev pub IsAt : PlainInstance → Walk → Option ℕ → List PlainToken → Type 0
IsAt instance w closed tokens = IsAtNode instance w.given.trail w.state.trail closed (reverse w.pending.items)
    w.lines tokens

-- a line came, and two nodes
pub record IsSplit (old new : Walk) (token : PlainToken) (near far : Pending) : Type 0 where
  pub same_state : new.state ≡ old.state
  pub same_given : new.given ≡ old.given
  pub same_closer : new.closer ≡ old.closer
  pub same_box_capacity : new.room ≡ old.room
  pub nodes : reverse new.pending.items ≡ near ∷ far ∷ reverse old.pending.items
  pub lines : new.lines ≡ old.lines ++ Plain token ∷ []

-- a child of the node that the walk is at
abbrev pub child_of : Walk → ℕ → Exclusion → Option Exclusion → Pending
child_of w closed first second =
    record {
      given = length w.given.trail;
      held = length w.state.trail;
      closed = Some closed;
      first =
          Some first;
      second = second;
    }

-- the two splits, by the numbers of the text
abbrev pub IsApartSplit : Walk → Walk → ℕ → ℕ → ℕ → ℕ → Type 0
IsApartSplit old new closed dim u v =
    IsSplit old new (Apart dim u v) (child_of old closed (exclusion_in_text dim u v Overlap) None)
    (child_of old closed (exclusion_in_text dim u v Before) (Some (exclusion_in_text dim u v After)))

abbrev pub IsOrderSplit : Walk → Walk → ℕ → ℕ → ℕ → ℕ → Type 0
IsOrderSplit old new closed dim u v =
    IsSplit old new (Order dim u v) (child_of old closed (exclusion_in_text dim u v After) None)
    (child_of old closed (exclusion_in_text dim u v Before) None)

-- The token was taken at its node: the lines go on with it and with the steps before it, and the walk
-- is between two nodes again.
pub record Takes (instance : PlainInstance) (old new : Walk) (closed : Option ℕ) (token : PlainToken) : Type 0 where
  pub sizes : IsFor instance new
  pub tokens : tokens_among new.lines ≡ tokens_among old.lines ++ token ∷ []
  pub between : (rest : List PlainToken) → IsAt instance old closed (token ∷ rest) → IsBetween instance new rest

-- a token's own line came
pub record IsLeafWritten (old new : Walk) (token : PlainToken) : Type 0 where
  pub same_state : new.state ≡ old.state
  pub same_given : new.given ≡ old.given
  pub same_closer : new.closer ≡ old.closer
  pub same_box_capacity : new.room ≡ old.room
  pub same_pending : new.pending ≡ old.pending
  pub lines : new.lines ≡ old.lines ++ Plain token ∷ []
