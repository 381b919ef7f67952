-- Outer refutations for a value with two more leaves: a node that is priced out, and a node at which
-- an exchange is open, so that no complete set agrees with it.
--
-- Tokens and nodes are those of `RefutesValue`. The further tokens stand beside the plain ones, so
-- that the definitions of plain refutations stay as they are. A refuted node holds no complete set
-- that fits and is worth the goal; some set of the greatest value is complete.
use Rattle.std.specs.Prelude.{ℕ, pred, ◌≤◌, ◌≡◌, List, [], ◌∷◌, ◌++◌, length, map, None}
use Rattle.packing_terms.specs.declared.ScaleFn.{ScaleFn}
use Rattle.packing_terms.specs.Packing.{PlainInstance}
use Rattle.packing_terms.specs.Goals.{subset}
use Rattle.packing_terms.specs.Tokens.{PlainToken}
use Rattle.packing_terms.specs.Tokens.PlainToken.{Choose, SetRefuted, ValueShort}
use Rattle.packing_terms.specs.Refutation.{Refutes}
use Rattle.packing_terms.specs.OuterRefutation.{Choice, no_choice, with_taken, with_left, IsOpenBox, IsShort}
use Rattle.verdict_terms.specs.Shares.{IsPricedOut}
use Rattle.verdict_terms.specs.Exchanges.{IsExchange}

-- A plain token, or a further leaf: priced out, with the weights of values and of shares, and the
-- tuple; or open to an exchange, with the numbers in the text of the box that is out and of the one
-- that is in.
pub data BoundedToken : Type 0 where
  Plain : (token : PlainToken) → BoundedToken
  PricedOut : (q p : ℕ) (tuple : List ScaleFn) → BoundedToken
  Exchange : (u v : ℕ) → BoundedToken

-- The tokens refute the nodes of the list for a value, one node after another, where leaves may be
-- priced out or open to an exchange.
pub data RefutesBounded (instance : PlainInstance) (goal : ℕ) : List Choice → List BoundedToken → Type 0 where
  none_left : RefutesBounded instance goal [] []
  by_value : {c : Choice} {nodes : List Choice} {z : List BoundedToken} → IsShort instance goal c
      → RefutesBounded instance goal nodes z → RefutesBounded instance goal (c ∷ nodes) (Plain ValueShort ∷ z)
  by_price : {c : Choice} {nodes : List Choice} {q p : ℕ} {fs : List ScaleFn} {z : List BoundedToken}
      → IsPricedOut instance goal fs q p c
      → RefutesBounded instance goal nodes z → RefutesBounded instance goal (c ∷ nodes) (PricedOut q p fs ∷ z)
  by_exchange : {c : Choice} {nodes : List Choice} {u v : ℕ} {z : List BoundedToken} → IsExchange instance c u v
      → RefutesBounded instance goal nodes z → RefutesBounded instance goal (c ∷ nodes) (Exchange u v ∷ z)
  by_set : {c : Choice} {nodes : List Choice} {x : List PlainToken} {y z : List BoundedToken} → 1 ≤ length c.taken
      → Refutes (subset instance c.taken) [] x → z ≡ map (λ t. Plain t) x ++ y
      → RefutesBounded instance goal nodes y → RefutesBounded instance goal (c ∷ nodes) (Plain (SetRefuted None) ∷ z)
  by_box : {c : Choice} {nodes : List Choice} {v : ℕ} {z : List BoundedToken} → IsOpenBox instance c v
      → RefutesBounded instance goal (with_taken c (pred v) ∷ with_left c (pred v) ∷ nodes) z
      → RefutesBounded instance goal (c ∷ nodes) (Plain (Choose v) ∷ z)

-- the tokens show that the instance doesn't reach the value
abbrev pub IsBoundedRefutation : PlainInstance → ℕ → List BoundedToken → Type 0
IsBoundedRefutation instance goal tokens = RefutesBounded instance goal (no_choice ∷ []) tokens
