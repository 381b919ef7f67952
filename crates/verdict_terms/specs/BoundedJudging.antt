-- Whether a token of a bounded refutation is accepted at a node, and else the reason; and the open
-- nodes that tokens leave.
use Rattle.std.specs.Prelude.{ℕ, pred, ◌&&◌, ◌==◌, nat_lt, List, [], ◌∷◌, length, Option, Some, None, Result, Ok, Err}
use Rattle.std.specs.List.{list_all}
use Rattle.packing_terms.specs.declared.ScaleFn.{ScaleFn}
use Rattle.packing_terms.specs.Packing.{PlainInstance, dims}
use Rattle.packing_terms.specs.OuterRefutation.{Choice as BoxChoice, has_box, undecided}
use Rattle.packing_terms.specs.OuterFeeding.{OpenNode, Outer, Inner}
use Rattle.packing_terms.specs.Results.{◌>>=◌}
use Rattle.verdict_terms.specs.declared.check_answers.RefuseCode.{RefuseCode}
use Rattle.verdict_terms.specs.declared.check_answers.RefuseCode.TheVariants.{Kind, Range, Choice, Excess, After}
use Rattle.verdict_terms.specs.Judging.{unless, names_box, are_legal}
use Rattle.verdict_terms.specs.OuterJudging.{value_refusal}
use Rattle.verdict_terms.specs.Checking.{left_by}
use Rattle.verdict_terms.specs.Shares.{fits_alone, supply, demand}
use Rattle.verdict_terms.specs.Exchanges.{comes_before}
use Rattle.verdict_terms.specs.BoundedRefutation.{BoundedToken, Plain, PricedOut, Exchange}
use Rattle.verdict_terms.specs.BoundedFeeding.{bounded_children}

-- a leaf that is priced out: a function for each dimension, each legal, and neither a box that is in
-- too long, nor enough left for the goal
abbrev pub price_refusal : PlainInstance → ℕ → BoxChoice → ℕ → ℕ → List ScaleFn → Option RefuseCode
price_refusal instance goal c q p fs =
    unless (length fs == dims instance) Kind (unless (are_legal instance fs) Range (
    unless (list_all (fits_alone instance) c.taken
    && nat_lt (supply instance fs q p c.taken (undecided instance c)) (demand instance fs q p c.taken goal)) Excess None))

-- a leaf that is open to an exchange: both numbers name a box, the first is out, the second is in,
-- and the first comes before the second
abbrev pub exchange_refusal : PlainInstance → BoxChoice → ℕ → ℕ → Option RefuseCode
exchange_refusal instance c u v =
    unless (names_box instance u && names_box instance v) Range (
    unless (has_box (pred u) c.left && has_box (pred v) c.taken && comes_before instance (pred u) (pred v)) Choice None)

-- a token at a node for a value
abbrev pub bounded_refusal : PlainInstance → ℕ → OpenNode BoxChoice → BoundedToken → Option RefuseCode
bounded_refusal instance goal node (Plain t) = value_refusal instance goal node t
bounded_refusal instance goal (Outer c) (PricedOut q p fs) = price_refusal instance goal c q p fs
bounded_refusal instance goal (Inner keep es) (PricedOut q p fs) = Some Kind
bounded_refusal instance goal (Outer c) (Exchange u v) = exchange_refusal instance c u v
bounded_refusal instance goal (Inner keep es) (Exchange u v) = Some Kind

-- the open nodes after a token, or why it is refused; a whole tree takes no token
abbrev pub bounded_after : PlainInstance → ℕ → List (OpenNode BoxChoice) → BoundedToken
    → Result (List (OpenNode BoxChoice)) RefuseCode
bounded_after instance goal [] t = Err After
bounded_after instance goal (n ∷ nodes) t = left_by (bounded_refusal instance goal n t) (bounded_children n t) nodes

-- all tokens, one by one
abbrev pub bounded_after_all : PlainInstance → ℕ → List (OpenNode BoxChoice) → List BoundedToken
    → Result (List (OpenNode BoxChoice)) RefuseCode
bounded_after_all instance goal nodes [] = Ok nodes
bounded_after_all instance goal nodes (t ∷ ts) =
    bounded_after instance goal nodes t >>= λ left. bounded_after_all instance goal left ts
