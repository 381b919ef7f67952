-- Whether a token of an inner refutation is accepted at a node, and else the reason. The tests are
-- made in the order in which they stand.
use Rattle.std.specs.Prelude.{ℕ, ◌*◌, pred, Bool, true, false, not, ◌&&◌, ◌||◌, ◌==◌, List, length, Option, Some, None}
use Rattle.std.specs.Prelude.{nat_lt, nat_le}
use Rattle.std.specs.List.{list_all}
use Rattle.packing_terms.specs.declared.Rel.TheVariants.{Overlap, Before, After}
use Rattle.packing_terms.specs.declared.Exclusion.{Exclusion}
use Rattle.packing_terms.specs.declared.ScaleFn.{ScaleFn}
use Rattle.packing_terms.specs.declared.ScaleFn.TheVariants.{Id, Step, Cut, Count}
use Rattle.packing_terms.specs.Packing.{PlainInstance, dims, box_count, container_side, side}
use Rattle.packing_terms.specs.Exclusions.{Exclusions, excludes}
use Rattle.packing_terms.specs.Scales.{function_at}
use Rattle.packing_terms.specs.Tuples.{has_excess}
use Rattle.packing_terms.specs.Tokens.{PlainToken}
use Rattle.packing_terms.specs.Tokens.PlainToken.{Apart, Order, Rules, TooLarge, Scales}
use Rattle.packing_terms.specs.Rounds.{closure}
use Rattle.packing_terms.specs.Sums.{below}
use Rattle.packing_terms.specs.Rounds.{has_empty_mask}
use Rattle.verdict_terms.specs.declared.check_answers.RefuseCode.{RefuseCode}
use Rattle.verdict_terms.specs.declared.check_answers.RefuseCode.TheVariants.{Kind, Range, Choice, Conflict, Excess, Side}

-- refused with the code unless the test holds, else by the tests that follow; `None` is accepted
abbrev pub unless : Bool → RefuseCode → Option RefuseCode → Option RefuseCode
unless true code rest = rest
unless false code rest = Some code

-- the numbers of the text name a dimension, or a box
abbrev pub names_dim : PlainInstance → ℕ → Bool
names_dim instance dim = nat_le 1 dim && nat_le dim (dims instance)

abbrev pub names_box : PlainInstance → ℕ → Bool
names_box instance box_no = nat_le 1 box_no && nat_le box_no (box_count instance)

-- they name a dimension and two boxes, in rising order
abbrev pub names_pair : PlainInstance → ℕ → ℕ → ℕ → Bool
names_pair instance dim u v = names_dim instance dim && nat_le 1 u && nat_lt u v && nat_le v (box_count instance)

-- the closure of the node's exclusions
abbrev pub closed : PlainInstance → List Exclusion → Exclusions
closed instance es = excludes (closure instance es)

-- whether a set of exclusions has a conflict
abbrev pub is_conflict : PlainInstance → Exclusions → Bool
is_conflict instance X = has_empty_mask X (dims instance) (box_count instance)

-- whether there is no conflict, and the mask there has overlap and another relation; the numbers
-- are those of the text
abbrev pub may_part : PlainInstance → Exclusions → ℕ → ℕ → ℕ → Bool
may_part instance X dim u v =
    not (is_conflict instance X) && not (X (pred dim) (pred u) (pred v) Overlap)
    && (not (X (pred dim) (pred u) (pred v) Before) || not (X (pred dim) (pred u) (pred v) After))

-- whether there is no conflict, and the mask there is exactly before and after
abbrev pub may_order : PlainInstance → Exclusions → ℕ → ℕ → ℕ → Bool
may_order instance X dim u v =
    not (is_conflict instance X) && X (pred dim) (pred u) (pred v) Overlap
    && not (X (pred dim) (pred u) (pred v) Before) && not (X (pred dim) (pred u) (pred v) After)

-- whether the parameter is legal for a container side W
abbrev pub is_legal : ℕ → ScaleFn → Bool
is_legal W Id = true
is_legal W (Step k) = nat_le 1 k && nat_le k 16 && nat_le 1 W
is_legal W (Cut e) = nat_le 1 e && nat_le (2 * e) W
is_legal W (Count e) = nat_le 1 e && nat_le (2 * e) W

-- whether each function is legal for the container side of its dimension
abbrev pub are_legal : PlainInstance → List ScaleFn → Bool
are_legal instance fs = list_all (λ i. is_legal (container_side instance i) (function_at fs i)) (below (dims instance))

-- whether no box side exceeds its container side
abbrev pub sides_fit : PlainInstance → Bool
sides_fit instance =
    list_all (λ v. list_all (λ i. nat_le (side instance v i) (container_side instance i)) (below (dims instance)))
    (below (box_count instance))

-- a tuple, for `copies` copies of the container
abbrev pub tuple_refusal : PlainInstance → ℕ → List ScaleFn → Option RefuseCode
tuple_refusal instance copies fs =
    unless (length fs == dims instance) Kind (unless (are_legal instance fs) Range (
    unless (sides_fit instance && has_excess instance copies fs) Excess None))

-- a token at a node with these exclusions
abbrev pub refusal : PlainInstance → List Exclusion → PlainToken → Option RefuseCode
refusal instance es (Apart dim u v) =
    unless (names_pair instance dim u v) Range (unless (may_part instance (closed instance es) dim u v) Choice None)
refusal instance es (Order dim u v) =
    unless (names_pair instance dim u v) Range (unless (may_order instance (closed instance es) dim u v) Choice None)
refusal instance es Rules = unless (is_conflict instance (closed instance es)) Conflict None
refusal instance es (TooLarge box_no dim) =
    unless (names_box instance box_no && names_dim instance dim) Range (
    unless (nat_lt (container_side instance (pred dim)) (side instance (pred box_no) (pred dim))) Side None)
refusal instance es (Scales fs) = tuple_refusal instance 1 fs
refusal instance es _ = Some Kind
