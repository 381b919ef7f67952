-- Whether a token of an outer refutation is accepted at a node, and else the reason.
use Rattle.std.specs.Prelude.{ℕ, ◌+◌, pred, not, ◌&&◌, length, Option, Some, None, nat_lt, nat_le}
use Rattle.std.specs.List.{list_any}
use Rattle.packing_terms.specs.Packing.{PlainInstance}
use Rattle.packing_terms.specs.Goals.{subset, worth}
use Rattle.packing_terms.specs.Tokens.{PlainToken}
use Rattle.packing_terms.specs.Tokens.PlainToken.{Assign, Choose, SetRefuted, ValueShort, GlobalScales}
use Rattle.packing_terms.specs.OuterRefutation.{Bins, Choice as BoxChoice, has_box, undecided}
use Rattle.packing_terms.specs.OuterFeeding.{OpenNode, Outer, Inner}
use Rattle.verdict_terms.specs.declared.check_answers.RefuseCode.{RefuseCode}
use Rattle.verdict_terms.specs.declared.check_answers.RefuseCode.TheVariants.{Kind, Range, Choice, Value, «Set»}
use Rattle.verdict_terms.specs.Judging.{unless, names_box, tuple_refusal, refusal}

-- a token at a node for k bins
abbrev pub bin_refusal : PlainInstance → ℕ → OpenNode Bins → PlainToken → Option RefuseCode
bin_refusal instance k (Inner keep es) t = refusal (subset instance keep) es t
bin_refusal instance k (Outer bins) (GlobalScales fs) = tuple_refusal instance k fs
bin_refusal instance k (Outer bins) (SetRefuted (Some b)) = unless (nat_le 1 b && nat_le b (length bins)) «Set» None
bin_refusal instance k (Outer bins) (Assign v) =
    unless (names_box instance v) Range (unless (not (list_any (has_box (pred v)) bins)) Choice None)
bin_refusal instance k (Outer bins) _ = Some Kind

-- a token at a node for a value
abbrev pub value_refusal : PlainInstance → ℕ → OpenNode BoxChoice → PlainToken → Option RefuseCode
value_refusal instance goal (Inner keep es) t = refusal (subset instance keep) es t
value_refusal instance goal (Outer c) ValueShort =
    unless (nat_lt (worth instance c.taken + worth instance (undecided instance c)) goal) Value None
value_refusal instance goal (Outer c) (SetRefuted None) = unless (nat_le 1 (length c.taken)) «Set» None
value_refusal instance goal (Outer c) (Choose v) =
    unless (names_box instance v) Range
    (unless (not (has_box (pred v) c.taken) && not (has_box (pred v) c.left)) Choice None)
value_refusal instance goal (Outer c) _ = Some Kind
