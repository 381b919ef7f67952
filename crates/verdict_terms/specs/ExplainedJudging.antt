-- Whether a line of an explained refutation is accepted at an open node, and else the reason. The
-- tests are made in the order in which they stand.
use Rattle.std.specs.Prelude.{ℕ, pred, ◌+◌, Bool, true, false, not, ◌&&◌, ◌||◌, ◌==◌, List, [], ◌∷◌, ◌++◌, length}
use Rattle.std.specs.Prelude.{Option, Some, None, nat_lt, if◌then◌else◌}
use Rattle.std.specs.List.{list_all, list_any}
use Rattle.packing_terms.specs.declared.Rel.TheVariants.{Overlap, Before, After}
use Rattle.packing_terms.specs.declared.Exclusion.{Exclusion}
use Rattle.packing_terms.specs.Packing.{PlainInstance, dims, container_side, side}
use Rattle.packing_terms.specs.Exclusions.{Exclusions, excludes, exclusion_at}
use Rattle.packing_terms.specs.Rules.{Rule, dim_of, first_of, second_of, weight}
use Rattle.packing_terms.specs.Rules.Rule.{Pair as PairRule, Apart as ApartRule, Triple as TripleRule}
use Rattle.packing_terms.specs.Rules.Rule.{Chain as ChainRule, Compose as ComposeRule, Cycle as CycleRule}
use Rattle.packing_terms.specs.Rules.Rule.{Order as OrderRule}
use Rattle.packing_terms.specs.Sums.{below}
use Rattle.packing_terms.specs.Tokens.{PlainToken}
use Rattle.packing_terms.specs.Tokens.PlainToken.{Apart as ApartToken, Order as OrderToken, TooLarge, Scales}
use Rattle.packing_terms.specs.Rounds.{is_joined, is_surely_before, is_chain}
use Rattle.packing_terms.specs.Steps.{with_exclusion}
use Rattle.packing_terms.specs.Applied.{is_narrowed}
use Rattle.verdict_terms.specs.declared.check_answers.RefuseCode.{RefuseCode}
use Rattle.verdict_terms.specs.declared.check_answers.RefuseCode.TheVariants.{Kind as KindCode, Range as RangeCode}
use Rattle.verdict_terms.specs.declared.check_answers.RefuseCode.TheVariants.{Choice as ChoiceCode, Conflict as ConflictCode}
use Rattle.verdict_terms.specs.declared.check_answers.RefuseCode.TheVariants.{Excess as ExcessCode, Side as SideCode}
use Rattle.verdict_terms.specs.declared.check_answers.RefuseCode.TheVariants.{Value as ValueCode, «Set» as SetCode}
use Rattle.verdict_terms.specs.declared.check_answers.RefuseCode.TheVariants.{After as AfterCode}
use Rattle.verdict_terms.specs.Judging.{names_dim, names_box, names_pair, refusal}
use Rattle.verdict_terms.specs.declared.explained_answers.AuditCode.{AuditCode}
use Rattle.verdict_terms.specs.declared.explained_answers.AuditCode.TheVariants.{Kind, Range, Step, Choice, Conflict, Excess}
use Rattle.verdict_terms.specs.declared.explained_answers.AuditCode.TheVariants.{Side}
use Rattle.verdict_terms.specs.Steps.{PlainStep}
use Rattle.verdict_terms.specs.Steps.PlainStep.{Pair, Apart, Triple, Compose, Cycle, Order, Chain, On, Clash, Plain}
use Rattle.verdict_terms.specs.Explaining.{leaves, after_rule, with_text}

-- a chain begun, by its lines so far: its dimension, counted from 0, how many boxes are announced
-- of the first chain and of the second, and those that came
pub record BegunChain : Type 0 where
  pub dim : ℕ
  pub first : ℕ
  pub second : ℕ
  pub before : List ℕ
  pub after : List ℕ

-- an open node: its exclusions, and the chain begun there
pub record AuditNode : Type 0 where
  pub exclusions : List Exclusion
  pub chain : Option BegunChain

-- a node at which no chain is begun
abbrev pub at_rest : List Exclusion → AuditNode
at_rest es = record { exclusions = es; chain = None }

-- refused with the code unless the test holds, else by the tests that follow; `None` is accepted
abbrev pub unless : Bool → AuditCode → Option AuditCode → Option AuditCode
unless true code rest = rest
unless false code rest = Some code

-- the numbers of the text name distinct boxes
abbrev pub names_boxes : PlainInstance → List ℕ → Bool
names_boxes instance [] = true
names_boxes instance (v ∷ vs) = names_box instance v && not (list_any (λ u. v == u) vs) && names_boxes instance vs

-- whether the premises of a rule hold
abbrev pub applies : PlainInstance → Exclusions → Rule → Bool
applies instance X (PairRule i u v) = nat_lt (container_side instance i) (side instance u i + side instance v i)
applies instance X (ApartRule i u v) = list_all (λ j. (j == i) || is_joined X j u v) (below (dims instance))
applies instance X (TripleRule i u v x) =
    X i u x Overlap && X i v x Overlap
    && nat_lt (container_side instance i) (side instance u i + side instance v i + side instance x i)
applies instance X (ChainRule i before u v after) =
    is_chain X i (before ++ u ∷ []) && is_chain X i (v ∷ after)
    && nat_lt (container_side instance i) (weight instance i (before ++ u ∷ []) + weight instance i (v ∷ after))
applies instance X (ComposeRule i u v x) = true
applies instance X (CycleRule i a b c d) =
    is_joined X i a b && is_joined X i b c && is_joined X i c d && is_joined X i d a && X i a c Overlap
applies instance X (OrderRule i a b c d) = is_surely_before X i a b && is_surely_before X i c d && X i a d Before

-- whether a mask changes where the rule excludes what it concludes
abbrev pub is_change : List Exclusion → Rule → Bool
is_change es rule = is_narrowed es (dim_of rule) (first_of rule) (second_of rule) (leaves (excludes es) rule)

-- a step that isn't a chain: the numbers of its dimension and of its boxes, and its rule
abbrev pub step_refusal : PlainInstance → List Exclusion → ℕ → List ℕ → Rule → Option AuditCode
step_refusal instance es dim boxes rule =
    unless (names_dim instance dim && names_boxes instance boxes) Range
    (unless (applies instance (excludes es) rule && is_change es rule) Step None)

-- the last of some boxes, and the first
abbrev pub last_of : List ℕ → ℕ
last_of [] = 0
last_of (u ∷ []) = u
last_of (u ∷ v ∷ vs) = last_of (v ∷ vs)

abbrev pub front_of : List ℕ → ℕ
front_of [] = 0
front_of (u ∷ us) = u

-- whether the last of some boxes is surely before v; there may be none
abbrev pub leads_to : Exclusions → ℕ → List ℕ → ℕ → Bool
leads_to X i [] v = true
leads_to X i (u ∷ us) v = is_surely_before X i (last_of (u ∷ us)) v

-- whether a box goes on with some boxes: it isn't among them, and the last one is surely before it
abbrev pub goes_on : Exclusions → ℕ → List ℕ → ℕ → Bool
goes_on X i vs v = not (list_any (λ u. u == v) vs) && leads_to X i vs v

-- whether the next box belongs to the first chain
abbrev pub is_first : BegunChain → Bool
is_first c = nat_lt (length c.before) c.first

-- the boxes so far of the chain that goes on
abbrev pub part_of : BegunChain → List ℕ
part_of c = if is_first c then c.before else c.after

-- a chain begun with one box more
abbrev pub with_box : BegunChain → ℕ → BegunChain
with_box c v = if is_first c then record c { before = c.before ++ v ∷ [] } else record c { after = c.after ++ v ∷ [] }

-- whether all boxes came
abbrev pub has_all : BegunChain → Bool
has_all c = (length c.before == c.first) && (length c.after == c.second)

-- whether the chains are together longer than the container, end in one box and begin with another,
-- and the first isn't yet known not to be before the second
abbrev pub chain_changes : PlainInstance → List Exclusion → BegunChain → Bool
chain_changes instance es c =
    not (last_of c.before == front_of c.after)
    && nat_lt (container_side instance c.dim) (weight instance c.dim c.before + weight instance c.dim c.after)
    && not (excludes es c.dim (last_of c.before) (front_of c.after) Before)

-- the next box of a chain; the last one ends the step
abbrev pub on_refusal : PlainInstance → List Exclusion → BegunChain → ℕ → Option AuditCode
on_refusal instance es c box_no =
    unless (names_box instance box_no) Range (
    unless (goes_on (excludes es) c.dim (part_of c) (pred box_no)) Step (
    unless (not (has_all (with_box c (pred box_no)))
    || chain_changes instance es (with_box c (pred box_no))) Step None))

-- whether the mask there has overlap and another relation
abbrev pub may_part : Exclusions → ℕ → ℕ → ℕ → Bool
may_part X dim u v =
    not (X (pred dim) (pred u) (pred v) Overlap)
    && (not (X (pred dim) (pred u) (pred v) Before) || not (X (pred dim) (pred u) (pred v) After))

-- whether it is exactly before and after
abbrev pub may_order : Exclusions → ℕ → ℕ → ℕ → Bool
may_order X dim u v =
    X (pred dim) (pred u) (pred v) Overlap && not (X (pred dim) (pred u) (pred v) Before)
    && not (X (pred dim) (pred u) (pred v) After)

-- whether it is empty
abbrev pub is_empty : Exclusions → ℕ → ℕ → ℕ → Bool
is_empty X dim u v = X (pred dim) (pred u) (pred v) Overlap && X (pred dim) (pred u) (pred v) Before
    && X (pred dim) (pred u) (pred v) After

-- the code of a token's refusal
abbrev pub audit_code : RefuseCode → AuditCode
audit_code KindCode = Kind
audit_code RangeCode = Range
audit_code ChoiceCode = Choice
audit_code ConflictCode = Conflict
audit_code ExcessCode = Excess
audit_code SideCode = Side
audit_code ValueCode = Kind
audit_code SetCode = Kind
audit_code AfterCode = Kind

abbrev pub as_audit : Option RefuseCode → Option AuditCode
as_audit None = None
as_audit (Some code) = Some (audit_code code)

-- a token at a node at rest: the leaves are judged as in a refutation, where they ask nothing of
-- the node
abbrev pub token_refusal : PlainInstance → List Exclusion → PlainToken → Option AuditCode
token_refusal instance es (ApartToken dim u v) =
    unless (names_pair instance dim u v) Range (unless (may_part (excludes es) dim u v) Choice None)
token_refusal instance es (OrderToken dim u v) =
    unless (names_pair instance dim u v) Range (unless (may_order (excludes es) dim u v) Choice None)
token_refusal instance es (TooLarge box_no dim) = as_audit (refusal instance es (TooLarge box_no dim))
token_refusal instance es (Scales fs) = as_audit (refusal instance es (Scales fs))
token_refusal instance es _ = Some Kind

-- a line at a node at rest
abbrev pub rest_refusal : PlainInstance → List Exclusion → PlainStep → Option AuditCode
rest_refusal instance es (Pair i u v) = step_refusal instance es i (u ∷ v ∷ []) (PairRule (pred i) (pred u) (pred v))
rest_refusal instance es (Apart i u v) = step_refusal instance es i (u ∷ v ∷ []) (ApartRule (pred i) (pred u) (pred v))
rest_refusal instance es (Triple i u v x) =
    step_refusal instance es i (u ∷ v ∷ x ∷ []) (TripleRule (pred i) (pred u) (pred v) (pred x))
rest_refusal instance es (Compose i u v x) =
    step_refusal instance es i (u ∷ v ∷ x ∷ []) (ComposeRule (pred i) (pred u) (pred v) (pred x))
rest_refusal instance es (Cycle i a b c d) =
    step_refusal instance es i (a ∷ b ∷ c ∷ d ∷ []) (CycleRule (pred i) (pred a) (pred b) (pred c) (pred d))
rest_refusal instance es (Order i a b c d) =
    step_refusal instance es i (a ∷ b ∷ c ∷ d ∷ []) (OrderRule (pred i) (pred a) (pred b) (pred c) (pred d))
rest_refusal instance es (Chain i p q) =
    unless (names_dim instance i && names_box instance p && names_box instance q) Range None
rest_refusal instance es (On v) = Some Kind
rest_refusal instance es (Clash i u v) =
    unless (names_pair instance i u v) Range (unless (is_empty (excludes es) i u v) Conflict None)
rest_refusal instance es (Plain t) = token_refusal instance es t

-- a line where a chain is begun
abbrev pub chain_refusal : PlainInstance → List Exclusion → BegunChain → PlainStep → Option AuditCode
chain_refusal instance es c (On v) = on_refusal instance es c v
chain_refusal instance es c _ = Some Kind

abbrev pub refusal_at : PlainInstance → List Exclusion → Option BegunChain → PlainStep → Option AuditCode
refusal_at instance es None line = rest_refusal instance es line
refusal_at instance es (Some c) line = chain_refusal instance es c line

-- a line at an open node
abbrev pub audit_refusal : PlainInstance → AuditNode → PlainStep → Option AuditCode
audit_refusal instance n line = refusal_at instance n.exclusions n.chain line

-- the node after a box of a chain: the last one excludes that the end of the first chain is before
-- the start of the second
abbrev pub chain_child : List Exclusion → BegunChain → AuditNode
chain_child es c =
    if has_all c then at_rest (with_exclusion es (exclusion_at c.dim (last_of c.before) (front_of c.after) Before))
    else record { exclusions = es; chain = Some c }

abbrev pub token_children : List Exclusion → PlainToken → List AuditNode
token_children es (ApartToken i u v) =
    at_rest (with_text es i u v Overlap) ∷ at_rest (with_text (with_text es i u v After) i u v Before) ∷ []
token_children es (OrderToken i u v) = at_rest (with_text es i u v After) ∷ at_rest (with_text es i u v Before) ∷ []
token_children es _ = []

-- what stands in the place of a node at rest after an accepted line
abbrev pub rest_children : List Exclusion → PlainStep → List AuditNode
rest_children es (Pair i u v) = at_rest (after_rule es (PairRule (pred i) (pred u) (pred v))) ∷ []
rest_children es (Apart i u v) = at_rest (after_rule es (ApartRule (pred i) (pred u) (pred v))) ∷ []
rest_children es (Triple i u v x) = at_rest (after_rule es (TripleRule (pred i) (pred u) (pred v) (pred x))) ∷ []
rest_children es (Compose i u v x) = at_rest (after_rule es (ComposeRule (pred i) (pred u) (pred v) (pred x))) ∷ []
rest_children es (Cycle i a b c d) =
    at_rest (after_rule es (CycleRule (pred i) (pred a) (pred b) (pred c) (pred d))) ∷ []
rest_children es (Order i a b c d) =
    at_rest (after_rule es (OrderRule (pred i) (pred a) (pred b) (pred c) (pred d))) ∷ []
rest_children es (Chain i p q) =
    record {
      exclusions = es;
      chain = Some
          (record { dim = pred i; first = p; second = q; before = []; after = [] });
    } ∷ []
rest_children es (On v) = []
rest_children es (Clash i u v) = []
rest_children es (Plain t) = token_children es t

-- what stands in its place where a chain is begun
abbrev pub chain_children : List Exclusion → BegunChain → PlainStep → List AuditNode
chain_children es c (On v) = chain_child es (with_box c (pred v)) ∷ []
chain_children es c _ = []

abbrev pub children_at : List Exclusion → Option BegunChain → PlainStep → List AuditNode
children_at es None line = rest_children es line
children_at es (Some c) line = chain_children es c line

abbrev pub audit_children : AuditNode → PlainStep → List AuditNode
audit_children n line = children_at n.exclusions n.chain line
