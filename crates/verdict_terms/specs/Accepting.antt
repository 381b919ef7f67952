-- What an open node of an explained refutation asks of a line: in the words of rules, chains and
-- splits, and of no order of tests. Numbers are those of the text, counted from 1.
use Rattle.std.specs.Prelude.{ℕ, pred, ◌+◌, ◌<◌, ◌≤◌, ◌≡◌, ◌≢◌, true, false, List, [], ◌∷◌, Option, Some, None}
use Rattle.std.specs.List.{AllByRecursion}
use Rattle.packing_terms.specs.declared.Rel.TheVariants.{Before}
use Rattle.packing_terms.specs.declared.Exclusion.{Exclusion}
use Rattle.packing_terms.specs.Packing.{PlainInstance, dims, box_count, container_side}
use Rattle.packing_terms.specs.Exclusions.{Exclusions, excludes, IsSurelyBefore}
use Rattle.packing_terms.specs.Rules.{Rule, weight}
use Rattle.packing_terms.specs.Rules.Rule.{Pair as PairRule, Apart as ApartRule, Triple as TripleRule}
use Rattle.packing_terms.specs.Rules.Rule.{Compose as ComposeRule, Cycle as CycleRule, Order as OrderRule}
use Rattle.packing_terms.specs.Scales.{Exceeds}
use Rattle.packing_terms.specs.Tokens.{PlainToken}
use Rattle.packing_terms.specs.Tokens.PlainToken.{Apart as ApartToken, Order as OrderToken, TooLarge, Scales}
use Rattle.packing_terms.specs.Refutation.{IsTooLarge}
use Rattle.verdict_terms.specs.Steps.{PlainStep}
use Rattle.verdict_terms.specs.Steps.PlainStep.{Pair, Apart, Triple, Compose, Cycle, Order, Chain, On, Clash, Plain}
use Rattle.verdict_terms.specs.Explaining.{IsStep, MayPart, MayOrder, IsClash}
use Rattle.verdict_terms.specs.ExplainedJudging.{BegunChain, AuditNode, last_of, front_of, part_of, with_box, has_all}

-- the number is that of a dimension, and that of a box
abbrev pub IsDimNumber : PlainInstance → ℕ → Type 0
IsDimNumber instance i = (1 ≤ i) × (i ≤ dims instance)

abbrev pub IsBoxNumber : PlainInstance → ℕ → Type 0
IsBoxNumber instance v = (1 ≤ v) × (v ≤ box_count instance)

-- the numbers count from 1, and the rule that they name applies and excludes a relation that wasn't
-- excluded
pub record AcceptsStep (instance : PlainInstance) (es : List Exclusion) (dim : ℕ) (boxes : List ℕ)
    (rule : Rule) : Type 0 where
  pub dim_number : 1 ≤ dim
  pub box_numbers : AllByRecursion (λ v. 1 ≤ v) boxes
  pub step : IsStep instance es rule

-- the last of some boxes is surely before v; there may be none
abbrev pub IsLed : Exclusions → ℕ → List ℕ → ℕ → Type 0
IsLed X i [] v = Unit {0}
IsLed X i (u ∷ us) v = IsSurelyBefore X i (last_of (u ∷ us)) v

-- both chains are complete: together they are longer than the container, the first ends in another
-- box than the second begins with, and that the one is before the other isn't excluded yet
pub record IsChainEnd (instance : PlainInstance) (es : List Exclusion) (c : BegunChain) : Type 0 where
  pub distinct : last_of c.before ≢ front_of c.after
  pub heavy : container_side instance c.dim < weight instance c.dim c.before + weight instance c.dim c.after
  pub fresh : excludes es c.dim (last_of c.before) (front_of c.after) Before ≡ false

-- the next box of a chain begun isn't among those of its chain so far, of which the last is surely
-- before it; and the last box of all completes both chains
pub record AcceptsBox (instance : PlainInstance) (es : List Exclusion) (c : BegunChain) (box_no : ℕ) : Type 0 where
  pub number : IsBoxNumber instance box_no
  pub other : AllByRecursion (λ u. u ≢ pred box_no) (part_of c)
  pub led : IsLed (excludes es) c.dim (part_of c) (pred box_no)
  pub last : has_all (with_box c (pred box_no)) ≡ true → IsChainEnd instance es (with_box c (pred box_no))

-- a token, where no chain is begun
abbrev pub AcceptsToken : PlainInstance → List Exclusion → PlainToken → Type 0
AcceptsToken instance es (ApartToken i u v) = MayPart instance es i u v
AcceptsToken instance es (OrderToken i u v) = MayOrder instance es i u v
AcceptsToken instance es (TooLarge v i) = IsTooLarge instance v i
AcceptsToken instance es (Scales fs) = Exceeds instance fs 1
AcceptsToken instance es _ = ⊥

-- a line, where no chain is begun; a chain is announced with at least one box on each side, and with
-- no more than there are
abbrev pub AcceptsAtRest : PlainInstance → List Exclusion → PlainStep → Type 0
AcceptsAtRest instance es (Pair i u v) =
    AcceptsStep instance es i (u ∷ v ∷ []) (PairRule (pred i) (pred u) (pred v))
AcceptsAtRest instance es (Apart i u v) =
    AcceptsStep instance es i (u ∷ v ∷ []) (ApartRule (pred i) (pred u) (pred v))
AcceptsAtRest instance es (Triple i u v x) =
    AcceptsStep instance es i (u ∷ v ∷ x ∷ []) (TripleRule (pred i) (pred u) (pred v) (pred x))
AcceptsAtRest instance es (Compose i u v x) =
    AcceptsStep instance es i (u ∷ v ∷ x ∷ []) (ComposeRule (pred i) (pred u) (pred v) (pred x))
AcceptsAtRest instance es (Cycle i a b c d) =
    AcceptsStep instance es i (a ∷ b ∷ c ∷ d ∷ []) (CycleRule (pred i) (pred a) (pred b) (pred c) (pred d))
AcceptsAtRest instance es (Order i a b c d) =
    AcceptsStep instance es i (a ∷ b ∷ c ∷ d ∷ []) (OrderRule (pred i) (pred a) (pred b) (pred c) (pred d))
AcceptsAtRest instance es (Chain i p q) =
    IsDimNumber instance i × IsBoxNumber instance p × IsBoxNumber instance q
AcceptsAtRest instance es (On v) = ⊥
AcceptsAtRest instance es (Clash i u v) = IsClash instance es i u v
AcceptsAtRest instance es (Plain t) = AcceptsToken instance es t

-- a line, where a chain is begun
abbrev pub AcceptsInChain : PlainInstance → List Exclusion → BegunChain → PlainStep → Type 0
AcceptsInChain instance es c (On v) = AcceptsBox instance es c v
AcceptsInChain instance es c _ = ⊥

abbrev pub AcceptsAt : PlainInstance → List Exclusion → Option BegunChain → PlainStep → Type 0
AcceptsAt instance es None line = AcceptsAtRest instance es line
AcceptsAt instance es (Some c) line = AcceptsInChain instance es c line

-- a line at an open node
abbrev pub AcceptsLine : PlainInstance → AuditNode → PlainStep → Type 0
AcceptsLine instance n line = AcceptsAt instance n.exclusions n.chain line
