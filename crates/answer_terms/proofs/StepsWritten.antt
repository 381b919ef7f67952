-- The lines of an explained refutation have lines of a text.
use Rattle.std.proofs.Common.{◌≡◌, ℕ, suc, ◌+◌, ◌<◌, refl, sym, subst, arith, false, List, [], ◌∷◌, ◌++◌, length}
use Rattle.std.specs.Fmt.{decimal}
use Rattle.packing_terms.specs.declared.Exclusion.{Exclusion}
use Rattle.packing_terms.specs.Packing.{PlainInstance, dims, box_count}
use Rattle.packing_terms.specs.Rules.{Rule, AreBoxes, IsRuleInstance}
use Rattle.packing_terms.specs.Rules.Rule.{Pair as PairRule, Apart as ApartRule, Triple as TripleRule}
use Rattle.packing_terms.specs.Rules.Rule.{Chain as ChainRule, Compose as ComposeRule, Cycle as CycleRule}
use Rattle.packing_terms.specs.Rules.Rule.{Order as OrderRule}
use Rattle.packing_terms.specs.Tokens.{PlainToken}
use Rattle.packing_terms.specs.Tokens.PlainToken.{Apart as ApartToken, Order as OrderToken, Rules, TooLarge, Scales}
use Rattle.packing_terms.specs.Tokens.PlainToken.{Assign, Choose, SetRefuted, ValueShort, GlobalScales}
use Rattle.packing_terms.proofs.Boxes.{boxes_few}
use Rattle.text_terms.specs.Texts.{is_none}
use Rattle.text_terms.proofs.Spelled.{AreWords}
use Rattle.text_terms.proofs.Back.{word_decimal}
use Rattle.text_terms.specs.TokenLines.{IsParameter}
use Rattle.verdict_terms.specs.Steps.{PlainStep, box_lines, lines_of}
use Rattle.verdict_terms.specs.Steps.PlainStep.{Pair, Apart, Triple, Compose, Cycle, Order, Chain, On, Clash, Plain}
use Rattle.verdict_terms.specs.StepLines.{HasPlainLine, HasStepLine, step_words}
use Rattle.verdict_terms.specs.Explaining.{Explains, by_clash, by_side, by_scales, by_step, by_apart, by_order}
use Rattle.answer_terms.specs.Explained.{step_lines}
use Rattle.answer_terms.proofs.Filled.{AreFilled}
use Rattle.verdict_terms.proofs.StepsPlain.{step_plain}
use Rattle.answer_terms.proofs.OwnWritten.{IsBounded, tuple_written, named_written, large_written}

-- each step has a line with d dimensions
abbrev pub HaveStepLines : ℕ → List PlainStep → Type 0
HaveStepLines d [] = Unit {0}
HaveStepLines d (s ∷ ss) = HasStepLine d s × HaveStepLines d ss

steps_joined : (d : ℕ) (z xs ys : List PlainStep) → z ≡ xs ++ ys → HaveStepLines d xs → HaveStepLines d ys
    → HaveStepLines d z
steps_joined d z xs ys e h k = subst (HaveStepLines d) (sym e) (go xs h)
  where
    go : (ts : List PlainStep) → HaveStepLines d ts → HaveStepLines d (ts ++ ys)
    go [] h = k
    go (t ∷ ts) h = (h.0, go ts h.1)

pub steps_filled : (d : ℕ) (ss : List PlainStep) → HaveStepLines d ss → AreFilled (step_lines ss)
steps_filled d [] h = tt
steps_filled d (s ∷ ss) h = let p = step_plain d s h.0 in (p.0, p.1, steps_filled d ss h.1)

-- ---- explanations

module _ (instance : PlainInstance) (bounded : IsBounded instance) where
  box_written : (v : ℕ) → v < box_count instance → IsParameter (suc v)
  box_written v h = let m = bounded.boxes in omega (arith, m, h)

  dim_written : (i : ℕ) → i < dims instance → IsParameter (suc i)
  dim_written i h = let d = bounded.dimensions in omega (arith, d, h)

  few_written : (vs : List ℕ) → AreBoxes instance vs → IsParameter (length vs)
  few_written vs h = let m = bounded.boxes in let f = boxes_few (box_count instance) vs h in omega (arith, m, f)

  boxes_written : (vs : List ℕ) → AreBoxes instance vs → HaveStepLines (dims instance) (box_lines vs)
  boxes_written [] h = tt
  boxes_written (v ∷ vs) h = (box_written v h.0, boxes_written vs h.2)

  rule_written : (rule : Rule) → IsRuleInstance instance rule → HaveStepLines (dims instance) (lines_of rule)
  rule_written (PairRule i u v) h = ((dim_written i h.0, box_written u h.1.0, box_written v h.1.2.0), tt)
  rule_written (ApartRule i u v) h = ((dim_written i h.0, box_written u h.1.0, box_written v h.1.2.0), tt)
  rule_written (TripleRule i u v x) h =
      ((dim_written i h.0, box_written u h.1.0, box_written v h.1.2.0, box_written x h.1.2.2.0), tt)
  rule_written (ComposeRule i u v x) h =
      ((dim_written i h.0, box_written u h.1.0, box_written v h.1.2.0, box_written x h.1.2.2.0), tt)
  rule_written (CycleRule i a b c d) h = (
    (
      dim_written i h.0,
      box_written a h.1.0,
      box_written b h.1.2.0,
      box_written c h.1.2.2.0,
      box_written d h.1.2.2.2.0,
    ),
    tt,
  )
  rule_written (OrderRule i a b c d) h = (
    (
      dim_written i h.0,
      box_written a h.1.0,
      box_written b h.1.2.0,
      box_written c h.1.2.2.0,
      box_written d h.1.2.2.2.0,
    ),
    tt,
  )
  rule_written (ChainRule i before u v after) h = (
    (dim_written i h.0, few_written (before ++ u ∷ []) h.1, few_written (v ∷ after) h.2),
    steps_joined (dims instance) _ (box_lines (before ++ u ∷ [])) (box_lines (v ∷ after)) refl
        (boxes_written (before ++ u ∷ []) h.1) (boxes_written (v ∷ after) h.2),
  )

  pub explained_written : {es : List Exclusion} {z : List PlainStep} → Explains instance es z
      → HaveStepLines (dims instance) z
  explained_written (by_clash {i = i} {u = u} {v = v} c) = (named_written instance i u v bounded c.named, tt)
  explained_written (by_side {v = v} {i = i} h) = (large_written instance v i bounded h, tt)
  explained_written (by_scales {fs = fs} h) = (tuple_written instance fs bounded h.tuple, tt)
  explained_written (by_step {rule = rule} {z = z} {rest = rest} h e more) =
      steps_joined (dims instance) z (lines_of rule) rest e (rule_written rule h.is) (explained_written more)
  explained_written (by_apart {i = i} {u = u} {v = v} {l = l} {r = r} {z = z} h e left right) = (
    named_written instance i u v bounded h.named,
    steps_joined (dims instance) z l r e (explained_written left) (explained_written right),
  )
  explained_written (by_order {i = i} {u = u} {v = v} {l = l} {r = r} {z = z} h e left right) = (
    named_written instance i u v bounded h.named,
    steps_joined (dims instance) z l r e (explained_written left) (explained_written right),
  )
