-- Lists of steps that are held in a few bytes each, beside those that are wider.
use Rattle.std.specs.Prelude.{ℕ, ◌≡◌, ◌<◌, List, map, slice_index_or}
use Rattle.packing_terms.specs.Tokens.PlainToken.{Apart as ApartToken, Order as OrderToken}
use Rattle.verdict_terms.specs.Steps.{PlainStep}
use Rattle.verdict_terms.specs.Steps.PlainStep.{Pair as PlainPair, Apart as PlainApart, Triple as PlainTriple}
use Rattle.verdict_terms.specs.Steps.PlainStep.{Compose as PlainCompose, Cycle as PlainCycle, Order as PlainOrder}
use Rattle.verdict_terms.specs.Steps.PlainStep.{Chain as PlainChain, On as PlainOn, Clash as PlainClash}
use Rattle.verdict_terms.specs.Steps.PlainStep.{Plain as PlainPlain}
use Rattle.line_proofs.specs.declared.short_step.ShortStep.{ShortStep}
use Rattle.line_proofs.specs.declared.short_step.ShortStep.TheVariants.{Pair, Apart, Triple, Compose, Cycle, Order}
use Rattle.line_proofs.specs.declared.short_step.ShortStep.TheVariants.{Chain, On, Clash, SplitApart, SplitOrder}
use Rattle.line_proofs.specs.declared.short_step.ShortStep.TheVariants.{Wide}
use Rattle.line_proofs.specs.declared.short_step.HeldStep.{HeldStep}
use Rattle.line_proofs.specs.declared.short_step.HeldStep.TheVariants.{Made, Kept}
use Rattle.line_proofs.specs.Plain.{plain_step}

-- the step that it is, where these are the wider ones
abbrev pub shown_step : List PlainStep → ShortStep → PlainStep
shown_step wides (Pair i u v) = PlainPair i u v
shown_step wides (Apart i u v) = PlainApart i u v
shown_step wides (Triple i u v x) = PlainTriple i u v x
shown_step wides (Compose i u v x) = PlainCompose i u v x
shown_step wides (Cycle i a b c d) = PlainCycle i a b c d
shown_step wides (Order i a b c d) = PlainOrder i a b c d
shown_step wides (Chain i p q) = PlainChain i p q
shown_step wides (On v) = PlainOn v
shown_step wides (Clash i u v) = PlainClash i u v
shown_step wides (SplitApart i u v) = PlainPlain (ApartToken i u v)
shown_step wides (SplitOrder i u v) = PlainPlain (OrderToken i u v)
shown_step wides (Wide k) = slice_index_or wides k (PlainOn 0)

-- the steps of a list
abbrev pub shown_steps : List PlainStep → List ShortStep → List PlainStep
shown_steps wides shorts = map (shown_step wides) shorts

-- the index of a wide step is less than `n`
abbrev pub IsWithin : ℕ → ShortStep → Type 0
IsWithin n (Wide k) = k < n
IsWithin n _ = Unit {0}

-- it is this step, whatever the wider ones are
pub record IsShortOf (step : PlainStep) (short : ShortStep) : Type 0 where
  pub shown : (wides : List PlainStep) → shown_step wides short ≡ step
  pub within : (n : ℕ) → IsWithin n short

-- a step of a list, read
abbrev pub held_step : HeldStep → PlainStep
held_step (Made step) = plain_step step
held_step (Kept step) = plain_step step.now
