-- Reasons in eight bytes each.
use Rattle.refutation_steps.specs.declared.marks.Spot.{Spot}
use Rattle.refutation_steps.specs.declared.reasons.Reason.{Reason}
use Rattle.refutation_steps.specs.declared.reasons.Reason.TheVariants.{Pair as WidePair, Apart as WideApart}
use Rattle.refutation_steps.specs.declared.reasons.Reason.TheVariants.{Triple as WideTriple, Compose as WideCompose}
use Rattle.refutation_steps.specs.declared.reasons.Reason.TheVariants.{Cycle as WideCycle, Order as WideOrder}
use Rattle.refutation_steps.specs.declared.reasons.Reason.TheVariants.{Chain as WideChain}
use Rattle.refutation_steps.specs.declared.short_reasons.ShortSpot.{ShortSpot}
use Rattle.refutation_steps.specs.declared.short_reasons.ShortReason.{ShortReason}
use Rattle.refutation_steps.specs.declared.short_reasons.ShortReason.TheVariants.{Pair, Apart, Triple, Compose}
use Rattle.refutation_steps.specs.declared.short_reasons.ShortReason.TheVariants.{Cycle, Order, Chain}

-- the place that it is
abbrev pub shown_spot : ShortSpot → Spot
shown_spot s = record { dim = s.dim; u = s.u; v = s.v }

-- the reason that it is
abbrev pub shown_reason : ShortReason → Reason
shown_reason (Pair s) = WidePair (shown_spot s)
shown_reason (Apart s) = WideApart (shown_spot s)
shown_reason (Triple s x) = WideTriple (shown_spot s) x
shown_reason (Compose s x) = WideCompose (shown_spot s) x
shown_reason (Cycle s a c) = WideCycle (shown_spot s) a c
shown_reason (Order s a d) = WideOrder (shown_spot s) a d
shown_reason (Chain dim first second from) = WideChain dim from first second
