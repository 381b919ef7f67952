-- A line that was taken where the token of `none` is wanted.
use Rattle.std.proofs.Common.{◌≡◌, ℕ, refl, sym, subst, Bool, true, false, not, cond, Result, Ok, Err}
use Rattle.packing_terms.specs.Packing.{PlainInstance}
use Rattle.text_terms.specs.Lines.{Line}
use Rattle.text_terms.specs.declared.claim.Claim.{Claim}
use Rattle.verdict_terms.specs.declared.reason.Reason.{Reason}
use Rattle.verdict_terms.specs.Reasons.{form}
use Rattle.verdict_terms.specs.Stages.{Stage, stage_after, filled_line, is_blank, exceeding_line}
use Rattle.verdict_terms.specs.Stages.Stage.{Exceeding}
use Rattle.document_lines.specs.Exceedings.{exceeding_stage}

module _ (instance : PlainInstance) (claim : Claim) (m : ℕ) where
  open_stage : (whole : Bool) → not whole ≡ true → Exceeding instance claim m ≡ exceeding_stage instance claim m whole
  open_stage false e = refl
  open_stage true e = absurd (cc (e))

  after_open : (line : Line) → is_blank line ≡ false → line.bad ≡ false → (next : Result Stage Reason)
      → exceeding_line instance claim m line.words ≡ next → stage_after (Exceeding instance claim m) line ≡ next
  after_open line filled good next e = by_blank (is_blank line) filled
    where
      by_bad : (b : Bool) → b ≡ false → cond (not b) (exceeding_line instance claim m line.words) (Err form) ≡ next
      by_bad false f = e
      by_bad true f = absurd (cc (f))

      by_blank : (b : Bool) → b ≡ false
          → elim b [
            | true ↦ Ok (Exceeding instance claim m)
            | false ↦
                filled_line (Exceeding instance claim m) line
          ] ≡ next
      by_blank false f = by_bad line.bad good
      by_blank true f = absurd (cc (f))

  pub exceeding_after : (whole : Bool) (stage : Stage) → stage ≡ exceeding_stage instance claim m whole
      → not whole ≡ true
      → (line : Line) → is_blank line ≡ false → line.bad ≡ false → (next : Result Stage Reason)
      → exceeding_line instance claim m line.words ≡ next → stage_after stage line ≡ next
  exceeding_after whole stage is wanted line filled good next e =
      subst (λ s. stage_after s line ≡ next) (sym is)
      (subst (λ s. stage_after s line ≡ next) (open_stage whole wanted) (after_open line filled good next e))
