-- Lines are good where each is allowed and none is missing.
use Rattle.std.proofs.Common.{◌≡◌, ℕ, suc, refl, ap, ◌∙◌, Bool, true}
use Rattle.std.proofs.Common.{List, [], ◌∷◌, Result, Ok}
use Rattle.packing_terms.specs.Packing.{PlainInstance}
use Rattle.packing_terms.specs.Results.{◌>>=◌}
use Rattle.verdict_terms.specs.declared.front_answers.FrontReason.{FrontReason}
use Rattle.verdict_terms.specs.declared.front_answers.FrontVerdict.TheVariants.{Good}
use Rattle.verdict_terms.specs.Lines.{PlainLine}
use Rattle.verdict_terms.specs.Lines.{FrontStage, at_line, front_line, front_lines_after}
use Rattle.verdict_terms.specs.Lines.{is_whole_front, announced}
use Rattle.verdict_terms.specs.Verdicts.{front_verdict, verdict_by}

module _ (instance : PlainInstance) (complete : Bool) where
  -- each line is allowed, and none is missing
  abbrev pub AreGood : FrontStage → List PlainLine → Type 0
  AreGood s [] = is_whole_front complete s ≡ true
  AreGood s (line ∷ lines) = (next : FrontStage) × (front_line instance complete s line ≡ Ok next) × AreGood next lines

  good_end : (lines : List PlainLine) (index : ℕ) (s : FrontStage) → AreGood s lines
      → (t : FrontStage) × (front_lines_after instance complete index s lines ≡ Ok t) × (is_whole_front complete t ≡ true)
  good_end [] index s h = (s, refl, h)
  good_end (line ∷ lines) index s (next, e, h) =
      let r = good_end lines (suc index) next h in (
        r.0,
        ap (λ (x : Result FrontStage FrontReason).
            (at_line index x >>= λ more. front_lines_after instance complete (suc index) more lines)) e ∙ r.1,
        r.2,
      )

  pub good_verdict : (points : ℕ) (lines : List PlainLine) → AreGood (announced points) lines
      → front_verdict instance complete points lines ≡ Good
  good_verdict points lines h =
      let r = good_end lines 0 (announced points) h in
      ap (verdict_by complete) r.1 ∙ (rw r.2 refl)
