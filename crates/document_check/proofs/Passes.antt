-- A pass over a document, phase by phase.
use Rattle.std.proofs.Common.{◌≡◌, ◌∙◌, ℕ, ◌+◌, ◌≤◌, inr, true, refl, sym, ap, subst, arith, List, [], Option, Some}
use Rattle.std.proofs.Common.{None, Result, Ok, Err}
use Rattle.pack_streams.specs.Faults.{FaultCount, Stays}
use Rattle.pack_streams.proofs.Faults.{stays_here, stays_on, fails_then}
use Rattle.text_terms.specs.Feeding.{Lexer, new_lexer}
use Rattle.text_terms.specs.declared.claim.Claim.{Claim}
use Rattle.verdict_terms.specs.declared.reason.Reason.{Reason}
use Rattle.verdict_terms.specs.declared.reason.Reason.TheVariants.{TooShort}
use Rattle.verdict_terms.specs.declared.heading.Heading.{Heading}
use Rattle.verdict_terms.specs.Stages.{Stage}
use Rattle.verdict_terms.specs.Stages.Stage.{Beginning, Reading, Placing, Sharing, Taking, Proving, Refuting, Exceeding}
use Rattle.verdict_terms.specs.Stages.Stage.{ProvingFamilies, Bounding, Gathering}
use Rattle.verdict_terms.specs.Stages.Stage.{Ending, Ended}
use Rattle.verdict_terms.specs.Documents.{Refusal, document_at_end}
use Rattle.document_check.specs.declared.check.CheckEnd.{CheckEnd}
use Rattle.document_check.specs.declared.check.CheckEnd.TheVariants.{Verified, Refused, TooLong, ReadFault, NoMemory}
use Rattle.document_lines.specs.declared.judge.ReadEnd.{ReadEnd}
use Rattle.document_lines.specs.declared.judge.ReadEnd.TheVariants.{End, Paused, Refused as ReadRefused}
use Rattle.document_lines.specs.declared.judge.ReadEnd.TheVariants.{TooLong as ReadTooLong, ReadFault as ReadFailed}
use Rattle.document_lines.specs.declared.judge.ReadEnd.TheVariants.{NoMemory as ReadNoMemory}
use Rattle.document_check.specs.declared.position.Position.{Position}
use Rattle.document_check.specs.Checked.{max_check_bytes, CountsCheck, IsCheckedUnder, IsCheckedBehind}
use Rattle.document_lines.specs.Reading.{PlainJudge, IsAt, IsRead, IsReadBehind, ended_claim}
use Rattle.document_check.specs.Passes.{end_of, IsCheckedFrom, IsReadOn, Goes}
use Rattle.document_check.proofs.Beginnings.{at_behind}
use Rattle.document_lines.proofs.Steps.{gives_none, so_far_start, none_before}

-- the verdict at the end of the text
abbrev verdict_of : Option Claim → ℕ → Result Claim Refusal
verdict_of (Some claim) n = Ok claim
verdict_of None n = Err (record { line = n + 1; reason = TooShort })

at_end_is : (stage : Stage) (n : ℕ) → document_at_end stage n ≡ verdict_of (ended_claim stage) n
at_end_is (Beginning heading) n = refl
at_end_is (Reading heading job parts) n = refl
at_end_is (Placing heading instance claim refuted places) n = refl
at_end_is (Sharing instance claim k bins places) n = refl
at_end_is (Taking heading instance claim value taken places) n = refl
at_end_is (Proving claim refuted) n = refl
at_end_is (ProvingFamilies instance claim) n = refl
at_end_is (Refuting claim tree) n = refl
at_end_is (Bounding instance claim y nodes) n = refl
at_end_is (Gathering instance claim nodes) n = refl
at_end_is (Exceeding instance claim m) n = refl
at_end_is (Ending claim behind) n = refl
at_end_is (Ended claim) n = refl

module _ (old left : Option (List ℕ)) (before now : FaultCount) (at : Position) (stage : Stage) (next : Lexer)
    (behind : Stage) (count : ℕ) where
  abbrev pub Behind : ReadEnd → Type 0
  Behind end = IsReadBehind max_check_bytes old left before now at.lexer stage at.count next behind count end

  ended : (heading : Heading) (front : List ℕ) (first : Option (List ℕ)) (claim : Option Claim)
      → IsRead heading front max_check_bytes first left before now next behind count End
      → ended_claim behind ≡ claim
      → IsCheckedBehind heading front first left before now (end_of claim next.number)
  ended heading front first (Some claim) r e = record {
    taken = r.taken;
    begins = r.begins;
    gives = r.gives;
    faults = r.faults;
    comes = (r.ends.2 ∙ (at_end_is behind next.number ∙ ap (λ c. verdict_of c next.number) e), r.ends.1, r.ends.0);
  }
  ended heading front first None r e = record {
    taken = r.taken;
    begins = r.begins;
    gives = r.gives;
    faults = r.faults;
    comes = (
      r.ends.2 ∙ (at_end_is behind next.number ∙ ap (λ c. verdict_of c next.number) e),
      r.ends.1,
      inr (r.ends.0, r.ends.3),
    );
  }

  pub end_from : Behind End → (claim : Option Claim) → ended_claim behind ≡ claim
      → IsCheckedFrom old left before now at stage (end_of claim next.number)
  end_from read claim e heading front first taking =
      ended heading front first claim (read heading front first taking) e

  pub refused_from : (reason : Reason) → Behind (ReadRefused reason)
      → IsCheckedFrom old left before now at stage (Refused next.number reason)
  refused_from reason read heading front first taking =
      let r = read heading front first taking in
      record { taken = r.taken; begins = r.begins; gives = r.gives; faults = r.faults; comes = r.ends }

  pub long_from : Behind ReadTooLong → IsCheckedFrom old left before now at stage TooLong
  long_from read heading front first taking =
      let r = read heading front first taking in
      record { taken = r.taken; begins = r.begins; gives = r.gives; faults = r.faults; comes = r.ends }

  pub fault_from : Behind ReadFailed → IsCheckedFrom old left before now at stage ReadFault
  fault_from read heading front first taking =
      let r = read heading front first taking in
      record { taken = r.taken; begins = r.begins; gives = r.gives; faults = r.faults; comes = r.ends }

  pub memory_from : Behind ReadNoMemory → IsCheckedFrom old left before now at stage NoMemory
  memory_from read heading front first taking =
      let r = read heading front first taking in
      record { taken = r.taken; begins = r.begins; gives = r.gives; faults = r.faults; comes = r.ends }

  pub paused_from : Behind Paused
      → IsReadOn old left before now at stage (record { lexer = next; count = count }) behind
  paused_from read heading front first taking =
      let r = read heading front first taking in
      (r.faults, record { taken = r.taken; begins = r.begins; gives = r.gives; counted = r.ends.0; so_far = r.ends.1 })

-- memory was refused between two lines
pub memory_here : (old : Option (List ℕ)) (faults : FaultCount) (at : Position) (stage : Stage)
    → at.count ≤ max_check_bytes → IsCheckedFrom old old faults faults at stage NoMemory
memory_here old faults at stage few heading front first taking = record {
  taken = taking.taken;
  begins = taking.begins;
  gives = taking.gives;
  faults = stays_here faults;
  comes = (
    (let c = taking.counted in omega (arith, c, few)),
    none_before heading at.lexer stage taking.taken taking.so_far,
  );
}

-- the count of a check that comes after reads of which none failed
counts_after : (before between now : FaultCount) (result : CheckEnd) → Stays before between
    → CountsCheck between now result → CountsCheck before now result
counts_after before between now ReadFault p q = fails_then before between now p q
counts_after before between now (Verified claim) p q = stays_on before between now p q
counts_after before between now (Refused line reason) p q = stays_on before between now p q
counts_after before between now TooLong p q = stays_on before between now p q
counts_after before between now NoMemory p q = stays_on before between now p q

-- one phase, and then what is left
module _ (old mid left : Option (List ℕ)) (before between now : FaultCount) (at next : Position) (stage behind : Stage)
    (result : CheckEnd) where
  pub then_from : IsReadOn old mid before between at stage next behind → (rest : Stage) → behind ≡ rest
      → IsCheckedFrom mid left between now next rest result
      → IsCheckedFrom old left before now at stage result
  then_from on rest same more heading front first taking =
      let go = on heading front first taking in
      let after = subst (λ s. IsCheckedFrom mid left between now next s result) (sym same) more heading front first go.1 in
      record {
        taken = after.taken;
        begins = after.begins;
        gives = after.gives;
        faults = counts_after before between now result go.0 after.faults;
        comes = after.comes;
      }

-- from the first byte on
pub from_start : (heading : Heading) (old left : Option (List ℕ)) (before now : FaultCount) (result : CheckEnd)
    → IsCheckedFrom old left before now (record { lexer = new_lexer; count = 0 }) (Beginning heading) result
    → IsCheckedUnder heading old left before now result
from_start heading old left before now result from =
    let r = from heading [] old (record {
      taken = [];
      begins = ([], refl);
      gives = gives_none old;
      counted = refl;
      so_far = so_far_start heading;
    }) in
    record { taken = r.taken; gives = r.gives; faults = r.faults; comes = r.comes }

-- lines of a judge that states where the document stands behind them
pub goes_known : (old left : Option (List ℕ)) (before now : FaultCount) (at next : Position) (judge : PlainJudge)
    (stage behind known : Stage) (result : Option CheckEnd)
    → judge ≡ record { stage = stage; takes = true; behind = Some known }
    → Goes old left before now at judge.stage next behind result
    → (result ≡ None → IsAt judge.behind behind) → Goes old left before now at stage next known result
goes_known old left before now at next judge stage behind known (Some end) is goes e =
    subst (λ s. IsCheckedFrom old left before now at s end) (ap (λ (j : PlainJudge). j.stage) is) goes
goes_known old left before now at next judge stage behind known None is goes e =
    subst (λ s. IsReadOn old left before now at stage next s)
    (at_behind judge.behind behind known (e refl) (ap (λ (j : PlainJudge). j.behind) is))
    (subst (λ s. IsReadOn old left before now at s next behind) (ap (λ (j : PlainJudge). j.stage) is) goes)

-- the same, where it is known behind them
pub goes_on : (old left : Option (List ℕ)) (before now : FaultCount) (at next : Position) (judge : PlainJudge)
    (stage behind known : Stage) (result : Option CheckEnd)
    → judge.stage ≡ stage → Goes old left before now at judge.stage next behind result → result ≡ None → behind ≡ known
    → IsReadOn old left before now at stage next known
goes_on old left before now at next judge stage behind known result is goes none e =
    subst (λ s. IsReadOn old left before now at stage next s) e
    (subst (λ s. IsReadOn old left before now at s next behind) is
    (subst (λ r. Goes old left before now at judge.stage next behind r) none goes))
