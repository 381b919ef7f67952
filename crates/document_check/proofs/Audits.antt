-- The check of bytes in memory is their verdict.
use Rattle.std.proofs.Common.{◌≡◌, ℕ, ◌+◌, ◌<◌, ◌≤◌, inl, inr, refl, sym, ap, subst, ◌∙◌, arith, List, [], ◌∷◌, ◌++◌}
use Rattle.std.proofs.Common.{length, get_or, take, drop, add-one, drop-cons, append-nil, Some, Ok, Err}
use Rattle.std.proofs.Math.ListN.{set}
use Rattle.std.specs.Io.KnownBytes.{prepend_known}
use Rattle.std.proofs.lemmas.List.{length-append}
use Rattle.pack_streams.specs.Faults.{exactly}
use Rattle.verdict_terms.specs.declared.heading.Heading.{Heading}
use Rattle.verdict_terms.specs.Documents.{Refusal, headed_verdict}
use Rattle.verdict_terms.specs.Fed.{EndsRefused}
use Rattle.text_terms.specs.declared.claim.Claim.{Claim}
use Rattle.verdict_terms.proofs.Stays.{refusals_stay}
use Rattle.verdict_terms.proofs.FormGiven.{documents_have_form}
use Rattle.verdict_terms.proofs.True.{documents_are_true}
use Rattle.document_check.specs.Audited.{IsTrueDocument}
use Rattle.document_check.specs.declared.check.CheckEnd.{CheckEnd}
use Rattle.document_check.specs.declared.check.CheckEnd.TheVariants.{Verified, Refused, TooLong, ReadFault, NoMemory}
use Rattle.document_check.specs.Checked.{max_check_bytes, IsCheckedUnder, Comes, CountsCheck}

-- what was taken is the front of the bytes
parts : (bytes taken left : List ℕ) → Some bytes ≡ prepend_known taken (Some left) → bytes ≡ taken ++ left
parts bytes taken left e = cc (e)

whole : (bytes taken left : List ℕ) → bytes ≡ taken ++ left → left ≡ [] → taken ≡ bytes
whole bytes taken left e f = sym (append-nil taken) ∙ (ap (λ l. taken ++ l) (sym f) ∙ sym e)

-- the verdict on the bytes, by what their check comes to
abbrev pub Audits : Heading → List ℕ → CheckEnd → Type 0
Audits heading bytes (Verified claim) = headed_verdict heading bytes ≡ Ok claim
Audits heading bytes (Refused line reason) =
    headed_verdict heading bytes ≡ Err (record { line = line; reason = reason })
Audits heading bytes TooLong = ⊥
Audits heading bytes ReadFault = ⊥
Audits heading bytes NoMemory = Unit {0}

pub audited : (heading : Heading) (bytes left : List ℕ) (result : CheckEnd) → length bytes ≤ max_check_bytes
    → IsCheckedUnder heading (Some bytes) (Some left) (exactly 0) (exactly 0) result
    → Audits heading bytes result
audited heading bytes left result few h = go result h.faults h.comes
  where
    are : bytes ≡ h.taken ++ left
    are = parts bytes h.taken left h.gives

    stays : (refusal : Refusal) → headed_verdict heading h.taken ≡ Err refusal → EndsRefused h.taken refusal
        → headed_verdict heading bytes ≡ Err refusal
    stays refusal e ends = subst (λ b. headed_verdict heading b ≡ Err refusal) (sym are)
        (refusals_stay heading h.taken left refusal e ends)

    ended : (refusal : Refusal) → headed_verdict heading h.taken ≡ Err refusal → left ≡ []
        → headed_verdict heading bytes ≡ Err refusal
    ended refusal e none = subst (λ b. headed_verdict heading b ≡ Err refusal) (whole bytes h.taken left are none) e

    go : (r : CheckEnd) → CountsCheck (exactly 0) (exactly 0) r → Comes heading (Some left) h.taken r
        → Audits heading bytes r
    go (Verified claim) faults (e, small, none) =
        subst (λ b. headed_verdict heading b ≡ Ok claim) (whole bytes h.taken left are none) e
    go (Refused line reason) faults (e, small, inl ends) = stays (record { line = line; reason = reason }) e ends
    go (Refused line reason) faults (e, small, inr none) = ended (record { line = line; reason = reason }) e none.0
    go TooLong faults (long, none) = let l = length-append h.taken left in let m = ap length are in
        omega (arith, l, m, few, long)
    go ReadFault faults u = let rose = faults.rose in omega (arith, rose)
    go NoMemory faults u = tt

-- what is verified is true of the instance in it
pub verified_is_true : (heading : Heading) (bytes : List ℕ) (claim : Claim) → headed_verdict heading bytes ≡ Ok claim
    → IsTrueDocument heading bytes claim
verified_is_true heading bytes claim e =
    let document = (documents_have_form heading bytes claim).0 e in
    record { document = document; truth = documents_are_true heading bytes claim document }

-- the next byte, put at the front of a piece
pub one_given : (bytes into : List ℕ) (given : ℕ) (old : List ℕ) → old ≡ drop given bytes → given < length bytes
    → 0 < length into
    → old ≡ take 1 (set into 0 (get_or bytes given 0)) ++ drop (given + 1) bytes
one_given bytes [] given old e l room = absurd (omega (arith, room))
one_given bytes (x ∷ xs) given old e l room = e ∙ (rw (add-one, drop-cons bytes given 0) refl)
