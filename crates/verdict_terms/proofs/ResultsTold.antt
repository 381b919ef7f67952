-- The claim that is read off a result line is what its words say.
use Rattle.std.proofs.Common.{◌≡◌, ℕ, refl, ap, subst, Bool, true, false, cond, ◌&&◌, List, [], ◌∷◌, Result, Ok, Err}
use Rattle.std.proofs.Common.{codes}
use Rattle.std.specs.Prelude.{nat_le, nat_lt}
use Rattle.std.proofs.lemmas.Bool.{and_parts, leb-true, ltb-true}
use Rattle.packing_terms.specs.Packing.{PlainInstance, box_count}
use Rattle.text_terms.specs.Lines.{same_bytes}
use Rattle.packing_terms.specs.Results.{◌>>=◌}
use Rattle.text_terms.proofs.Good.{bind_ok}
use Rattle.text_terms.proofs.FormNumbers.{word_is}
use Rattle.text_terms.specs.declared.claim.SolvingJob.{SolvingJob}
use Rattle.text_terms.specs.declared.claim.Claim.{Claim}
use Rattle.text_terms.specs.Claims.{job_of}
use Rattle.text_terms.specs.declared.claim.SolvingJob.TheVariants.{Fit, Strip, Bins, Knapsack}
use Rattle.text_terms.specs.declared.claim.Claim.TheVariants.{Fitting, NotFitting, LeastHeight, HeightBetween}
use Rattle.text_terms.specs.declared.claim.Claim.TheVariants.{NoHeight, LeastBins, BinsBetween, NoBins}
use Rattle.text_terms.specs.declared.claim.Claim.TheVariants.{GreatestValue, ValueBetween}
use Rattle.verdict_terms.specs.declared.reason.Reason.{Reason}
use Rattle.verdict_terms.specs.Reasons.{form, range}
use Rattle.verdict_terms.specs.declared.reason.Reason.TheVariants.{NoClaim}
use Rattle.packing_terms.specs.Limits.{max_height}
use Rattle.text_terms.specs.Claims.{max_worth}
use Rattle.verdict_terms.specs.Numbers.{require, wanted}
use Rattle.verdict_terms.specs.Results.{none_claim, one_claim, two_claim, claim_of}
use Rattle.verdict_terms.specs.Form.{SaysOne, SaysTwo, IsResult}
use Rattle.verdict_terms.proofs.Passed.{require_ok, cond_ok, wanted_ok, ok_is}

-- the claim says what the words say, and is one of the job
pub record ResultTold (job : SolvingJob) (instance : PlainInstance) (words : List (List ℕ)) (claim : Claim) :
    Type 0 where
  pub is : IsResult instance claim words
  pub job_is : job_of claim ≡ job

none_told : (made claim : Claim) (word : List ℕ) → none_claim made word ≡ Ok claim
    → (word ≡ codes "none") × (made ≡ claim)
none_told made claim word e =
    let r = require_ok (same_bytes word (codes "none")) form (Ok made) claim e in
    (word_is word (codes "none") r.0, ok_is made claim r.1)

one_told : (key : List ℕ) (low high : ℕ) (make : ℕ → Claim) (word number : List ℕ) (claim : Claim)
    → one_claim key low high make word number ≡ Ok claim
    → (n : ℕ) × (make n ≡ claim) × SaysOne key low high n (word ∷ number ∷ [])
one_told key low high make word number claim e =
    let c = cond_ok (same_bytes word key)
    (wanted number >>= λ n. require (nat_le low n && nat_le n high) range (Ok (make n))) form claim e in
    let w = bind_ok (wanted number) (λ n. require (nat_le low n && nat_le n high) range (Ok (make n))) claim c.1 in
    let r = require_ok (nat_le low w.0 && nat_le w.0 high) range (Ok (make w.0)) claim w.2 in
    let p = and_parts _ _ r.0 in (
      w.0,
      ok_is (make w.0) claim r.1,
      record {
        number = number;
        are = ap (λ x. x ∷ number ∷ []) (word_is word key c.0);
        is_number = record {
          number = wanted_ok number w.0 w.1;
          least = leb-true low w.0 p.0;
          most = leb-true w.0 high p.1;
        };
      },
    )

two_told : (high : ℕ) (make : ℕ → ℕ → Claim) (word first second : List ℕ) (claim : Claim)
    → two_claim high make word first second ≡ Ok claim
    → (a : ℕ) × (b : ℕ) × (make a b ≡ claim) × SaysTwo high a b (word ∷ first ∷ second ∷ [])
two_told high make word first second claim e =
    let c = cond_ok (same_bytes word (codes "between"))
    (wanted first >>= λ a. wanted second >>= λ b. require (nat_lt a b && nat_le b high) range (Ok (make a b)))
    form claim e in
    let v = bind_ok (wanted first)
    (λ a. wanted second >>= λ b. require (nat_lt a b && nat_le b high) range (Ok (make a b))) claim c.1 in
    let w = bind_ok (wanted second) (λ b. require (nat_lt v.0 b && nat_le b high) range (Ok (make v.0 b))) claim v.2 in
    let r = require_ok (nat_lt v.0 w.0 && nat_le w.0 high) range (Ok (make v.0 w.0)) claim w.2 in
    let p = and_parts _ _ r.0 in (
      v.0,
      w.0,
      ok_is (make v.0 w.0) claim r.1,
      record {
        first = first;
        second = second;
        are = ap (λ x. x ∷ first ∷ second ∷ []) (word_is word (codes "between") c.0);
        is_first = wanted_ok first v.0 v.1;
        is_second = wanted_ok second w.0 w.1;
        rising = ltb-true v.0 w.0 p.0;
        most = leb-true w.0 high p.1;
      },
    )

-- yes, no or undecided
fit_told : (instance : PlainInstance) (word : List ℕ) (claim : Claim) (y n u : Bool) → same_bytes word (codes "yes") ≡ y
    → same_bytes word (codes "no") ≡ n
    → ◌≡◌ {A = Result Claim Reason} (cond y (Ok Fitting) (cond n (Ok NotFitting) (cond u (Err NoClaim) (Err form))))
    (Ok claim) → ResultTold Fit instance (word ∷ []) claim
fit_told instance word claim true n u a b e =
    let same : Fitting ≡ claim = cc (e) in
    subst (λ c. ResultTold Fit instance (word ∷ []) c) same
    (record { is = ap (λ w. w ∷ []) (word_is word (codes "yes") a); job_is = refl })
fit_told instance word claim false true u a b e =
    let same : NotFitting ≡ claim = cc (e) in
    subst (λ c. ResultTold Fit instance (word ∷ []) c) same
    (record { is = ap (λ w. w ∷ []) (word_is word (codes "no") b); job_is = refl })
fit_told instance word claim false false true a b e = absurd (cc (e))
fit_told instance word claim false false false a b e = absurd (cc (e))

module _ (instance : PlainInstance) (claim : Claim) where
  by_none : (job : SolvingJob) (made : Claim) (word : List ℕ) → job_of made ≡ job
      → (word ≡ codes "none" → IsResult instance made (word ∷ [])) → none_claim made word ≡ Ok claim
      → ResultTold job instance (word ∷ []) claim
  by_none job made word j is e =
      let n = none_told made claim word e in
      subst (λ c. ResultTold job instance (word ∷ []) c) n.1 (record { is = is n.0; job_is = j })

  by_one : (job : SolvingJob) (key : List ℕ) (low high : ℕ) (make : ℕ → Claim) (word number : List ℕ)
      → ((n : ℕ) → job_of (make n) ≡ job)
      → ((n : ℕ) → SaysOne key low high n (word ∷ number ∷ []) → IsResult instance (make n) (word ∷ number ∷ []))
      → one_claim key low high make word number ≡ Ok claim
      → ResultTold job instance (word ∷ number ∷ []) claim
  by_one job key low high make word number j is e =
      let n = one_told key low high make word number claim e in
      subst (λ c. ResultTold job instance (word ∷ number ∷ []) c) n.1 (record { is = is n.0 n.2; job_is = j n.0 })

  by_two : (job : SolvingJob) (high : ℕ) (make : ℕ → ℕ → Claim) (word first second : List ℕ)
      → ((a b : ℕ) → job_of (make a b) ≡ job)
      → ((a b : ℕ) → SaysTwo high a b (word ∷ first ∷ second ∷ [])
      → IsResult instance (make a b) (word ∷ first ∷ second ∷ []))
      → two_claim high make word first second ≡ Ok claim
      → ResultTold job instance (word ∷ first ∷ second ∷ []) claim
  by_two job high make word first second j is e =
      let n = two_told high make word first second claim e in
      subst (λ c. ResultTold job instance (word ∷ first ∷ second ∷ []) c) n.2
      (record { is = is n.0 n.1 n.3; job_is = j n.0 n.1 })

  pub result_told : (job : SolvingJob) (words : List (List ℕ)) → claim_of job instance words ≡ Ok claim
      → ResultTold job instance words claim
  unfolding claim_of
  result_told Fit [] e = absurd (cc (e))
  result_told Fit (word ∷ []) e =
      fit_told instance word claim (same_bytes word (codes "yes")) (same_bytes word (codes "no"))
      (same_bytes word (codes "undecided")) refl refl e
  result_told Fit (word ∷ second ∷ words) e = absurd (cc (e))
  result_told Strip [] e = absurd (cc (e))
  result_told Strip (word ∷ []) e = by_none Strip NoHeight word refl (λ w. ap (λ x. x ∷ []) w) e
  result_told Strip (word ∷ number ∷ []) e =
      by_one Strip (codes "least") 1 max_height LeastHeight word number (λ n. refl) (λ n s. s) e
  result_told Strip (word ∷ first ∷ second ∷ []) e =
      by_two Strip max_height HeightBetween word first second (λ a b. refl) (λ a b s. s) e
  result_told Strip (word ∷ first ∷ second ∷ third ∷ words) e = absurd (cc (e))
  result_told Bins [] e = absurd (cc (e))
  result_told Bins (word ∷ []) e = by_none Bins NoBins word refl (λ w. ap (λ x. x ∷ []) w) e
  result_told Bins (word ∷ number ∷ []) e =
      by_one Bins (codes "least") 1 (box_count instance) LeastBins word number (λ n. refl) (λ n s. s) e
  result_told Bins (word ∷ first ∷ second ∷ []) e =
      by_two Bins (box_count instance) BinsBetween word first second (λ a b. refl) (λ a b s. s) e
  result_told Bins (word ∷ first ∷ second ∷ third ∷ words) e = absurd (cc (e))
  result_told Knapsack [] e = absurd (cc (e))
  result_told Knapsack (word ∷ []) e = absurd (cc (e))
  result_told Knapsack (word ∷ number ∷ []) e =
      by_one Knapsack (codes "greatest") 0 max_worth GreatestValue word number (λ n. refl) (λ n s. s) e
  result_told Knapsack (word ∷ first ∷ second ∷ []) e =
      by_two Knapsack max_worth ValueBetween word first second (λ a b. refl) (λ a b s. s) e
  result_told Knapsack (word ∷ first ∷ second ∷ third ∷ words) e = absurd (cc (e))
