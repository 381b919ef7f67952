-- The lines of a refutation with families are taken up to `end`.
use Rattle.std.proofs.Common.{◌≡◌, ℕ, refl, sym, ap, ◌∙◌, Bool, true, false, List, [], ◌∷◌, ◌++◌, Option, Some, None}
use Rattle.std.proofs.Common.{Result, Ok, codes}
use Rattle.packing_terms.specs.Packing.{PlainInstance, dims}
use Rattle.packing_terms.specs.Goals.{with_last_side}
use Rattle.packing_terms.specs.Results.{◌>>=◌}
use Rattle.text_terms.specs.Lines.{same_bytes}
use Rattle.text_terms.proofs.Good.{bind_ok}
use Rattle.text_terms.specs.TokenLines.{token_of}
use Rattle.text_terms.specs.declared.claim.Claim.{Claim}
use Rattle.verdict_terms.specs.FamilyRefutation.{FamilyToken, FamilyNode, Free}
use Rattle.verdict_terms.specs.FamilyChecking.{families_after, families_after_all}
use Rattle.verdict_terms.specs.FamilyLines.{family_token_of}
use Rattle.verdict_terms.proofs.FamilyJudged.{families_refute}
use Rattle.verdict_terms.specs.declared.heading.Heading.{Heading}
use Rattle.verdict_terms.specs.declared.heading.Heading.TheVariants.{Answer, Reduced, Bounded}
use Rattle.verdict_terms.specs.declared.reason.Reason.{Reason}
use Rattle.verdict_terms.specs.Reasons.{form}
use Rattle.verdict_terms.specs.Trees.{Refuted, ToFit, begun}
use Rattle.verdict_terms.specs.Stages.{Stage, is_word, coded, gathering_end, gathering_token, words_line, proving}
use Rattle.verdict_terms.specs.Stages.{start_exclusions}
use Rattle.verdict_terms.specs.Stages.Stage.{Proving, ProvingFamilies, Refuting, Gathering, Ended}
use Rattle.verdict_terms.specs.Form.{AreRefuting, AreFamilyLines, AreGathering, RefuteHeight}
use Rattle.verdict_terms.proofs.Passed.{is_word_ok, ok_is}
use Rattle.verdict_terms.proofs.Taken.{is_same, required, bound}
use Rattle.verdict_terms.proofs.Walk.{read_words}
use Rattle.verdict_terms.proofs.TreesGiven.{refuting_given}

-- `end` is no token
no_token : (d : ℕ) → family_token_of d (codes "end" ∷ []) ≡ None
unfolding family_token_of token_of same_bytes
no_token d = refl

not_end : (d : ℕ) (words : List (List ℕ)) (t : FamilyToken) → family_token_of d words ≡ Some t
    → is_word (codes "end") words ≡ false
not_end d words t e = go (is_word (codes "end") words) refl
  where
    go : (b : Bool) → is_word (codes "end") words ≡ b → is_word (codes "end") words ≡ false
    go false f = f
    go true f = absurd (let n : ◌≡◌ {A = Option FamilyToken} None (Some t) = sym
        (ap (family_token_of d) (is_word_ok (codes "end") words f) ∙ no_token d) ∙ e in cc (n))

-- the stage behind a line, by whether it is `end`
abbrev behind_line : PlainInstance → Claim → List FamilyNode → List (List ℕ) → Bool → Result Stage Reason
behind_line instance claim nodes words b =
    elim b as (λ x. Result Stage Reason) [
      | true ↦ gathering_end claim nodes
      | false ↦ gathering_token instance claim nodes (family_token_of (dims instance) words)
    ]

module _ (instance : PlainInstance) (claim : Claim) where
  token_taken : (nodes left : List FamilyNode) (words : List (List ℕ)) (t : FamilyToken)
      → family_token_of (dims instance) words ≡ Some t → families_after instance nodes t ≡ Ok left
      → words_line (Gathering instance claim nodes) words ≡ Ok (Gathering instance claim left)
  token_taken nodes left words t is after =
      ap (behind_line instance claim nodes words) (not_end (dims instance) words t is)
      ∙ ap (gathering_token instance claim nodes) is
      ∙ ap (λ r. coded r >>= λ l. Ok (Gathering instance claim l)) after

  pub gathering_given : (nodes : List FamilyNode) (tokens : List FamilyToken) (body : List (List (List ℕ)))
      → AreFamilyLines (dims instance) body tokens → families_after_all instance nodes tokens ≡ Ok []
      → read_words (Gathering instance claim nodes) (body ++ (codes "end" ∷ []) ∷ []) ≡ Ok claim
  gathering_given nodes [] [] are e =
      bound (words_line (Gathering instance claim nodes) (codes "end" ∷ [])) (Ended claim)
      (λ next. read_words next [])
      (ap (behind_line instance claim nodes (codes "end" ∷ [])) (is_same (codes "end"))
      ∙ ap (gathering_end claim) (ok_is nodes [] e))
  gathering_given nodes [] (words ∷ body) are e = absurd are
  gathering_given nodes (t ∷ ts) [] are e = absurd are
  gathering_given nodes (t ∷ ts) (words ∷ body) are e =
      let b = bind_ok (families_after instance nodes t) (λ left. families_after_all instance left ts) [] e in
      bound (words_line (Gathering instance claim nodes) words) (Gathering instance claim b.0)
      (λ next. read_words next (body ++ (codes "end" ∷ []) ∷ [])) (token_taken nodes b.0 words t are.0 b.1)
      ∙ gathering_given b.0 ts body are.1 b.2

pub proof_given : (claim : Claim) (refuted : Refuted) (body : List (List (List ℕ))) → AreRefuting refuted body
    → read_words (Proving claim refuted) ((codes "proof" ∷ []) ∷ (body ++ (codes "end" ∷ []) ∷ [])) ≡ Ok claim
proof_given claim refuted body r =
    bound (words_line (Proving claim refuted) (codes "proof" ∷ [])) (Refuting claim (begun refuted))
    (λ next. read_words next (body ++ (codes "end" ∷ []) ∷ []))
    (required (is_word (codes "proof") (codes "proof" ∷ [])) form (Ok (Refuting claim (begun refuted)))
    (is_same (codes "proof")))
    ∙ refuting_given claim refuted body r

families_given : (claim : Claim) (instance : PlainInstance) (body : List (List (List ℕ))) → AreGathering instance body
    → read_words (ProvingFamilies instance claim) ((codes "proof" ∷ []) ∷ (body ++ (codes "end" ∷ []) ∷ [])) ≡ Ok claim
families_given claim instance body r =
    bound (words_line (ProvingFamilies instance claim) (codes "proof" ∷ [])) (Gathering instance claim (Free [] ∷ []))
    (λ next. read_words next (body ++ (codes "end" ∷ []) ∷ []))
    (required (is_word (codes "proof") (codes "proof" ∷ [])) form (Ok (Gathering instance claim (Free [] ∷ [])))
    (is_same (codes "proof")))
    ∙ gathering_given instance claim (Free [] ∷ []) r.tokens body r.are_lines
    ((families_refute instance (Free []) r.tokens).1 r.refute)

-- `proof` and the lines that refute a height are taken behind the places of a claim
pub height_given : (heading : Heading) (instance : PlainInstance) (claim : Claim) (h : ℕ)
    (body : List (List (List ℕ))) → RefuteHeight heading instance h body
    → read_words (proving heading claim (ToFit (with_last_side instance h) (start_exclusions heading instance)))
    ((codes "proof" ∷ []) ∷ (body ++ (codes "end" ∷ []) ∷ [])) ≡ Ok claim
height_given Answer instance claim h body r =
    proof_given claim (ToFit (with_last_side instance h) (start_exclusions Answer instance)) body r
height_given Reduced instance claim h body r =
    proof_given claim (ToFit (with_last_side instance h) (start_exclusions Reduced instance)) body r
height_given Bounded instance claim h body r = families_given claim (with_last_side instance h) body r
