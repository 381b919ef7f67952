-- The lines of a refutation with priced leaves are taken up to `end`.
use Rattle.std.proofs.Common.{◌≡◌, ℕ, refl, sym, ap, subst, ◌∙◌, Bool, true, false, List, [], ◌∷◌, ◌++◌, Option}
use Rattle.std.proofs.Common.{Some, None, Result, Ok, codes}
use Rattle.packing_terms.specs.Packing.{PlainInstance, dims}
use Rattle.packing_terms.specs.OuterRefutation.{Choice as BoxChoice, no_choice}
use Rattle.packing_terms.specs.OuterFeeding.{OpenNode, Outer}
use Rattle.packing_terms.specs.Results.{◌>>=◌}
use Rattle.text_terms.specs.Lines.{same_bytes}
use Rattle.text_terms.proofs.Good.{bind_ok}
use Rattle.text_terms.specs.TokenLines.{token_of}
use Rattle.text_terms.specs.declared.claim.Claim.{Claim}
use Rattle.verdict_terms.specs.BoundedRefutation.{BoundedToken, IsBoundedRefutation}
use Rattle.verdict_terms.specs.BoundedJudging.{bounded_after, bounded_after_all}
use Rattle.verdict_terms.specs.BoundedLines.{bounded_token_of}
use Rattle.verdict_terms.proofs.BoundedJudged.{bounded_refutes}
use Rattle.verdict_terms.specs.declared.heading.Heading.{Heading}
use Rattle.verdict_terms.specs.declared.heading.Heading.TheVariants.{Answer, Reduced, Bounded}
use Rattle.verdict_terms.specs.declared.reason.Reason.{Reason}
use Rattle.verdict_terms.specs.Trees.{ToReach}
use Rattle.verdict_terms.specs.Stages.{Stage, is_word, coded, bounding_end, bounding_token, words_line, value_stage}
use Rattle.verdict_terms.specs.Stages.{refutation_goal, value_refuted}
use Rattle.verdict_terms.specs.Stages.Stage.{Bounding, Ended}
use Rattle.verdict_terms.specs.Form.{AreBoundedLines, AreRefuting, RefuteValue}
use Rattle.verdict_terms.proofs.Passed.{is_word_ok, ok_is}
use Rattle.verdict_terms.proofs.Taken.{is_same, bound}
use Rattle.verdict_terms.proofs.Walk.{read_words}
use Rattle.verdict_terms.proofs.TreesGiven.{refuting_given}

-- `end` is no token
no_token : (d : ℕ) → bounded_token_of d (codes "end" ∷ []) ≡ None
unfolding bounded_token_of token_of same_bytes
no_token d = refl

not_end : (d : ℕ) (words : List (List ℕ)) (t : BoundedToken) → bounded_token_of d words ≡ Some t
    → is_word (codes "end") words ≡ false
not_end d words t e = go (is_word (codes "end") words) refl
  where
    go : (b : Bool) → is_word (codes "end") words ≡ b → is_word (codes "end") words ≡ false
    go false f = f
    go true f = absurd (let n : ◌≡◌ {A = Option BoundedToken} None (Some t) = sym
        (ap (bounded_token_of d) (is_word_ok (codes "end") words f) ∙ no_token d) ∙ e in cc (n))

-- the stage behind a line, by whether it is `end`
abbrev behind_line : PlainInstance → Claim → ℕ → List (OpenNode BoxChoice) → List (List ℕ) → Bool → Result Stage Reason
behind_line instance claim value nodes words b =
    elim b as (λ x. Result Stage Reason) [
      | true ↦ bounding_end claim nodes
      | false ↦ bounding_token instance claim value nodes (bounded_token_of (dims instance) words)
    ]

module _ (instance : PlainInstance) (claim : Claim) (value : ℕ) where
  token_taken : (nodes left : List (OpenNode BoxChoice)) (words : List (List ℕ)) (t : BoundedToken)
      → bounded_token_of (dims instance) words ≡ Some t → bounded_after instance value nodes t ≡ Ok left
      → words_line (Bounding instance claim value nodes) words ≡ Ok (Bounding instance claim value left)
  token_taken nodes left words t is after =
      ap (behind_line instance claim value nodes words) (not_end (dims instance) words t is)
      ∙ ap (bounding_token instance claim value nodes) is
      ∙ ap (λ r. coded r >>= λ l. Ok (Bounding instance claim value l)) after

  pub bounding_given : (nodes : List (OpenNode BoxChoice)) (tokens : List BoundedToken) (body : List (List (List ℕ)))
      → AreBoundedLines (dims instance) body tokens → bounded_after_all instance value nodes tokens ≡ Ok []
      → read_words (Bounding instance claim value nodes) (body ++ (codes "end" ∷ []) ∷ []) ≡ Ok claim
  bounding_given nodes [] [] are e =
      bound (words_line (Bounding instance claim value nodes) (codes "end" ∷ [])) (Ended claim)
      (λ next. read_words next [])
      (ap (behind_line instance claim value nodes (codes "end" ∷ [])) (is_same (codes "end"))
      ∙ ap (bounding_end claim) (ok_is nodes [] e))
  bounding_given nodes [] (words ∷ body) are e = absurd are
  bounding_given nodes (t ∷ ts) [] are e = absurd are
  bounding_given nodes (t ∷ ts) (words ∷ body) are e =
      let b = bind_ok (bounded_after instance value nodes t) (λ left. bounded_after_all instance value left ts) [] e in
      bound (words_line (Bounding instance claim value nodes) words) (Bounding instance claim value b.0)
      (λ next. read_words next (body ++ (codes "end" ∷ []) ∷ [])) (token_taken nodes b.0 words t are.0 b.1)
      ∙ bounding_given b.0 ts body are.1 b.2

-- the lines that refute a value are taken behind the `proof` of the claim that says so
pub passing_given : (heading : Heading) (instance : PlainInstance) (claim : Claim) (value : ℕ)
    → refutation_goal Answer instance claim ≡ ToReach instance value
    → refutation_goal Reduced instance claim ≡ ToReach instance value → value_refuted claim ≡ value
    → (body : List (List (List ℕ))) → RefuteValue heading instance value body
    → read_words (value_stage heading instance claim) (body ++ (codes "end" ∷ []) ∷ []) ≡ Ok claim
passing_given Answer instance claim value own other bound body r =
    refuting_given claim (refutation_goal Answer instance claim) body (subst (λ x. AreRefuting x body) (sym own) r)
passing_given Reduced instance claim value own other bound body r =
    refuting_given claim (refutation_goal Reduced instance claim) body (subst (λ x. AreRefuting x body) (sym other) r)
passing_given Bounded instance claim value own other bound body r =
    bounding_given instance claim (value_refuted claim) (Outer no_choice ∷ []) r.tokens body r.are_lines
    ((bounded_refutes instance (value_refuted claim) r.tokens).1
    (subst (λ y. IsBoundedRefutation instance y r.tokens) (sym bound) r.refute))
