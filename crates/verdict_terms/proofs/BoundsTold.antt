-- Lines of a tree with priced leaves up to `end` that are taken are those of a refutation.
use Rattle.std.proofs.Common.{◌≡◌, ℕ, refl, sym, ap, ap₂, subst, ◌∙◌, Bool, true, false, List, [], ◌∷◌, ◌++◌}
use Rattle.std.proofs.Common.{Option, Some, None, Result, Ok, codes, ◌≤◌, take}
use Rattle.packing_terms.specs.Packing.{PlainInstance, dims}
use Rattle.packing_terms.specs.OuterRefutation.{Choice as BoxChoice, no_choice}
use Rattle.packing_terms.specs.OuterFeeding.{OpenNode, Outer}
use Rattle.packing_terms.specs.Results.{◌>>=◌}
use Rattle.text_terms.proofs.Good.{bind_ok}
use Rattle.text_terms.specs.declared.claim.Claim.{Claim}
use Rattle.verdict_terms.specs.BoundedRefutation.{BoundedToken, IsBoundedRefutation}
use Rattle.verdict_terms.specs.BoundedJudging.{bounded_after, bounded_after_all}
use Rattle.verdict_terms.specs.BoundedLines.{bounded_token_of}
use Rattle.verdict_terms.proofs.BoundedJudged.{bounded_refutes}
use Rattle.verdict_terms.proofs.BoundedBack.{bounded_lines_are_told}
use Rattle.text_terms.proofs.Cuts.{cut_rest}
use Rattle.verdict_terms.specs.declared.heading.Heading.{Heading}
use Rattle.verdict_terms.specs.declared.heading.Heading.TheVariants.{Answer, Reduced, Bounded}
use Rattle.verdict_terms.specs.declared.reason.Reason.{Reason}
use Rattle.verdict_terms.specs.Trees.{ToReach}
use Rattle.verdict_terms.specs.Stages.{Stage, is_word, coded, bounding_end, bounding_token, bounding_line, value_stage}
use Rattle.verdict_terms.specs.Stages.{refutation_goal, value_refuted}
use Rattle.verdict_terms.specs.Stages.Stage.{Bounding, Ended}
use Rattle.verdict_terms.specs.Form.{AreBoundedLines, AreRefuting, RefuteValue}
use Rattle.verdict_terms.proofs.Passed.{is_word_ok, ok_is}
use Rattle.verdict_terms.proofs.Walk.{read_words}
use Rattle.verdict_terms.proofs.TreesTold.{ended, coded_ok, refuting_told}

-- what is reported of a line of such a tree is taken as the line
pub bounded_token_cut : (d : ℕ) (word : List ℕ) (words : List (List ℕ)) → d ≤ 4
    → bounded_token_of d (take 21 word ∷ cut_rest words) ≡ bounded_token_of d (word ∷ words)
bounded_token_cut d word words few =
    bounded_lines_are_told d few (record { bad = false; count = 0; words = word ∷ words })

-- lines of tokens that leave no node open, and then `end`
pub record BoundingTold (instance : PlainInstance) (claim told : Claim) (value : ℕ) (nodes : List (OpenNode BoxChoice))
    (lines : List (List (List ℕ))) : Type 0 where
  pub body : List (List (List ℕ))
  pub tokens : List BoundedToken
  pub are : lines ≡ body ++ (codes "end" ∷ []) ∷ []
  pub are_lines : AreBoundedLines (dims instance) body tokens
  pub taken : bounded_after_all instance value nodes tokens ≡ Ok []
  pub same : claim ≡ told

module _ (instance : PlainInstance) (claim told : Claim) (value : ℕ) where
  at_end : (nodes : List (OpenNode BoxChoice)) (words : List (List ℕ)) (lines : List (List (List ℕ))) (next : Stage)
      → is_word (codes "end") words ≡ true → bounding_end claim nodes ≡ Ok next → read_words next lines ≡ Ok told
      → BoundingTold instance claim told value nodes (words ∷ lines)
  at_end (n ∷ nodes) words lines next is e r = absurd (cc (e))
  at_end [] words lines next is e r =
      let d = ended claim told lines (subst (λ s. read_words s lines ≡ Ok told) (sym (ok_is (Ended claim) next e)) r) in
      record {
        body = [];
        tokens = [];
        are = ap₂ (λ w ls. w ∷ ls) (is_word_ok (codes "end") words is) d.0;
        are_lines = tt;
        taken = refl;
        same = d.1;
      }

  at_token : (nodes : List (OpenNode BoxChoice)) (words : List (List ℕ)) (lines : List (List (List ℕ))) (next : Stage)
      (o : Option BoundedToken) → bounded_token_of (dims instance) words ≡ o
      → bounding_token instance claim value nodes o ≡ Ok next → read_words next lines ≡ Ok told
      → ((left : List (OpenNode BoxChoice)) → read_words (Bounding instance claim value left) lines ≡ Ok told
      → BoundingTold instance claim told value left lines)
      → BoundingTold instance claim told value nodes (words ∷ lines)
  at_token nodes words lines next None is e r later = absurd (cc (e))
  at_token nodes words lines next (Some t) is e r later =
      let b = bind_ok (coded (bounded_after instance value nodes t)) (λ left. Ok (Bounding instance claim value left))
      next e in
      let d = later b.0 (subst (λ s. read_words s lines ≡ Ok told)
      (sym (ok_is (Bounding instance claim value b.0) next b.2)) r) in
      record {
        body = words ∷ d.body;
        tokens = t ∷ d.tokens;
        are = ap (λ ls. words ∷ ls) d.are;
        are_lines = (is, d.are_lines);
        taken = ap (λ r. r >>= λ left. bounded_after_all instance value left d.tokens)
            (coded_ok (bounded_after instance value nodes t) b.0 b.1) ∙ d.taken;
        same = d.same;
      }

  pub bounding_told : (nodes : List (OpenNode BoxChoice)) (lines : List (List (List ℕ)))
      → read_words (Bounding instance claim value nodes) lines ≡ Ok told
      → BoundingTold instance claim told value nodes lines
  bounding_told nodes [] e = absurd (cc (e))
  bounding_told nodes (words ∷ lines) e =
      let b = bind_ok (bounding_line instance claim value nodes words) (λ next. read_words next lines) told e in
      go (is_word (codes "end") words) refl b.0 b.1 b.2 (λ left r. bounding_told left lines r)
    where
      go : (t : Bool) → is_word (codes "end") words ≡ t → (next : Stage)
          → ◌≡◌ {A = Result Stage Reason} (elim t [
            | true ↦ bounding_end claim nodes
            | false ↦ bounding_token instance claim value nodes (bounded_token_of (dims instance) words)
          ]) (Ok next)
          → read_words next lines ≡ Ok told
          → ((left : List (OpenNode BoxChoice)) → read_words (Bounding instance claim value left) lines ≡ Ok told
          → BoundingTold instance claim told value left lines)
          → BoundingTold instance claim told value nodes (words ∷ lines)
      go true is next f r later = at_end nodes words lines next is f r
      go false is next f r later =
          at_token nodes words lines next (bounded_token_of (dims instance) words) refl f r later

-- from the `proof` of a claim on a value, the lines up to `end` refute the value
pub record PassingTold (heading : Heading) (instance : PlainInstance) (claim told : Claim) (value : ℕ)
    (lines : List (List (List ℕ))) : Type 0 where
  pub body : List (List (List ℕ))
  pub are : lines ≡ body ++ (codes "end" ∷ []) ∷ []
  pub passing : RefuteValue heading instance value body
  pub same : claim ≡ told

pub passing_told : (heading : Heading) (instance : PlainInstance) (claim told : Claim) (value : ℕ)
    → refutation_goal Answer instance claim ≡ ToReach instance value
    → refutation_goal Reduced instance claim ≡ ToReach instance value → value_refuted claim ≡ value
    → (lines : List (List (List ℕ))) → read_words (value_stage heading instance claim) lines ≡ Ok told
    → PassingTold heading instance claim told value lines
passing_told Answer instance claim told value own other bound lines e =
    let t = refuting_told claim told (refutation_goal Answer instance claim) lines e in record {
      body = t.body;
      are = t.are;
      passing = subst (λ r. AreRefuting r t.body) own t.refuting;
      same = t.same;
    }
passing_told Reduced instance claim told value own other bound lines e =
    let t = refuting_told claim told (refutation_goal Reduced instance claim) lines e in record {
      body = t.body;
      are = t.are;
      passing = subst (λ r. AreRefuting r t.body) other t.refuting;
      same = t.same;
    }
passing_told Bounded instance claim told value own other bound lines e =
    let t = bounding_told instance claim told (value_refuted claim) (Outer no_choice ∷ []) lines e in record {
      body = t.body;
      are = t.are;
      passing = record {
        tokens = t.tokens;
        are_lines = t.are_lines;
        refute = subst (λ y. IsBoundedRefutation instance y t.tokens) bound
            ((bounded_refutes instance (value_refuted claim) t.tokens).0 t.taken);
      };
      same = t.same;
    }
