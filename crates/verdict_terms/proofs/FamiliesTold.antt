-- Lines of a tree with families up to `end` that are taken are those of a refutation.
use Rattle.std.proofs.Common.{◌≡◌, ℕ, refl, sym, ap, ap₂, subst, ◌∙◌, Bool, true, false, List, [], ◌∷◌, ◌++◌}
use Rattle.std.proofs.Common.{Option, Some, None, Result, Ok, codes, ◌≤◌, take}
use Rattle.packing_terms.specs.Packing.{PlainInstance, dims}
use Rattle.packing_terms.specs.Goals.{with_last_side}
use Rattle.packing_terms.specs.Results.{◌>>=◌}
use Rattle.text_terms.proofs.Good.{bind_ok}
use Rattle.text_terms.specs.declared.claim.Claim.{Claim}
use Rattle.text_terms.proofs.Cuts.{cut_rest}
use Rattle.verdict_terms.specs.FamilyRefutation.{FamilyToken, FamilyNode, Free}
use Rattle.verdict_terms.specs.FamilyChecking.{families_after, families_after_all}
use Rattle.verdict_terms.specs.FamilyLines.{family_token_of}
use Rattle.verdict_terms.proofs.FamilyJudged.{families_refute}
use Rattle.verdict_terms.proofs.FamilyBack.{family_lines_are_told}
use Rattle.verdict_terms.specs.declared.heading.Heading.{Heading}
use Rattle.verdict_terms.specs.declared.heading.Heading.TheVariants.{Answer, Reduced, Bounded}
use Rattle.verdict_terms.specs.declared.reason.Reason.{Reason}
use Rattle.verdict_terms.specs.Reasons.{form}
use Rattle.verdict_terms.specs.Trees.{Refuted, ToFit, begun}
use Rattle.verdict_terms.specs.Stages.{Stage, is_word, coded, gathering_end, gathering_token, gathering_line, proving}
use Rattle.verdict_terms.specs.Stages.{start_exclusions, words_line}
use Rattle.verdict_terms.specs.Stages.Stage.{Proving, ProvingFamilies, Refuting, Gathering, Ended}
use Rattle.verdict_terms.specs.Form.{AreRefuting, AreFamilyLines, AreGathering, RefuteHeight}
use Rattle.verdict_terms.proofs.Passed.{require_ok, is_word_ok, ok_is}
use Rattle.verdict_terms.proofs.Walk.{read_words}
use Rattle.verdict_terms.proofs.TreesTold.{ended, coded_ok, refuting_told}

-- what is reported of a line of such a tree is taken as the line
pub family_token_cut : (d : ℕ) (word : List ℕ) (words : List (List ℕ)) → d ≤ 4
    → family_token_of d (take 21 word ∷ cut_rest words) ≡ family_token_of d (word ∷ words)
family_token_cut d word words few =
    family_lines_are_told d few (record { bad = false; count = 0; words = word ∷ words })

-- lines of tokens that leave no node open, and then `end`
pub record GatheringTold (instance : PlainInstance) (claim told : Claim) (nodes : List FamilyNode)
    (lines : List (List (List ℕ))) : Type 0 where
  pub body : List (List (List ℕ))
  pub tokens : List FamilyToken
  pub are : lines ≡ body ++ (codes "end" ∷ []) ∷ []
  pub are_lines : AreFamilyLines (dims instance) body tokens
  pub taken : families_after_all instance nodes tokens ≡ Ok []
  pub same : claim ≡ told

module _ (instance : PlainInstance) (claim told : Claim) where
  at_end : (nodes : List FamilyNode) (words : List (List ℕ)) (lines : List (List (List ℕ))) (next : Stage)
      → is_word (codes "end") words ≡ true → gathering_end claim nodes ≡ Ok next → read_words next lines ≡ Ok told
      → GatheringTold instance claim told nodes (words ∷ lines)
  at_end (n ∷ nodes) words lines next is e r = absurd (cc (e))
  at_end [] words lines next is e r =
      let d = ended claim told lines (subst (λ s. read_words s lines ≡ Ok told) (sym (ok_is (Ended claim) next e)) r) in
      record {
        body = [];
        tokens = [];
        are = ap₂ (λ w ls. w ∷ ls) (is_word_ok (codes "end") words is) d.0;
        are_lines = tt;
        taken = refl;
        same = d.1;
      }

  at_token : (nodes : List FamilyNode) (words : List (List ℕ)) (lines : List (List (List ℕ))) (next : Stage)
      (o : Option FamilyToken) → family_token_of (dims instance) words ≡ o
      → gathering_token instance claim nodes o ≡ Ok next → read_words next lines ≡ Ok told
      → ((left : List FamilyNode) → read_words (Gathering instance claim left) lines ≡ Ok told
      → GatheringTold instance claim told left lines)
      → GatheringTold instance claim told nodes (words ∷ lines)
  at_token nodes words lines next None is e r later = absurd (cc (e))
  at_token nodes words lines next (Some t) is e r later =
      let b = bind_ok (coded (families_after instance nodes t)) (λ left. Ok (Gathering instance claim left)) next e in
      let d = later b.0 (subst (λ s. read_words s lines ≡ Ok told)
      (sym (ok_is (Gathering instance claim b.0) next b.2)) r) in
      record {
        body = words ∷ d.body;
        tokens = t ∷ d.tokens;
        are = ap (λ ls. words ∷ ls) d.are;
        are_lines = (is, d.are_lines);
        taken = ap (λ r. r >>= λ left. families_after_all instance left d.tokens)
            (coded_ok (families_after instance nodes t) b.0 b.1) ∙ d.taken;
        same = d.same;
      }

  pub gathering_told : (nodes : List FamilyNode) (lines : List (List (List ℕ)))
      → read_words (Gathering instance claim nodes) lines ≡ Ok told
      → GatheringTold instance claim told nodes lines
  gathering_told nodes [] e = absurd (cc (e))
  gathering_told nodes (words ∷ lines) e =
      let b = bind_ok (gathering_line instance claim nodes words) (λ next. read_words next lines) told e in
      go (is_word (codes "end") words) refl b.0 b.1 b.2 (λ left r. gathering_told left lines r)
    where
      go : (t : Bool) → is_word (codes "end") words ≡ t → (next : Stage)
          → ◌≡◌ {A = Result Stage Reason} (elim t [
            | true ↦ gathering_end claim nodes
            | false ↦ gathering_token instance claim nodes (family_token_of (dims instance) words)
          ]) (Ok next)
          → read_words next lines ≡ Ok told
          → ((left : List FamilyNode) → read_words (Gathering instance claim left) lines ≡ Ok told
          → GatheringTold instance claim told left lines)
          → GatheringTold instance claim told nodes (words ∷ lines)
      go true is next f r later = at_end nodes words lines next is f r
      go false is next f r later =
          at_token nodes words lines next (family_token_of (dims instance) words) refl f r later

-- `proof`, and lines of one kind behind it up to `end`
pub record ProofTold (claim told : Claim) (Second : List (List (List ℕ)) → Type 0) (lines : List (List (List ℕ))) :
    Type 0 where
  pub body : List (List (List ℕ))
  pub are : lines ≡ (codes "proof" ∷ []) ∷ (body ++ (codes "end" ∷ []) ∷ [])
  pub refuting : Second body
  pub same : claim ≡ told

pub proof_told : (claim told : Claim) (refuted : Refuted) (lines : List (List (List ℕ)))
    → read_words (Proving claim refuted) lines ≡ Ok told → ProofTold claim told (AreRefuting refuted) lines
proof_told claim told refuted [] e = absurd (cc (e))
proof_told claim told refuted (words ∷ lines) e =
    let b = bind_ok (words_line (Proving claim refuted) words) (λ next. read_words next lines) told e in
    let r = require_ok (is_word (codes "proof") words) form (Ok (Refuting claim (begun refuted))) b.0 b.1 in
    let t = refuting_told claim told refuted lines
    (subst (λ s. read_words s lines ≡ Ok told) (sym (ok_is (Refuting claim (begun refuted)) b.0 r.1)) b.2) in
    record {
      body = t.body;
      are = ap₂ (λ w ls. w ∷ ls) (is_word_ok (codes "proof") words r.0) t.are;
      refuting = t.refuting;
      same = t.same;
    }

families_told : (claim told : Claim) (instance : PlainInstance) (lines : List (List (List ℕ)))
    → read_words (ProvingFamilies instance claim) lines ≡ Ok told → ProofTold claim told (AreGathering instance) lines
families_told claim told instance [] e = absurd (cc (e))
families_told claim told instance (words ∷ lines) e =
    let b = bind_ok (words_line (ProvingFamilies instance claim) words) (λ next. read_words next lines) told e in
    let r = require_ok (is_word (codes "proof") words) form (Ok (Gathering instance claim (Free [] ∷ []))) b.0 b.1 in
    let t = gathering_told instance claim told (Free [] ∷ []) lines
    (subst (λ s. read_words s lines ≡ Ok told) (sym (ok_is (Gathering instance claim (Free [] ∷ [])) b.0 r.1)) b.2) in
    record {
      body = t.body;
      are = ap₂ (λ w ls. w ∷ ls) (is_word_ok (codes "proof") words r.0) t.are;
      refuting = record {
        tokens = t.tokens;
        are_lines = t.are_lines;
        refute = (families_refute instance (Free []) t.tokens).0 t.taken;
      };
      same = t.same;
    }

-- behind the places of a claim, `proof` and the lines up to `end` refute a height
pub height_told : (heading : Heading) (instance : PlainInstance) (claim told : Claim) (h : ℕ)
    (lines : List (List (List ℕ)))
    → read_words (proving heading claim (ToFit (with_last_side instance h) (start_exclusions heading instance))) lines
    ≡ Ok told
    → ProofTold claim told (RefuteHeight heading instance h) lines
height_told Answer instance claim told h lines e =
    proof_told claim told (ToFit (with_last_side instance h) (start_exclusions Answer instance)) lines e
height_told Reduced instance claim told h lines e =
    proof_told claim told (ToFit (with_last_side instance h) (start_exclusions Reduced instance)) lines e
height_told Bounded instance claim told h lines e = families_told claim told (with_last_side instance h) lines e
