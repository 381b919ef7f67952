-- The token lines of a refutation are taken up to `end`.
use Rattle.std.proofs.Common.{◌≡◌, ℕ, refl, sym, ap, subst, ◌∙◌, Bool, true, false, cond, List, [], ◌∷◌, ◌++◌, Option}
use Rattle.std.proofs.Common.{Some, None, Ok, codes}
use Rattle.std.proofs.lemmas.Bool.{true≢false}
use Rattle.packing_terms.specs.Tokens.{PlainToken}
use Rattle.packing_terms.specs.OuterRefutation.{no_choice}
use Rattle.packing_terms.specs.OuterFeeding.{Outer}
use Rattle.text_terms.specs.Lines.{same_bytes}
use Rattle.packing_terms.specs.Results.{◌>>=◌}
use Rattle.text_terms.proofs.Good.{bind_ok}
use Rattle.verdict_terms.specs.Checking.{inner_after, bins_after, value_after}
use Rattle.verdict_terms.proofs.Refuting.{inner_refutes, bins_refute, value_refutes}
use Rattle.text_terms.specs.declared.claim.Claim.{Claim}
use Rattle.text_terms.specs.TokenLines.{token_of}
use Rattle.verdict_terms.specs.Trees.{Refuted, ToFit, ToFitIn, ToReach, AreRefutation, Tree, InnerTree, BinTree}
use Rattle.verdict_terms.specs.Trees.{ValueTree, begun, tree_dims, map_ok, tree_after, is_whole}
use Rattle.verdict_terms.specs.Stages.{is_word, tree_token, coded, grown_tree, tree_line, words_line, late_line}
use Rattle.verdict_terms.specs.Stages.Stage.{Refuting, Ending, Ended}
use Rattle.verdict_terms.specs.Form.{AreTokenLines, AreRefuting}
use Rattle.verdict_terms.proofs.Passed.{is_word_ok, ok_is}
use Rattle.verdict_terms.proofs.Taken.{is_same, required, bound}
use Rattle.verdict_terms.proofs.Walk.{read_words}
use Rattle.verdict_terms.proofs.TreesTold.{tree_after_all, all_after, dims_same, dims_begun}

pub end_given : (claim : Claim) (behind : Option ℕ)
    → read_words (Ending claim behind) ((codes "end" ∷ []) ∷ []) ≡ Ok claim
end_given claim behind =
    bound (words_line (Ending claim behind) (codes "end" ∷ [])) (Ended claim) (λ next. read_words next [])
    (required (is_word (codes "end") (codes "end" ∷ [])) (late_line behind (codes "end" ∷ [])) (Ok (Ended claim))
    (is_same (codes "end")))

-- `end` is no token
no_token : (d : ℕ) → token_of d (codes "end" ∷ []) ≡ None
unfolding token_of same_bytes
no_token d = refl

pub not_end : (d : ℕ) (words : List (List ℕ)) (t : PlainToken) → token_of d words ≡ Some t
    → is_word (codes "end") words ≡ false
not_end d words t e = go (is_word (codes "end") words) refl
  where
    go : (b : Bool) → is_word (codes "end") words ≡ b → is_word (codes "end") words ≡ false
    go false f = f
    go true f = absurd (let n : ◌≡◌ {A = Option PlainToken} None (Some t) = sym
        (ap (token_of d) (is_word_ok (codes "end") words f) ∙ no_token d) ∙ e in cc (n))

-- a whole tree takes no token
whole_stuck : (tree next : Tree) (t : PlainToken) → is_whole tree ≡ true → tree_after tree t ≡ Ok next → ⊥
whole_stuck (InnerTree instance []) next t w e = absurd (cc (e))
whole_stuck (InnerTree instance (n ∷ nodes)) next t w e = absurd (cc (w))
whole_stuck (BinTree instance k []) next t w e = absurd (cc (e))
whole_stuck (BinTree instance k (n ∷ nodes)) next t w e = absurd (cc (w))
whole_stuck (ValueTree instance y []) next t w e = absurd (cc (e))
whole_stuck (ValueTree instance y (n ∷ nodes)) next t w e = absurd (cc (w))

token_line : (claim : Claim) (tree next : Tree) (words : List (List ℕ)) (t : PlainToken)
    → token_of (tree_dims tree) words ≡ Some t → tree_after tree t ≡ Ok next
    → tree_line claim tree words ≡ Ok (grown_tree claim next)
token_line claim tree next words t is after =
    bound (tree_token (is_word (codes "end") words) (token_of (tree_dims tree) words)) t
    (λ t. coded (tree_after tree t) >>= λ more. Ok (grown_tree claim more))
    (ap (λ b. tree_token b (token_of (tree_dims tree) words)) (not_end (tree_dims tree) words t is)
    ∙ ap (tree_token false) is)
    ∙ ap (λ r. coded r >>= λ more. Ok (grown_tree claim more)) after

-- the tree behind a token: whole with no line but `end` left, or open
grown_given : (claim : Claim) (tree next left : Tree) (ts : List PlainToken) (body : List (List (List ℕ)))
    → AreTokenLines (tree_dims next) body ts
    → tree_after_all next ts ≡ Ok left → (w : Bool) → is_whole next ≡ w
    → (is_whole next ≡ false → read_words (Refuting claim next) (body ++ (codes "end" ∷ []) ∷ []) ≡ Ok claim)
    → read_words (cond w (Ending claim (Some (tree_dims next))) (Refuting claim next))
    (body ++ (codes "end" ∷ []) ∷ []) ≡ Ok claim
grown_given claim tree next left [] [] are e true w later = end_given claim (Some (tree_dims next))
grown_given claim tree next left [] (words ∷ body) are e true w later = absurd are
grown_given claim tree next left (t ∷ ts) [] are e true w later = absurd are
grown_given claim tree next left (t ∷ ts) (words ∷ body) are e true w later =
    absurd (let b = bind_ok (tree_after next t) (λ more. tree_after_all more ts) left e in whole_stuck next b.0 t w b.1)
grown_given claim tree next left ts body are e false w later = later w

pub tree_given : (claim : Claim) (tree left : Tree) (tokens : List PlainToken) (body : List (List (List ℕ)))
    → AreTokenLines (tree_dims tree) body tokens
    → tree_after_all tree tokens ≡ Ok left → is_whole left ≡ true → is_whole tree ≡ false
    → read_words (Refuting claim tree) (body ++ (codes "end" ∷ []) ∷ []) ≡ Ok claim
tree_given claim tree left [] [] are e whole not_whole =
    absurd (true≢false (sym whole ∙ ap is_whole (sym (ok_is tree left e)) ∙ not_whole))
tree_given claim tree left [] (words ∷ body) are e whole not_whole = absurd are
tree_given claim tree left (t ∷ ts) [] are e whole not_whole = absurd are
tree_given claim tree left (t ∷ ts) (words ∷ body) are e whole not_whole =
    let b = bind_ok (tree_after tree t) (λ next. tree_after_all next ts) left e in
    let d : AreTokenLines (tree_dims b.0) body ts =
    subst (λ m. AreTokenLines m body ts) (sym (dims_same tree b.0 t b.1)) are.1 in
    bound (words_line (Refuting claim tree) words) (grown_tree claim b.0)
    (λ next. read_words next (body ++ (codes "end" ∷ []) ∷ [])) (token_line claim tree b.0 words t are.0 b.1)
    ∙ grown_given claim tree b.0 left ts body d b.2 (is_whole b.0) refl
    (λ w. tree_given claim b.0 left ts body d b.2 whole w)

-- a refutation leaves a begun tree whole
refutes_whole : (refuted : Refuted) (tokens : List PlainToken) → AreRefutation refuted tokens
    → (left : Tree) × (tree_after_all (begun refuted) tokens ≡ Ok left) × (is_whole left ≡ true)
refutes_whole (ToFit instance start) tokens r = (
  InnerTree instance [],
  all_after (InnerTree instance) (inner_after instance) (λ nodes t. refl) (start ∷ []) tokens
      ∙ ap (map_ok (InnerTree instance)) ((inner_refutes instance start tokens).1 r),
  refl,
)
refutes_whole (ToFitIn instance k) tokens r = (
  BinTree instance k [],
  all_after (BinTree instance k) (bins_after instance k) (λ nodes t. refl) (Outer [] ∷ []) tokens
      ∙ ap (map_ok (BinTree instance k)) ((bins_refute instance k tokens).1 r),
  refl,
)
refutes_whole (ToReach instance y) tokens r = (
  ValueTree instance y [],
  all_after (ValueTree instance y) (value_after instance y) (λ nodes t. refl) (Outer no_choice ∷ []) tokens
      ∙ ap (map_ok (ValueTree instance y)) ((value_refutes instance y tokens).1 r),
  refl,
)

begun_open : (refuted : Refuted) → is_whole (begun refuted) ≡ false
begun_open (ToFit instance start) = refl
begun_open (ToFitIn instance k) = refl
begun_open (ToReach instance y) = refl

pub refuting_given : (claim : Claim) (refuted : Refuted) (body : List (List (List ℕ))) → AreRefuting refuted body
    → read_words (Refuting claim (begun refuted)) (body ++ (codes "end" ∷ []) ∷ []) ≡ Ok claim
refuting_given claim refuted body r =
    let w = refutes_whole refuted r.tokens r.refute in
    tree_given claim (begun refuted) w.0 r.tokens body
    (subst (λ m. AreTokenLines m body r.tokens) (sym (dims_begun refuted)) r.are_lines) w.1 w.2 (begun_open refuted)
