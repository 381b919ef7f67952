-- Token lines up to `end` that are taken are those of a refutation.
use Rattle.std.proofs.Common.{◌≡◌, ℕ, refl, sym, ap, ap₂, subst, ◌∙◌, Bool, true, false, cond, List, [], ◌∷◌, ◌++◌}
use Rattle.std.proofs.Common.{Option, Some, None, Result, Ok, Err, codes}
use Rattle.packing_terms.specs.declared.Exclusion.{Exclusion}
use Rattle.packing_terms.specs.Packing.{PlainInstance, dims}
use Rattle.packing_terms.specs.Tokens.{PlainToken}
use Rattle.packing_terms.specs.OuterRefutation.{no_choice}
use Rattle.packing_terms.specs.OuterFeeding.{Outer}
use Rattle.packing_terms.specs.Results.{◌>>=◌}
use Rattle.text_terms.proofs.Good.{bind_ok}
use Rattle.verdict_terms.specs.declared.check_answers.RefuseCode.{RefuseCode}
use Rattle.verdict_terms.specs.Checking.{inner_after, bins_after, value_after, nodes_after_all}
use Rattle.verdict_terms.proofs.Refuting.{inner_refutes, bins_refute, value_refutes}
use Rattle.text_terms.specs.declared.claim.Claim.{Claim}
use Rattle.text_terms.specs.TokenLines.{token_of}
use Rattle.verdict_terms.specs.Trees.{Refuted, ToFit, ToFitIn, ToReach, refuted_dims, AreRefutation, Tree, InnerTree}
use Rattle.verdict_terms.specs.Trees.{BinTree, ValueTree, begun, tree_dims, map_ok, tree_after, is_whole}
use Rattle.verdict_terms.specs.Stages.{is_word, tree_token, coded, grown_tree, tree_line}
use Rattle.verdict_terms.specs.Stages.Stage.{Refuting, Ending, Ended}
use Rattle.verdict_terms.specs.Form.{AreTokenLines, AreRefuting}
use Rattle.verdict_terms.proofs.Passed.{require_ok, is_word_ok, ok_is}
use Rattle.verdict_terms.proofs.Walk.{read_words}

-- ---- `end`

pub record IsEnd (claim told : Claim) (lines : List (List (List ℕ))) : Type 0 where
  pub are : lines ≡ (codes "end" ∷ []) ∷ []
  pub same : claim ≡ told

pub ended : (claim told : Claim) (lines : List (List (List ℕ))) → read_words (Ended claim) lines ≡ Ok told
    → (lines ≡ []) × (claim ≡ told)
ended claim told [] e = (refl, ok_is claim told e)
ended claim told (words ∷ lines) e = absurd (cc (e))

pub end_told : (claim told : Claim) (behind : Option ℕ) (lines : List (List (List ℕ)))
    → read_words (Ending claim behind) lines ≡ Ok told → IsEnd claim told lines
end_told claim told behind [] e = absurd (cc (e))
end_told claim told behind (words ∷ lines) e =
    let b = bind_ok (Rattle.verdict_terms.specs.Stages.words_line (Ending claim behind) words)
    (λ next. read_words next lines) told e in
    let r = require_ok (is_word (codes "end") words) _ (Ok (Ended claim)) b.0 b.1 in
    let d = ended claim told lines
    (subst (λ s. read_words s lines ≡ Ok told) (sym (ok_is (Ended claim) b.0 r.1)) b.2) in
    record { are = ap₂ (λ w ls. w ∷ ls) (is_word_ok (codes "end") words r.0) d.0; same = d.1 }

-- ---- trees

abbrev pub tree_after_all : Tree → List PlainToken → Result Tree RefuseCode
tree_after_all tree [] = Ok tree
tree_after_all tree (t ∷ ts) = tree_after tree t >>= λ next. tree_after_all next ts

-- the nodes of a tree of one kind
module _ {Node : Type 0} (make : List Node → Tree) (after : List Node → PlainToken → Result (List Node) RefuseCode)
    (same : (nodes : List Node) (t : PlainToken) → tree_after (make nodes) t ≡ map_ok make (after nodes t)) where
  pub all_after : (nodes : List Node) (ts : List PlainToken)
      → tree_after_all (make nodes) ts ≡ map_ok make (nodes_after_all after nodes ts)
  all_after nodes [] = refl
  all_after nodes (t ∷ ts) = ap (λ r. r >>= λ next. tree_after_all next ts) (same nodes t)
      ∙ go (after nodes t) (λ left. all_after left ts)
    where
      go : (r : Result (List Node) RefuseCode)
          → ((left : List Node) → tree_after_all (make left) ts ≡ map_ok make (nodes_after_all after left ts))
          → (map_ok make r >>= λ next. tree_after_all next ts)
          ≡ map_ok make (r >>= λ left. nodes_after_all after left ts)
      go (Ok left) later = later left
      go (Err code) later = refl

  pub made : (r : Result (List Node) RefuseCode) (tree : Tree) → map_ok make r ≡ Ok tree
      → (left : List Node) × (r ≡ Ok left) × (make left ≡ tree)
  made (Ok left) tree e = (left, refl, cc (e))
  made (Err code) tree e = absurd (cc (e))

inner_whole : (instance : PlainInstance) (nodes : List (List Exclusion)) → is_whole (InnerTree instance nodes) ≡ true
    → nodes ≡ []
inner_whole instance [] e = refl
inner_whole instance (n ∷ nodes) e = absurd (cc (e))

bins_whole : (instance : PlainInstance) (k : ℕ) (nodes : List _) → is_whole (BinTree instance k nodes) ≡ true
    → nodes ≡ []
bins_whole instance k [] e = refl
bins_whole instance k (n ∷ nodes) e = absurd (cc (e))

value_whole : (instance : PlainInstance) (y : ℕ) (nodes : List _) → is_whole (ValueTree instance y nodes) ≡ true
    → nodes ≡ []
value_whole instance y [] e = refl
value_whole instance y (n ∷ nodes) e = absurd (cc (e))

-- tokens that leave a begun tree whole are a refutation
pub whole_refutes : (refuted : Refuted) (tokens : List PlainToken) (tree : Tree)
    → tree_after_all (begun refuted) tokens ≡ Ok tree → is_whole tree ≡ true
    → AreRefutation refuted tokens
whole_refutes (ToFit instance start) tokens tree e w =
    let m = made (InnerTree instance) (inner_after instance) (λ nodes t. refl)
    (nodes_after_all (inner_after instance) (start ∷ []) tokens) tree
    (sym (all_after (InnerTree instance) (inner_after instance) (λ nodes t. refl) (start ∷ []) tokens) ∙ e) in
    (inner_refutes instance start tokens).0
    (m.1 ∙ ap Ok (inner_whole instance m.0 (subst (λ x. is_whole x ≡ true) (sym m.2) w)))
whole_refutes (ToFitIn instance k) tokens tree e w =
    let m = made (BinTree instance k) (bins_after instance k) (λ nodes t. refl)
    (nodes_after_all (bins_after instance k) (Outer [] ∷ []) tokens) tree
    (sym (all_after (BinTree instance k) (bins_after instance k) (λ nodes t. refl) (Outer [] ∷ []) tokens) ∙ e) in
    (bins_refute instance k tokens).0
    (m.1 ∙ ap Ok (bins_whole instance k m.0 (subst (λ x. is_whole x ≡ true) (sym m.2) w)))
whole_refutes (ToReach instance y) tokens tree e w =
    let m = made (ValueTree instance y) (value_after instance y) (λ nodes t. refl)
    (nodes_after_all (value_after instance y) (Outer no_choice ∷ []) tokens) tree
    (sym (all_after (ValueTree instance y) (value_after instance y) (λ nodes t. refl) (Outer no_choice ∷ [])
    tokens) ∙ e) in
    (value_refutes instance y tokens).0
    (m.1 ∙ ap Ok (value_whole instance y m.0 (subst (λ x. is_whole x ≡ true) (sym m.2) w)))

-- a token leaves the tree's dimensions
made_same : {Node : Type 0} (make : List Node → Tree) (d : ℕ) (r : Result (List Node) RefuseCode) (next : Tree)
    → ((nodes : List Node) → tree_dims (make nodes) ≡ d)
    → map_ok make r ≡ Ok next → tree_dims next ≡ d
made_same make d (Ok left) next same e = ap tree_dims (sym (ok_is (make left) next e)) ∙ same left
made_same make d (Err code) next same e = absurd (cc (e))

pub dims_same : (tree next : Tree) (t : PlainToken) → tree_after tree t ≡ Ok next → tree_dims next ≡ tree_dims tree
dims_same (InnerTree instance nodes) next t e =
    made_same (InnerTree instance) (dims instance) (inner_after instance nodes t) next (λ n. refl) e
dims_same (BinTree instance k nodes) next t e =
    made_same (BinTree instance k) (dims instance) (bins_after instance k nodes t) next (λ n. refl) e
dims_same (ValueTree instance y nodes) next t e =
    made_same (ValueTree instance y) (dims instance) (value_after instance y nodes t) next (λ n. refl) e

pub token_ok : (b : Bool) (o : Option PlainToken) (t : PlainToken) → tree_token b o ≡ Ok t → o ≡ Some t
token_ok true o t e = absurd (cc (e))
token_ok false None t e = absurd (cc (e))
token_ok false (Some s) t e = ap Some (ok_is s t e)

pub coded_ok : {A : Type 0} (r : Result A RefuseCode) (x : A) → coded r ≡ Ok x → r ≡ Ok x
coded_ok (Ok y) x e = ap Ok (ok_is y x e)
coded_ok (Err code) x e = absurd (cc (e))

-- token lines, and then `end`
pub record TreeTold (claim told : Claim) (tree : Tree) (lines : List (List (List ℕ))) : Type 0 where
  pub body : List (List (List ℕ))
  pub tokens : List PlainToken
  pub left : Tree
  pub are : lines ≡ body ++ (codes "end" ∷ []) ∷ []
  pub are_lines : AreTokenLines (tree_dims tree) body tokens
  pub taken : tree_after_all tree tokens ≡ Ok left
  pub whole : is_whole left ≡ true
  pub same : claim ≡ told

pub tree_claimed : (claim told : Claim) (tree : Tree) (lines : List (List (List ℕ)))
    → read_words (Refuting claim tree) lines ≡ Ok told → TreeTold claim told tree lines
tree_claimed claim told tree [] e = absurd (cc (e))
tree_claimed claim told tree (words ∷ lines) e =
    let b = bind_ok (tree_line claim tree words) (λ next. read_words next lines) told e in
    let t = bind_ok (tree_token (is_word (codes "end") words) (token_of (tree_dims tree) words))
    (λ t. coded (tree_after tree t) >>= λ more. Ok (grown_tree claim more)) b.0 b.1 in
    let m = bind_ok (coded (tree_after tree t.0)) (λ more. Ok (grown_tree claim more)) b.0 t.2 in
    let after : tree_after tree t.0 ≡ Ok m.0 = coded_ok (tree_after tree t.0) m.0 m.1 in
    go t.0 m.0 (token_ok _ _ t.0 t.1) after (is_whole m.0) refl
    (subst (λ s. read_words s lines ≡ Ok told) (sym (ok_is (grown_tree claim m.0) b.0 m.2)) b.2)
    (λ r. tree_claimed claim told m.0 lines r)
  where
    go : (t : PlainToken) (next : Tree) → token_of (tree_dims tree) words ≡ Some t → tree_after tree t ≡ Ok next
        → (w : Bool) → is_whole next ≡ w
        → read_words (cond w (Ending claim (Some (tree_dims next))) (Refuting claim next)) lines ≡ Ok told
        → (read_words (Refuting claim next) lines ≡ Ok told → TreeTold claim told next lines)
        → TreeTold claim told tree (words ∷ lines)
    go t next is_token after true w r later =
        let d = end_told claim told (Some (tree_dims next)) lines r in record {
          body = words ∷ [];
          tokens = t ∷ [];
          left = next;
          are = ap (λ ls. words ∷ ls) d.are;
          are_lines = (is_token, tt);
          taken = ap (λ r. r >>= λ x. tree_after_all x []) after;
          whole = w;
          same = d.same;
        }
    go t next is_token after false w r later =
        let d = later r in record {
          body = words ∷ d.body;
          tokens = t ∷ d.tokens;
          left = d.left;
          are = ap (λ ls. words ∷ ls) d.are;
          are_lines = (
            is_token,
            subst (λ m. AreTokenLines m d.body d.tokens) (dims_same tree next t after)
                d.are_lines,
          );
          taken = ap (λ r. r >>= λ x. tree_after_all x d.tokens) after ∙ d.taken;
          whole = d.whole;
          same = d.same;
        }

pub dims_begun : (refuted : Refuted) → tree_dims (begun refuted) ≡ refuted_dims refuted
dims_begun (ToFit instance start) = refl
dims_begun (ToFitIn instance k) = refl
dims_begun (ToReach instance y) = refl

-- from the start, the lines up to `end` are those of a refutation
pub record RefutingTold (claim told : Claim) (refuted : Refuted) (lines : List (List (List ℕ))) : Type 0 where
  pub body : List (List (List ℕ))
  pub are : lines ≡ body ++ (codes "end" ∷ []) ∷ []
  pub refuting : AreRefuting refuted body
  pub same : claim ≡ told

pub refuting_told : (claim told : Claim) (refuted : Refuted) (lines : List (List (List ℕ)))
    → read_words (Refuting claim (begun refuted)) lines ≡ Ok told
    → RefutingTold claim told refuted lines
refuting_told claim told refuted lines e =
    let t = tree_claimed claim told (begun refuted) lines e in record {
      body = t.body;
      are = t.are;
      refuting = record {
        tokens = t.tokens;
        are_lines = subst (λ m. AreTokenLines m t.body t.tokens) (dims_begun refuted) t.are_lines;
        refute = whole_refutes refuted t.tokens t.left t.taken t.whole;
      };
      same = t.same;
    }
