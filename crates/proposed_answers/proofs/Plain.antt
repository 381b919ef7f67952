-- Without scales no token of an outcome compares images of scale functions.
use Rattle.std.proofs.Common.{◌≡◌, ℕ, zero, suc, ◌+◌, refl, sym, ap, subst, ◌∙◌, Bool, true, false, ltb, if◌then◌else◌}
use Rattle.std.proofs.Common.{◌<◌, arith, List, [], ◌∷◌, ◌++◌, length, map, take, get_or, Option, Some, None}
use Rattle.std.specs.List.{find}
use Rattle.std.proofs.lemmas.Bool.{or_from, or_left, or_right}
use Rattle.std.proofs.lemmas.List.{map_push, take_more}
use Rattle.std.proofs.lemmas.List.Folds.{list_any-append}
use Rattle.packing_terms.specs.declared.Exclusion.{Exclusion}
use Rattle.packing_terms.specs.declared.ScaleFn.{ScaleFn}
use Rattle.packing_terms.specs.Packing.{PlainInstance, dims, box_count}
use Rattle.packing_terms.specs.Exclusions.{Exclusions, excludes}
use Rattle.packing_terms.specs.Rank.{ranked_pairs}
use Rattle.verdict_terms.specs.declared.check_answers.PlaceVerdict.{PlaceVerdict}
use Rattle.verdict_terms.specs.declared.check_answers.PlaceVerdict.TheVariants.{Good, Outside, Overlap}
use Rattle.verdict_terms.specs.Placing.{place_verdict}
use Rattle.packing_terms.specs.Rounds.{closure, has_empty_mask}
use Rattle.tree_terms.specs.Trees.{SearchTree, Verdict, Yes, No, join, join_from, outcome, PlainOutcome, Decided, Past}
use Rattle.tree_terms.specs.Trees.{under_budget, count_of}
use Rattle.tree_terms.specs.InnerTree.{SplitNode, chosen_split, split_at, is_unsettled, node_of, node_tree, tree_below}
use Rattle.tree_terms.specs.ClassTree.{first_too_large_box, scales_after, root_of, has_closure_conflict, class_tree}
use Rattle.proof_tree.specs.declared.token.Token.{Token}
use Rattle.proof_tree.specs.Plain.{plain_token}
use Rattle.proposed_answers.specs.Behind.{PlainProposal, Places, Tokens, Nothing, is_refutation, by_places, by_tokens}
use Rattle.proposed_answers.specs.Behind.{outcome_with_proposal, tree_outcome, is_scale_line, has_scale_line, IsWithoutScales}
use Rattle.proposed_answers.specs.Behind.{IsPlainProposal}

-- ---- verdicts

abbrev Without : Verdict → Type 0
Without v = IsWithoutScales (Decided v)

join_without : (v w : Verdict) → Without v → Without w → Without (join v w)
join_without (Yes ns c) w h k = tt
join_without (No ts c) (Yes ns d) h k = tt
join_without (No ts c) (No us d) h k = list_any-append is_scale_line ts us ∙ or_from _ _ h k

from_without : (k more : ℕ) (verdicts : ℕ → Verdict) → ((i : ℕ) → Without (verdicts i))
    → Without (join_from k more verdicts)
from_without k zero verdicts h = refl
from_without k (suc more) verdicts h = go (verdicts k) (h k) (from_without (k + 1) more verdicts h)
  where
    go : (v : Verdict) → Without v → Without (join_from (k + 1) more verdicts)
        → Without (elim v [ Yes ns c ↦ Yes ns c | No ts c ↦ join (No ts c) (join_from (k + 1) more verdicts) ])
    go (Yes ns c) e later = tt
    go (No ts c) e later = join_without (No ts c) (join_from (k + 1) more verdicts) e later

-- ---- tokens one by one

pub some_line : (tokens : List Token) (k : ℕ) (t : Token) → k < length tokens → t ≡ get_or tokens k t
    → is_scale_line (plain_token t) ≡ true → has_scale_line (map plain_token tokens) ≡ true
some_line [] k t l e h = absurd (omega (arith, l))
some_line (x ∷ xs) zero t l e h = or_left _ _ (subst (λ (y : Token). is_scale_line (plain_token y) ≡ true) e h)
some_line (x ∷ xs) (suc k) t l e h = or_right _ _ (some_line xs k t (omega (arith, l)) e h)

pub none_more : (tokens : List Token) (k : ℕ) (t : Token) → k < length tokens → t ≡ get_or tokens k t
    → has_scale_line (map plain_token (take k tokens)) ≡ false → is_scale_line (plain_token t) ≡ false
    → has_scale_line (map plain_token (take (k + 1) tokens)) ≡ false
none_more tokens k t l is h e =
    ap has_scale_line (ap (map plain_token) (take_more tokens k t l
    ∙ ap (λ (x : Token). take k tokens ++ x ∷ []) (sym is)) ∙ map_push plain_token (take k tokens) t)
    ∙ (list_any-append is_scale_line (map plain_token (take k tokens)) (plain_token t ∷ [])
    ∙ or_from _ _ h (or_from _ _ e refl))

-- ---- trees

split_without : (p : ℕ × ℕ) (apart : Bool) (i j : Option ℕ) → is_scale_line (chosen_split p apart i j).token ≡ false
split_without p true (Some i) j = refl
split_without p true None j = refl
split_without p false i (Some j) = refl
split_without p false i None = refl

-- the child of a split
abbrev child_of : SplitNode → (List Exclusion → SearchTree) → ℕ → SearchTree
child_of s tree k = elim k [ zero ↦ tree s.first | suc _ ↦ tree s.second ]

module _ (instance : PlainInstance) where
  node_by : (X : Exclusions) (conflict : Bool) (pair : Option (ℕ × ℕ)) (tree : List Exclusion → SearchTree)
      → ((es : List Exclusion) → Without (outcome (tree es))) → Without (outcome (node_of instance X conflict pair tree))
  node_by X true pair tree h = refl
  node_by X false None tree h = tt
  node_by X false (Some p) tree h =
      join_without (No ((split_at instance X p).token ∷ []) 1)
      (join_from 0 2 (λ k. outcome (child_of (split_at instance X p) tree k)))
      (or_from _ _ (split_without p _ _ _) refl)
      (from_without 0 2 (λ k. outcome (child_of (split_at instance X p) tree k)) children)
    where
      children : (k : ℕ) → Without (outcome (child_of (split_at instance X p) tree k))
      children zero = h (split_at instance X p).first
      children (suc k) = h (split_at instance X p).second

  node_without : (depth : ℕ) (es : List Exclusion) → Without (outcome (node_tree instance depth es))
  node_without zero es = refl
  node_without (suc depth) es =
      node_by (excludes (closure instance es))
      (has_empty_mask (excludes (closure instance es)) (dims instance) (box_count instance))
      (find (is_unsettled instance (excludes (closure instance es))) (ranked_pairs instance))
      (λ add. node_tree instance depth (add ++ closure instance es))
      (λ add. node_without depth (add ++ closure instance es))

  none_after : (conflict : Bool) → scales_after instance false conflict ≡ None
  none_after true = refl
  none_after false = refl

  root_without : (large : Option (ℕ × ℕ)) (conflict : Bool) (tuple : Option (List ScaleFn)) (tree : SearchTree)
      → tuple ≡ None → Without (outcome tree) → Without (outcome (root_of large conflict tuple tree))
  root_without (Some p) conflict tuple tree none h = refl
  root_without None true tuple tree none h = refl
  root_without None false None tree none h = h
  root_without None false (Some fs) tree none h = absurd (cc (none))

  class_without : Without (outcome (class_tree instance [] false))
  class_without = root_without (first_too_large_box instance) (has_closure_conflict instance [])
      (scales_after instance false (has_closure_conflict instance [])) (tree_below instance [])
      (none_after (has_closure_conflict instance [])) (node_without _ [])

  told_without : (budget : ℕ) (v : Verdict) → Without v → IsWithoutScales (under_budget budget v)
  told_without budget v h = go (ltb budget (count_of v))
    where
      go : (b : Bool) → IsWithoutScales (if b then Past else Decided v)
      go true = tt
      go false = h

  -- ---- with a proposal

  pub behind_without : (p : PlainProposal) (other : PlainOutcome) → IsPlainProposal p → IsWithoutScales other
      → IsWithoutScales (outcome_with_proposal instance p other)
  behind_without (Places places) other plain h = go (place_verdict instance places)
    where
      go : (v : PlaceVerdict) → IsWithoutScales (by_places v places other)
      go Good = tt
      go (Outside v i) = h
      go (Overlap u v) = h
  behind_without (Tokens tokens) other plain h = go (is_refutation instance tokens)
    where
      go : (b : Bool) → IsWithoutScales (by_tokens b tokens other)
      go true = plain
      go false = h
  behind_without Nothing other plain h = h

  pub outcome_without : (budget : ℕ) (scales : Bool) (p : PlainProposal) (r : PlainOutcome)
      → r ≡ outcome_with_proposal instance p (tree_outcome instance budget scales) → scales ≡ false → IsPlainProposal p
      → IsWithoutScales r
  outcome_without budget scales p r is off plain =
      rw (is, off) (behind_without p (tree_outcome instance budget false) plain
      (told_without budget (outcome (class_tree instance [] false)) class_without))
