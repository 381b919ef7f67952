-- Tokens that were fed one by one to the refuter of a value.
use Rattle.std.proofs.Common.{◌≡◌, ℕ, ◌+◌, ◌<◌, ◌∙◌, refl, sym, ap, Bool, true, false, List, [], ◌∷◌, ◌++◌, length}
use Rattle.std.proofs.Common.{map, take, get_or, Option, Some, None}
use Rattle.std.specs.Prelude.{MatchBool}
use Rattle.std.proofs.lemmas.Bool.{true≢false}
use Rattle.std.proofs.lemmas.List.{map_push, take_more}
use Rattle.packing_terms.specs.Packing.{PlainInstance}
use Rattle.packing_terms.specs.Tokens.{PlainToken}
use Rattle.packing_terms.specs.OuterRefutation.{Choice as BoxChoice, no_choice, IsValueRefutation}
use Rattle.packing_terms.specs.OuterPaths.{OuterView, Whole, On, At, Inside, open_nodes, view_after, choices_with}
use Rattle.packing_terms.specs.OuterPaths.{choice_step}
use Rattle.verdict_terms.specs.declared.check_answers.RefuseCode.{RefuseCode}
use Rattle.verdict_terms.specs.OuterJudging.{value_refusal}
use Rattle.verdict_terms.specs.Checking.{value_after, checked_by, checked_after_all, is_whole as is_whole_checked}
use Rattle.verdict_terms.proofs.Refuting.{value_tree_fed}
use Rattle.proof_tree.specs.declared.token.Token.{Token}
use Rattle.proof_tree.specs.Plain.{plain_token}
use Rattle.outer_check.specs.Outers.{PlainOuter, ForValue, fed, fed_by, is_whole, judged_at, left_open}
use Rattle.outer_check.proofs.Opened.{value_opened}

-- some tokens more
abbrev pub fed_on : PlainOuter → List PlainToken → PlainOuter
fed_on o [] = o
fed_on o (t ∷ ts) = fed_on (fed o t) ts

-- a refuter of a value that holds this much of a tree
abbrev pub value_refuter : PlainInstance → ℕ → OuterView BoxChoice → Option RefuseCode → PlainOuter
value_refuter instance goal view refused =
    record { instance = instance; tree = ForValue goal view; refused = refused }

-- the refuter of a value to which these tokens were fed
abbrev pub fed_all : PlainInstance → ℕ → List PlainToken → PlainOuter
fed_all instance goal ts = fed_on (value_refuter instance goal (On [] (At no_choice)) None) ts

fed_push : (o : PlainOuter) (ts : List PlainToken) (t : PlainToken)
    → fed_on o (ts ++ t ∷ []) ≡ fed (fed_on o ts) t
fed_push o [] t = refl
fed_push o (s ∷ ts) t = fed_push (fed o s) ts t

-- the token at a position more
pub fed_next : (instance : PlainInstance) (goal : ℕ) (tokens : List Token) (k : ℕ) (t : Token) (r s : PlainOuter)
    → k < length tokens → t ≡ get_or tokens k t
    → r ≡ fed_all instance goal (map plain_token (take k tokens)) → s ≡ fed r (plain_token t)
    → s ≡ fed_all instance goal (map plain_token (take (k + 1) tokens))
fed_next instance goal tokens k t r s l is e f =
    f ∙ (ap (λ (x : PlainOuter). fed x (plain_token t)) e
    ∙ (sym (fed_push (value_refuter instance goal (On [] (At no_choice)) None) (map plain_token (take k tokens))
    (plain_token t))
    ∙ ap (λ (ts : List PlainToken). fed_all instance goal ts) (sym longer)))
  where
    longer : map plain_token (take (k + 1) tokens) ≡ map plain_token (take k tokens) ++ plain_token t ∷ []
    longer = ap (map plain_token) (take_more tokens k t l ∙ ap (λ (x : Token). take k tokens ++ x ∷ []) (sym is))
        ∙ map_push plain_token (take k tokens) t

module _ (instance : PlainInstance) (goal : ℕ) where
  nothing_fed : (view : OuterView BoxChoice) (refused : Option RefuseCode)
      → is_whole (value_refuter instance goal view refused)
      ≡ is_whole_checked (record { nodes = open_nodes choices_with view; refused = refused })
  nothing_fed Whole None = refl
  nothing_fed (On path (At node)) None = refl
  nothing_fed (On path (Inside keep es behind)) None = refl
  nothing_fed view (Some code) = refl

  -- the refuter is whole where the open nodes of the definition are none
  whole_fed : (ts : List PlainToken) (view : OuterView BoxChoice) (refused : Option RefuseCode)
      → is_whole (fed_on (value_refuter instance goal view refused) ts)
      ≡ is_whole_checked (checked_after_all (value_after instance goal)
      (record { nodes = open_nodes choices_with view; refused = refused }) ts)
  whole_fed [] view refused = nothing_fed view refused
  whole_fed (t ∷ ts) view (Some code) = whole_fed ts view (Some code)
  whole_fed (t ∷ ts) view None =
      go (judged_at (value_refusal instance goal) view t) (whole_fed ts view)
      (whole_fed ts (view_after choices_with choice_step view t))
      ∙ ap (λ x. is_whole_checked (checked_after_all (value_after instance goal)
      (checked_by (open_nodes choices_with view) x) ts)) (sym (value_opened instance goal view t))
    where
      after : OuterView BoxChoice
      after = view_after choices_with choice_step view t

      go : (r : Option RefuseCode)
          → ((refused : Option RefuseCode) → is_whole (fed_on (value_refuter instance goal view refused) ts)
          ≡ is_whole_checked (checked_after_all (value_after instance goal)
          (record { nodes = open_nodes choices_with view; refused = refused }) ts))
          → ((refused : Option RefuseCode) → is_whole (fed_on (value_refuter instance goal after refused) ts)
          ≡ is_whole_checked (checked_after_all (value_after instance goal)
          (record { nodes = open_nodes choices_with after; refused = refused }) ts))
          → is_whole (fed_on (fed_by None r (value_refuter instance goal view None) t) ts)
          ≡ is_whole_checked (checked_after_all (value_after instance goal)
          (checked_by (open_nodes choices_with view) (left_open r (open_nodes choices_with after))) ts)
      go (Some code) same more = same (Some code)
      go None same more = more None

  pub value_tested : (tokens : List PlainToken) (r : Bool) → r ≡ is_whole (fed_all instance goal tokens)
      → MatchBool r (IsValueRefutation instance goal tokens) (¬ IsValueRefutation instance goal tokens)
  value_tested tokens true e =
      (value_tree_fed instance goal tokens).0 (sym (e ∙ whole_fed tokens (On [] (At no_choice)) None))
  value_tested tokens false e =
      λ h. true≢false (sym ((value_tree_fed instance goal tokens).1 h)
      ∙ sym (e ∙ whole_fed tokens (On [] (At no_choice)) None))
