-- Tokens with priced leaves that were fed one by one to the refuter of a value.
use Rattle.std.proofs.Common.{◌≡◌, ℕ, ◌+◌, ◌<◌, ◌∙◌, refl, sym, ap, Bool, true, false, List, [], ◌∷◌, ◌++◌, length}
use Rattle.std.proofs.Common.{map, take, get_or, Option, Some, None, Result, Ok, Err}
use Rattle.std.specs.Prelude.{MatchBool}
use Rattle.std.proofs.lemmas.Bool.{true≢false}
use Rattle.std.proofs.lemmas.List.{map_push, take_more}
use Rattle.packing_terms.specs.Packing.{PlainInstance}
use Rattle.packing_terms.specs.Results.{◌>>=◌}
use Rattle.packing_terms.specs.OuterRefutation.{Choice as BoxChoice, no_choice}
use Rattle.packing_terms.specs.OuterFeeding.{OpenNode}
use Rattle.packing_terms.specs.OuterPaths.{OuterView, Whole, On, At, Inside, open_nodes, choices_with}
use Rattle.verdict_terms.specs.declared.check_answers.RefuseCode.{RefuseCode}
use Rattle.verdict_terms.specs.BoundedRefutation.{BoundedToken as PlainBounded, IsBoundedRefutation}
use Rattle.verdict_terms.specs.BoundedJudging.{bounded_after_all}
use Rattle.verdict_terms.specs.BoundedPaths.{bounded_view_after, stands_for}
use Rattle.verdict_terms.proofs.BoundedJudged.{bounded_refutes}
use Rattle.bounded_tokens.specs.declared.token.BoundedToken.{BoundedToken}
use Rattle.bounded_tokens.specs.Plain.{plain_bounded}
use Rattle.outer_check.specs.Outers.{PlainOuter, ForValue, fed_by, is_whole, left_open}
use Rattle.outer_check.specs.Bounded.{bounded_fed, bounded_tree_refusal}
use Rattle.outer_check.proofs.FurtherLeaves.{bounded_opened}

-- some tokens more
abbrev pub fed_on : PlainOuter → List PlainBounded → PlainOuter
fed_on o [] = o
fed_on o (t ∷ ts) = fed_on (bounded_fed o t) ts

-- a refuter of a value that holds this much of a tree
abbrev pub value_refuter : PlainInstance → ℕ → OuterView BoxChoice → Option RefuseCode → PlainOuter
value_refuter instance goal view refused =
    record { instance = instance; tree = ForValue goal view; refused = refused }

-- the refuter of a value to which these tokens were fed
abbrev pub fed_all : PlainInstance → ℕ → List PlainBounded → PlainOuter
fed_all instance goal ts = fed_on (value_refuter instance goal (On [] (At no_choice)) None) ts

fed_push : (o : PlainOuter) (ts : List PlainBounded) (t : PlainBounded)
    → fed_on o (ts ++ t ∷ []) ≡ bounded_fed (fed_on o ts) t
fed_push o [] t = refl
fed_push o (s ∷ ts) t = fed_push (bounded_fed o s) ts t

-- the token at a position more
pub fed_next : (instance : PlainInstance) (goal : ℕ) (tokens : List BoundedToken) (k : ℕ) (t : BoundedToken)
    (r s : PlainOuter) → k < length tokens → t ≡ get_or tokens k t
    → r ≡ fed_all instance goal (map plain_bounded (take k tokens)) → s ≡ bounded_fed r (plain_bounded t)
    → s ≡ fed_all instance goal (map plain_bounded (take (k + 1) tokens))
fed_next instance goal tokens k t r s l is e f =
    f ∙ (ap (λ (x : PlainOuter). bounded_fed x (plain_bounded t)) e
    ∙ (sym (fed_push (value_refuter instance goal (On [] (At no_choice)) None) (map plain_bounded (take k tokens))
    (plain_bounded t))
    ∙ ap (λ (ts : List PlainBounded). fed_all instance goal ts) (sym longer)))
  where
    longer : map plain_bounded (take (k + 1) tokens) ≡ map plain_bounded (take k tokens) ++ plain_bounded t ∷ []
    longer = ap (map plain_bounded) (take_more tokens k t l ∙ ap (λ (x : BoundedToken). take k tokens ++ x ∷ []) (sym is))
        ∙ map_push plain_bounded (take k tokens) t

-- whether no node is open
abbrev none_open : Result (List (OpenNode BoxChoice)) RefuseCode → Bool
none_open (Ok []) = true
none_open (Ok (n ∷ nodes)) = false
none_open (Err code) = false

open_none : (r : Result (List (OpenNode BoxChoice)) RefuseCode) → none_open r ≡ true → r ≡ Ok []
open_none (Ok []) e = refl
open_none (Ok (n ∷ nodes)) e = absurd (true≢false (sym e))
open_none (Err code) e = absurd (true≢false (sym e))

module _ (instance : PlainInstance) (goal : ℕ) where
  nothing_fed : (view : OuterView BoxChoice)
      → is_whole (value_refuter instance goal view None) ≡ none_open (Ok (open_nodes choices_with view))
  nothing_fed Whole = refl
  nothing_fed (On path (At node)) = refl
  nothing_fed (On path (Inside keep es behind)) = refl

  -- a refusal stays
  refused_fed : (ts : List PlainBounded) (view : OuterView BoxChoice) (code : RefuseCode)
      → is_whole (fed_on (value_refuter instance goal view (Some code)) ts) ≡ false
  refused_fed [] view code = refl
  refused_fed (t ∷ ts) view code = refused_fed ts view code

  -- the refuter is whole where the open nodes of the definition are none
  whole_fed : (ts : List PlainBounded) (view : OuterView BoxChoice)
      → is_whole (fed_on (value_refuter instance goal view None) ts)
      ≡ none_open (bounded_after_all instance goal (open_nodes choices_with view) ts)
  whole_fed [] view = nothing_fed view
  whole_fed (t ∷ ts) view =
      go (bounded_tree_refusal instance (ForValue goal view) t) (whole_fed ts (bounded_view_after view t))
      ∙ ap (λ x. none_open (x >>= λ left. bounded_after_all instance goal left ts)) (sym (bounded_opened instance goal view t))
    where
      go : (r : Option RefuseCode)
          → is_whole (fed_on (value_refuter instance goal (bounded_view_after view t) None) ts)
          ≡ none_open (bounded_after_all instance goal (open_nodes choices_with (bounded_view_after view t)) ts)
          → is_whole (fed_on (fed_by None r (value_refuter instance goal view None) (stands_for t)) ts)
          ≡ none_open (left_open r (open_nodes choices_with (bounded_view_after view t))
          >>= λ left. bounded_after_all instance goal left ts)
      go (Some code) more = refused_fed ts view code
      go None more = more

  pub bounded_tested : (tokens : List PlainBounded) (r : Bool) → r ≡ is_whole (fed_all instance goal tokens)
      → MatchBool r (IsBoundedRefutation instance goal tokens) (¬ IsBoundedRefutation instance goal tokens)
  bounded_tested tokens true e =
      (bounded_refutes instance goal tokens).0 (open_none _ (sym (e ∙ whole_fed tokens (On [] (At no_choice)))))
  bounded_tested tokens false e =
      λ h. true≢false (ap none_open (sym ((bounded_refutes instance goal tokens).1 h))
      ∙ sym (e ∙ whole_fed tokens (On [] (At no_choice))))
