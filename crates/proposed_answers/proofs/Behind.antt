-- What an outcome behind a proposal is worth.
use Rattle.std.proofs.Common.{◌≡◌, ℕ, ◌<◌, ◌≤◌, refl, sym, ◌∙◌, subst, Bool, true}
use Rattle.std.proofs.Common.{false, ltb, if◌then◌else◌, List, [], map, arith}
use Rattle.std.proofs.lemmas.Bool.{ltb-true}
use Rattle.packing_terms.specs.Packing.{PlainInstance}
use Rattle.packing_terms.specs.Limits.{IsInternalInstance}
use Rattle.packing_terms.specs.Refutation.{Refutes}
use Rattle.packing_terms.proofs.Internal.{internal_sides}
use Rattle.packing_terms.proofs.Refuted.{none_fits}
use Rattle.packing_terms.proofs.Excess.{excess_law}
use Rattle.tree_terms.specs.Trees.{PlainOutcome, Decided, Past, Verdict, Yes, No, outcome, count_of, under_budget}
use Rattle.tree_terms.specs.ClassTree.{class_tree}
use Rattle.tree_terms.proofs.UnderBudget.{within_budget}
use Rattle.verdict_terms.specs.declared.check_answers.PlaceVerdict.{PlaceVerdict}
use Rattle.verdict_terms.specs.declared.check_answers.PlaceVerdict.TheVariants.{Good, Outside, Overlap}
use Rattle.verdict_terms.specs.Placing.{place_verdict}
use Rattle.verdict_terms.proofs.Places.{places_tested}
use Rattle.verdict_terms.proofs.Refuting.{inner_fed}
use Rattle.proof_tree.specs.declared.token.Token.{Token}
use Rattle.proof_tree.specs.Plain.{plain_token}
use Rattle.class_search.specs.Right.{IsRight, Decides, IsYesOrNo}
use Rattle.class_search.proofs.Rights.{class_right}
use Rattle.conflict_search.specs.Sizes.{IsSized}
use Rattle.conflict_search.specs.declared.proposal.Proposal.{Proposal}
use Rattle.conflict_search.specs.declared.proposal.Proposal.TheVariants.{Places as ProposedPlaces}
use Rattle.conflict_search.specs.declared.proposal.Proposal.TheVariants.{Tokens as ProposedTokens}
use Rattle.conflict_search.specs.declared.proposal.Proposal.TheVariants.{Nothing as ProposedNothing}
use Rattle.proposed_answers.specs.Behind.{PlainProposal, plain_proposal, Places, Tokens, Nothing, IsCounted}
use Rattle.proposed_answers.specs.Behind.{is_refutation, by_places, by_tokens, outcome_with_proposal, tree_count, tree_outcome}

pub proposal_counted : (instance : PlainInstance) (p : Proposal) → IsSized instance p
    → IsCounted instance (plain_proposal p)
proposal_counted instance (ProposedPlaces places) h = h
proposal_counted instance (ProposedTokens tokens) h = tt
proposal_counted instance ProposedNothing h = tt

module _ (instance : PlainInstance) where
  -- a proposal that passes its test is right, and so is what it stands before
  pub behind_right : (p : PlainProposal) (other : PlainOutcome) → IsCounted instance p → IsRight instance [] other
      → IsRight instance [] (outcome_with_proposal instance p other)
  behind_right (Places places) other counted right = go (place_verdict instance places) refl
    where
      go : (v : PlaceVerdict) → place_verdict instance places ≡ v → IsRight instance [] (by_places v places other)
      go Good e = (places_tested instance places Good counted).0 e
      go (Outside v i) e = right
      go (Overlap u v) e = right
  behind_right (Tokens tokens) other counted right = go (is_refutation instance tokens) refl
    where
      go : (b : Bool) → is_refutation instance tokens ≡ b → IsRight instance [] (by_tokens b tokens other)
      go true e = (inner_fed instance [] tokens).0 e
      go false e = right
  behind_right Nothing other counted right = right

  -- it is past only where the other outcome is
  pub behind_past : (p : PlainProposal) (other : PlainOutcome) → outcome_with_proposal instance p other ≡ Past → other ≡ Past
  behind_past (Places places) other e = go (place_verdict instance places) e
    where
      go : (v : PlaceVerdict) → by_places v places other ≡ Past → other ≡ Past
      go Good f = absurd (cc (f))
      go (Outside v i) f = f
      go (Overlap u v) f = f
  behind_past (Tokens tokens) other e = go (is_refutation instance tokens) e
    where
      go : (b : Bool) → by_tokens b tokens other ≡ Past → other ≡ Past
      go true f = absurd (cc (f))
      go false f = f
  behind_past Nothing other e = e

  -- it is yes or no where the other outcome is
  pub behind_decided : (p : PlainProposal) (other : PlainOutcome) → IsYesOrNo other
      → IsYesOrNo (outcome_with_proposal instance p other)
  behind_decided (Places places) other h = go (place_verdict instance places)
    where
      go : (v : PlaceVerdict) → IsYesOrNo (by_places v places other)
      go Good = tt
      go (Outside v i) = h
      go (Overlap u v) = h
  behind_decided (Tokens tokens) other h = go (is_refutation instance tokens)
    where
      go : (b : Bool) → IsYesOrNo (by_tokens b tokens other)
      go true = tt
      go false = h
  behind_decided Nothing other h = h

  -- where nothing stands behind it, it is itself or past
  pub behind_shown : (p : PlainProposal) (v : Verdict) (other : PlainOutcome)
      → outcome_with_proposal instance p Past ≡ Decided v → Decided v ≡ outcome_with_proposal instance p other
  behind_shown (Places places) v other e = go (place_verdict instance places) e
    where
      go : (x : PlaceVerdict) → by_places x places Past ≡ Decided v → Decided v ≡ by_places x places other
      go Good f = sym f
      go (Outside w i) f = absurd (cc (f))
      go (Overlap u w) f = absurd (cc (f))
  behind_shown (Tokens tokens) v other e = go (is_refutation instance tokens) e
    where
      go : (b : Bool) → by_tokens b tokens Past ≡ Decided v → Decided v ≡ by_tokens b tokens other
      go true f = sym f
      go false f = absurd (cc (f))
  behind_shown Nothing v other e = absurd (cc (e))

  -- and where it is past, the other outcome comes
  pub behind_other : (p : PlainProposal) (other : PlainOutcome) → outcome_with_proposal instance p Past ≡ Past
      → other ≡ outcome_with_proposal instance p other
  behind_other (Places places) other e = go (place_verdict instance places) e
    where
      go : (x : PlaceVerdict) → by_places x places Past ≡ Past → other ≡ by_places x places other
      go Good f = absurd (cc (f))
      go (Outside w i) f = refl
      go (Overlap u w) f = refl
  behind_other (Tokens tokens) other e = go (is_refutation instance tokens) e
    where
      go : (b : Bool) → by_tokens b tokens Past ≡ Past → other ≡ by_tokens b tokens other
      go true f = absurd (cc (f))
      go false f = refl
  behind_other Nothing other e = refl

-- tokens that were taken one by one, and leave no node open, refute the instance
pub tokens_right : (instance : PlainInstance) (tokens all : List Token) (b : Bool) → all ≡ tokens
    → b ≡ is_refutation instance (map plain_token all) → b ≡ true
    → Refutes instance [] (map plain_token tokens)
tokens_right instance tokens all b e f g =
    subst (λ (ts : List Token). Refutes instance [] (map plain_token ts)) e
    ((inner_fed instance [] (map plain_token all)).0 (sym f ∙ g))

-- the outcome under a budget is past only where the tree has more branchings than the budget
pub told_more : (budget : ℕ) (v : Verdict) → under_budget budget v ≡ Past → budget < count_of v
told_more budget v e = go (ltb budget (count_of v)) refl e
  where
    go : (b : Bool) → ltb budget (count_of v) ≡ b → (if b then Past else Decided v) ≡ Past → budget < count_of v
    go true f g = ltb-true budget (count_of v) f
    go false f g = absurd (cc (g))

-- what is right decides
pub right_decides : (instance : PlainInstance) → IsInternalInstance instance → (o : PlainOutcome)
    → IsRight instance [] o → Decides instance o
right_decides instance limits (Decided (Yes places count)) h = (places, h)
right_decides instance limits (Decided (No tokens count)) h =
    none_fits excess_law instance (internal_sides instance limits) tokens h
right_decides instance limits Past h = tt

-- an outcome that is past only where the tree has more branchings than the budget is yes or no within it
pub told_within : (instance : PlainInstance) (budget : ℕ) (scales : Bool) (o : PlainOutcome)
    → (o ≡ Past → budget < tree_count instance scales) → tree_count instance scales ≤ budget → IsYesOrNo o
told_within instance budget scales (Decided (Yes places count)) past l = tt
told_within instance budget scales (Decided (No tokens count)) past l = tt
told_within instance budget scales Past past l = let more = past refl in absurd (omega (arith, more, l))

module _ (instance : PlainInstance) (limits : IsInternalInstance instance) (budget : ℕ) (scales : Bool)
    (p : PlainProposal) (r : PlainOutcome)
    (is : r ≡ outcome_with_proposal instance p (tree_outcome instance budget scales)) where
  pub outcome_right : IsCounted instance p → IsRight instance [] r
  outcome_right counted = rw is (behind_right instance p (tree_outcome instance budget scales) counted
      (class_right instance limits scales budget _ refl))

  pub outcome_past : r ≡ Past → budget < tree_count instance scales
  outcome_past e = told_more budget (outcome (class_tree instance [] scales))
      (behind_past instance p (tree_outcome instance budget scales) (sym is ∙ e))

  pub outcome_within : tree_count instance scales ≤ budget → IsYesOrNo r
  outcome_within l = rw (is) (behind_decided instance p (tree_outcome instance budget scales)
      (subst IsYesOrNo (sym (within_budget budget (outcome (class_tree instance [] scales)) l)) tt))
