-- Verdicts that are joined, and their outcomes under budgets.
use Rattle.std.proofs.Common.{◌≡◌, ℕ, ◌+◌, ◌<◌, ◌≤◌, ◌⊎◌, inl, inr, refl, sym, ap, subst, ◌∙◌, Bool, true, false, ltb}
use Rattle.std.proofs.Common.{if◌then◌else◌, List, [], ◌++◌, append-nil}
use Rattle.std.proofs.lemmas.Bool.{lt-ltb, true≢false, cases_lt}
use Rattle.packing_terms.specs.Tokens.{PlainToken}
use Rattle.tree_terms.specs.Trees.{Verdict, No, join, count_of, PlainOutcome, Decided, Past, under_budget}
use Rattle.tree_terms.proofs.UnderBudget.{within_budget}
use Rattle.tree_terms.proofs.Joins.{join_assoc}

-- tokens and counts move from the right to the left
pub advance : (ts us : List PlainToken) (c d : ℕ) (v w : Verdict)
    → join (No ts c) (join (join (No us d) v) w) ≡ join (No (ts ++ us) (c + d)) (join v w)
advance ts us c d v w = ap (λ x. join (No ts c) x) (join_assoc (No us d) v w)
    ∙ sym (join_assoc (No ts c) (No us d) (join v w))

pub advance_count : (ts : List PlainToken) (c d : ℕ) (v w : Verdict)
    → join (No ts c) (join (join (No [] d) v) w) ≡ join (No ts (c + d)) (join v w)
advance_count ts c d v w = advance ts [] c d v w ∙ ap (λ us. join (No us (c + d)) (join v w)) (append-nil ts)

pub advance_leaf : (ts us : List PlainToken) (c d : ℕ) (w : Verdict)
    → join (No ts c) (join (No us d) w) ≡ join (No (ts ++ us) (c + d)) w
advance_leaf ts us c d w = sym (join_assoc (No ts c) (No us d) w)

-- an outcome that is decided has the verdict itself, within the budget; where it is past, the count is greater
pub record IsDecidedWithin (budget : ℕ) (v w : Verdict) : Type 0 where
  pub same : v ≡ w
  pub within : count_of w ≤ budget

pub decided_within : (budget : ℕ) (v w : Verdict) → Decided w ≡ under_budget budget v → IsDecidedWithin budget v w
decided_within budget v w e = go (ltb budget (count_of v)) refl e
  where
    is_decided : PlainOutcome → Type 0
    is_decided (Decided x) = x ≡ w
    is_decided Past = ⊥

    go : (b : Bool) → ltb budget (count_of v) ≡ b → Decided w ≡ (if b then Past else Decided v) → IsDecidedWithin budget v w
    go true f h = absurd (subst is_decided h refl)
    go false f h =
        let same : v ≡ w = subst is_decided h refl in
        record { same = same; within = (let l = not_less in subst (λ x. count_of x ≤ budget) same l) }
      where
        not_less : count_of v ≤ budget
        not_less = pick (cases_lt budget (count_of v))
          where
            pick : (budget < count_of v) ⊎ (count_of v ≤ budget) → count_of v ≤ budget
            pick (inl l) = absurd (true≢false (sym (lt-ltb budget (count_of v) l) ∙ f))
            pick (inr l) = l

-- the outcome in the end
pub finished : (cap : ℕ) (v whole : Verdict) → v ≡ whole → count_of v ≤ cap → Decided v ≡ under_budget cap whole
finished cap v whole e l = sym (within_budget cap v l) ∙ ap (under_budget cap) e
