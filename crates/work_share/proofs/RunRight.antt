-- What the leftmost finished run says of the whole search.
use Rattle.std.proofs.Common.{◌≡◌, ℕ, suc, ◌<◌, ◌≤◌, ◌⊎◌, inl, inr, min, refl, sym, ap, ap₂, ◌∙◌, subst, arith, List}
use Rattle.std.proofs.Common.{[], ◌∷◌, Bool, true, false, ltb, ◌||◌}
use Rattle.std.proofs.lemmas.Bool.{true≢false, ltb-true, cases_lt}
use Rattle.tree_terms.specs.Trees.{SearchTree, Verdict, Yes, No, no_tokens, join, count_of, PlainOutcome, under_budget, outcome}
use Rattle.tree_terms.specs.Paths.{outcome_at}
use Rattle.tree_terms.proofs.Joins.{count_join_no, count_left}
use Rattle.tree_terms.proofs.UnderBudget.{over_budget}
use Rattle.work_share.specs.Board.{BoardState, PlainEntry, SplitEntry, TaskEntry, Waits, Out, Done}
use Rattle.work_share.specs.Runs.{Run, with_piece, piece_of, run_of, is_board_over, board_joined}
use Rattle.work_share.specs.Kept.{IsOutcomeOf, AreTasksRight}
use Rattle.work_share.proofs.Chain.{verdict_or, chain}
use Rattle.work_share.proofs.Replays.{Keeps}

-- a piece says no more than one above the budget of what it stands for, and within the budget all
pub record IsPieceOf (budget : ℕ) (piece value : Verdict) : Type 0 where
  pub least : min (suc budget) (count_of piece) ≤ count_of value
  pub same : count_of piece ≤ budget → piece ≡ value

-- the same of a run
pub record IsRunOf (budget : ℕ) (run : Run) (value : Verdict) : Type 0 where
  pub least : min (suc budget) (count_of run.verdict) ≤ count_of value
  pub same : run.is_whole ≡ true → count_of run.verdict ≤ budget → run.verdict ≡ value

whole_piece : (budget : ℕ) (v : Verdict) → IsPieceOf budget v v
whole_piece budget v = record { least = omega arith; same = λ _. refl }

-- the piece of a task that is done with its node's outcome
pub done_piece : (budget : ℕ) (verdict : Verdict) (o : PlainOutcome) → IsOutcomeOf budget verdict o
    → IsPieceOf budget (piece_of budget o) verdict
done_piece budget verdict o (inl e) =
    subst (λ x. IsPieceOf budget (piece_of budget x) verdict) (sym e) (whole_piece budget verdict)
done_piece budget verdict o (inr h) = subst (λ x. IsPieceOf budget (piece_of budget x) verdict) (sym h.0) (record {
  least = omega (arith, h.1);
  same = λ l. absurd (omega (arith, l));
})

before_piece : (budget : ℕ) (piece value : Verdict) (run : Run) (rest : Verdict) → IsPieceOf budget piece value
    → IsRunOf budget run rest
    → IsRunOf budget (with_piece piece run) (join value rest)
before_piece budget (Yes ns c) value run rest p r = record {
  least = let a = p.least in let b = count_left value rest in omega (arith, a, b);
  same = λ _ l. ap (λ v. join v rest) (p.same l);
}
before_piece budget (No ts c) value run rest p r = record {
  least = least (cases_lt budget c);
  same = λ w l.
      let sum = count_join_no ts c run.verdict in
      ap₂ join (p.same (omega (arith, sum, l))) (r.same w (omega (arith, sum, l)));
}
  where
    least : (budget < c) ⊎ (c ≤ budget)
        → min (suc budget) (count_of (join (No ts c) run.verdict)) ≤ count_of (join value rest)
    least (inl l) = let a = p.least in let b = count_left value rest in omega (arith, a, b, l)
    least (inr l) =
        subst (λ v. min (suc budget) (count_of (join (No ts c) run.verdict)) ≤ count_of (join v rest)) (p.same l)
        (let a = r.least in let s = count_join_no ts c run.verdict in let t = count_join_no ts c rest in
        omega (arith, a, s, t))

stopped : (budget : ℕ) (value : Verdict) → IsRunOf budget (record { verdict = no_tokens; is_whole = false }) value
stopped budget value = record { least = omega arith; same = λ e _. absurd (true≢false (sym e)) }

pub run_is_right : (tree : SearchTree) (budget : ℕ) (es : List PlainEntry) → AreTasksRight tree budget es
    → IsRunOf budget (run_of budget es) (chain tree es)
run_is_right tree budget [] a = record { least = omega arith; same = λ _ _. refl }
run_is_right tree budget (SplitEntry number path token own children ∷ es) a =
    before_piece budget (No (token ∷ []) own) (No (token ∷ []) own) (run_of budget es) (chain tree es)
    (whole_piece budget (No (token ∷ []) own))
    (run_is_right tree budget es a)
run_is_right tree budget (TaskEntry number path Waits ∷ es) a =
    stopped budget (chain tree (TaskEntry number path Waits ∷ es))
run_is_right tree budget (TaskEntry number path Out ∷ es) a =
    stopped budget (chain tree (TaskEntry number path Out ∷ es))
run_is_right tree budget (TaskEntry number path (Done o) ∷ es) a =
    let right = a.0.1 in
    let there : verdict_or (outcome_at tree path) ≡ right.0 = ap verdict_or right.1 in
    subst (λ v. IsRunOf budget (with_piece (piece_of budget o) (run_of budget es)) (join v (chain tree es))) (sym there)
    (before_piece budget (piece_of budget o) right.0 (run_of budget es) (chain tree es)
    (done_piece budget right.0 o right.2) (run_is_right tree budget es a.1))

-- where a board is over and not short, its run is whole or past the budget
over_cases : (w p : Bool) → (false || w || p) ≡ true → (w ≡ true) ⊎ (p ≡ true)
over_cases true p e = inl refl
over_cases false p e = inr e

joins_run : (budget : ℕ) (run : Run) (value : Verdict) → IsRunOf budget run value
    → (run.is_whole ≡ true) ⊎ (ltb budget (count_of run.verdict) ≡ true)
    → under_budget budget run.verdict ≡ under_budget budget value
joins_run budget run value r over = go (cases_lt budget (count_of run.verdict))
  where
    go : (budget < count_of run.verdict) ⊎ (count_of run.verdict ≤ budget) → under_budget budget run.verdict ≡ under_budget budget value
    go (inl l) = over_budget budget run.verdict l ∙ sym (over_budget budget value (let a = r.least in omega (arith, a, l)))
    go (inr l) = ap (under_budget budget) (r.same (whole over) l)
      where
        whole : (run.is_whole ≡ true) ⊎ (ltb budget (count_of run.verdict) ≡ true) → run.is_whole ≡ true
        whole (inl w) = w
        whole (inr p) = absurd (let m = ltb-true budget (count_of run.verdict) p in omega (arith, m, l))

pub joins_right : (tree : SearchTree) (budget : ℕ) (board : BoardState) → Keeps tree budget board.entries
    → is_board_over budget board ≡ true
    → board.is_short ≡ false → board_joined budget board ≡ under_budget budget (outcome tree)
joins_right tree budget board k over long =
    let run = run_of budget board.entries in
    joins_run budget run (chain tree board.entries) (run_is_right tree budget board.entries k.right)
    (over_cases run.is_whole (ltb budget (count_of run.verdict))
    (subst (λ b. (b || run.is_whole || ltb budget (count_of run.verdict)) ≡ true) long over))
    ∙ ap (under_budget budget) k.whole
