-- No path is finished twice: a done task stays done, and the paths of tasks are distinct.
use Rattle.std.proofs.Common.{◌≡◌, ℕ, ◌⊎◌, inl, inr, refl, sym, ap, subst, List, [], ◌∷◌, ◌++◌, Option, Some, None}
use Rattle.std.proofs.Common.{Bool, true, false, if◌then◌else◌, option_to_list, ◌==◌, length, IsSome, append-nil}
use Rattle.std.proofs.lemmas.Bool.{true≢false}
use Rattle.tree_terms.specs.Trees.{SearchTree, Verdict, PlainOutcome, outcome, node_at}
use Rattle.tree_terms.specs.Paths.{outcome_at, outcome_of}
use Rattle.work_share.specs.Board.{BoardState, PlainEntry, SplitEntry, TaskEntry, Waits, Out, Done, waits_as, is_out}
use Rattle.work_share.specs.Board.{entry_path, out_path, at_first, with_state}
use Rattle.work_share.specs.Replay.{split_by, outcome_read, done_with, done_by, happens, path_finished, finished_paths}
use Rattle.work_share.specs.Kept.{leads_left, IsLeftOf, AreFromLeft, task_paths, AreTasksRight, IsNotIn, AreDistinct}
use Rattle.work_share.specs.declared.Event.{Event}
use Rattle.work_share.specs.declared.Event.TheVariants as stored
use Rattle.work_share.proofs.Left.{left_is_no_prefix}
use Rattle.work_share.proofs.Outs.{out_is, same_path, left_of_out}
use Rattle.work_share.proofs.Replays.{Keeps, keeps_happens}

-- the entry is a task that is done, of this path
pub data IsDoneAt (path : List ℕ) : PlainEntry → Type 0 where
  done_at : (number : ℕ) (outcome : PlainOutcome) → IsDoneAt path (TaskEntry number path (Done outcome))

-- some task of this path is done
abbrev pub HasDone : List ℕ → List PlainEntry → Type 0
HasDone path [] = ⊥
HasDone path (e ∷ es) = IsDoneAt path e ⊎ HasDone path es

-- no path leads to the left of itself
left_of_itself : (p : List ℕ) → leads_left p p ≡ true → ⊥
left_of_itself p h = left_is_no_prefix p p [] h (sym (append-nil p))

done_is_task : (q : List ℕ) (e : PlainEntry) → IsDoneAt q e → entry_path e ≡ Some q
done_is_task q e (done_at number outcome) = refl

done_not_out : (q : List ℕ) (n : ℕ) (e : PlainEntry) → is_out n e ≡ true → IsDoneAt q e → ⊥
done_not_out q n e h (done_at number outcome) = let at = out_is n (TaskEntry number q (Done outcome)) h in
    done_or_out number q outcome n at.0 at.1
  where
    done_or_out : (k : ℕ) (p : List ℕ) (o : PlainOutcome) (m : ℕ) (r : List ℕ)
        → TaskEntry k p (Done o) ≡ TaskEntry m r Out → ⊥
    done_or_out k p o m r e = cc

done_not_waiting : (q : List ℕ) (n : ℕ) (e : PlainEntry) → waits_as n e ≡ true → IsDoneAt q e → ⊥
done_not_waiting q n e h (done_at number outcome) = go (number == n) h
  where
    go : (b : Bool) → (if b then false else false) ≡ true → ⊥
    go true f = true≢false (sym f)
    go false f = true≢false (sym f)

-- a path of done tasks is left of none of its own
left_of_done : (p q : List ℕ) (es : List PlainEntry) → IsLeftOf p (task_paths es) → HasDone q es → leads_left p q ≡ true
left_of_done p q (SplitEntry number path token own children ∷ es) a (inl d) =
    absurd (cc (done_is_task q (SplitEntry number path token own children) d))
left_of_done p q (SplitEntry number path token own children ∷ es) a (inr d) = left_of_done p q es a d
left_of_done p q (TaskEntry number path state ∷ es) a (inl d) =
    subst (λ r. leads_left p r ≡ true) (same_path path q (done_is_task q (TaskEntry number path state) d)) a.0
left_of_done p q (TaskEntry number path state ∷ es) a (inr d) = left_of_done p q es a.1 d
left_of_done p q [] a d = absurd d

-- a path that is out isn't done
out_not_done : (n : ℕ) (p : List ℕ) (es : List PlainEntry) → AreFromLeft (task_paths es) → out_path n es ≡ Some p
    → HasDone p es → ⊥
out_not_done n p [] a h d = d
out_not_done n p (SplitEntry number path token own children ∷ es) a h (inl d) =
    absurd (cc (done_is_task p (SplitEntry number path token own children) d))
out_not_done n p (SplitEntry number path token own children ∷ es) a h (inr d) = out_not_done n p es a h d
out_not_done n p (TaskEntry number path state ∷ es) a h (inl d) =
    let at : path ≡ p = same_path path p (done_is_task p (TaskEntry number path state) d) in
    elim (is_out n (TaskEntry number path state)) as
    (λ b. is_out n (TaskEntry number path state) ≡ b → (if b then Some path else out_path n es) ≡ Some p → ⊥) [
      | true ↦ λ f _. done_not_out p n (TaskEntry number path state) f d
      | false ↦ λ _ g. left_of_itself p (left_of_out p n p es (subst (λ r. IsLeftOf r (task_paths es)) at a.0) g)
    ] refl h
out_not_done n p (TaskEntry number path state ∷ es) a h (inr d) =
    elim (is_out n (TaskEntry number path state)) as (λ b. (if b then Some path else out_path n es) ≡ Some p → ⊥) [
      | true ↦ λ g. left_of_itself p
          (left_of_done p p es (subst (λ r. IsLeftOf r (task_paths es)) (same_path path p g) a.0) d)
      | false ↦ λ g. out_not_done n p es a.1 g d
    ] h

-- a done task stays
done_append : (q : List ℕ) (xs ys : List PlainEntry) → HasDone q ys → HasDone q (xs ++ ys)
done_append q [] ys d = d
done_append q (x ∷ xs) ys d = inr (done_append q xs ys d)

done_stays : (q : List ℕ) (test : PlainEntry → Bool) (change : PlainEntry → List PlainEntry)
    → ((e : PlainEntry) → test e ≡ true → IsDoneAt q e → ⊥)
    → (es : List PlainEntry) → HasDone q es → HasDone q (at_first test change es)
done_stays q test change apart [] d = d
done_stays q test change apart (e ∷ es) (inl d) =
    elim (test e) as (λ b. test e ≡ b → HasDone q (if b then change e ++ es else e ∷ at_first test change es)) [
      | true ↦ λ f. absurd (apart e f d)
      | false ↦ λ _. inl d
    ] refl
done_stays q test change apart (e ∷ es) (inr d) =
    elim (test e) as (λ b. HasDone q (if b then change e ++ es else e ∷ at_first test change es)) [
      | true ↦ done_append q (change e) es d
      | false ↦ inr (done_stays q test change apart es d)
    ]

done_happens : (tree : SearchTree) (budget : ℕ) (q : List ℕ) (board : BoardState) (event : Event)
    → HasDone q board.entries
    → HasDone q (happens tree budget board event).entries
done_happens tree budget q board (stored.Take number) d =
    done_stays q (waits_as number) (λ e. with_state Out e ∷ []) (done_not_waiting q number) board.entries d
done_happens tree budget q board (stored.Split number) d =
    done_stays q (is_out number) (split_by tree (length board.entries)) (done_not_out q number) board.entries d
done_happens tree budget q board (stored.Finish number past) d =
    done_stays q (is_out number) (done_by tree budget past) (done_not_out q number) board.entries d
done_happens tree budget q board stored.Short d = d

-- what is finished is done
some_outcome : (tree : SearchTree) (path : List ℕ) → IsSome (node_at (Some tree) path)
    → (verdict : Verdict) × (outcome_at tree path ≡ Some verdict)
some_outcome tree path h = go (node_at (Some tree) path) refl h
  where
    go : (o : Option SearchTree) → node_at (Some tree) path ≡ o → IsSome o
        → (verdict : Verdict) × (outcome_at tree path ≡ Some verdict)
    go None e f = absurd (true≢false (sym f))
    go (Some node) e f = (outcome node, ap outcome_of e)

done_with_is : (budget : ℕ) (past : Bool) (number : ℕ) (p : List ℕ) (o : Option Verdict) (verdict : Verdict)
    → o ≡ Some verdict
    → IsDoneAt p (done_with budget past o (TaskEntry number p Out))
done_with_is budget past number p o verdict e =
    subst (λ (x : Option Verdict). IsDoneAt p (done_with budget past x (TaskEntry number p Out))) (sym e)
    (done_at number (outcome_read budget past verdict))

finish_is_done : (tree : SearchTree) (budget n : ℕ) (past : Bool) (p : List ℕ) (es : List PlainEntry)
    → AreTasksRight tree budget es → out_path n es ≡ Some p
    → HasDone p (at_first (is_out n) (done_by tree budget past) es)
finish_is_done tree budget n past p [] a h = absurd (cc h)
finish_is_done tree budget n past p (SplitEntry number path token own children ∷ es) a h =
    inr (finish_is_done tree budget n past p es a h)
finish_is_done tree budget n past p (TaskEntry number path Waits ∷ es) a h =
    elim (number == n) as (λ b. (if (if b then false else false) then Some path else out_path n es) ≡ Some p
    → HasDone p (if (if b then false else false) then done_by tree budget past (TaskEntry number path Waits)
    ++ es else TaskEntry number path Waits ∷ at_first (is_out n) (done_by tree budget past) es)) [
      | true ↦ λ f. inr (finish_is_done tree budget n past p es a.1 f)
      | false ↦ λ f. inr (finish_is_done tree budget n past p es a.1 f)
    ] h
finish_is_done tree budget n past p (TaskEntry number path (Done o) ∷ es) a h =
    elim (number == n) as (λ b. (if (if b then false else false) then Some path else out_path n es) ≡ Some p
    → HasDone p (if (if b then false else false) then done_by tree budget past (TaskEntry number path (Done o))
    ++ es else TaskEntry number path (Done o) ∷ at_first (is_out n) (done_by tree budget past) es)) [
      | true ↦ λ f. inr (finish_is_done tree budget n past p es a.1 f)
      | false ↦ λ f. inr (finish_is_done tree budget n past p es a.1 f)
    ] h
finish_is_done tree budget n past p (TaskEntry number path Out ∷ es) a h =
    elim (number == n) as (λ b. (if (if b then true else false) then Some path else out_path n es) ≡ Some p
    → HasDone p (if (if b then true else false) then done_by tree budget past (TaskEntry number path Out)
    ++ es else TaskEntry number path Out ∷ at_first (is_out n) (done_by tree budget past) es)) [
      | true ↦ λ f.
          let there = some_outcome tree path a.0.0.there in
          inl (subst (λ r. IsDoneAt r (done_with budget past (outcome_at tree path) (TaskEntry number path Out)))
          (same_path path p f)
          (done_with_is budget past number path (outcome_at tree path) there.0 there.1))
      | false ↦ λ f. inr (finish_is_done tree budget n past p es a.1 f)
    ] h

-- ---- no path is finished twice

never_again : (tree : SearchTree) (budget : ℕ) (q : List ℕ) (events : List Event) (board : BoardState)
    → Keeps tree budget board.entries
    → HasDone q board.entries → IsNotIn q (finished_paths tree budget board events)
never_again tree budget q [] board k d = tt
never_again tree budget q (e ∷ es) board k d =
    let rest = never_again tree budget q es (happens tree budget board e) (keeps_happens tree budget board e k)
    (done_happens tree budget q board e d) in
    first e rest
  where
    first : (e : Event) → IsNotIn q (finished_paths tree budget (happens tree budget board e) es)
        → IsNotIn q (path_finished board e ++ finished_paths tree budget (happens tree budget board e) es)
    first (stored.Take number) rest = rest
    first (stored.Split number) rest = rest
    first stored.Short rest = rest
    first (stored.Finish number past) rest = go (out_path number board.entries) refl
      where
        go : (o : Option (List ℕ)) → out_path number board.entries ≡ o
            → IsNotIn q (option_to_list o ++ finished_paths tree budget
            (happens tree budget board (stored.Finish number past)) es)
        go None f = rest
        go (Some p) f = (
          (λ same. out_not_done number p board.entries k.order f
              (subst (λ r. HasDone r board.entries) same d)),
          rest,
        )

pub finished_once : (tree : SearchTree) (budget : ℕ) (events : List Event) (board : BoardState)
    → Keeps tree budget board.entries
    → AreDistinct (finished_paths tree budget board events)
finished_once tree budget [] board k = tt
finished_once tree budget (e ∷ es) board k =
    let rest = finished_once tree budget es (happens tree budget board e) (keeps_happens tree budget board e k) in
    first e rest
  where
    first : (e : Event) → AreDistinct (finished_paths tree budget (happens tree budget board e) es)
        → AreDistinct (path_finished board e ++ finished_paths tree budget (happens tree budget board e) es)
    first (stored.Take number) rest = rest
    first (stored.Split number) rest = rest
    first stored.Short rest = rest
    first (stored.Finish number past) rest = go (out_path number board.entries) refl
      where
        go : (o : Option (List ℕ)) → out_path number board.entries ≡ o
            → AreDistinct (option_to_list o
            ++ finished_paths tree budget (happens tree budget board (stored.Finish number past)) es)
        go None f = rest
        go (Some p) f = (
          never_again tree budget p es (happens tree budget board (stored.Finish number past))
              (keeps_happens tree budget board (stored.Finish number past) k)
              (finish_is_done tree budget number past p board.entries k.right f),
          rest,
        )
