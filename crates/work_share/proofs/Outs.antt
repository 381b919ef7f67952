-- The tasks that are out: apart from one another, and some where a board that isn't over has none that waits.
use Rattle.std.proofs.Common.{◌≡◌, ℕ, ◌⊎◌, inl, inr, refl, sym, ap, ◌∙◌, subst, List, [], ◌∷◌, Option, Some, None, Bool}
use Rattle.std.proofs.Common.{true, false, if◌then◌else◌, eqb, ltb, ◌||◌}
use Rattle.std.proofs.lemmas.Bool.{true≢false, eqb-true, eq-eqb}
use Rattle.tree_terms.specs.Trees.{Verdict, Yes, No, count_of}
use Rattle.work_share.specs.Board.{BoardState, PlainEntry, SplitEntry, TaskEntry, PlainTaskState, Waits, Out, Done}
use Rattle.work_share.specs.Board.{is_out, state_is_out, entry_number, entry_path, first_waiting, out_path}
use Rattle.work_share.specs.Runs.{Run, with_piece, piece_of, run_of, is_board_over}
use Rattle.work_share.specs.Kept.{leads_left, IsLeftOf, AreFromLeft, task_paths, OutsAreApart, HasOut}
use Rattle.work_share.proofs.Left.{left_is_no_prefix, right_is_no_prefix}

pub same_path : (p q : List ℕ) → ◌≡◌ {A = Option (List ℕ)} (Some p) (Some q) → p ≡ q
same_path p q e = cc

-- a task that is out has the number that it is named by
pub out_is : (n : ℕ) (e : PlainEntry) → is_out n e ≡ true → (path : List ℕ) × (e ≡ TaskEntry n path Out)
out_is n (SplitEntry number path token own children) h = absurd (true≢false (sym h))
out_is n (TaskEntry number path state) h = go (eqb number n) refl state h
  where
    go : (b : Bool) → eqb number n ≡ b → (s : PlainTaskState) → (if b then state_is_out s else false) ≡ true
        → (p : List ℕ) × (TaskEntry number path s ≡ TaskEntry n p Out)
    go true e Out f = (path, ap (λ k. TaskEntry k path Out) (eqb-true number n e))
    go true e Waits f = absurd (true≢false (sym f))
    go true e (Done o) f = absurd (true≢false (sym f))
    go false e s f = absurd (true≢false (sym f))

-- a path that is left of those of all tasks is left of that of one that is out
pub left_of_out : (p : List ℕ) (n : ℕ) (q : List ℕ) (es : List PlainEntry) → IsLeftOf p (task_paths es)
    → out_path n es ≡ Some q → leads_left p q ≡ true
left_of_out p n q [] a h = absurd (cc h)
left_of_out p n q (SplitEntry number path token own children ∷ es) a h = left_of_out p n q es a h
left_of_out p n q (TaskEntry number path state ∷ es) a h =
    elim (is_out n (TaskEntry number path state)) as
    (λ b. (if b then Some path else out_path n es) ≡ Some q → leads_left p q ≡ true) [
      | true ↦ λ f. subst (λ r. leads_left p r ≡ true) (same_path path q f) a.0
      | false ↦ λ f. left_of_out p n q es a.1 f
    ] h

-- an entry is the task of one number
one_number : (n m : ℕ) (e : PlainEntry) → is_out n e ≡ true → is_out m e ≡ true → n ≡ m
one_number n m e hn hm =
    let an = (out_is n e hn).1 in
    let am = (out_is m e hm).1 in
    ap entry_number (sym an ∙ am)

-- of two tasks that are out one is left of the other
pub outs_in_order : (n m : ℕ) (p q : List ℕ) (es : List PlainEntry) → AreFromLeft (task_paths es) → ¬ (n ≡ m)
    → out_path n es ≡ Some p → out_path m es ≡ Some q
    → (leads_left p q ≡ true) ⊎ (leads_left q p ≡ true)
outs_in_order n m p q [] a d hn hm = absurd (cc hn)
outs_in_order n m p q (SplitEntry number path token own children ∷ es) a d hn hm = outs_in_order n m p q es a d hn hm
outs_in_order n m p q (TaskEntry number path state ∷ es) a d hn hm =
    let e = TaskEntry number path state in
    elim (is_out n e) as (λ b. is_out n e ≡ b → (if b then Some path else out_path n es) ≡ Some p
    → (leads_left p q ≡ true) ⊎ (leads_left q p ≡ true)) [
      | true ↦ λ bn fn. elim (is_out m e) as
          (λ b. is_out m e ≡ b → (if b then Some path else out_path m es) ≡ Some q → (leads_left p q ≡ true)
          ⊎ (leads_left q p ≡ true)) [
            | true ↦ λ bm fm. absurd (d (one_number n m (TaskEntry number path state) bn bm))
            | false ↦ λ bm fm. inl (subst (λ r. leads_left r q ≡ true) (same_path path p fn)
                (left_of_out path m q es a.0 fm))
          ] refl hm
      | false ↦ λ bn fn. elim (is_out m e) as
          (λ b. is_out m e ≡ b → (if b then Some path else out_path m es) ≡ Some q → (leads_left p q ≡ true)
          ⊎ (leads_left q p ≡ true)) [
            | true ↦ λ bm fm. inr (subst (λ r. leads_left r p ≡ true) (same_path path q fm)
                (left_of_out path n p es a.0 fn))
            | false ↦ λ bm fm. outs_in_order n m p q es a.1 d fn fm
          ] refl hm
    ] refl hn

pub outs_apart : (es : List PlainEntry) → AreFromLeft (task_paths es) → OutsAreApart es
outs_apart es a n m p q rest d hn hm e = go (outs_in_order n m p q es a d hn hm)
  where
    go : (leads_left p q ≡ true) ⊎ (leads_left q p ≡ true) → ⊥
    go (inl l) = left_is_no_prefix p q rest l e
    go (inr l) = right_is_no_prefix q p rest l e

-- ---- some task is out

has_out_behind : (e : PlainEntry) (es : List PlainEntry) → HasOut es → HasOut (e ∷ es)
has_out_behind e es (n, path, h) = go (is_out n e) refl
  where
    go : (b : Bool) → is_out n e ≡ b → HasOut (e ∷ es)
    go false f = (n, path, rw f h)
    go true f =
        let at = out_is n e f in
        (n, at.0, rw f (ap entry_path at.1))

stops : (budget : ℕ) (piece : Verdict) (run : Run) → (with_piece piece run).is_whole ≡ false → run.is_whole ≡ false
stops budget (Yes ns c) run h = absurd (true≢false h)
stops budget (No ts c) run h = h

-- a run that isn't whole ends before a task that waits or is out
pub run_ends_at : (budget : ℕ) (es : List PlainEntry) → (run_of budget es).is_whole ≡ false
    → first_waiting es ≡ None → HasOut es
run_ends_at budget [] h w = absurd (true≢false h)
run_ends_at budget (SplitEntry number path token own children ∷ es) h w =
    has_out_behind (SplitEntry number path token own children) es (run_ends_at budget es h w)
run_ends_at budget (TaskEntry number path Waits ∷ es) h w = absurd (cc w)
run_ends_at budget (TaskEntry number path Out ∷ es) h w = (number, path, rw (eq-eqb number number refl) refl)
run_ends_at budget (TaskEntry number path (Done o) ∷ es) h w =
    has_out_behind (TaskEntry number path (Done o)) es
    (run_ends_at budget es (stops budget (piece_of budget o) (run_of budget es) h) w)

not_over : (s w p : Bool) → (s || w || p) ≡ false → w ≡ false
not_over false false p e = refl
not_over false true p e = absurd (true≢false e)
not_over true w p e = absurd (true≢false e)

pub some_out : (budget : ℕ) (board : BoardState) → is_board_over budget board ≡ false
    → first_waiting board.entries ≡ None → HasOut board.entries
some_out budget board h w =
    let run = run_of budget board.entries in
    run_ends_at budget board.entries (not_over board.is_short run.is_whole (ltb budget (count_of run.verdict)) h) w
