-- The tasks that wait on the left of a path are those in front of its task.
use Rattle.std.proofs.Common.{◌≡◌, ℕ, ◌+◌, ◌≤◌, ◌⊎◌, inl, inr, refl, sym, ap, ◌∙◌, subst, arith, List, [], ◌∷◌, ◌++◌}
use Rattle.std.proofs.Common.{length, drop, true, false, if◌then◌else◌, eqb, ltb}
use Rattle.std.proofs.lemmas.Bool.{eqb-true, eqb-false, eq-eqb, ne_eqb}
use Rattle.std.proofs.lemmas.Bool.Decides.{nat_tests}
use Rattle.std.proofs.lemmas.List.{drop_all}
use Rattle.work_share.specs.Board.{PlainEntry, SplitEntry, TaskEntry, PlainTask, Waits, Out, Done}
use Rattle.work_share.specs.Kept.{leads_left, IsLeftOf, AreFromLeft, task_paths}
use Rattle.work_share.proofs.Left.{left_rest, from_left_rest}
use Rattle.work_share.proofs.Changes.{paths_append}
use Rattle.work_share.specs.Boards.{waiting_tasks}
use Rattle.work_share.specs.Stacks.{count_left}

-- ---- two paths

left_none : (p : List ℕ) → leads_left p [] ≡ false
left_none [] = refl
left_none (x ∷ p) = refl

pub left_ends : (p q : List ℕ) (k : ℕ) → (length p ≤ k) ⊎ (length q ≤ k) → leads_left (drop k p) (drop k q) ≡ false
left_ends p q k (inl l) = ap (λ x. leads_left x (drop k q)) (drop_all k p l)
left_ends p q k (inr l) = ap (leads_left (drop k p)) (drop_all k q l) ∙ left_none (drop k p)

less_once : (i j : ℕ) → ltb i j ≡ true → ltb j i ≡ false
less_once i j h = grind (arith, nat_tests, h)

-- of two paths one alone leads to the left of the other
left_once : (p q : List ℕ) → leads_left p q ≡ true → leads_left q p ≡ false
left_once [] q h = left_none q
left_once (i ∷ p) [] h = refl
left_once (i ∷ p) (j ∷ q) h =
    elim (eqb i j) as (λ b. eqb i j ≡ b → (if b then leads_left p q else ltb i j) ≡ true → leads_left (j ∷ q) (i ∷ p)
    ≡ false) [
      | true ↦ λ e f. rw (eq-eqb j i (sym (eqb-true i j e))) (left_once p q f)
      | false ↦ λ e f. rw (ne_eqb j i (λ x. eqb-false i j e (sym x))) (less_once i j f)
    ] refl h

-- ---- the tasks in front of an entry

module _ (n : ℕ) (path : List ℕ) (post : List PlainEntry) where
  left_of_it : (q : List ℕ) (pre : List PlainEntry) → IsLeftOf q (task_paths (pre ++ TaskEntry n path Out ∷ post))
      → leads_left q path ≡ true
  left_of_it q pre a =
      (left_rest q (task_paths pre) (path ∷ task_paths post)
      (subst (IsLeftOf q) (paths_append pre (TaskEntry n path Out ∷ post)) a)).0

  counted : (pre : List PlainEntry) (ts : List PlainTask)
      → AreFromLeft (task_paths (pre ++ TaskEntry n path Out ∷ post))
      → count_left path (waiting_tasks pre ++ ts) ≡ length (waiting_tasks pre) + count_left path ts
  counted [] ts a = omega arith
  counted (SplitEntry number q token own children ∷ pre) ts a = counted pre ts a
  counted (TaskEntry number q Waits ∷ pre) ts a =
      let rest = counted pre ts a.1 in
      rw (left_of_it q pre a.0) (omega (arith, rest))
  counted (TaskEntry number q Out ∷ pre) ts a = counted pre ts a.1
  counted (TaskEntry number q (Done o) ∷ pre) ts a = counted pre ts a.1

none_left : (path : List ℕ) (post : List PlainEntry) → IsLeftOf path (task_paths post)
    → count_left path (waiting_tasks post) ≡ 0
none_left path [] a = refl
none_left path (SplitEntry number q token own children ∷ post) a = none_left path post a
none_left path (TaskEntry number q Waits ∷ post) a = rw (left_once path q a.0) refl
none_left path (TaskEntry number q Out ∷ post) a = none_left path post a.1
none_left path (TaskEntry number q (Done o) ∷ post) a = none_left path post a.1

-- those that wait in front of a task that is out are those that stand left of it
pub left_counted : (n : ℕ) (path : List ℕ) (pre post : List PlainEntry)
    → AreFromLeft (task_paths (pre ++ TaskEntry n path Out ∷ post))
    → count_left path (waiting_tasks pre ++ waiting_tasks post) ≡ length (waiting_tasks pre)
left_counted n path pre post a =
    let front = counted n path post pre (waiting_tasks post) a in
    let behind = from_left_rest (task_paths pre) (path ∷ task_paths post)
    (subst AreFromLeft (paths_append pre (TaskEntry n path Out ∷ post)) a) in
    let none = none_left path post behind.0 in
    omega (arith, front, none)
