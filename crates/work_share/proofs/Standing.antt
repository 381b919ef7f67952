-- Which tasks wait and which are out, among stored entries.
use Rattle.std.proofs.Common.{◌≡◌, ℕ, suc, ◌<◌, ◌⊎◌, inl, inr, refl, sym, ap, ◌∙◌, subst, arith, List, [], ◌∷◌, ◌++◌}
use Rattle.std.proofs.Common.{Some, None, Bool, true, false, if◌then◌else◌, ◌==◌, option_to_list}
use Rattle.std.proofs.lemmas.Bool.{true≢false, eq-eqb}
use Rattle.tree_terms.specs.Trees.{PlainOutcome}
use Rattle.work_share.specs.Board.{PlainEntry, SplitEntry, TaskEntry, PlainTask, Waits, Out, Done, waits, waits_as}
use Rattle.work_share.specs.Board.{is_out, state_waits, task_of, entry_path, entry_number, first_waiting, out_path}
use Rattle.work_share.specs.Board.{with_state}
use Rattle.work_share.specs.Steps.{handed_out, finished}
use Rattle.work_share.specs.Kept.{AreBelow}
use Rattle.work_share.proofs.Outs.{out_is, same_path}
use Rattle.work_share.specs.declared.slot.Slot.{Slot}
use Rattle.work_share.specs.Slots.{entry_at, entries_of}
use Rattle.work_share.specs.Boards.{waiting_tasks, owed, IsIn}
use Rattle.work_share.proofs.Stored.{at_number}

pub in_below : (n k : ℕ) (order : List ℕ) → AreBelow n order → IsIn k order → k < n
in_below n k [] b i = absurd i
in_below n k (m ∷ order) b (inl e) = let l = b.0 in omega (arith, l, e)
in_below n k (m ∷ order) b (inr i) = in_below n k order b.1 i

-- the number of the task in an entry that is out
pub out_number : (slots : List Slot) (n m : ℕ) → is_out n (entry_at slots m) ≡ true → m ≡ n
out_number slots n m h = sym (at_number slots m) ∙ ap entry_number (out_is n (entry_at slots m) h).1

-- a task that is out stands at its number
pub out_there : (slots : List Slot) (order : List ℕ) (n : ℕ) (p : List ℕ) → out_path n (entries_of slots order) ≡ Some p
    → IsIn n order × (entry_at slots n ≡ TaskEntry n p Out)
out_there slots [] n p h = absurd (cc h)
out_there slots (m ∷ order) n p h =
    elim (is_out n (entry_at slots m)) as
    (λ b. is_out n (entry_at slots m) ≡ b
    → (if b then entry_path (entry_at slots m) else out_path n (entries_of slots order)) ≡ Some p
    → IsIn n (m ∷ order) × (entry_at slots n ≡ TaskEntry n p Out)) [
      | true ↦ λ f g.
          let at = out_is n (entry_at slots m) f in
          let same = out_number slots n m f in
          let path : at.0 ≡ p = same_path at.0 p (sym (ap entry_path at.1) ∙ g) in (
            inl (sym same),
            subst (λ k. entry_at slots k ≡ TaskEntry n p Out) same
                (at.1 ∙ ap (λ q. TaskEntry n q Out) path),
          )
      | false ↦ λ _ g. let rest = out_there slots order n p g in (inr rest.0, rest.1)
    ] refl h

pub is_out_task : (n : ℕ) (p : List ℕ) → is_out n (TaskEntry n p Out) ≡ true
is_out_task n p = rw (eq-eqb n n refl) refl

pub out_found : (slots : List Slot) (order : List ℕ) (n : ℕ) (p : List ℕ) → IsIn n order
    → entry_at slots n ≡ TaskEntry n p Out
    → out_path n (entries_of slots order) ≡ Some p
out_found slots [] n p i e = absurd i
out_found slots (m ∷ order) n p i e =
    elim (is_out n (entry_at slots m)) as
    (λ b. is_out n (entry_at slots m) ≡ b
    → (if b then entry_path (entry_at slots m) else out_path n (entries_of slots order)) ≡ Some p) [
      | true ↦ λ f. ap entry_path (ap (entry_at slots) (out_number slots n m f) ∙ e)
      | false ↦ λ f. out_found slots order n p (behind i f) e
    ] refl
  where
    behind : (n ≡ m) ⊎ IsIn n order → is_out n (entry_at slots m) ≡ false → IsIn n order
    behind (inr j) f = j
    behind (inl s) f = absurd (true≢false (sym (ap (is_out n) (ap (entry_at slots) (sym s) ∙ e) ∙ is_out_task n p) ∙ f))

-- ---- tasks that wait

waits_is : (e : PlainEntry) → waits e ≡ true → (n : ℕ) × (path : List ℕ) × (e ≡ TaskEntry n path Waits)
waits_is (SplitEntry number path token own children) h = absurd (true≢false (sym h))
waits_is (TaskEntry number path Waits) h = (number, path, refl)
waits_is (TaskEntry number path Out) h = absurd (true≢false (sym h))
waits_is (TaskEntry number path (Done o)) h = absurd (true≢false (sym h))

waits_as_task : (n : ℕ) (p : List ℕ) → waits_as n (TaskEntry n p Waits) ≡ true
waits_as_task n p = rw (eq-eqb n n refl) refl

not_waiting_as : (n : ℕ) (e : PlainEntry) → waits e ≡ false → waits_as n e ≡ false
not_waiting_as n (SplitEntry number path token own children) h = refl
not_waiting_as n (TaskEntry number path state) h = go (number == n) h
  where
    go : (b : Bool) → state_waits state ≡ false → (if b then state_waits state else false) ≡ false
    go true f = f
    go false f = refl

head_same : (x y : PlainTask) (xs ys : List PlainTask) → x ∷ xs ≡ y ∷ ys → (x ≡ y) × (xs ≡ ys)
head_same x y xs ys e = (cc, cc)

-- what is known of an entry that waits, first of all that do
pub first_entry : (e : PlainEntry) (rest ts : List PlainTask) (t : PlainTask) → waits e ≡ true
    → option_to_list (task_of e) ++ rest ≡ t ∷ ts
    → (e ≡ TaskEntry t.number t.path Waits) × (rest ≡ ts)
first_entry e rest ts t w h =
    let at = waits_is e w in
    let task : PlainTask = record { path = at.1; number = at.0 } in
    let heads = head_same task t rest ts (sym (ap (λ x. option_to_list (task_of x) ++ rest) at.2) ∙ h) in
    (at.2 ∙ ap (λ (x : PlainTask). TaskEntry x.number x.path Waits) heads.0, heads.1)

pub waiting_there : (slots : List Slot) (order : List ℕ) (t : PlainTask) (ts : List PlainTask)
    → waiting_tasks (entries_of slots order) ≡ t ∷ ts
    → IsIn t.number order × (entry_at slots t.number ≡ TaskEntry t.number t.path Waits)
waiting_there slots [] t ts h = absurd (cc h)
waiting_there slots (m ∷ order) t ts h =
    elim (waits (entry_at slots m)) as (λ b. waits (entry_at slots m) ≡ b
    → (if b then option_to_list (task_of (entry_at slots m)) else []) ++ waiting_tasks (entries_of slots order) ≡ t ∷ ts
    → IsIn t.number (m ∷ order) × (entry_at slots t.number ≡ TaskEntry t.number t.path Waits)) [
      | true ↦ λ w g.
          let is = (first_entry (entry_at slots m) (waiting_tasks (entries_of slots order)) ts t w g).0 in
          let same : m ≡ t.number = sym (at_number slots m) ∙ ap entry_number is in
          (inl (sym same), subst (λ k. entry_at slots k ≡ TaskEntry t.number t.path Waits) same is)
      | false ↦ λ _ g. let rest = waiting_there slots order t ts g in (inr rest.0, rest.1)
    ] refl h

pub first_is : (es : List PlainEntry) (t : PlainTask) (ts : List PlainTask) → waiting_tasks es ≡ t ∷ ts
    → first_waiting es ≡ Some t
first_is [] t ts h = absurd (cc h)
first_is (e ∷ es) t ts h =
    elim (waits e) as (λ b. waits e ≡ b → (if b then option_to_list (task_of e) else []) ++ waiting_tasks es ≡ t ∷ ts
    → (if b then task_of e else first_waiting es) ≡ Some t) [
      | true ↦ λ w g. ap task_of (first_entry e (waiting_tasks es) ts t w g).0
      | false ↦ λ _ g. first_is es t ts g
    ] refl h

pub none_is : (es : List PlainEntry) → waiting_tasks es ≡ [] → first_waiting es ≡ None
none_is [] h = refl
none_is (e ∷ es) h =
    elim (waits e) as (λ b. waits e ≡ b → (if b then option_to_list (task_of e) else []) ++ waiting_tasks es ≡ []
    → (if b then task_of e else first_waiting es) ≡ None) [
      | true ↦ λ w g. let at = waits_is e w in let f =
          sym (ap (λ x. option_to_list (task_of x) ++ waiting_tasks es) at.2) ∙ g in absurd (cc f)
      | false ↦ λ _ g. none_is es g
    ] refl h

-- what a task that is handed out leaves
pub taken_rest : (es : List PlainEntry) (t : PlainTask) (ts : List PlainTask) → waiting_tasks es ≡ t ∷ ts
    → (waiting_tasks (handed_out t.number es) ≡ ts) × (owed es ≡ suc (owed (handed_out t.number es)))
taken_rest [] t ts h = absurd (cc h)
taken_rest (e ∷ es) t ts h =
    elim (waits e) as (λ b. waits e ≡ b → (if b then option_to_list (task_of e) else []) ++ waiting_tasks es ≡ t ∷ ts
    → (waiting_tasks (handed_out t.number (e ∷ es)) ≡ ts)
    × (owed (e ∷ es) ≡ suc (owed (handed_out t.number (e ∷ es))))) [
      | true ↦ λ w g.
          let first = first_entry e (waiting_tasks es) ts t w g in
          subst (λ x. (waiting_tasks (handed_out t.number (x ∷ es)) ≡ ts)
          × (owed (x ∷ es) ≡ suc (owed (handed_out t.number (x ∷ es))))) (sym first.0)
          (rw (waits_as_task t.number t.path) (first.1, omega arith))
      | false ↦ λ w g.
          let rest = taken_rest es t ts g in
          rw (not_waiting_as t.number e w, w) (rest.0, (let r = rest.1 in omega (arith, r)))
    ] refl h

-- what a task that is done leaves
pub finished_rest : (es : List PlainEntry) (o : PlainOutcome) (n : ℕ) (p : List ℕ) → out_path n es ≡ Some p
    → (waiting_tasks (finished o n es) ≡ waiting_tasks es) × (owed es ≡ suc (owed (finished o n es)))
finished_rest [] o n p h = absurd (cc h)
finished_rest (e ∷ es) o n p h =
    elim (is_out n e) as (λ b. is_out n e ≡ b → (if b then entry_path e else out_path n es) ≡ Some p
    → (waiting_tasks (if b then (with_state (Done o) e ∷ []) ++ es else e ∷ finished o n es) ≡ waiting_tasks (e ∷ es))
    × (owed (e ∷ es) ≡ suc (owed (if b then (with_state (Done o) e ∷ []) ++ es else e ∷ finished o n es)))) [
      | true ↦ λ f _.
          let at = out_is n e f in
          subst (λ x. (waiting_tasks (with_state (Done o) x ∷ es) ≡ waiting_tasks (x ∷ es))
          × (owed (x ∷ es) ≡ suc (owed (with_state (Done o) x ∷ es)))) (sym at.1)
          (refl, omega arith)
      | false ↦ λ _ g.
          let rest = finished_rest es o n p g in (
            ap (λ ts. (if waits e then option_to_list (task_of e) else []) ++ ts) rest.0,
            (let r = rest.1 in omega (arith, r)),
          )
    ] refl h
