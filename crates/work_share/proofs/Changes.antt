-- What an event does to one entry, and what is kept where that entry is the first that passes a test.
use Rattle.std.proofs.Common.{◌≡◌, ℕ, ◌+◌, refl, sym, ap, ◌∙◌, subst, arith, List, [], ◌∷◌, ◌++◌, length, map, Bool}
use Rattle.std.proofs.Common.{true, false, if◌then◌else◌, option_to_list, append_assoc}
use Rattle.std.proofs.lemmas.List.{map-append, length-append}
use Rattle.tree_terms.specs.Trees.{SearchTree}
use Rattle.work_share.specs.Board.{PlainEntry, SplitEntry, TaskEntry, at_first, entry_number, entry_path}
use Rattle.work_share.specs.Kept.{IsLeftOf, AreFromLeft, task_paths, AreDistinct, AreBelow, AreTasksRight}
use Rattle.work_share.proofs.Lists.{numbers_from, inserted_distinct, inserted_below, length_numbers}
use Rattle.work_share.proofs.Left.{AreAllLeftOf, left_append, left_first, left_rest, from_left_append, from_left_first}
use Rattle.work_share.proofs.Left.{from_left_rest, from_left_apart}
use Rattle.work_share.proofs.Chain.{chain, value_of}

-- a change of one entry: what stands in its place stands for the same, is right, lies where the
-- entry lay, and has fresh numbers beside the entry's
pub record IsFair (tree : SearchTree) (budget fresh : ℕ) (change : PlainEntry → List PlainEntry) : Type 0 where
  pub whole : (e : PlainEntry) → chain tree (change e) ≡ value_of tree e
  pub right : (e : PlainEntry) → AreTasksRight tree budget (e ∷ []) → AreTasksRight tree budget (change e)
  pub inner : (e : PlainEntry) → AreFromLeft (task_paths (change e))
  pub behind : (e : PlainEntry) (p : List ℕ) → IsLeftOf p (option_to_list (entry_path e))
      → IsLeftOf p (task_paths (change e))
  pub before : (e : PlainEntry) (qs : List (List ℕ)) → AreAllLeftOf (option_to_list (entry_path e)) qs
      → AreAllLeftOf (task_paths (change e)) qs
  pub more : PlainEntry → ℕ
  pub numbers : (e : PlainEntry) → map entry_number (change e) ≡ entry_number e ∷ numbers_from fresh (more e)

-- two changes that give the same
pub same_changes : (test : PlainEntry → Bool) (f g : PlainEntry → List PlainEntry) → ((e : PlainEntry) → f e ≡ g e)
    → (es : List PlainEntry)
    → at_first test f es ≡ at_first test g es
same_changes test f g same [] = refl
same_changes test f g same (e ∷ es) =
    elim (test e) as (λ b. (if b then f e ++ es else e ∷ at_first test f es)
    ≡ (if b then g e ++ es else e ∷ at_first test g es)) [
      | true ↦ ap (λ xs. xs ++ es) (same e)
      | false ↦ ap (λ xs. e ∷ xs) (same_changes test f g same es)
    ]

pub paths_append : (xs ys : List PlainEntry) → task_paths (xs ++ ys) ≡ task_paths xs ++ task_paths ys
paths_append [] ys = refl
paths_append (e ∷ xs) ys =
    ap (λ ps. option_to_list (entry_path e) ++ ps) (paths_append xs ys)
    ∙ sym (append_assoc (option_to_list (entry_path e)) (task_paths xs) (task_paths ys))

pub right_append : (tree : SearchTree) (budget : ℕ) (xs ys : List PlainEntry) → AreTasksRight tree budget xs
    → AreTasksRight tree budget ys
    → AreTasksRight tree budget (xs ++ ys)
right_append tree budget [] ys a b = b
right_append tree budget (SplitEntry number path token own children ∷ xs) ys a b = right_append tree budget xs ys a b
right_append tree budget (TaskEntry number path state ∷ xs) ys a b = (a.0, right_append tree budget xs ys a.1 b)

pub right_head : (tree : SearchTree) (budget : ℕ) (e : PlainEntry) (es : List PlainEntry)
    → AreTasksRight tree budget (e ∷ es)
    → AreTasksRight tree budget (e ∷ [])
right_head tree budget (SplitEntry number path token own children) es a = tt
right_head tree budget (TaskEntry number path state) es a = (a.0, tt)

pub right_tail : (tree : SearchTree) (budget : ℕ) (e : PlainEntry) (es : List PlainEntry)
    → AreTasksRight tree budget (e ∷ es)
    → AreTasksRight tree budget es
right_tail tree budget (SplitEntry number path token own children) es a = a
right_tail tree budget (TaskEntry number path state) es a = a.1

-- the numbers of some entries, and those where fresh numbers stand behind some of them
pub record IsInserted (fresh : ℕ) (old new : List ℕ) : Type 0 where
  pub front : List ℕ
  pub rest : List ℕ
  pub count : ℕ
  pub old_is : old ≡ front ++ rest
  pub new_is : new ≡ front ++ (numbers_from fresh count ++ rest)

module _ (tree : SearchTree) (budget fresh : ℕ) (test : PlainEntry → Bool) (change : PlainEntry → List PlainEntry)
    (fair : IsFair tree budget fresh change) where
  pub right_at_first : (es : List PlainEntry) → AreTasksRight tree budget es
      → AreTasksRight tree budget (at_first test change es)
  right_at_first [] a = tt
  right_at_first (e ∷ es) a =
      elim (test e) as (λ b. AreTasksRight tree budget (if b then change e ++ es else e ∷ at_first test change es)) [
        | true ↦ right_append tree budget (change e) es (fair.right e (right_head tree budget e es a))
            (right_tail tree budget e es a)
        | false ↦ right_append tree budget (e ∷ []) (at_first test change es) (right_head tree budget e es a)
            (right_at_first es (right_tail tree budget e es a))
      ]

  pub left_at_first : (p : List ℕ) (es : List PlainEntry) → IsLeftOf p (task_paths es)
      → IsLeftOf p (task_paths (at_first test change es))
  left_at_first p [] a = tt
  left_at_first p (e ∷ es) a =
      let first = left_first p (option_to_list (entry_path e)) (task_paths es) a in
      let rest = left_rest p (option_to_list (entry_path e)) (task_paths es) a in
      elim (test e) as (λ b. IsLeftOf p (task_paths (if b then change e ++ es else e ∷ at_first test change es))) [
        | true ↦ subst (λ ps. IsLeftOf p ps) (sym (paths_append (change e) es))
            (left_append p (task_paths (change e)) (task_paths es) (fair.behind e p first) rest)
        | false ↦ left_append p (option_to_list (entry_path e)) (task_paths (at_first test change es)) first
            (left_at_first p es rest)
      ]

  all_left_at_first : (ps : List (List ℕ)) (es : List PlainEntry) → AreAllLeftOf ps (task_paths es)
      → AreAllLeftOf ps (task_paths (at_first test change es))
  all_left_at_first [] es a = tt
  all_left_at_first (p ∷ ps) es a = (left_at_first p es a.0, all_left_at_first ps es a.1)

  pub order_at_first : (es : List PlainEntry) → AreFromLeft (task_paths es)
      → AreFromLeft (task_paths (at_first test change es))
  order_at_first [] a = tt
  order_at_first (e ∷ es) a =
      let here = option_to_list (entry_path e) in
      let first = from_left_first here (task_paths es) a in
      let rest = from_left_rest here (task_paths es) a in
      let between = from_left_apart here (task_paths es) a in
      elim (test e) as (λ b. AreFromLeft (task_paths (if b then change e ++ es else e ∷ at_first test change es))) [
        | true ↦ subst AreFromLeft (sym (paths_append (change e) es))
            (from_left_append (task_paths (change e)) (task_paths es) (fair.inner e) rest
            (fair.before e (task_paths es) between))
        | false ↦ from_left_append here (task_paths (at_first test change es)) first (order_at_first es rest)
            (all_left_at_first here es between)
      ]

  pub numbers_at_first : (es : List PlainEntry)
      → IsInserted fresh (map entry_number es) (map entry_number (at_first test change es))
  numbers_at_first [] = record { front = []; rest = []; count = 0; old_is = refl; new_is = refl }
  numbers_at_first (e ∷ es) =
      let more = numbers_at_first es in
      elim (test e) as (λ b. IsInserted fresh (entry_number e ∷ map entry_number es)
      (map entry_number (if b then change e ++ es else e ∷ at_first test change es))) [
        | true ↦ record {
          front = entry_number e ∷ [];
          rest = map entry_number es;
          count = fair.more e;
          old_is = refl;
          new_is = map-append entry_number (change e) es ∙ ap (λ ns. ns ++ map entry_number es) (fair.numbers e);
        }
        | false ↦ record {
          front = entry_number e ∷ more.front;
          rest = more.rest;
          count = more.count;
          old_is = ap (λ ns. entry_number e ∷ ns) more.old_is;
          new_is = ap (λ ns. entry_number e ∷ ns) more.new_is;
        }
      ]

-- fresh numbers are those from the length on
pub inserted_numbers : (old new : List ℕ) → IsInserted (length old) old new → AreDistinct old
    → AreBelow (length old) old
    → AreDistinct new × AreBelow (length new) new
inserted_numbers old new i distinct below = (
  subst AreDistinct (sym i.new_is) (inserted_distinct (length old) i.count i.front i.rest b d),
  subst (λ n. AreBelow n new) (sym size)
      (subst (λ ns. AreBelow (length old + i.count) ns) (sym i.new_is)
      (inserted_below (length old) i.count i.front i.rest b)),
)
  where
    d : AreDistinct (i.front ++ i.rest)
    d = subst AreDistinct i.old_is distinct

    b : AreBelow (length old) (i.front ++ i.rest)
    b = subst (λ ns. AreBelow (length old) ns) i.old_is below

    size : length new ≡ length old + i.count
    size =
        let n = ap length i.new_is in
        let o = ap length i.old_is in
        omega (
          arith,
          n,
          o,
          length-append i.front (numbers_from (length old) i.count ++ i.rest),
          length-append (numbers_from (length old) i.count) i.rest,
          length-append i.front i.rest,
          length_numbers (length old) i.count,
        )
