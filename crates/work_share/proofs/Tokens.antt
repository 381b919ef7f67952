-- The tokens of a finished run, moved out entry by entry.
use Rattle.std.proofs.Common.{◌≡◌, ℕ, zero, suc, ◌+◌, ◌<◌, ◌≤◌, refl, sym, ap, ap₂, ◌∙◌, subst, arith, List, [], ◌∷◌}
use Rattle.std.proofs.Common.{◌++◌, length, take, drop, set, get_or, append_assoc, append-nil, true, false, ◌⊎◌, inl}
use Rattle.std.proofs.Common.{inr}
use Rattle.std.proofs.lemmas.Bool.{cases_lt}
use Rattle.std.specs.Prelude.{slice_get}
use Rattle.std.proofs.lemmas.List.{drop_more, drop_all, take-append-drop}
use Rattle.std.proofs.lemmas.Option.{slice_get_read}
use Rattle.packing_terms.specs.Tokens.{PlainToken}
use Rattle.tree_terms.specs.Trees.{No, join, Decided, under_budget}
use Rattle.tree_terms.proofs.UnderBudget.{within_budget}
use Rattle.tree_terms.proofs.Joins.{join_nothing}
use Rattle.work_share.specs.Board.{PlainEntry}
use Rattle.work_share.specs.Runs.{Run, with_entry, run_of}
use Rattle.work_share.specs.Kept.{IsNotIn, AreDistinct, AreBelow}
use Rattle.work_share.specs.declared.slot.Slot.{Slot}
use Rattle.work_share.specs.declared.slot.SlotState.{SlotState}
use Rattle.work_share.specs.declared.slot.SlotState.TheVariants.{Waits, Out, Done, Split}
use Rattle.work_share.specs.Slots.{entry_as, entry_of, entry_or, entry_at, entries_of}
use Rattle.work_share.specs.Fronts.{Ends, EndsWithFirst, piece_of, counted, IsFront}
use Rattle.work_share.specs.Joining.{tokens_in, entry_tokens}
use Rattle.work_share.proofs.Advance.{below_at}
use Rattle.work_share.proofs.Fronts.{run_at}

get_set_other : (slots : List Slot) (n m : ℕ) (slot : Slot) → ¬ (m ≡ n)
    → slice_get (set slots n slot) m ≡ slice_get slots m
get_set_other [] n m slot d = refl
get_set_other (x ∷ slots) zero zero slot d = absurd (d refl)
get_set_other (x ∷ slots) zero (suc m) slot d = refl
get_set_other (x ∷ slots) (suc n) zero slot d = refl
get_set_other (x ∷ slots) (suc n) (suc m) slot d = get_set_other slots n m slot (λ e. d (ap suc e))

set_beside : (slots : List Slot) (n : ℕ) (slot : Slot) (order : List ℕ) → IsNotIn n order
    → entries_of (set slots n slot) order ≡ entries_of slots order
set_beside slots n slot [] a = refl
set_beside slots n slot (m ∷ order) a =
    ap₂ (λ x xs. x ∷ xs) (ap (entry_or m) (get_set_other slots n m slot (λ e. a.0 (sym e))))
    (set_beside slots n slot order a.1)

distinct_at : (order : List ℕ) (k : ℕ) → AreDistinct order → k < length order
    → IsNotIn (get_or order k 0) (drop (k + 1) order)
distinct_at [] k d l = absurd (omega (arith, l))
distinct_at (x ∷ order) zero d l = d.0
distinct_at (x ∷ order) (suc k) d l =
    subst (λ j. IsNotIn (get_or order k 0) (drop j (x ∷ order))) (let e : suc (k + 1) ≡ suc k + 1 = omega arith in e)
    (distinct_at order k d.1 (omega (arith, l)))

-- one entry more: what it has goes behind the tokens so far
pub tokens_more : (slots : List Slot) (order : List ℕ) (k : ℕ) (slot new : Slot) (had now all : List PlainToken)
    → AreBelow (length slots) order → AreDistinct order
    → k < length order → slot ≡ get_or slots (get_or order k 0) slot
    → ((number : ℕ) → now ≡ had ++ tokens_in (entry_of number slot))
    → had ++ entry_tokens (entries_of slots (drop k order)) ≡ all
    → now ++ entry_tokens (entries_of (set slots (get_or order k 0) new) (drop (k + 1) order)) ≡ all
tokens_more slots order k slot new had now all b d l is pushed h =
    let n = get_or order k 0 in
    let entry : entry_at slots n ≡ entry_of n slot =
    ap (entry_or n) (slice_get_read slots (length slots) n slot refl (below_at (length slots) order k b l) is) in
    let beside = set_beside slots n new (drop (k + 1) order) (distinct_at order k d l) in
    let here : entry_tokens (entries_of slots (drop k order)) ≡ tokens_in (entry_of n slot)
    ++ entry_tokens (entries_of slots (drop (k + 1) order)) =
    ap (λ ns. entry_tokens (entries_of slots ns)) (drop_more order k 0 l)
    ∙ ap (λ e. tokens_in e ++ entry_tokens (entries_of slots (drop (k + 1) order))) entry in
    ap₂ (λ ts es. ts ++ entry_tokens es) (pushed n) beside
    ∙ (append_assoc had (tokens_in (entry_of n slot)) (entry_tokens (entries_of slots (drop (k + 1) order)))
    ∙ (ap (λ ts. had ++ ts) (sym here) ∙ h))

-- ---- what the run comes to

-- a run whose front is all
pub joined_all : (budget len count : ℕ) (es : List PlainEntry) → IsFront budget es len count false → length es ≤ len
    → Decided (No (entry_tokens es) count) ≡ under_budget budget (run_of budget es).verdict
joined_all budget len count es f l =
    let at = run_at budget len es f.known.refuted in
    let rest : drop len es ≡ [] = drop_all len es l in
    let front : take len es ≡ es =
    sym (append-nil (take len es)) ∙ (ap (λ xs. take len es ++ xs) (sym rest) ∙ take-append-drop len es) in
    let verdict : (run_of budget es).verdict ≡ No (entry_tokens es) count =
    ap (λ (r : Run). r.verdict) at
    ∙ (ap (λ xs. join (No (entry_tokens (take len es)) (counted (take len es))) (run_of budget xs).verdict) rest
    ∙ (join_nothing (No (entry_tokens (take len es)) (counted (take len es)))
    ∙ ap₂ (λ xs n. No (entry_tokens xs) n) front f.known.sum)) in
    sym (ap (under_budget budget) verdict ∙ within_budget budget (No (entry_tokens es) count) f.known.within)

-- a run that ends with the entry behind its front
pub joined_end : (budget len count : ℕ) (es : List PlainEntry) (d : PlainEntry) → IsFront budget es len count true
    → under_budget budget (join (No (entry_tokens (take len es)) count)
    (with_entry budget (get_or es len d) (run_of budget (drop (len + 1) es))).verdict)
    ≡ under_budget budget (run_of budget es).verdict
joined_end budget len count es d f =
    let at = run_at budget len es f.known.refuted in
    let here : run_of budget (drop len es) ≡ with_entry budget (get_or es len d) (run_of budget (drop (len + 1) es)) =
    ap (run_of budget) (drop_more es len d (not_all es f.stands)) in
    ap (under_budget budget) (sym (ap (λ (r : Run). r.verdict) at
    ∙ ap₂ (λ n (r : Run). join (No (entry_tokens (take len es)) n) r.verdict) f.known.sum here))
  where
    not_all : (xs : List PlainEntry) → EndsWithFirst budget count (drop len xs) → len < length xs
    not_all xs e = go (cases_lt len (length xs))
      where
        go : (len < length xs) ⊎ (length xs ≤ len) → len < length xs
        go (inl l) = l
        go (inr l) = absurd (subst (EndsWithFirst budget count) (drop_all len xs l) e)

pub ends_at : (budget len count : ℕ) (es : List PlainEntry) (d : PlainEntry) → IsFront budget es len count true
    → (len < length es) × Ends budget count (piece_of (get_or es len d))
ends_at budget len count es d f = go (cases_lt len (length es))
  where
    go : (len < length es) ⊎ (length es ≤ len) → (len < length es) × Ends budget count (piece_of (get_or es len d))
    go (inl l) = (l, subst (EndsWithFirst budget count) (drop_more es len d l) f.stands)
    go (inr l) = absurd (subst (EndsWithFirst budget count) (drop_all len es l) f.stands)

-- the number of an entry says nothing of its piece
pub piece_any : (n m : ℕ) (slot : Slot) → piece_of (entry_of n slot) ≡ piece_of (entry_of m slot)
piece_any n m slot = go slot.state
  where
    go : (state : SlotState) → piece_of (entry_as n slot.path.items state) ≡ piece_of (entry_as m slot.path.items state)
    go Waits = refl
    go Out = refl
    go (Done outcome) = refl
    go (Split token own children) = refl
