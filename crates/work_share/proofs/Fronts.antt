-- The leftmost finished run, read off its front.
use Rattle.std.proofs.Common.{◌≡◌, ℕ, suc, ◌+◌, ◌<◌, ◌≤◌, ◌⊎◌, inl, inr, refl, sym, ap, ap₂, ◌∙◌, subst, arith, List}
use Rattle.std.proofs.Common.{[], ◌∷◌, ◌++◌, length, take, drop, Bool, true, false, eqb, ltb, ◌||◌}
use Rattle.std.proofs.lemmas.Bool.{eq-eqb, ne_eqb, lt-ltb, cases_lt}
use Rattle.std.proofs.lemmas.Bool.Decides.{nat_tests}
use Rattle.std.proofs.lemmas.List.{take-append-drop, length-drop}
use Rattle.tree_terms.specs.Trees.{Yes, No, join, count_of, Decided, Past}
use Rattle.tree_terms.proofs.Joins.{join_assoc, nothing_join, count_join_no}
use Rattle.work_share.specs.Board.{BoardState, PlainEntry, SplitEntry, TaskEntry, Waits, Out, Done}
use Rattle.work_share.specs.Runs.{Run, with_entry, run_of, is_board_over}
use Rattle.work_share.specs.Fronts.{piece_of, IsRefutedPiece, AreRefuted, count_in, counted, EndsWithFirst, IsOpen}
use Rattle.work_share.specs.Fronts.{StandsAt, IsFront}
use Rattle.work_share.specs.Joining.{tokens_in, entry_tokens}
use Rattle.packing_terms.proofs.Sets.{or_true}

-- an entry that is finished with no, in front of a run
pub with_refuted : (budget : ℕ) (e : PlainEntry) (run : Run) → IsRefutedPiece (piece_of e)
    → with_entry budget e run ≡ record {
      verdict = join (No (tokens_in e) (count_in (piece_of e))) run.verdict;
      is_whole = run.is_whole;
    }
with_refuted budget (SplitEntry number path token own children) run r = refl
with_refuted budget (TaskEntry number path Waits) run r = absurd r
with_refuted budget (TaskEntry number path Out) run r = absurd r
with_refuted budget (TaskEntry number path (Done (Decided (Yes ns c)))) run r = absurd r
with_refuted budget (TaskEntry number path (Done (Decided (No ts c)))) run r = refl
with_refuted budget (TaskEntry number path (Done Past)) run r = absurd r

-- the front of a run
pub with_front : (budget : ℕ) (front rest : List PlainEntry) → AreRefuted front
    → run_of budget (front ++ rest)
    ≡ record {
      verdict = join (No (entry_tokens front) (counted front)) (run_of budget rest).verdict;
      is_whole = (run_of budget rest).is_whole;
    }
with_front budget [] rest r =
    ap (λ v. record { verdict = v; is_whole = (run_of budget rest).is_whole })
    (sym (nothing_join (run_of budget rest).verdict))
with_front budget (e ∷ front) rest r =
    with_refuted budget e (run_of budget (front ++ rest)) r.0
    ∙ (ap (λ (x : Run). record {
      verdict = join (No (tokens_in e) (count_in (piece_of e))) x.verdict;
      is_whole = x.is_whole;
    }) (with_front budget front rest r.1)
    ∙ ap (λ v. record { verdict = v; is_whole = (run_of budget rest).is_whole })
    (sym (join_assoc (No (tokens_in e) (count_in (piece_of e))) (No (entry_tokens front) (counted front))
    (run_of budget rest).verdict)))

pub run_at : (budget len : ℕ) (es : List PlainEntry) → AreRefuted (take len es)
    → run_of budget es ≡ record {
      verdict = join (No (entry_tokens (take len es)) (counted (take len es))) (run_of budget (drop len es)).verdict;
      is_whole = (run_of budget (drop len es)).is_whole;
    }
run_at budget len es r = ap (run_of budget) (sym (take-append-drop len es))
    ∙ with_front budget (take len es) (drop len es) r

-- ---- when a board is over

-- the run behind a count that ends with its first entry is whole or past the budget
ends_is_over : (budget before : ℕ) (es : List PlainEntry) → EndsWithFirst budget before es
    → ((run_of budget es).is_whole ≡ true) ⊎ (budget < before + count_of (run_of budget es).verdict)
ends_is_over budget before [] e = absurd e
ends_is_over budget before (SplitEntry number path token own children ∷ es) e =
    inr (let c = count_join_no (token ∷ []) own (run_of budget es).verdict in omega (arith, c, e))
ends_is_over budget before (TaskEntry number path Waits ∷ es) e = absurd e
ends_is_over budget before (TaskEntry number path Out ∷ es) e = absurd e
ends_is_over budget before (TaskEntry number path (Done (Decided (Yes ns c))) ∷ es) e = inl refl
ends_is_over budget before (TaskEntry number path (Done (Decided (No ts c))) ∷ es) e =
    inr (let s = count_join_no ts c (run_of budget es).verdict in omega (arith, s, e))
ends_is_over budget before (TaskEntry number path (Done Past) ∷ es) e =
    inr (let s = count_join_no [] (budget + 1) (run_of budget es).verdict in omega (arith, s))

abbrev board : List PlainEntry → Bool → BoardState
board es short = record { entries = es; is_short = short }

pub over_short : (budget : ℕ) (es : List PlainEntry) (short : Bool) → short ≡ true
    → true ≡ is_board_over budget (board es short)
over_short budget es short h =
    sym (ap (λ b. b || (run_of budget es).is_whole || ltb budget (count_of (run_of budget es).verdict)) h)

pub over_ended : (budget len count : ℕ) (es : List PlainEntry) (short ended : Bool) → IsFront budget es len count ended
    → ended ≡ true
    → true ≡ is_board_over budget (board es short)
over_ended budget len count es true ended f e = refl
over_ended budget len count es false ended f e =
    let at = run_at budget len es f.known.refuted in
    let stands : EndsWithFirst budget count (drop len es) =
    subst (λ b. StandsAt budget count b (drop len es)) e f.stands in
    sym (or_true (run_of budget es).is_whole (ltb budget (count_of (run_of budget es).verdict))
    (go at (ends_is_over budget count (drop len es) stands)))
  where
    go : run_of budget es ≡ record {
      verdict = join (No (entry_tokens (take len es)) (counted (take len es))) (run_of budget (drop len es)).verdict;
      is_whole = (run_of budget (drop len es)).is_whole;
    } → ((run_of budget (drop len es)).is_whole ≡ true)
        ⊎ (budget < count + count_of (run_of budget (drop len es)).verdict)
        → ((run_of budget es).is_whole ≡ true) ⊎ (ltb budget (count_of (run_of budget es).verdict) ≡ true)
    go at (inl w) = inl (ap (λ (r : Run). r.is_whole) at ∙ w)
    go at (inr l) = inr (lt-ltb budget (count_of (run_of budget es).verdict) (
        let c = ap (λ (r : Run). count_of r.verdict) at in
        let s = count_join_no (entry_tokens (take len es)) (counted (take len es))
        (run_of budget (drop len es)).verdict in
        let t = f.known.sum in
        omega (arith, c, s, t, l)))

not_past : (budget before : ℕ) → before ≤ budget → ltb budget (before + 0) ≡ false
not_past budget before l = grind (arith, nat_tests)

-- a run that hasn't ended is whole exactly where its front is all
open_rest : (budget before : ℕ) (es : List PlainEntry) → IsOpen es → before ≤ budget
    → ((run_of budget es).is_whole || ltb budget (before + count_of (run_of budget es).verdict)) ≡ eqb 0 (length es)
open_rest budget before [] o l = refl
open_rest budget before (SplitEntry number path token own children ∷ es) o l = absurd (cc o)
open_rest budget before (TaskEntry number path Waits ∷ es) o l =
    not_past budget before l ∙ sym (ne_eqb 0 (suc (length es)) (λ e. absurd (omega (arith, e))))
open_rest budget before (TaskEntry number path Out ∷ es) o l =
    not_past budget before l ∙ sym (ne_eqb 0 (suc (length es)) (λ e. absurd (omega (arith, e))))
open_rest budget before (TaskEntry number path (Done (Decided (Yes ns c))) ∷ es) o l = absurd (cc o)
open_rest budget before (TaskEntry number path (Done (Decided (No ts c))) ∷ es) o l = absurd (cc o)
open_rest budget before (TaskEntry number path (Done Past) ∷ es) o l = absurd (cc o)

pub over_len : (budget len count : ℕ) (es : List PlainEntry) (short ended : Bool) → IsFront budget es len count ended
    → ended ≡ false → short ≡ false
    → eqb len (length es) ≡ is_board_over budget (board es short)
over_len budget len count es short ended f e s =
    let at = run_at budget len es f.known.refuted in
    let stands : IsOpen (drop len es) = subst (λ b. StandsAt budget count b (drop len es)) e f.stands in
    let c = count_join_no (entry_tokens (take len es)) (counted (take len es)) (run_of budget (drop len es)).verdict in
    same_length ∙ (sym (open_rest budget count (drop len es) stands f.known.within)
    ∙ (sym (ap₂ (λ w n. w || ltb budget n) (ap (λ (r : Run). r.is_whole) at)
    (ap (λ (r : Run). count_of r.verdict) at
    ∙ (c ∙ ap (λ n. n + count_of (run_of budget (drop len es)).verdict) f.known.sum)))
    ∙ ap (λ b. b || (run_of budget es).is_whole || ltb budget (count_of (run_of budget es).verdict)) (sym s)))
  where
    same_length : eqb len (length es) ≡ eqb 0 (length (drop len es))
    same_length = go (cases_lt len (length es))
      where
        go : (len < length es) ⊎ (length es ≤ len) → eqb len (length es) ≡ eqb 0 (length (drop len es))
        go (inl l) =
            ne_eqb len (length es) (λ h. absurd (omega (arith, h, l)))
            ∙ sym (ne_eqb 0 (length (drop len es)) (λ h. absurd (let d = length-drop len es in omega (arith, h, d, l))))
        go (inr l) =
            eq-eqb len (length es) (let i = f.known.inside in omega (arith, i, l))
            ∙ sym (eq-eqb 0 (length (drop len es)) (let d = length-drop len es in omega (arith, d, l)))
