-- The memory of decided sets.
use Rattle.std.proofs.Common.{◌≡◌, ℕ, suc, ◌+◌, ◌<◌, ◌≤◌, ◌⊎◌, inl, inr, refl, sym, ap, subst, ◌∙◌, arith, Bool, true}
use Rattle.std.proofs.Common.{false, ◌||◌, eqb, ltb, List, [], ◌∷◌, ◌++◌, length, get_or, cond}
use Rattle.std.proofs.Common.{Option, Some, None}
use Rattle.std.specs.List.{All, Contains}
use Rattle.std.specs.List.Sorted.{IsStrictlyIncreasing}
use Rattle.std.proofs.lemmas.List.Elements.{All-contains, All-contains_itself, All-push, All-set}
use Rattle.std.proofs.Math.ListN.{set}
use Rattle.std.proofs.lemmas.Bool.{true≢false, cases_lt, eq-eqb, or_left, ne_eqb, lt-ltb, le-ltb, ltb-true}
use Rattle.packing_terms.specs.Packing.{PlainInstance}
use Rattle.packing_terms.specs.Goals.{subset, IsBoxSet}
use Rattle.packing_terms.specs.Limits.{IsInternalInstance}
use Rattle.packing_terms.specs.Tokens.{PlainToken}
use Rattle.tree_terms.specs.Trees.{Verdict, No, PlainOutcome, Decided, Past, under_budget, count_of}
use Rattle.tree_terms.specs.OuterTrees.{set_verdict}
use Rattle.tree_terms.proofs.Decisions.{class_tree_right}
use Rattle.box_instances.proofs.Subsets.{subset_within}
use Rattle.class_search.specs.Right.{IsRight}
use Rattle.set_search.proofs.Verdicts.{decided_within}
use Rattle.set_search.specs.Memories.{has_box, HasBoxes, PlainEntry, plain_count, capped_under, Serves, IsRecalled, IsPut, IsCopied, IsVerdict}
use Rattle.set_search.specs.Memories.{AreVerdicts, IsRecalledNo, IsAppendedNo}

-- one box more
pub has_push : (vs : List ℕ) (v x : ℕ) → has_box (vs ++ v ∷ []) x ≡ has_box vs x || eqb x v
has_push [] v x = go (eqb x v)
  where
    go : (b : Bool) → b || false ≡ b
    go true = refl
    go false = refl
has_push (u ∷ vs) v x = ap (λ b. eqb x u || b) (has_push vs v x) ∙ go (eqb x u)
  where
    go : (b : Bool) → b || (has_box vs x || eqb x v) ≡ (b || has_box vs x) || eqb x v
    go true = refl
    go false = refl

-- what is left of rising numbers rises
rising_tail : (v : ℕ) (vs : List ℕ) → IsStrictlyIncreasing (v ∷ vs) → IsStrictlyIncreasing vs
rising_tail v vs r k l =
    let e : suc k + 1 ≡ suc (k + 1) = omega arith in
    let m : get_or vs k 0 < get_or (v ∷ vs) (suc k + 1) 0 = r (suc k) (omega (arith, l)) in
    subst (λ (x : ℕ). get_or vs k 0 < get_or (v ∷ vs) x 0) e m

-- rising numbers are above the first one
above_first : (v : ℕ) (vs : List ℕ) → IsStrictlyIncreasing (v ∷ vs) → (x : ℕ) → x ≤ v → has_box vs x ≡ false
above_first v [] r x l = refl
above_first v (u ∷ us) r x l =
    let m : v < u = r 0 (omega arith) in
    rw (ne_eqb x u (λ e. absurd (omega (arith, m, l, e))))
    (above_first u us (rising_tail v (u ∷ us) r) x (omega (arith, m, l)))

own_first : (v : ℕ) (vs : List ℕ) → has_box (v ∷ vs) v ≡ true
own_first v vs = or_left (eqb v v) (has_box vs v) (eq-eqb v v refl)

below_first : (x v : ℕ) (vs : List ℕ) → IsStrictlyIncreasing (v ∷ vs) → x < v → has_box (v ∷ vs) x ≡ false
below_first x v vs r l = rw (ne_eqb x v (λ e. absurd (omega (arith, l, e)))) (above_first v vs r x (omega (arith, l)))

later : (x v : ℕ) (vs : List ℕ) → v < x → has_box (v ∷ vs) x ≡ has_box vs x
later x v vs l = rw (ne_eqb x v (λ e. absurd (omega (arith, l, e)))) refl

-- lists of rising numbers with the same members have the same first one, and then the same others
same_later : (x y : ℕ) (xs ys : List ℕ) → IsStrictlyIncreasing (x ∷ xs) → IsStrictlyIncreasing (y ∷ ys) → x ≡ y
    → ((z : ℕ) → has_box (x ∷ xs) z ≡ has_box (y ∷ ys) z) → (z : ℕ) → (x < z) ⊎ (z ≤ x) → has_box xs z ≡ has_box ys z
same_later x y xs ys r s e h z (inl n) = sym (later z x xs n) ∙ (h z ∙ later z y ys (omega (arith, n, e)))
same_later x y xs ys r s e h z (inr n) = above_first x xs r z n ∙ sym (above_first y ys s z (omega (arith, n, e)))

same_first : (x y : ℕ) (xs ys : List ℕ) → IsStrictlyIncreasing (x ∷ xs) → IsStrictlyIncreasing (y ∷ ys)
    → ((z : ℕ) → has_box (x ∷ xs) z ≡ has_box (y ∷ ys) z) → (x < y) ⊎ (y ≤ x) → (y < x) ⊎ (x ≤ y)
    → (((z : ℕ) → has_box xs z ≡ has_box ys z) → xs ≡ ys) → x ∷ xs ≡ y ∷ ys
same_first x y xs ys r s h (inl l) _ rest = absurd (true≢false (sym (own_first x xs) ∙ (h x ∙ below_first x y ys s l)))
same_first x y xs ys r s h (inr _) (inl l) rest =
    absurd (true≢false (sym (own_first y ys) ∙ (sym (h y) ∙ below_first y x xs r l)))
same_first x y xs ys r s h (inr l) (inr m) rest =
    let e : x ≡ y = omega (arith, l, m) in
    let others : xs ≡ ys = rest (λ z. same_later x y xs ys r s e h z (cases_lt x z)) in
    cc

-- rising numbers that are the same set are the same list
pub one_set : (xs ys : List ℕ) → IsStrictlyIncreasing xs → IsStrictlyIncreasing ys
    → ((x : ℕ) → has_box xs x ≡ has_box ys x) → xs ≡ ys
one_set [] [] r s h = refl
one_set [] (y ∷ ys) r s h = absurd (true≢false (sym (own_first y ys) ∙ sym (h y)))
one_set (x ∷ xs) [] r s h = absurd (true≢false (sym (own_first x xs) ∙ h x))
one_set (x ∷ xs) (y ∷ ys) r s h =
    same_first x y xs ys r s h (cases_lt x y) (cases_lt y x) (one_set xs ys (rising_tail x xs r) (rising_tail y ys s))

-- an entry whose outcome is that of a set with its boxes under its budget is right
pub verdict_made : (instance : PlainInstance) (scales : Bool) (boxes keep : List ℕ) (budget : ℕ)
    (outcome : PlainOutcome)
    → HasBoxes boxes keep → IsBoxSet instance keep
    → outcome ≡ under_budget budget (set_verdict instance scales keep)
    → IsVerdict instance scales (record { boxes = boxes; budget = budget; outcome = outcome })
verdict_made instance scales boxes keep budget outcome has set e = record {
  is = λ other other_set other_has.
      e ∙ ap (λ us. under_budget budget (set_verdict instance scales us))
      (one_set keep other set.rising other_set.rising (λ x. sym (has x) ∙ other_has x));
}

-- entries are right where one that is right was put
pub verdicts_put : (instance : PlainInstance) (scales : Bool) (old new : List PlainEntry) (put : PlainEntry)
    → AreVerdicts instance scales old → IsVerdict instance scales put
    → All (IsPut old put) new
    → AreVerdicts instance scales new
verdicts_put instance scales old new put right made all k d l = go (get_or new k d) (all k d l)
  where
    go : (e : PlainEntry) → IsPut old put e → IsVerdict instance scales e
    go e (inl same) = subst (λ (x : PlainEntry). IsVerdict instance scales x) (sym same) made
    go e (inr there) = All-contains (IsVerdict instance scales) old e right there

-- entries are right where those were copied that are right
pub verdicts_copied : (instance : PlainInstance) (scales : Bool) (other old new : List PlainEntry)
    → AreVerdicts instance scales other → AreVerdicts instance scales old
    → All (IsCopied other old) new
    → AreVerdicts instance scales new
verdicts_copied instance scales other old new given right all k d l = go (get_or new k d) (all k d l)
  where
    go : (e : PlainEntry) → IsCopied other old e → IsVerdict instance scales e
    go e (inl there) = All-contains (IsVerdict instance scales) other e given there
    go e (inr there) = All-contains (IsVerdict instance scales) old e right there

none_past : (budget : ℕ) → capped_under budget Past ≡ Past
none_past budget = go (ltb budget 0)
  where
    go : (b : Bool) → cond b Past Past ≡ Past
    go true = refl
    go false = refl

-- an outcome that was found under one budget gives the outcome under another one that it serves
pub capped_under_budget : (found budget : ℕ) (v : Verdict) (r : PlainOutcome)
    → r ≡ under_budget found v → Serves r found budget
    → capped_under budget r ≡ under_budget budget v
capped_under_budget found budget v (Decided w) e serves =
    let t = decided_within found v w e in ap (under_budget budget) (sym t.same)
capped_under_budget found budget v Past e serves = go (ltb found (count_of v)) refl e
  where
    is_past : PlainOutcome → Type 0
    is_past (Decided x) = ⊥
    is_past Past = Past ≡ Past

    go : (b : Bool) → ltb found (count_of v) ≡ b → Past ≡ cond b Past (Decided v) → capped_under budget Past ≡ under_budget budget v
    go true f h =
        let l = ltb-true found (count_of v) f in
        none_past budget ∙ sym (ap (λ b. cond b Past (Decided v)) (lt-ltb budget (count_of v) (omega (arith, l, serves))))
    go false f h = absurd (subst is_past h refl)

-- the outcome under this budget, from one that was found under a greater budget or the same
pub recalled_within : (found budget : ℕ) (v : Verdict) (r s : PlainOutcome)
    → budget ≤ found → r ≡ under_budget found v → s ≡ capped_under budget r → s ≡ under_budget budget v
recalled_within found budget v r s l e h = h ∙ capped_under_budget found budget v r e (go r)
  where
    go : (x : PlainOutcome) → Serves x found budget
    go (Decided w) = tt
    go Past = l

-- what is recalled of a set is its outcome under the budget
pub recalled : (instance : PlainInstance) (scales : Bool) (entries : List PlainEntry) (boxes keep : List ℕ) (budget : ℕ)
    (r : PlainOutcome)
    → AreVerdicts instance scales entries → HasBoxes boxes keep → IsBoxSet instance keep
    → IsRecalled entries boxes budget r
    → r ≡ under_budget budget (set_verdict instance scales keep)
recalled instance scales entries boxes keep budget r right has set found =
    let v = All-contains (IsVerdict instance scales) entries found.entry right found.kept.there in
    let own = v.is keep set (subst (λ (b : List ℕ). HasBoxes b keep) (sym found.kept.same) has) in
    found.capped
    ∙ capped_under_budget found.entry.budget budget (set_verdict instance scales keep) found.entry.outcome own found.serves

-- what is recalled of a set that is kept as refuted is its verdict
pub recalled_no : (instance : PlainInstance) (scales : Bool) (entries : List PlainEntry) (boxes keep : List ℕ)
    (budget : ℕ) (bin : Option ℕ) (old new : List PlainToken) (found : Option ℕ)
    → AreVerdicts instance scales entries → HasBoxes boxes keep → IsBoxSet instance keep
    → IsRecalledNo entries boxes budget bin old new found
    → IsAppendedNo (set_verdict instance scales keep) budget bin old new found
recalled_no instance scales entries boxes keep budget bin old new None right has set e = e
recalled_no instance scales entries boxes keep budget bin old new (Some cost) right has set e =
    let v = All-contains (IsVerdict instance scales) entries e.entry right e.kept.there in
    let own = v.is keep set (subst (λ (b : List ℕ). HasBoxes b keep) (sym e.kept.same) has) in
    record {
      tokens = e.refuted.tokens;
      is = (let t = decided_within e.entry.budget (set_verdict instance scales keep) (No e.refuted.tokens cost)
          (sym e.refuted.is ∙ own) in
          t.same);
      within = e.refuted.within;
      appended = e.refuted.appended;
    }

-- the outcome of a set under a budget is right
pub recalled_right : (instance : PlainInstance) (scales : Bool) (keep : List ℕ) (budget : ℕ) (r : PlainOutcome)
    → IsInternalInstance instance → IsBoxSet instance keep
    → 1 ≤ length keep → r ≡ under_budget budget (set_verdict instance scales keep) → IsRight (subset instance keep) [] r
recalled_right instance scales keep budget r limits set some e =
    subst (λ (x : PlainOutcome). IsRight (subset instance keep) [] x) (sym e)
    (go (ltb budget (count_of (set_verdict instance scales keep))))
  where
    go : (b : Bool) → IsRight (subset instance keep) [] (cond b Past (Decided (set_verdict instance scales keep)))
    go true = tt
    go false = class_tree_right (subset instance keep) (subset_within instance keep set some limits) [] tt scales

-- an outcome under a budget: past where its count is greater, and else the same
pub capped_past : (budget : ℕ) (r : PlainOutcome) → budget < plain_count r → Past ≡ capped_under budget r
capped_past budget r l = sym (ap (λ b. cond b Past r) (lt-ltb budget (plain_count r) l))

pub capped_same : (budget : ℕ) (r : PlainOutcome) → plain_count r ≤ budget → r ≡ capped_under budget r
capped_same budget r l = sym (ap (λ b. cond b Past r) (le-ltb budget (plain_count r) l))

-- one entry more, or one in the place of another
pub kept_all : (es : List PlainEntry) (put : PlainEntry) → All (IsPut es put) es
kept_all es put k d l = inr (All-contains_itself es k d l)

pub put_behind : (es : List PlainEntry) (put : PlainEntry) → All (IsPut es put) (es ++ put ∷ [])
put_behind es put = All-push (IsPut es put) es put (kept_all es put) (inl refl)

pub put_at : (es : List PlainEntry) (k : ℕ) (put : PlainEntry) → All (IsPut es put) (set es k put)
put_at es k put = All-set (IsPut es put) es k put (inl refl) (kept_all es put)

-- the same where all entries were forgotten first
pub put_after : (old mid new : List PlainEntry) (put : PlainEntry)
    → (mid ≡ old) ⊎ (mid ≡ []) → All (IsPut mid put) new → All (IsPut old put) new
put_after old mid new put (inl same) all = subst (λ (es : List PlainEntry). All (IsPut es put) new) same all
put_after old mid new put (inr none) all =
    λ k d l. go (get_or new k d) (subst (λ (es : List PlainEntry). All (IsPut es put) new) none all k d l)
  where
    go : (e : PlainEntry) → IsPut [] put e → IsPut old put e
    go e (inl same) = inl same
    go e (inr there) = absurd (omega (arith, there.1))

-- nothing was copied, or one entry
pub copied_none : (other es : List PlainEntry) → All (IsCopied other es) es
copied_none other es k d l = inr (All-contains_itself es k d l)

pub copied_one : (other old new : List PlainEntry) (put : PlainEntry)
    → Contains other put → All (IsPut old put) new → All (IsCopied other old) new
copied_one other old new put there all k d l = go (get_or new k d) (all k d l)
  where
    go : (e : PlainEntry) → IsPut old put e → IsCopied other old e
    go e (inl same) = inl (subst (λ (x : PlainEntry). Contains other x) (sym same) there)
    go e (inr kept) = inr kept
