-- What no composition leaves, by the relations of the first mask that are left.
use Rattle.std.proofs.Common.{◌≡◌, ℕ, ◌<◌, ◌⊎◌, inl, inr, refl, sym, ◌∙◌, Bool, true, false, not, ◌&&◌, ◌||◌}
use Rattle.std.proofs.lemmas.Bool.{true≢false, or_parts, or_cases, or_left, or_right, and_parts}
use Rattle.packing_terms.specs.declared.Rel.{Rel}
use Rattle.packing_terms.specs.declared.Rel.TheVariants.{Overlap, Before, After}
use Rattle.edge_state.specs.Edges.{is_other_box}
use Rattle.edge_state.proofs.Filters.{row_within}

pub kept_overlap : (qo qb qa o b a t : Bool) → (((o || b) || a) && ((qo || qb) || qa)) ≡ true
    → ((t && (not ((o || (a && qb)) || (b && qa)))) && (not qo)) ≡ false
    → (t && (not (((((o || b) || a) && qo) || ((o || a) && qb)) || ((o || b) && qa)))) ≡ false
kept_overlap true qb qa true b a true h0 h1 = refl
kept_overlap false true qa true b a true h0 h1 = refl
kept_overlap false false true true b a true h0 h1 = refl
kept_overlap false false false true b a true h0 h1 = absurd (true≢false (sym h0))
kept_overlap true qb qa false true a true h0 h1 = refl
kept_overlap false true qa false true true true h0 h1 = refl
kept_overlap false false true false true true true h0 h1 = refl
kept_overlap false false false false true true true h0 h1 = absurd (true≢false (sym h0))
kept_overlap false qb true false true false true h0 h1 = refl
kept_overlap false qb false false true false true h0 h1 = absurd (true≢false h1)
kept_overlap true qb qa false false true true h0 h1 = refl
kept_overlap false true qa false false true true h0 h1 = refl
kept_overlap false false qa false false true true h0 h1 = absurd (true≢false h1)
kept_overlap qo qb qa false false false true h0 h1 = absurd (true≢false (sym h0))
kept_overlap qo qb qa o b a false h0 h1 = refl

pub kept_before : (qo qb qa o b a t : Bool) → (((o || b) || a) && ((qo || qb) || qa)) ≡ true
    → ((t && (not ((o && qo) || b))) && (not qb)) ≡ false
    → (t && (not ((((o || b) && qo) || (((o || b) || a) && qb)) || (b && qa)))) ≡ false
kept_before true qb qa true b a true h0 h1 = refl
kept_before false true qa true b a true h0 h1 = refl
kept_before false false true true true a true h0 h1 = refl
kept_before false false false true true a true h0 h1 = absurd (true≢false (sym h0))
kept_before false false qa true false a true h0 h1 = absurd (true≢false h1)
kept_before true qb qa false true a true h0 h1 = refl
kept_before false true qa false true a true h0 h1 = refl
kept_before false false true false true a true h0 h1 = refl
kept_before false false false false true a true h0 h1 = absurd (true≢false (sym h0))
kept_before qo true qa false false true true h0 h1 = refl
kept_before qo false qa false false true true h0 h1 = absurd (true≢false h1)
kept_before qo qb qa false false false true h0 h1 = absurd (true≢false (sym h0))
kept_before qo qb qa o b a false h0 h1 = refl

pub kept_after : (qo qb qa o b a t : Bool) → (((o || b) || a) && ((qo || qb) || qa)) ≡ true
    → ((t && (not ((o && qo) || a))) && (not qa)) ≡ false
    → (t && (not ((((o || a) && qo) || (a && qb)) || (((o || b) || a) && qa)))) ≡ false
kept_after true qb qa true b a true h0 h1 = refl
kept_after false true qa true b true true h0 h1 = refl
kept_after false false true true b true true h0 h1 = refl
kept_after false false false true b true true h0 h1 = absurd (true≢false (sym h0))
kept_after false qb true true b false true h0 h1 = refl
kept_after false qb false true b false true h0 h1 = absurd (true≢false h1)
kept_after true qb qa false b true true h0 h1 = refl
kept_after false true qa false b true true h0 h1 = refl
kept_after false false true false true true true h0 h1 = refl
kept_after false false false false true true true h0 h1 = absurd (true≢false (sym h0))
kept_after false false true false false true true h0 h1 = refl
kept_after false false false false false true true h0 h1 = absurd (true≢false (sym h0))
kept_after qo qb true false true false true h0 h1 = refl
kept_after qo qb false false true false true h0 h1 = absurd (true≢false h1)
kept_after qo qb qa false false false true h0 h1 = absurd (true≢false (sym h0))
kept_after qo qb qa o b a false h0 h1 = refl

and_false : (a : Bool) → (a && false) ≡ false
and_false true = refl
and_false false = refl

-- some relation is in the mask
pub any_of : (f : Rel → Bool) (r : Rel) → f r ≡ true → ((f Overlap || f Before) || f After) ≡ true
any_of f Overlap h = or_left _ _ (or_left _ _ h)
any_of f Before h = or_left _ _ (or_right _ _ h)
any_of f After h = or_right _ _ h

-- where the rows of the cases have no box and its mask isn't empty, no relation is left out
pub none_left_out : (qo qb qa o b a to tb ta k : Bool)
    → (k ≡ false → (((o || b) || a) && ((qo || qb) || qa)) ≡ true)
    → (((to && not ((o || (a && qb)) || (b && qa))) && not qo) || ((tb && not ((o && qo) || b)) && not qb))
    || ((ta && not ((o && qo) || a)) && not qa) ≡ false
    → (((to && not (((((o || b) || a) && qo) || ((o || a) && qb)) || ((o || b) && qa)))
    || (tb && not ((((o || b) && qo) || (((o || b) || a) && qb)) || (b && qa))))
    || (ta && not ((((o || a) && qo) || (a && qb)) || (((o || b) || a) && qa)))) && not k ≡ false
none_left_out qo qb qa o b a to tb ta true some h = and_false _
none_left_out qo qb qa o b a to tb ta false some h =
    let cases = or_parts _ _ h in
    let firsts = or_parts _ _ cases.0 in
    let e0 = kept_overlap qo qb qa o b a to (some refl) firsts.0 in
    let e1 = kept_before qo qb qa o b a tb (some refl) firsts.1 in
    let e2 = kept_after qo qb qa o b a ta (some refl) cases.1 in
    rw (e0, e1, e2) refl

-- what is found is a box
pub within_found : (n u x : ℕ) (to tb ta xo xb xa mo mb ma wo wb : Bool) (wa lo lb la : Bool)
    → to ≡ is_other_box n u x && xo → tb ≡ is_other_box n u x && xb → ta ≡ is_other_box n u x && xa
    → lo ≡ (to && not mo) && wo → lb ≡ (tb && not mb) && wb → la ≡ (ta && not ma) && wa
    → (found : Bool) → found ≡ (lo || lb) || la → found ≡ true → x < n
within_found n u x to tb ta xo xb xa mo mb ma wo wb wa lo lb la ho hb ha eo eb ea found e on =
    three (or_cases _ _ (sym e ∙ on))
  where
    from : (t y m w : Bool) → t ≡ is_other_box n u x && y → ((t && not m) && w) ≡ true → x < n
    from t y m w ht on = row_within n u x y t ht (and_parts _ _ (and_parts _ _ on).0).0

    two : (lo ≡ true) ⊎ (lb ≡ true) → x < n
    two (inl p) = from to xo mo wo ho (sym eo ∙ p)
    two (inr p) = from tb xb mb wb hb (sym eb ∙ p)

    three : ((lo || lb) ≡ true) ⊎ (la ≡ true) → x < n
    three (inl p) = two (or_cases _ _ p)
    three (inr p) = from ta xa ma wa ha (sym ea ∙ p)
