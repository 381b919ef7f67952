-- Where a row has no box beyond what the compositions allow, COMPOSE adds nothing.
use Rattle.std.proofs.Common.{◌≡◌, ◌≢◌, ℕ, ◌<◌, ◌⊎◌, inl, inr, refl, sym, ◌∙◌, Bool, true, false, not, ◌&&◌, ◌||◌, eqb}
use Rattle.std.proofs.Common.{List}
use Rattle.std.proofs.lemmas.Bool.{true≢false, or_cases, and_parts, ltb-true, or_parts, true_from_ne_false}
use Rattle.packing_terms.specs.declared.Rel.{Rel}
use Rattle.packing_terms.specs.declared.Rel.TheVariants.{Overlap, Before, After}
use Rattle.packing_terms.specs.declared.Exclusion.{Exclusion}
use Rattle.packing_terms.specs.Packing.{PlainInstance, box_count}
use Rattle.packing_terms.specs.Relations.{allows}
use Rattle.packing_terms.specs.Exclusions.{Exclusions, excludes}
use Rattle.packing_terms.specs.Rules.{Compose, Concludes, IsRuleInstance}
use Rattle.packing_terms.specs.Applied.{Adds, added, mirror_added}
use Rattle.packing_terms.proofs.Sets.{excludes_symmetric}
use Rattle.edge_state.specs.Edges.{is_other_box}
use Rattle.edge_state.proofs.RowBits.{eqb_false}
use Rattle.edge_state.proofs.Tables.{other_from}
use Rattle.edge_state.specs.Work.{IsCovered}
use Rattle.edge_state.specs.Rows.{may}
use Rattle.edge_state.proofs.Members.{both_on}

module _ (X : Exclusions) (i u v x : ℕ) (q s : Rel → Bool) (open_q : (r : Rel) → q r ≡ true → X i u v r ≡ false)
    (open_s : (r : Rel) → s r ≡ true → X i v x r ≡ false) where
  clash : (r a b : Rel) → Concludes X (Compose i u v x) r → allows a b r ≡ true → q a ≡ true → s b ≡ true → ⊥
  clash r a b c al ha hb = true≢false (sym al ∙ c a b (open_q a ha) (open_s b hb))

  clash_two : (r a b d : Rel) → Concludes X (Compose i u v x) r → allows a b r ≡ true → allows a d r ≡ true → q a ≡ true
      → (s b ≡ true) ⊎ (s d ≡ true) → ⊥
  clash_two r a b d c al ar ha (inl h) = clash r a b c al ha h
  clash_two r a b d c al ar ha (inr h) = clash r a d c ar ha h

  two : (r a b d : Rel) → Concludes X (Compose i u v x) r → allows a b r ≡ true → allows a d r ≡ true
      → ((s b || s d) && q a) ≡ true → ⊥
  two r a b d c al ar h = let p = and_parts _ _ h in clash_two r a b d c al ar p.1 (or_cases _ _ p.0)

  one : (r a b : Rel) → Concludes X (Compose i u v x) r → allows a b r ≡ true → (s b && q a) ≡ true → ⊥
  one r a b c al h = let p = and_parts _ _ h in clash r a b c al p.1 p.0

  clash_three : (r a : Rel) → Concludes X (Compose i u v x) r → ((b : Rel) → allows a b r ≡ true) → q a ≡ true
      → ((s Overlap || s Before) ≡ true) ⊎ (s After ≡ true) → ⊥
  clash_three r a c al ha (inl h) = clash_two r a Overlap Before c (al Overlap) (al Before) ha (or_cases _ _ h)
  clash_three r a c al ha (inr h) = clash r a After c (al After) ha h

  three : (r a : Rel) → Concludes X (Compose i u v x) r → ((b : Rel) → allows a b r ≡ true)
      → (((s Overlap || s Before) || s After) && q a) ≡ true → ⊥
  three r a c al h = let p = and_parts _ _ h in clash_three r a c al p.1 (or_cases _ _ p.0)

  same_allows : (a b : Rel) → allows a b a ≡ true
  same_allows Overlap Overlap = refl
  same_allows Overlap Before = refl
  same_allows Overlap After = refl
  same_allows Before Overlap = refl
  same_allows Before Before = refl
  same_allows Before After = refl
  same_allows After Overlap = refl
  same_allows After Before = refl
  same_allows After After = refl

  in_overlap : Concludes X (Compose i u v x) Overlap
      → (((((s Overlap || s Before) || s After) && q Overlap || (s Overlap || s After) && q Before) ≡ true)
      ⊎ (((s Overlap || s Before) && q After) ≡ true)) → ⊥
  in_overlap c (inr h) = two Overlap After Overlap Before c refl refl h
  in_overlap c (inl h) = first (or_cases _ _ h)
    where
      first : ((((s Overlap || s Before) || s After) && q Overlap) ≡ true)
          ⊎ (((s Overlap || s After) && q Before) ≡ true) → ⊥
      first (inl k) = three Overlap Overlap c (same_allows Overlap) k
      first (inr k) = two Overlap Before Overlap After c refl refl k

  in_before : Concludes X (Compose i u v x) Before
      → ((((s Overlap || s Before) && q Overlap || ((s Overlap || s Before) || s After) && q Before) ≡ true)
      ⊎ ((s Before && q After) ≡ true)) → ⊥
  in_before c (inr h) = one Before After Before c refl h
  in_before c (inl h) = first (or_cases _ _ h)
    where
      first : (((s Overlap || s Before) && q Overlap) ≡ true)
          ⊎ ((((s Overlap || s Before) || s After) && q Before) ≡ true) → ⊥
      first (inl k) = two Before Overlap Overlap Before c refl refl k
      first (inr k) = three Before Before c (same_allows Before) k

  in_after : Concludes X (Compose i u v x) After
      → ((((s Overlap || s After) && q Overlap || s After && q Before) ≡ true)
      ⊎ ((((s Overlap || s Before) || s After) && q After) ≡ true)) → ⊥
  in_after c (inr h) = three After After c (same_allows After) h
  in_after c (inl h) = first (or_cases _ _ h)
    where
      first : (((s Overlap || s After) && q Overlap) ≡ true) ⊎ ((s After && q Before) ≡ true) → ⊥
      first (inl k) = two After Overlap Overlap After c refl refl k
      first (inr k) = one After Before After c refl k

  pub none_may : (r : Rel) → Concludes X (Compose i u v x) r → may r q s ≡ true → ⊥
  none_may Overlap c h = in_overlap c (or_cases _ _ h)
  none_may Before c h = in_before c (or_cases _ _ h)
  none_may After c h = in_after c (or_cases _ _ h)

beyond_off : (a b : Bool) → a ≡ true → (a && not b) ≡ false → b ≡ true
beyond_off true true e h = refl
beyond_off true false e h = absurd (true≢false h)
beyond_off false b e h = absurd (true≢false (sym e))

-- What the row of boxes beyond the compositions doesn't have is covered.
pub covered_beyond : (instance : PlainInstance) (es : List Exclusion) (i u v x : ℕ) (here : Bool)
    (q s t : Rel → Bool) → u ≢ v
    → ((r : Rel) → q r ≡ not (excludes es i u v r))
    → ((r : Rel) → s r ≡ is_other_box (box_count instance) v x && not (excludes es i v x r))
    → ((r : Rel) → t r ≡ is_other_box (box_count instance) u x && not (excludes es i u x r))
    → here ≡ (((t Overlap && not (may Overlap q s)) || (t Before && not (may Before q s)))
    || (t After && not (may After q s))) && not (eqb x v)
    → here ≡ false → IsCovered instance (excludes es) es (Compose i u v x)
covered_beyond instance es i u v x here q s t ne hq hs ht e off = record { holds = λ j a b r add need. go j a b r add }
  where
    X : Exclusions
    X = excludes es

    not_true : (a b : Bool) → a ≡ not b → a ≡ true → b ≡ false
    not_true a true f g = absurd (true≢false (sym g ∙ f))
    not_true a false f g = refl

    other_not : (o a b : Bool) → a ≡ o && not b → a ≡ true → b ≡ false
    other_not o a true f g = absurd (true≢false (sym g ∙ (f ∙ none o)))
      where
        none : (o : Bool) → o && false ≡ false
        none true = refl
        none false = refl
    other_not o a false f g = refl

    shut : (r : Rel) → IsRuleInstance instance (Compose i u v x) → Concludes (excludes es) (Compose i u v x) r
        → excludes es i u x r ≡ false → ⊥
    shut r is c free = by_rel r c here_r (and_off r)
      where
        distinct : u ≢ x
        distinct = is.1.1.1.0

        apart : eqb x v ≡ false
        apart = eqb_false x v (λ f. is.1.2.1.0 (sym f))

        small : x < box_count instance
        small = is.1.2.2.0

        here_r : t r ≡ true
        here_r = ht r ∙ (rw (other_from (box_count instance) u x small distinct, free) refl)

        sums : (((t Overlap && not (may Overlap q s)) || (t Before && not (may Before q s)))
            || (t After && not (may After q s))) ≡ false
        sums = both_on _ (not (eqb x v)) (rw apart refl) (sym e ∙ off)

        and_off : (r : Rel) → (t r && not (may r q s)) ≡ false
        and_off Overlap = (or_parts _ _ (or_parts _ _ sums).0).0
        and_off Before = (or_parts _ _ (or_parts _ _ sums).0).1
        and_off After = (or_parts _ _ sums).1

        by_rel : (r : Rel) → Concludes (excludes es) (Compose i u v x) r → t r ≡ true
            → (t r && not (may r q s)) ≡ false → ⊥
        by_rel r c k f =
            none_may (excludes es) i u v x q s (λ r h. not_true (q r) (excludes es i u v r) (hq r) h)
            (λ r h. other_not (is_other_box (box_count instance) v x) (s r) (excludes es i v x r) (hs r) h) r c
            (beyond_off (t r) (may r q s) k f)

    go : (j a b : ℕ) (r : Rel) → Adds instance (excludes es) (Compose i u v x) j a b r → excludes es j a b r ≡ true
    go _ _ _ _ (added r is p c) = true_from_ne_false (excludes es i u x r) (shut r is c)
    go _ _ _ _ (mirror_added r is p c) =
        excludes_symmetric es i u x r (true_from_ne_false (excludes es i u x r) (shut r is c))

-- what the row has is a box
pub within_beyond : (n u v x : ℕ) (es : List Exclusion) (i : ℕ) (here : Bool) (q s t : Rel → Bool)
    → ((r : Rel) → t r ≡ is_other_box n u x && not (excludes es i u x r))
    → here ≡ (((t Overlap && not (may Overlap q s)) || (t Before && not (may Before q s)))
    || (t After && not (may After q s))) && not (eqb x v)
    → here ≡ true → x < n
within_beyond n u v x es i here q s t ht e on = go (or_cases _ _ (and_parts _ _ (sym e ∙ on)).0)
  where
    from : (r : Rel) → (t r && not (may r q s)) ≡ true → x < n
    from r h = ltb-true x n (and_parts _ _ (and_parts _ _ (sym (ht r) ∙ (and_parts _ _ h).0)).0).0

    two : ((t Overlap && not (may Overlap q s)) ≡ true) ⊎ ((t Before && not (may Before q s)) ≡ true) → x < n
    two (inl h) = from Overlap h
    two (inr h) = from Before h

    go : (((t Overlap && not (may Overlap q s)) || (t Before && not (may Before q s))) ≡ true)
        ⊎ ((t After && not (may After q s)) ≡ true) → x < n
    go (inl h) = two (or_cases _ _ h)
    go (inr h) = from After h
