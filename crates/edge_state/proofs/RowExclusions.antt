-- A row is its members, excluded one after another.
use Rattle.std.proofs.Common.{◌≡◌, ℕ, zero, suc, ◌<◌, ◌⊎◌, inl, inr, refl, sym, ap, subst, ◌∙◌, arith, Bool, true, false}
use Rattle.std.proofs.Common.{◌↔◌, not, cond, eqb, ◌&&◌, List, [], ◌++◌, append_assoc}
use Rattle.std.proofs.lemmas.Bool.{cases_Bool, cases_eq, eq-eqb}
use Rattle.std.proofs.Math.Bool.{and-true}
use Rattle.packing_terms.specs.declared.Rel.{Rel}
use Rattle.packing_terms.specs.declared.Exclusion.{Exclusion}
use Rattle.packing_terms.specs.Relations.{mirror}
use Rattle.packing_terms.specs.Exclusions.{excludes, exclusion_at, is_of}
use Rattle.packing_terms.specs.Closure.{IsSubset}
use Rattle.packing_terms.proofs.Sets.{mirror_twice, of_own, excludes_symmetric}
use Rattle.packing_terms.specs.Steps.{with_exclusion}
use Rattle.packing_terms.proofs.Applied.{with_cases, with_keeps, with_own}
use Rattle.edge_state.specs.RowExclusions.{with_row, IsTakenAtRow, taken_at, mirror_taken_at}
use Rattle.edge_state.proofs.Kept.{with_old, with_more}
use Rattle.edge_state.proofs.RowBits.{eqb_false}

and_false : (b : Bool) → b && false ≡ false
and_false true = refl
and_false false = refl

module _ (i u : ℕ) (r : Rel) where
  step_on : (es : List Exclusion) (p : ℕ → Bool) (n : ℕ) → p n ≡ true
      → with_row es i u r p (suc n) ≡ with_exclusion (with_row es i u r p n) (exclusion_at i u n r)
  step_on es p n h = rw h refl

  step_off : (es : List Exclusion) (p : ℕ → Bool) (n : ℕ) → p n ≡ false
      → with_row es i u r p (suc n) ≡ with_row es i u r p n
  step_off es p n h = rw h refl

  step_same : (es fs : List Exclusion) (p q : ℕ → Bool) (n : ℕ) → p n ≡ q n
      → with_row es i u r p n ≡ with_row fs i u r q n → with_row es i u r p (suc n) ≡ with_row fs i u r q (suc n)
  step_same es fs p q n e h = rw (e, h) refl

  -- a row without members
  pub row_none : (es : List Exclusion) (p : ℕ → Bool) (n : ℕ) → ((v : ℕ) → v < n → p v ≡ false)
      → with_row es i u r p n ≡ es
  row_none es p zero h = refl
  row_none es p (suc n) h = step_off es p n (h n (omega arith)) ∙ row_none es p n (λ v l. h v (omega arith))

  -- the least member comes first
  pub row_next : (es : List Exclusion) (p q : ℕ → Bool) (v n : ℕ) → v < n → p v ≡ true
      → ((x : ℕ) → x < v → p x ≡ false) → ((x : ℕ) → q x ≡ p x && not (eqb x v))
      → with_row es i u r p n ≡ with_row (with_exclusion es (exclusion_at i u v r)) i u r q n
  row_next es p q v zero l h least e = absurd (omega arith)
  row_next es p q v (suc n) l h least e = go (cases_eq n v) (λ k. row_next es p q v n k h least e)
    where
      one : List Exclusion
      one = with_exclusion es (exclusion_at i u v r)

      go : (n ≡ v) ⊎ (n ≡ v → ⊥) → (v < n → with_row es i u r p n ≡ with_row one i u r q n)
          → with_row es i u r p (suc n) ≡ with_row one i u r q (suc n)
      go (inl f) rest =
          let on : p n ≡ true = rw f h in
          let off : q n ≡ false = e n ∙ (rw (eq-eqb n v f) (and_false (p n))) in
          let none : with_row es i u r p n ≡ es = row_none es p n (λ x k. least x (omega (arith, f, k))) in
          let few : with_row one i u r q n ≡ one =
          row_none one q n (λ x k. e x ∙ ap (λ b. b && not (eqb x v)) (least x (omega (arith, f, k)))) in
          step_on es p n on
          ∙ (ap (λ fs. with_exclusion fs (exclusion_at i u n r)) none
          ∙ (ap (λ x. with_exclusion es (exclusion_at i u x r)) f ∙ sym (step_off one q n off ∙ few)))
      go (inr f) rest =
          let same : q n ≡ p n = e n ∙ (rw (eqb_false n v f) (and-true (p n))) in
          step_same es one p q n (sym same) (rest (omega (arith, f, l)))

  -- nothing is lost
  pub row_keeps : (es : List Exclusion) (p : ℕ → Bool) (n : ℕ)
      → IsSubset (excludes es) (excludes (with_row es i u r p n))
  row_keeps es p zero j a b s h = h
  row_keeps es p (suc n) j a b s h = go (p n) (row_keeps es p n j a b s h)
    where
      go : (x : Bool) → excludes (with_row es i u r p n) j a b s ≡ true
          → excludes (cond x (with_exclusion (with_row es i u r p n) (exclusion_at i u n r)) (with_row es i u r p n))
          j a b s ≡ true
      go true k = with_keeps (with_row es i u r p n) (exclusion_at i u n r) j a b s k
      go false k = k

  -- exclusions come on top
  pub row_grown : (es : List Exclusion) (p : ℕ → Bool) (n : ℕ)
      → (more : List Exclusion) × (with_row es i u r p n ≡ more ++ es)
  row_grown es p zero = ([], refl)
  row_grown es p (suc n) = go (cases_Bool (p n)) (row_grown es p n)
    where
      go : (p n ≡ true) ⊎ (p n ≡ false) → (more : List Exclusion) × (with_row es i u r p n ≡ more ++ es)
          → (more : List Exclusion) × (with_row es i u r p (suc n) ≡ more ++ es)
      go (inl h) rest =
          let one = with_more (with_row es i u r p n) (exclusion_at i u n r) in (
            one.0 ++ rest.0,
            step_on es p n h ∙ (one.1 ∙ (ap (λ fs. one.0 ++ fs) rest.1 ∙ sym (append_assoc one.0 rest.0 es))),
          )
      go (inr h) rest = (rest.0, step_off es p n h ∙ rest.1)

  -- a member that was excluded adds nothing
  stays : (es : List Exclusion) (p : ℕ → Bool) (n : ℕ) → excludes es i u n r ≡ true
      → with_row es i u r p (suc n) ≡ with_row es i u r p n
  stays es p n h = go (cases_Bool (p n))
    where
      go : (p n ≡ true) ⊎ (p n ≡ false) → with_row es i u r p (suc n) ≡ with_row es i u r p n
      go (inl k) = step_on es p n k
          ∙ with_old (with_row es i u r p n) (exclusion_at i u n r) (row_keeps es p n i u n r h)
      go (inr k) = step_off es p n k

  -- so a row is as much as its members that weren't excluded
  pub row_left : (es : List Exclusion) (p q : ℕ → Bool) (n : ℕ)
      → ((x : ℕ) → x < n → q x ≡ p x && not (excludes es i u x r)) → with_row es i u r q n ≡ with_row es i u r p n
  row_left es p q zero e = refl
  row_left es p q (suc n) e = go (cases_Bool (excludes es i u n r)) (row_left es p q n (λ x l. e x (omega arith)))
    where
      go : (excludes es i u n r ≡ true) ⊎ (excludes es i u n r ≡ false)
          → with_row es i u r q n ≡ with_row es i u r p n → with_row es i u r q (suc n) ≡ with_row es i u r p (suc n)
      go (inl h) rest =
          let off : q n ≡ false = e n (omega arith) ∙ (rw h (and_false (p n))) in
          step_off es q n off ∙ (rest ∙ sym (stays es p n h))
      go (inr h) rest =
          let same : q n ≡ p n = e n (omega arith) ∙ (rw h (and-true (p n))) in
          step_same es es q p n same rest

  -- what each member keeps, the row keeps
  pub row_each : (P : List Exclusion → Type 0) (es : List Exclusion) (p : ℕ → Bool) (n : ℕ) → P es
      → ((v : ℕ) (fs : List Exclusion) → v < n → p v ≡ true → IsSubset (excludes es) (excludes fs) → P fs
      → P (with_exclusion fs (exclusion_at i u v r)))
      → P (with_row es i u r p n)
  row_each P es p zero first each = first
  row_each P es p (suc n) first each =
      go (cases_Bool (p n)) (row_each P es p n first (λ v fs l. each v fs (omega arith)))
    where
      go : (p n ≡ true) ⊎ (p n ≡ false) → P (with_row es i u r p n) → P (with_row es i u r p (suc n))
      go (inl h) rest = subst P (sym (step_on es p n h))
          (each n (with_row es i u r p n) (omega arith) h (row_keeps es p n) rest)
      go (inr h) rest = subst P (sym (step_off es p n h)) rest

  -- what is excluded afterwards
  member_taken : (es : List Exclusion) (p : ℕ → Bool) (n v : ℕ) → v < n → p v ≡ true
      → excludes (with_row es i u r p n) i u v r ≡ true
  member_taken es p zero v l h = absurd (omega arith)
  member_taken es p (suc n) v l h = go (cases_eq v n) (λ k. member_taken es p n v k h)
    where
      go : (v ≡ n) ⊎ (v ≡ n → ⊥) → (v < n → excludes (with_row es i u r p n) i u v r ≡ true)
          → excludes (with_row es i u r p (suc n)) i u v r ≡ true
      go (inl e) rest =
          rw e (subst (λ fs. excludes fs i u n r ≡ true) (sym (step_on es p n (rw (← e) h)))
          (with_own (with_row es i u r p n) (exclusion_at i u n r)))
      go (inr ne) rest = more (p n) (rest (omega (arith, ne, l)))
        where
          more : (x : Bool) → excludes (with_row es i u r p n) i u v r ≡ true
              → excludes (cond x (with_exclusion (with_row es i u r p n) (exclusion_at i u n r)) (with_row es i u r p n))
              i u v r ≡ true
          more true k = with_keeps (with_row es i u r p n) (exclusion_at i u n r) i u v r k
          more false k = k

  pub row_takes : (es : List Exclusion) (p : ℕ → Bool) (n j a b : ℕ) (s : Rel) → IsTakenAtRow i u r p n j a b s
      → excludes (with_row es i u r p n) j a b s ≡ true
  row_takes es p n _ _ _ _ (taken_at v l h) = member_taken es p n v l h
  row_takes es p n _ _ _ _ (mirror_taken_at v l h) =
      excludes_symmetric (with_row es i u r p n) i u v r (member_taken es p n v l h)

  taken_turned : (p : ℕ → Bool) (n j a b : ℕ) (s : Rel) → IsTakenAtRow i u r p n j a b s
      → IsTakenAtRow i u r p n j b a (mirror s)
  taken_turned p n _ _ _ _ (taken_at v l h) = mirror_taken_at v l h
  taken_turned p n _ _ _ _ (mirror_taken_at v l h) =
      subst (λ (x : Rel). IsTakenAtRow i u r p n i u v x) (sym (mirror_twice r)) (taken_at v l h)

  taken_more : (p : ℕ → Bool) (n j a b : ℕ) (s : Rel) → IsTakenAtRow i u r p n j a b s
      → IsTakenAtRow i u r p (suc n) j a b s
  taken_more p n _ _ _ _ (taken_at v l h) = taken_at v (omega arith) h
  taken_more p n _ _ _ _ (mirror_taken_at v l h) = mirror_taken_at v (omega arith) h

  pub row_cases : (es : List Exclusion) (p : ℕ → Bool) (n j a b : ℕ) (s : Rel)
      → excludes (with_row es i u r p n) j a b s ≡ true
      → (excludes es j a b s ≡ true) ⊎ IsTakenAtRow i u r p n j a b s
  row_cases es p zero j a b s h = inl h
  row_cases es p (suc n) j a b s h = go (cases_Bool (p n)) (row_cases es p n j a b s)
    where
      lift : (excludes es j a b s ≡ true) ⊎ IsTakenAtRow i u r p n j a b s
          → (excludes es j a b s ≡ true) ⊎ IsTakenAtRow i u r p (suc n) j a b s
      lift (inl k) = inl k
      lift (inr k) = inr (taken_more p n j a b s k)

      split : p n ≡ true → (excludes (with_row es i u r p n) j a b s ≡ true) ⊎ (is_of (exclusion_at i u n r) j a b s ≡ true)
          → (excludes (with_row es i u r p n) j a b s ≡ true
          → (excludes es j a b s ≡ true) ⊎ IsTakenAtRow i u r p n j a b s)
          → (excludes es j a b s ≡ true) ⊎ IsTakenAtRow i u r p (suc n) j a b s
      split on (inl k) rest = lift (rest k)
      split on (inr k) rest = inr (of_own (IsTakenAtRow i u r p (suc n)) (taken_turned p (suc n))
          (exclusion_at i u n r) j a b s k (taken_at n (omega arith) on))

      go : (p n ≡ true) ⊎ (p n ≡ false)
          → (excludes (with_row es i u r p n) j a b s ≡ true
          → (excludes es j a b s ≡ true) ⊎ IsTakenAtRow i u r p n j a b s)
          → (excludes es j a b s ≡ true) ⊎ IsTakenAtRow i u r p (suc n) j a b s
      go (inl on) rest = split on
          (with_cases (with_row es i u r p n) (exclusion_at i u n r) j a b s
          (subst (λ fs. excludes fs j a b s ≡ true) (step_on es p n on) h)) rest
      go (inr off) rest = lift (rest (subst (λ fs. excludes fs j a b s ≡ true) (step_off es p n off) h))

-- exactly what was excluded, and the row with its mirrors
pub row_exactly : (i u : ℕ) (r : Rel) (es : List Exclusion) (p : ℕ → Bool) (n j a b : ℕ) (s : Rel)
    → (excludes (with_row es i u r p n) j a b s ≡ true) ↔
    ((excludes es j a b s ≡ true) ⊎ IsTakenAtRow i u r p n j a b s)
row_exactly i u r es p n j a b s = (row_cases i u r es p n j a b s, back)
  where
    back : (excludes es j a b s ≡ true) ⊎ IsTakenAtRow i u r p n j a b s
        → excludes (with_row es i u r p n) j a b s ≡ true
    back (inl k) = row_keeps i u r es p n j a b s k
    back (inr k) = row_takes i u r es p n j a b s k
