-- Rows of bits show what a list of exclusions leaves.
use Rattle.std.proofs.Common.{◌≡◌, ◌≢◌, ℕ, zero, suc, ◌+◌, ◌*◌, ◌/◌, ◌%◌, ◌<◌, ◌⊎◌, inl, inr, refl, sym, ap, subst, ◌∙◌}
use Rattle.std.proofs.Common.{arith, Bool, true, false, not, ◌&&◌, ◌||◌, eqb, ltb, List, [], ◌∷◌, length, get_or}
use Rattle.std.proofs.Math.ListN.{set, length-set}
use Rattle.std.proofs.lemmas.List.{get_or-set_same, get_or-set_other}
use Rattle.std.proofs.lemmas.Nat.{same_from_place, mul-add-lt, div-mul-add, mod-mul-add}
use Rattle.std.proofs.lemmas.Bool.{cases_Bool, cases_eq, and_parts, or_cases, eqb-true, eq-eqb, or_left, and_from}
use Rattle.std.proofs.lemmas.Bool.{lt-ltb, ltb-true, or_right}
use Rattle.std.proofs.Math.Bool.{and-true}
use Rattle.packing_terms.specs.declared.Rel.{Rel}
use Rattle.packing_terms.specs.declared.Rel.TheVariants.{Overlap, Before, After}
use Rattle.packing_terms.specs.declared.Exclusion.{Exclusion}
use Rattle.packing_terms.specs.Relations.{mirror}
use Rattle.packing_terms.specs.Exclusions.{is_same_rel, is_at, is_of, excludes, Exclusions, IsEdgeAmong, exclusion_at}
use Rattle.packing_terms.proofs.Sets.{mirror_twice, excludes_symmetric, same_rel, same_bool}
use Rattle.relation_table.specs.Masks.{mask_has}
use Rattle.edge_state.specs.BitRows.{row_has}
use Rattle.edge_state.specs.Edges.{is_other_box, rel_number, row_index, row_at, ShowsRows}
use Rattle.edge_state.proofs.RowBits.{eqb_false}

-- what is excluded at a pair is excluded mirrored
pub excludes_mirror : (es : List Exclusion) (i u v : ℕ) (r : Rel) → excludes es i u v (mirror r) ≡ excludes es i v u r
excludes_mirror es i u v r =
    same_bool _ _
    (λ h. subst (λ (x : Rel). excludes es i v u x ≡ true) (mirror_twice r) (excludes_symmetric es i u v (mirror r) h))
    (λ h. excludes_symmetric es i v u r h)

-- two rows with one index are one row
number_small : (r : Rel) → rel_number r < 3
number_small Overlap = omega arith
number_small Before = omega arith
number_small After = omega arith

one_number : (r s : Rel) → rel_number r ≡ rel_number s → r ≡ s
one_number Overlap Overlap e = refl
one_number Before Before e = refl
one_number After After e = refl
one_number Overlap Before e = absurd (omega (arith, e))
one_number Overlap After e = absurd (omega (arith, e))
one_number Before Overlap e = absurd (omega (arith, e))
one_number Before After e = absurd (omega (arith, e))
one_number After Overlap e = absurd (omega (arith, e))
one_number After Before e = absurd (omega (arith, e))

pub one_row : (n i u j a : ℕ) (r s : Rel) → u < n → a < n → row_index n i u r ≡ row_index n j a s
    → (i ≡ j) × (u ≡ a) × (r ≡ s)
one_row n i u j a r s hu ha e =
    let p = same_from_place (i * n + u) (rel_number r) (j * n + a) (rel_number s) 3 (number_small r)
    (number_small s) e in
    let q = same_from_place i u j a n hu ha p.0 in
    (q.0, q.1, one_number r s p.1)

pub row_within : (d n i u : ℕ) (r : Rel) → i < d → u < n → row_index n i u r < d * n * 3
row_within d n i u r hi hu =
    let h : i * n + u < n * d = mul-add-lt i n u d hi hu in
    let k : (i * n + u) * 3 + rel_number r < 3 * (n * d) =
    mul-add-lt (i * n + u) 3 (rel_number r) (n * d) h (number_small r) in
    let e : 3 * (n * d) ≡ d * n * 3 = grind arith in
    rw e at k

-- the row that an index names
pub row_of_index : (n i u : ℕ) (r : Rel) → u < n → row_index n i u r / 3 % n ≡ u
row_of_index n i u r h = rw (div-mul-add (i * n + u) 3 (rel_number r) (number_small r)) (mod-mul-add i n u h)

-- in the row of its first box an exclusion is its second box
pub is_of_first : (i u v x : ℕ) (rel : Rel) → u ≢ v → is_of (exclusion_at i u v rel) i u x rel ≡ eqb x v
is_of_first i u v x rel ne = same_bool _ _ (λ h. go (or_cases _ _ h)) back
  where
    go : (is_at (exclusion_at i u v rel) i u x rel ≡ true) ⊎ (is_at (exclusion_at i u v rel) i x u (mirror rel) ≡ true)
        → eqb x v ≡ true
    go (inl k) = eq-eqb x v (sym (eqb-true v x (and_parts _ _ (and_parts _ _ k).0).1))
    go (inr k) = absurd (ne (sym (eqb-true v u (and_parts _ _ (and_parts _ _ k).0).1)))

    own : (r : Rel) → is_same_rel r r ≡ true
    own Overlap = refl
    own Before = refl
    own After = refl

    back : eqb x v ≡ true → is_of (exclusion_at i u v rel) i u x rel ≡ true
    back h =
        let e : v ≡ x = sym (eqb-true x v h) in
        or_left (is_at (exclusion_at i u v rel) i u x rel) _
        (and_from _ _ (and_from _ _ (and_from _ _ (eq-eqb i i refl) (eq-eqb u u refl)) (eq-eqb v x e)) (own rel))

-- in the row of its second box it is its first
pub is_of_second : (i u v x : ℕ) (rel : Rel) → u ≢ v → is_of (exclusion_at i u v rel) i v x (mirror rel) ≡ eqb x u
is_of_second i u v x rel ne = same_bool _ _ (λ h. go (or_cases _ _ h)) back
  where
    go : (is_at (exclusion_at i u v rel) i v x (mirror rel) ≡ true)
        ⊎ (is_at (exclusion_at i u v rel) i x v (mirror (mirror rel)) ≡ true) → eqb x u ≡ true
    go (inl k) = absurd (ne (eqb-true u v (and_parts _ _ (and_parts _ _ (and_parts _ _ k).0).0).1))
    go (inr k) = eq-eqb x u (sym (eqb-true u x (and_parts _ _ (and_parts _ _ (and_parts _ _ k).0).0).1))

    own : (r : Rel) → is_same_rel r (mirror (mirror r)) ≡ true
    own Overlap = refl
    own Before = refl
    own After = refl

    back : eqb x u ≡ true → is_of (exclusion_at i u v rel) i v x (mirror rel) ≡ true
    back h =
        let e : u ≡ x = sym (eqb-true x u h) in
        or_right (is_at (exclusion_at i u v rel) i v x (mirror rel))
        (is_at (exclusion_at i u v rel) i x v (mirror (mirror rel)))
        (and_from _ _ (and_from _ _ (and_from _ _ (eq-eqb i i refl) (eq-eqb u x e)) (eq-eqb v v refl)) (own rel))

-- in other rows it is nothing
pub is_of_elsewhere : (n i u v j a b : ℕ) (rel r : Rel) → u < n → v < n → a < n
    → row_index n j a r ≢ row_index n i u rel → row_index n j a r ≢ row_index n i v (mirror rel)
    → is_of (exclusion_at i u v rel) j a b r ≡ false
is_of_elsewhere n i u v j a b rel r hu hv ha p q = go (cases_Bool (is_of (exclusion_at i u v rel) j a b r))
  where
    hit : (is_at (exclusion_at i u v rel) j a b r ≡ true) ⊎ (is_at (exclusion_at i u v rel) j b a (mirror r) ≡ true) → ⊥
    hit (inl k) =
        let k1 = and_parts _ _ k in
        let k2 = and_parts _ _ k1.0 in
        let k3 = and_parts _ _ k2.0 in
        let e1 : i ≡ j = eqb-true _ _ k3.0 in
        let e2 : u ≡ a = eqb-true _ _ k3.1 in
        let e3 : rel ≡ r = same_rel rel r k1.1 in
        p (rw (e1, e2, e3) refl)
    hit (inr k) =
        let k1 = and_parts _ _ k in
        let k2 = and_parts _ _ k1.0 in
        let k3 = and_parts _ _ k2.0 in
        let e1 : i ≡ j = eqb-true _ _ k3.0 in
        let e2 : v ≡ a = eqb-true _ _ k2.1 in
        let e3 : rel ≡ mirror r = same_rel rel (mirror r) k1.1 in
        let e4 : mirror rel ≡ r = ap mirror e3 ∙ mirror_twice r in
        q (rw (e1, e2, e4) refl)

    go : (is_of (exclusion_at i u v rel) j a b r ≡ true) ⊎ (is_of (exclusion_at i u v rel) j a b r ≡ false)
        → is_of (exclusion_at i u v rel) j a b r ≡ false
    go (inl h) = absurd (hit (or_cases _ _ h))
    go (inr h) = h

-- two rows are written where the exclusions differ
pub shows_set : (d n : ℕ) (rows : List (List ℕ)) (X Y : Exclusions) (i u v : ℕ) (rel : Rel) (w y : List ℕ)
    → ShowsRows d n rows X → IsEdgeAmong d n i u v
    → ((x : ℕ) → row_has w x ≡ is_other_box n u x && not (Y i u x rel))
    → ((x : ℕ) → row_has y x ≡ is_other_box n v x && not (Y i v x (mirror rel)))
    → ((j a b : ℕ) (r : Rel) → a < n → row_index n j a r ≢ row_index n i u rel
    → row_index n j a r ≢ row_index n i v (mirror rel) → Y j a b r ≡ X j a b r)
    → ShowsRows d n (set (set rows (row_index n i u rel) w) (row_index n i v (mirror rel)) y) Y
shows_set d n rows X Y i u v rel w y shows edge here there others = record {
  count = rw (
    length-set (set rows (row_index n i u rel) w) (row_index n i v (mirror rel)) y,
    length-set rows (row_index n i u rel) w,
  ) shows.count;
  has = λ j a b r hj ha. go j a b r hj ha (cases_eq (row_index n j a r) (row_index n i v (mirror rel)))
      (cases_eq (row_index n j a r) (row_index n i u rel));
}
  where
    first : row_index n i u rel < length rows
    first = omega (arith, shows.count, row_within d n i u rel edge.dim edge.first)

    second : row_index n i v (mirror rel) < length (set rows (row_index n i u rel) w)
    second = rw (length-set rows (row_index n i u rel) w)
        (omega (arith, shows.count, row_within d n i v (mirror rel) edge.dim edge.second))

    go : (j a b : ℕ) (r : Rel) → j < d → a < n
        → (row_index n j a r ≡ row_index n i v (mirror rel)) ⊎ (row_index n j a r ≡ row_index n i v (mirror rel) → ⊥)
        → (row_index n j a r ≡ row_index n i u rel) ⊎ (row_index n j a r ≡ row_index n i u rel → ⊥)
        → row_has (row_at n (set (set rows (row_index n i u rel) w) (row_index n i v (mirror rel)) y) j a r) b
        ≡ is_other_box n a b && not (Y j a b r)
    go j a b r hj ha (inl e) _ =
        let s = one_row n j a i v r (mirror rel) ha edge.second e in
        rw (s.0, s.1, s.2) (rw (get_or-set_same (set rows (row_index n i u rel) w) (row_index n i v (mirror rel)) y []
        second) (there b))
    go j a b r hj ha (inr ne) (inl e) =
        let s = one_row n j a i u r rel ha edge.first e in
        rw (get_or-set_other (set rows (row_index n i u rel) w) (row_index n i v (mirror rel))
        (row_index n j a r) y [] ne)
        (rw (s.0, s.1, s.2) (rw (get_or-set_same rows (row_index n i u rel) w [] first) (here b)))
    go j a b r hj ha (inr ne) (inr ne') =
        rw (get_or-set_other (set rows (row_index n i u rel) w) (row_index n i v (mirror rel))
        (row_index n j a r) y [] ne)
        (rw (get_or-set_other rows (row_index n i u rel) (row_index n j a r) w [] ne')
        (shows.has j a b r hj ha ∙ ap (λ z. is_other_box n a b && not z) (sym (others j a b r ha ne' ne))))

-- an element that is there, whatever stands for a missing one
pub at_any : {A : Type 0} (l : List A) (i : ℕ) (x d : A) → i < length l → x ≡ get_or l i x → get_or l i d ≡ x
at_any [] i x d h e = absurd (omega arith)
at_any (y ∷ ys) zero x d h e = sym e
at_any (y ∷ ys) (suc i) x d h e = at_any ys i x d (omega arith) e

-- another box is one that is there
pub other_from : (n u v : ℕ) → v < n → u ≢ v → is_other_box n u v ≡ true
other_from n u v h ne = rw (lt-ltb v n h, eqb_false v u (λ e. ne (sym e))) refl

pub below_none : (x : ℕ) → false ≡ ltb x 0
below_none x = go (cases_Bool (ltb x 0))
  where
    go : (ltb x 0 ≡ true) ⊎ (ltb x 0 ≡ false) → false ≡ ltb x 0
    go (inl h) = absurd (omega (arith, ltb-true x 0 h))
    go (inr h) = sym h

pub below_one_more : (x v : ℕ) → ltb x v || eqb x v ≡ ltb x (v + 1)
below_one_more x v = same_bool _ _ (λ h. forth (or_cases _ _ h)) (λ h. back (ltb-true x (v + 1) h) (cases_eq x v))
  where
    forth : (ltb x v ≡ true) ⊎ (eqb x v ≡ true) → ltb x (v + 1) ≡ true
    forth (inl h) = let l = ltb-true x v h in lt-ltb x (v + 1) (omega arith)
    forth (inr h) = let e = eqb-true x v h in lt-ltb x (v + 1) (omega arith)

    back : x < v + 1 → (x ≡ v) ⊎ (x ≡ v → ⊥) → (ltb x v || eqb x v) ≡ true
    back h (inl e) = or_right (ltb x v) (eqb x v) (eq-eqb x v e)
    back h (inr ne) = or_left (ltb x v) (eqb x v) (lt-ltb x v (omega (arith, ne)))

-- a mask from which each relation was taken that isn't kept
pub mask_kept : (m1 m2 m3 : ℕ) (o b a : Bool)
    → ((r : Rel) → mask_has m1 r ≡ mask_has 7 r && (not (is_same_rel Overlap r) || o))
    → ((r : Rel) → mask_has m2 r ≡ mask_has m1 r && (not (is_same_rel Before r) || b))
    → ((r : Rel) → mask_has m3 r ≡ mask_has m2 r && (not (is_same_rel After r) || a))
    → (mask_has m3 Overlap ≡ o) × (mask_has m3 Before ≡ b) × (mask_has m3 After ≡ a)
mask_kept m1 m2 m3 o b a h1 h2 h3 = (
  h3 Overlap ∙ (ap (λ z. z && true) (h2 Overlap ∙ (ap (λ z. z && true) (h1 Overlap) ∙ and-true o)) ∙ and-true o),
  h3 Before ∙ (ap (λ z. z && true) (h2 Before ∙ ap (λ z. z && b) (h1 Before)) ∙ and-true b),
  h3 After ∙ ap (λ z. z && a) (h2 After ∙ (ap (λ z. z && true) (h1 After))),
)
