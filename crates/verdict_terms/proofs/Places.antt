-- The verdict on places says what they are, and no other does.
use Rattle.std.proofs.Common.{◌≡◌, ℕ, ◌+◌, ◌-◌, ◌*◌, ◌<◌, ◌≤◌, ◌⊎◌, inl, inr, refl, sym, ap, ap₂, subst, ◌∙◌, arith}
use Rattle.std.proofs.Common.{true, false, List, map, length, Option, Some, None}
use Rattle.std.specs.Prelude.{◌↔◌, nat_le}
use Rattle.std.specs.List.{find, list_any, range_with_len}
use Rattle.std.proofs.lemmas.Bool.{true≢false, cases_order, ltb-true, ltb-false, leb-true, le-leb, or_cases, or_left}
use Rattle.std.proofs.lemmas.Bool.{or_right, not-true, not-false}
use Rattle.packing_terms.specs.Packing.{PlainInstance, dims, box_count, kerf, written_container, written_side, place}
use Rattle.packing_terms.specs.Packing.{AreApart}
use Rattle.packing_terms.proofs.Members.{IsIn, any_at, any_from, in_map, map_in, in_flat_map, flat_map_in, in_range}
use Rattle.packing_terms.proofs.Members.{range_in}
use Rattle.packing_terms.proofs.Found.{find_some, find_none}
use Rattle.verdict_terms.specs.declared.check_answers.PlaceVerdict.{PlaceVerdict}
use Rattle.verdict_terms.specs.declared.check_answers.PlaceVerdict.TheVariants.{Good, Outside, Overlap}
use Rattle.verdict_terms.specs.Placing.{box_dims, box_pairs, leaves, is_apart_in, overlaps, verdict_by, place_verdict}
use Rattle.verdict_terms.specs.Tested.{LiesWithin, IsFirstOutside, IsFirstOverlap, TellsOfPlaces}
use Rattle.verdict_terms.proofs.Firsts.{IsEarlier, never_itself, find_first, rows_ordered}

module _ (instance : PlainInstance) (places : List ℕ) where
  dim_in : (v i : ℕ) → v < box_count instance → i < dims instance → IsIn (v, i) (box_dims instance)
  dim_in v i h k =
      in_flat_map (λ v. map (λ i. (v, i)) (range_with_len 0 (dims instance))) v (v, i)
      (range_with_len 0 (box_count instance))
      (in_range 0 (box_count instance) v (omega arith) (omega arith))
      (in_map (λ i. (v, i)) i (range_with_len 0 (dims instance))
      (in_range 0 (dims instance) i (omega arith) (omega arith)))

  in_dim : (p : ℕ × ℕ) → IsIn p (box_dims instance) → (p.0 < box_count instance) × (p.1 < dims instance)
  in_dim p i =
      let f = flat_map_in (λ v. map (λ i. (v, i)) (range_with_len 0 (dims instance))) p
      (range_with_len 0 (box_count instance)) i in
      let m = map_in (λ i. (f.0, i)) p (range_with_len 0 (dims instance)) f.2 in
      let r = range_in 0 (box_count instance) f.0 f.1 in
      let s = range_in 0 (dims instance) m.0 m.1 in
      let a : p.0 ≡ f.0 = ap (λ q. q.0) m.2 in
      let b : p.1 ≡ m.0 = ap (λ q. q.1) m.2 in
      let x = r.1 in
      let y = s.1 in
      (omega (arith, a, x), omega (arith, b, y))

  pair_in : (u v : ℕ) → u < v → v < box_count instance → IsIn (u, v) (box_pairs instance)
  pair_in u v h k =
      in_flat_map (λ u. map (λ v. (u, v)) (range_with_len (u + 1) (box_count instance - (u + 1)))) u (u, v)
      (range_with_len 0 (box_count instance))
      (in_range 0 (box_count instance) u (omega arith) (omega arith))
      (in_map (λ v. (u, v)) v (range_with_len (u + 1) (box_count instance - (u + 1)))
      (in_range (u + 1) (box_count instance - (u + 1)) v (omega arith) (omega arith)))

  in_pair : (p : ℕ × ℕ) → IsIn p (box_pairs instance) → (p.0 < p.1) × (p.1 < box_count instance)
  in_pair p i =
      let f = flat_map_in (λ u. map (λ v. (u, v)) (range_with_len (u + 1) (box_count instance - (u + 1)))) p
      (range_with_len 0 (box_count instance)) i in
      let m = map_in (λ v. (f.0, v)) p (range_with_len (f.0 + 1) (box_count instance - (f.0 + 1))) f.2 in
      let r = range_in 0 (box_count instance) f.0 f.1 in
      let s = range_in (f.0 + 1) (box_count instance - (f.0 + 1)) m.0 m.1 in
      let a : p.0 ≡ f.0 = ap (λ q. q.0) m.2 in
      let b : p.1 ≡ m.0 = ap (λ q. q.1) m.2 in
      let x = r.1 in
      let y = s.0 in
      let z = s.1 in
      (omega (arith, a, b, y), omega (arith, b, x, z))

  lies : (v i : ℕ) → leaves instance places (v, i) ≡ false → LiesWithin instance places v i
  lies v i e = ltb-false (written_container instance i) (place instance places v i + written_side instance v i) e

  apart : (u v : ℕ) → overlaps instance places (u, v) ≡ false → AreApart instance places u v
  apart u v e =
      let a = any_from (is_apart_in instance places (u, v)) (range_with_len 0 (dims instance))
      (not-false (list_any (is_apart_in instance places (u, v)) (range_with_len 0 (dims instance))) e) in
      let r = range_in 0 (dims instance) a.item a.is_in in
      let x = r.1 in
      (a.item, omega (arith, x), go a.item (or_cases _ _ a.passes))
    where
      go : (i : ℕ) → (nat_le (place instance places u i + written_side instance u i + kerf instance i)
          (place instance places v i) ≡ true)
          ⊎ (nat_le (place instance places v i + written_side instance v i + kerf instance i)
          (place instance places u i) ≡ true)
          → (place instance places u i + written_side instance u i + kerf instance i ≤ place instance places v i)
          ⊎ (place instance places v i + written_side instance v i + kerf instance i ≤ place instance places u i)
      go i (inl h) = inl (leb-true _ _ h)
      go i (inr h) = inr (leb-true _ _ h)

  crosses : (u v : ℕ) → overlaps instance places (u, v) ≡ true → ¬ AreApart instance places u v
  crosses u v e d =
      true≢false (sym (any_at (is_apart_in instance places (u, v)) d.0 (range_with_len 0 (dims instance))
      (in_range 0 (dims instance) d.0 (omega arith) (let h = d.1 in omega (arith, h))) (go d.0 d.2))
      ∙ not-true (list_any (is_apart_in instance places (u, v)) (range_with_len 0 (dims instance))) e)
    where
      go : (i : ℕ) → (place instance places u i + written_side instance u i + kerf instance i ≤ place instance places v
          i) ⊎ (place instance places v i + written_side instance v i + kerf instance i ≤ place instance places u i)
          → is_apart_in instance places (u, v) i ≡ true
      go i (inl h) = or_left _ _ (le-leb _ _ h)
      go i (inr h) = or_right _ _ (le-leb _ _ h)

  module _ (count : length places ≡ box_count instance * dims instance) where
    told : TellsOfPlaces instance places (place_verdict instance places)
    told = go (find (leaves instance places) (box_dims instance))
        (find (overlaps instance places) (box_pairs instance)) refl refl
      where
        within : find (leaves instance places) (box_dims instance) ≡ None → (v i : ℕ) → v < box_count instance
            → i < dims instance → LiesWithin instance places v i
        within e v i h k = lies v i (find_none (leaves instance places) (box_dims instance) e (v, i) (dim_in v i h k))

        outside : (v i : ℕ) → find (leaves instance places) (box_dims instance) ≡ Some (v, i)
            → IsFirstOutside instance places v i
        outside v i e =
            let f = find_some (leaves instance places) (box_dims instance) (v, i) e in
            let there = in_dim (v, i) f.0 in
            let first : (u j : ℕ) → u < box_count instance → j < dims instance → IsEarlier (u, j) (v, i)
            → leaves instance places (u, j) ≡ false =
            λ u j h k s. find_first IsEarlier (leaves instance places) (box_dims instance) (v, i) (u, j)
            (rows_ordered (λ u. 0) (λ u. dims instance) 0 (box_count instance)) (never_itself (v, i)) e
            (dim_in u j h k) s in
            let x = there.0 in
            let y = there.1 in
            record {
              box_there = there.0;
              dim_there = there.1;
              leaves = ltb-true (written_container instance i)
                  (place instance places v i + written_side instance v i) f.1;
              earlier = λ u j h k. lies u j (first u j (omega (arith, h, x)) k (inl h));
              before = λ j h. lies v j (first v j x (omega (arith, h, y)) (inr (refl, h)));
            }

        overlap : (u v : ℕ) → find (leaves instance places) (box_dims instance) ≡ None
            → find (overlaps instance places) (box_pairs instance) ≡ Some (u, v) → IsFirstOverlap instance places u v
        overlap u v n e =
            let f = find_some (overlaps instance places) (box_pairs instance) (u, v) e in
            let there = in_pair (u, v) f.0 in
            let first : (x y : ℕ) → x < y → y < box_count instance → IsEarlier (x, y) (u, v)
            → overlaps instance places (x, y) ≡ false =
            λ x y h k s. find_first IsEarlier (overlaps instance places) (box_pairs instance) (u, v) (x, y)
            (rows_ordered (λ u. u + 1) (λ u. box_count instance - (u + 1)) 0 (box_count instance)) (never_itself (u, v))
            e (pair_in x y h k) s in
            let b = there.1 in
            record {
              inside = within n;
              rising = there.0;
              there = there.1;
              overlap = crosses u v f.1;
              earlier = λ x y h k l. apart x y (first x y k l (inl h));
              before = λ y h k. apart u y (first u y h (omega (arith, k, b)) (inr (refl, k)));
            }

        go : (p q : Option (ℕ × ℕ)) → find (leaves instance places) (box_dims instance) ≡ p
            → find (overlaps instance places) (box_pairs instance) ≡ q
            → TellsOfPlaces instance places (verdict_by p q)
        go (Some (v, i)) q e f = outside v i e
        go None (Some (u, v)) e f = overlap u v e f
        go None None e f = record {
          count = count;
          within = within e;
          apart = λ u v h k. apart u v (find_none (overlaps instance places) (box_pairs instance) f (u, v)
              (pair_in u v h k));
        }

  same_outside : (v i w j : ℕ) → IsFirstOutside instance places v i → IsFirstOutside instance places w j
      → Outside v i ≡ Outside w j
  same_outside v i w j a b = go (cases_order v w) (cases_order i j)
    where
      stuck : (x y : ℕ) → written_container instance y < place instance places x y + written_side instance x y
          → LiesWithin instance places x y → ⊥
      stuck x y h k = absurd (omega (arith, h, k))

      go : (v ≡ w) ⊎ ((v < w) ⊎ (w < v)) → (i ≡ j) ⊎ ((i < j) ⊎ (j < i)) → Outside v i ≡ Outside w j
      go (inr (inl h)) s = absurd (stuck v i a.leaves (b.earlier v i h a.dim_there))
      go (inr (inr h)) s = absurd (stuck w j b.leaves (a.earlier w j h b.dim_there))
      go (inl e) (inl f) = ap₂ (λ x y. Outside x y) e f
      go (inl e) (inr (inl h)) = absurd
          (stuck v i a.leaves (subst (λ x. LiesWithin instance places x i) (sym e) (b.before i h)))
      go (inl e) (inr (inr h)) = absurd
          (stuck w j b.leaves (subst (λ x. LiesWithin instance places x j) e (a.before j h)))

  same_overlap : (u v x y : ℕ) → IsFirstOverlap instance places u v → IsFirstOverlap instance places x y
      → Overlap u v ≡ Overlap x y
  same_overlap u v x y a b = go (cases_order u x) (cases_order v y)
    where
      go : (u ≡ x) ⊎ ((u < x) ⊎ (x < u)) → (v ≡ y) ⊎ ((v < y) ⊎ (y < v)) → Overlap u v ≡ Overlap x y
      go (inr (inl h)) s = absurd (a.overlap (b.earlier u v h a.rising a.there))
      go (inr (inr h)) s = absurd (b.overlap (a.earlier x y h b.rising b.there))
      go (inl e) (inl f) = ap₂ (λ p q. Overlap p q) e f
      go (inl e) (inr (inl h)) = absurd
          (a.overlap (subst (λ p. AreApart instance places p v) (sym e) (b.before v (subst (λ p. p < v) e a.rising) h)))
      go (inl e) (inr (inr h)) = absurd
          (b.overlap (subst (λ p. AreApart instance places p y) e (a.before y (subst (λ p. p < y) (sym e) b.rising) h)))

  -- of two verdicts that say what the places are, neither differs
  agree : (p q : PlaceVerdict) → TellsOfPlaces instance places p → TellsOfPlaces instance places q → p ≡ q
  agree Good Good a b = refl
  agree Good (Outside v i) a b =
      absurd (let h = a.within v i b.box_there b.dim_there in let k = b.leaves in omega (arith, h, k))
  agree Good (Overlap u v) a b = absurd (b.overlap (a.apart u v b.rising b.there))
  agree (Outside v i) Good a b =
      absurd (let h = b.within v i a.box_there a.dim_there in let k = a.leaves in omega (arith, h, k))
  agree (Outside v i) (Outside w j) a b = same_outside v i w j a b
  agree (Outside v i) (Overlap x y) a b =
      absurd (let h = b.inside v i a.box_there a.dim_there in let k = a.leaves in omega (arith, h, k))
  agree (Overlap u v) Good a b = absurd (a.overlap (b.apart u v a.rising a.there))
  agree (Overlap u v) (Outside w j) a b =
      absurd (let h = a.inside w j b.box_there b.dim_there in let k = b.leaves in omega (arith, h, k))
  agree (Overlap u v) (Overlap x y) a b = same_overlap u v x y a b

pub places_tested : (instance : PlainInstance) (places : List ℕ) (verdict : PlaceVerdict)
    → length places ≡ box_count instance * dims instance
    → (place_verdict instance places ≡ verdict) ↔ TellsOfPlaces instance places verdict
places_tested instance places verdict count = (
  λ e. subst (λ w. TellsOfPlaces instance places w) e (told instance places count),
  λ t. agree instance places (place_verdict instance places) verdict (told instance places count) t,
)
