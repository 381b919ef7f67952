-- The lines of places are read as these places.
use Rattle.std.proofs.Common.{◌≡◌, ℕ, zero, suc, ◌+◌, ◌*◌, ◌/◌, ◌%◌, ◌<◌, ◌≤◌, refl, ap, sym, subst, ◌∙◌, arith, List}
use Rattle.std.proofs.Common.{◌∷◌, map, length, get_or, codes}
use Rattle.std.specs.List.{range_with_len, flat_map}
use Rattle.std.proofs.lemmas.Nat.{div-add-mod'}
use Rattle.std.proofs.Math.Nat.{mod-lt, div-lt_iff_lt-mul}
use Rattle.std.specs.Fmt.{decimal}
use Rattle.std.proofs.lemmas.List.FromFn.{length-range_with_len, get_or-range_with_len, length-map-range_with_len}
use Rattle.std.proofs.lemmas.List.FromFn.{get_or-map-range_with_len, fill_by_all}
use Rattle.packing_terms.specs.Packing.{PlainInstance, dims, box_count, place, IsPacking}
use Rattle.packing_terms.proofs.InBins.{joined_at}
use Rattle.packing_terms.proofs.Lengths.{length_parts}
use Rattle.packing_terms.specs.Sums.{below}
use Rattle.text_terms.proofs.Spelled.{AreWords, number_decimal}
use Rattle.text_terms.proofs.Back.{word_decimal}
use Rattle.verdict_terms.specs.Numbers.{max_coordinate}
use Rattle.verdict_terms.specs.Form.{AreCoordinates, ArePlaceLines, ArePlaced}
use Rattle.answer_terms.specs.Answers.{Lines, place_lines}
use Rattle.answer_terms.proofs.Filled.{AreFilled, filled_range}
use Rattle.answer_terms.proofs.OwnWritten.{IsBounded}

-- the words of numbers that are coordinates
pub coordinates_plain : (g : ℕ → ℕ) (a n : ℕ) → ((i : ℕ) → a ≤ i → i < a + n → g i ≤ max_coordinate)
    → AreWords (map (λ i. decimal (g i)) (range_with_len a n))
coordinates_plain g a zero h = tt
coordinates_plain g a (suc n) h =
    let m : g a ≤ max_coordinate = h a (omega arith) (omega arith) in
    word_decimal (g a) (omega (arith, m)) (map (λ i. decimal (g i)) (range_with_len (a + 1) n))
    (coordinates_plain g (a + 1) n (λ i p q. h i (omega arith) (omega arith)))

pub coordinates_are : (g : ℕ → ℕ) (a n : ℕ) → ((i : ℕ) → a ≤ i → i < a + n → g i ≤ max_coordinate)
    → AreCoordinates (map (λ i. decimal (g i)) (range_with_len a n)) (map g (range_with_len a n))
coordinates_are g a zero h = tt
coordinates_are g a (suc n) h =
    let m : g a ≤ max_coordinate = h a (omega arith) (omega arith) in (
      record { number = number_decimal (g a) (omega (arith, m)); least = omega arith; most = m },
      coordinates_are g (a + 1) n (λ i p q. h i (omega arith) (omega arith)),
    )

place_lines_are : (d : ℕ) (f : ℕ → ℕ → ℕ) (a n : ℕ) → ((v i : ℕ) → a ≤ v → v < a + n → i < d → f v i ≤ max_coordinate)
    → ArePlaceLines d (map (λ v. codes "place" ∷ map (λ i. decimal (f v i)) (below d)) (range_with_len a n))
    (flat_map (λ v. map (λ i. f v i) (below d)) (range_with_len a n))
place_lines_are d f a zero h = refl
place_lines_are d f a (suc n) h = (
  map (λ i. f a i) (below d),
  flat_map (λ v. map (λ i. f v i) (below d)) (range_with_len (a + 1) n),
  refl,
  record {
    numbers = map (λ i. decimal (f a i)) (below d);
    are = refl;
    count = length-map-range_with_len (λ i. decimal (f a i)) 0 d;
    are_coordinates = coordinates_are (λ i. f a i) 0 d (λ i p q. h a i (omega arith) (omega arith) (omega (arith, q)));
  },
  place_lines_are d f (a + 1) n (λ v i p q r. h v i (omega arith) (omega arith) r),
)

-- a flat list is that of its rows
pub rows_again : (d n : ℕ) (xs : List ℕ) → 1 ≤ d → length xs ≡ n * d
    → flat_map (λ v. map (λ i. get_or xs (v * d + i) 0) (below d)) (below n) ≡ xs
rows_again d n xs some count =
    fill_by_all (λ k. get_or xs k 0) (flat_map row (below n)) (n * d) 0 long each
    ∙ sym (fill_by_all (λ k. get_or xs k 0) xs (n * d) 0 count (λ k h. refl))
  where
    row : ℕ → List ℕ
    row v = map (λ i. get_or xs (v * d + i) 0) (below d)

    long : length (flat_map row (below n)) ≡ n * d
    long = length_parts row d (λ v. length-map-range_with_len (λ i. get_or xs (v * d + i) 0) 0 d) (below n)
        ∙ ap (λ m. m * d) (length-range_with_len 0 n)

    each : (k : ℕ) → k < n * d → get_or (flat_map row (below n)) k 0 ≡ get_or xs k 0
    each k h =
        let parts : k / d * d + k % d ≡ k = div-add-mod' k d in
        let short : k % d < d = mod-lt k some in
        let inside : k / d < n = (div-lt_iff_lt-mul {k = d} {x = k} {y = n} some).1 h in
        subst (λ j. get_or (flat_map row (below n)) j 0 ≡ get_or xs j 0) parts
        (joined_at row d (λ v. length-map-range_with_len (λ i. get_or xs (v * d + i) 0) 0 d) (below n) (k / d) (k % d)
        (subst (λ m. k / d < m) (sym (length-range_with_len 0 n)) inside) short
        ∙ get_or-map-range_with_len (λ i. get_or xs (get_or (below n) (k / d) 0 * d + i) 0) 0 d (k % d) (k % d) 0 short
        (omega arith)
        ∙ ap (λ v. get_or xs (v * d + k % d) 0)
        (let e = get_or-range_with_len 0 n (k / d) 0 inside in omega (arith, e)))

-- place lines of a list of rows
pub rows_placed : (d n : ℕ) (xs : List ℕ) → 1 ≤ d → length xs ≡ n * d
    → ((v i : ℕ) → v < n → i < d → get_or xs (v * d + i) 0 ≤ max_coordinate)
    → ArePlaceLines d (map (λ v. codes "place" ∷ map (λ i. decimal (get_or xs (v * d + i) 0)) (below d)) (below n)) xs
rows_placed d n xs some count small =
    subst (ArePlaceLines d (map (λ v. codes "place"
    ∷ map (λ i. decimal (get_or xs (v * d + i) 0)) (below d)) (below n)))
    (rows_again d n xs some count)
    (place_lines_are d (λ v i. get_or xs (v * d + i) 0) 0 n (λ v i p q r. small v i (omega (arith, q)) r))

pub rows_filled : (d n : ℕ) (f : ℕ → ℕ → ℕ) → ((v i : ℕ) → v < n → i < d → f v i ≤ max_coordinate)
    → AreFilled (map (λ v. codes "place" ∷ map (λ i. decimal (f v i)) (below d)) (below n))
rows_filled d n f small =
    filled_range (λ v. codes "place" ∷ map (λ i. decimal (f v i)) (below d)) 0 n
    (λ v p q. (
      (
        omega arith,
        refl,
        coordinates_plain (λ i. f v i) 0 d (λ i r s. small v i (omega (arith, q)) (omega (arith, s))),
      ),
      refl,
    ))

-- the coordinates of a packing are small
pub places_small : (instance : PlainInstance) (places : List ℕ) → IsBounded instance → IsPacking instance places
    → (v i : ℕ) → v < box_count instance → i < dims instance → place instance places v i ≤ max_coordinate
places_small instance places b p v i l m = let a = p.within v i l m in let s = b.sides i m in omega (arith, a, s)

-- the words of place lines with d dimensions and n boxes
abbrev pub rows_words : ℕ → ℕ → List ℕ → Lines
rows_words d n xs = map (λ v. codes "place" ∷ map (λ i. decimal (get_or xs (v * d + i) 0)) (below d)) (below n)

pub packing_filled : (instance : PlainInstance) (places : List ℕ) → IsBounded instance → IsPacking instance places
    → AreFilled (place_lines instance places)
packing_filled instance places b p =
    rows_filled (dims instance) (box_count instance) (λ v i. get_or places (v * dims instance + i) 0)
    (places_small instance places b p)

pub packing_placed : (instance : PlainInstance) (places : List ℕ) → 1 ≤ dims instance → IsBounded instance
    → IsPacking instance places
    → ArePlaced instance (place_lines instance places)
packing_placed instance places some b p = record {
  places = places;
  are_lines = rows_placed (dims instance) (box_count instance) places some p.count (places_small instance places b p);
  packing = p;
}
