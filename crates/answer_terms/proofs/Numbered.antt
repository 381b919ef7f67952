-- The lines of bins and of taken boxes are read as the numbers of an answer.
use Rattle.std.proofs.Common.{◌≡◌, ℕ, zero, suc, ◌+◌, ◌*◌, ◌/◌, ◌<◌, ◌≤◌, refl, ap, ap₂, sym, subst, ◌∙◌, arith, true}
use Rattle.std.proofs.Common.{false, List, ◌∷◌, map, length, get_or, codes}
use Rattle.std.specs.Prelude.{◌==◌, slice_index_or}
use Rattle.std.specs.List.{range_with_len, flat_map, list_all, list_any, position_or_len}
use Rattle.std.specs.Fmt.{decimal}
use Rattle.std.proofs.Math.Nat.{mul-div_cancel}
use Rattle.std.proofs.lemmas.Bool.{eq-eqb, eqb-true}
use Rattle.std.proofs.lemmas.List.{length-map}
use Rattle.std.proofs.lemmas.List.FromFn.{length-range_with_len, get_or-range_with_len, length-map-range_with_len}
use Rattle.std.proofs.lemmas.List.FromFn.{get_or-map-range_with_len, fill_by_all}
use Rattle.packing_terms.specs.Packing.{PlainInstance, dims, box_count, place, no_box, IsPacking}
use Rattle.packing_terms.specs.Goals.{subset, in_bin, places_of, IsBinPacking, IsBoxSet}
use Rattle.packing_terms.proofs.InBins.{joined_at, place_of}
use Rattle.packing_terms.proofs.Members.{any_at, in_filter, in_range, IsIn}
use Rattle.packing_terms.proofs.Lengths.{length_parts}
use Rattle.packing_terms.specs.Sums.{below}
use Rattle.tree_terms.specs.OuterTrees.{coordinates_at, choice_numbers}
use Rattle.tree_terms.specs.OuterSearch.{bins_in, places_in, AreBinNumbers, AreTakenNumbers}
use Rattle.tree_terms.proofs.BinNumbers.{index_found}
use Rattle.text_terms.specs.Texts.{is_none}
use Rattle.text_terms.proofs.Spelled.{AreWords, is_plain, number_decimal}
use Rattle.text_terms.proofs.Back.{word_decimal}
use Rattle.verdict_terms.specs.Numbers.{max_coordinate}
use Rattle.verdict_terms.specs.Form.{AreNumberedLines, AreShared, AreTaken}
use Rattle.answer_terms.specs.Answers.{Lines, bin_lines, take_lines}
use Rattle.answer_terms.proofs.Filled.{AreFilled, filled_range}
use Rattle.answer_terms.proofs.OwnWritten.{IsBounded}
use Rattle.answer_terms.proofs.Placed.{coordinates_plain, coordinates_are, rows_again}

-- a line of a first word, one number more than is meant, and d coordinates
abbrev line_of_row : List ℕ → ℕ → (ℕ → ℕ) → (ℕ → ℕ → ℕ) → ℕ → List (List ℕ)
line_of_row key d g f v = key ∷ decimal (suc (g v)) ∷ map (λ i. decimal (f v i)) (below d)

-- each of n lines has a number below the most, and coordinates
record AreSmall (most d n : ℕ) (g : ℕ → ℕ) (f : ℕ → ℕ → ℕ) : Type 0 where
  pub few : most ≤ max_coordinate
  pub numbers : (v : ℕ) → v < n → g v < most
  pub coordinates : (v i : ℕ) → v < n → i < d → f v i ≤ max_coordinate

numbered_are : (key : List ℕ) (most d m : ℕ) (g : ℕ → ℕ) (f : ℕ → ℕ → ℕ) (a n : ℕ) → a + n ≤ m → AreSmall most d m g f
    → AreNumberedLines key most d (map (line_of_row key d g f) (range_with_len a n)) (map g (range_with_len a n))
    (flat_map (λ v. map (λ i. f v i) (below d)) (range_with_len a n))
numbered_are key most d m g f a zero l small = refl
numbered_are key most d m g f a (suc n) l small =
    let few = small.few in
    let number = small.numbers a (omega (arith, l)) in (
      map (λ i. f a i) (below d),
      flat_map (λ v. map (λ i. f v i) (below d)) (range_with_len (a + 1) n),
      refl,
      record {
        number = decimal (suc (g a));
        numbers = map (λ i. decimal (f a i)) (below d);
        are = refl;
        count = length-map-range_with_len (λ i. decimal (f a i)) 0 d;
        is_number = record {
          number = number_decimal (suc (g a)) (omega (arith, few, number));
          least = omega arith;
          most = omega (arith, number);
        };
        are_coordinates = coordinates_are (λ i. f a i) 0 d
            (λ i p q. small.coordinates a i (omega (arith, l)) (omega (arith, q)));
      },
      numbered_are key most d m g f (a + 1) n (omega (arith, l)) small,
    )

numbered_filled : (key : List ℕ) (most d n : ℕ) (g : ℕ → ℕ) (f : ℕ → ℕ → ℕ) → 0 < length key
    → list_all is_plain key ≡ true → AreSmall most d n g f
    → AreFilled (map (line_of_row key d g f) (below n))
numbered_filled key most d n g f some plain small = filled_range (line_of_row key d g f) 0 n each
  where
    each : (v : ℕ) → 0 ≤ v → v < 0 + n → AreWords (line_of_row key d g f v)
        × (is_none (line_of_row key d g f v) ≡ false)
    each v p q =
        let few = small.few in
        let number = small.numbers v (omega (arith, q)) in (
          (
            some,
            plain,
            word_decimal (suc (g v)) (omega (arith, few, number)) (map (λ i. decimal (f v i)) (below d))
                (coordinates_plain (λ i. f v i) 0 d
                (λ i r s. small.coordinates v i (omega (arith, q)) (omega (arith, s)))),
          ),
          refl,
        )

-- ---- bins

-- the coordinates of a box of a set are small
kept_place_small : (instance : PlainInstance) (keep places : List ℕ) (v i : ℕ) → IsBounded instance
    → IsPacking (subset instance keep) (places_of instance places keep)
    → list_any (λ u. u == v) keep ≡ true → i < dims instance → place instance places v i ≤ max_coordinate
kept_place_small instance keep places v i b p here m =
    let found = index_found (λ u. u == v) keep 0 here in
    let l = found.0 in
    let same : get_or keep (position_or_len (λ u. u == v) keep) 0 ≡ v = eqb-true _ _ found.1 in
    let n = length-map keep (λ u. slice_index_or instance.boxes u no_box) in
    let inside = p.within (position_or_len (λ u. u == v) keep) i (omega (arith, l, n)) m in
    let moved = place_of instance places keep (position_or_len (λ u. u == v) keep) i l m in
    let s = b.sides i m in
    subst (λ u. place instance places u i ≤ max_coordinate) same (omega (arith, inside, moved, s))

-- each box stands in its bin
bin_place_small : (instance : PlainInstance) (k : ℕ) (bins places : List ℕ) → IsBounded instance
    → IsBinPacking instance k bins places
    → (v i : ℕ) → v < box_count instance → i < dims instance → place instance places v i ≤ max_coordinate
bin_place_small instance k bins places b p v i l m =
    let count = p.count in
    let here : IsIn v (in_bin bins (get_or bins v 0)) =
    in_filter (λ u. get_or bins u 0 == get_or bins v 0) v (range_with_len 0 (length bins))
    (in_range 0 (length bins) v (omega arith) (omega (arith, l, count)))
    (eq-eqb (get_or bins v 0) (get_or bins v 0) refl) in
    kept_place_small instance (in_bin bins (get_or bins v 0)) places v i b
    (p.packed (get_or bins v 0) (p.numbers v 0 (omega (arith, l, count))))
    (any_at (λ u. u == v) v (in_bin bins (get_or bins v 0)) here (eq-eqb v v refl)) m

abbrev bin_number : PlainInstance → List ℕ → ℕ → ℕ
bin_number instance numbers v = get_or numbers (v * (dims instance + 1)) 0

abbrev bin_place : PlainInstance → List ℕ → ℕ → ℕ → ℕ
bin_place instance numbers v i = get_or numbers (v * (dims instance + 1) + (1 + i)) 0

bins_small : (instance : PlainInstance) (k : ℕ) (numbers : List ℕ) → IsBounded instance → k ≤ box_count instance
    → AreBinNumbers instance k numbers
    → AreSmall k (dims instance) (box_count instance) (bin_number instance numbers) (bin_place instance numbers)
bins_small instance k numbers b few shown = record {
  few = (let n = b.boxes in omega (arith, few, n));
  numbers = λ v l. subst (λ x. x < k)
      (get_or-map-range_with_len (bin_number instance numbers) 0 (box_count instance) v v 0 l (omega arith))
      (shown.packing.numbers v 0 (let n = length-map-range_with_len (bin_number instance numbers) 0
      (box_count instance) in omega (arith, l, n)));
  coordinates = λ v i l m. subst (λ x. x ≤ max_coordinate) (at_place v i l m)
      (bin_place_small instance k (bins_in instance numbers) (places_in instance numbers) b shown.packing v i l m);
}
  where
    at_place : (v i : ℕ) → v < box_count instance → i < dims instance → place instance (places_in instance numbers) v i
        ≡ bin_place instance numbers v i
    at_place v i l m =
        joined_at (λ u. map (λ j. bin_place instance numbers u j) (below (dims instance))) (dims instance)
        (λ u. length-map-range_with_len (λ j. bin_place instance numbers u j) 0 (dims instance))
        (below (box_count instance)) v i
        (let n = length-range_with_len 0 (box_count instance) in omega (arith, l, n)) m
        ∙ get_or-map-range_with_len (λ j. bin_place instance numbers (get_or (below (box_count instance)) v 0) j) 0
        (dims instance) i i 0 m (omega arith)
        ∙ ap (λ u. bin_place instance numbers u i)
        (let e = get_or-range_with_len 0 (box_count instance) v 0 l in omega (arith, e))

pub bins_filled : (instance : PlainInstance) (k : ℕ) (numbers : List ℕ) → IsBounded instance → k ≤ box_count instance
    → AreBinNumbers instance k numbers
    → AreFilled (bin_lines instance numbers)
bins_filled instance k numbers b few shown =
    numbered_filled (codes "place") k (dims instance) (box_count instance) (bin_number instance numbers)
    (bin_place instance numbers) (omega arith) refl
    (bins_small instance k numbers b few shown)

pub bins_shared : (instance : PlainInstance) (k : ℕ) (numbers : List ℕ) → IsBounded instance → k ≤ box_count instance
    → AreBinNumbers instance k numbers
    → AreShared instance k (bin_lines instance numbers)
bins_shared instance k numbers b few shown = record {
  bins = bins_in instance numbers;
  places = places_in instance numbers;
  are_lines = numbered_are (codes "place") k (dims instance) (box_count instance) (bin_number instance numbers)
      (bin_place instance numbers) 0 (box_count instance) (omega arith)
      (bins_small instance k numbers b few shown);
  packing = shown.packing;
}

-- ---- taken boxes

abbrev taken_lines : PlainInstance → List ℕ → List ℕ → Lines
taken_lines instance taken places =
    map (line_of_row (codes "take") (dims instance) (λ j. get_or taken j 0)
    (λ j i. get_or places (j * dims instance + i) 0)) (below (length taken))

map_same : {X : Type 0} (f g : ℕ → X) (a n : ℕ) → ((v : ℕ) → a ≤ v → v < a + n → f v ≡ g v)
    → map f (range_with_len a n) ≡ map g (range_with_len a n)
map_same f g a zero h = refl
map_same f g a (suc n) h = ap₂ (λ x xs. x ∷ xs) (h a (omega arith) (omega arith))
    (map_same f g (a + 1) n (λ v p q. h v (omega arith) (omega arith)))

module _ (instance : PlainInstance) (taken places : List ℕ) where
  abbrev row : ℕ → List ℕ
  row j = get_or taken j 0 ∷ coordinates_at (dims instance) places j

  row_length : (j : ℕ) → length (row j) ≡ dims instance + 1
  row_length j = let e = length-map-range_with_len (λ i. get_or places (j * dims instance + i) 0) 0 (dims instance) in
      omega (arith, e)

  numbers_length : length (choice_numbers instance taken places) ≡ length taken * (dims instance + 1)
  numbers_length = length_parts row (dims instance + 1) row_length (below (length taken))
      ∙ ap (λ n. n * (dims instance + 1)) (length-range_with_len 0 (length taken))

  number_at : (j i : ℕ) → j < length taken → i < dims instance + 1
      → get_or (choice_numbers instance taken places) (j * (dims instance + 1) + i) 0 ≡ get_or (row j) i 0
  number_at j i l m =
      joined_at row (dims instance + 1) row_length (below (length taken)) j i
      (let n = length-range_with_len 0 (length taken) in omega (arith, l, n)) m
      ∙ ap (λ u. get_or (row u) i 0) (let e = get_or-range_with_len 0 (length taken) j 0 l in omega (arith, e))

  box_at : (j : ℕ) → j < length taken → get_or (choice_numbers instance taken places) (j * (dims instance + 1)) 0
      ≡ get_or taken j 0
  box_at j l = let e : j * (dims instance + 1) ≡ j * (dims instance + 1) + 0 = omega arith in
      rw e (number_at j 0 l (omega arith))

  place_at : (j i : ℕ) → j < length taken → i < dims instance
      → get_or (choice_numbers instance taken places) (j * (dims instance + 1) + (1 + i)) 0
      ≡ get_or places (j * dims instance + i) 0
  place_at j i l m =
      let e : 1 + i ≡ suc i = omega arith in
      rw e (number_at j (suc i) l (omega (arith, m))
      ∙ get_or-map-range_with_len (λ h. get_or places (j * dims instance + h) 0) 0 (dims instance) i i 0 m
      (omega arith))

  line_at : (j : ℕ) → 0 ≤ j → j < 0 + length taken
      → line_of_row (codes "take") (dims instance)
      (λ k. get_or (choice_numbers instance taken places) (k * (dims instance + 1)) 0)
      (λ k i. get_or (choice_numbers instance taken places) (k * (dims instance + 1) + (1 + i)) 0) j
      ≡ line_of_row (codes "take") (dims instance) (λ k. get_or taken k 0)
      (λ k i. get_or places (k * dims instance + i) 0) j
  line_at j p q =
      ap₂ (λ x xs. codes "take" ∷ decimal (suc x) ∷ xs) (box_at j (omega (arith, q)))
      (map_same (λ i. decimal (get_or (choice_numbers instance taken places) (j * (dims instance + 1) + (1 + i)) 0))
      (λ i. decimal (get_or places (j * dims instance + i) 0)) 0 (dims instance)
      (λ i r s. ap decimal (place_at j i (omega (arith, q)) (omega (arith, s)))))

  pub take_lines_are : take_lines instance (choice_numbers instance taken places) ≡ taken_lines instance taken places
  take_lines_are =
      ap (λ n. map (line_of_row (codes "take") (dims instance)
      (λ k. get_or (choice_numbers instance taken places) (k * (dims instance + 1)) 0)
      (λ k i. get_or (choice_numbers instance taken places) (k * (dims instance + 1) + (1 + i)) 0)) (below n))
      (ap (λ m. m / (dims instance + 1)) numbers_length ∙ mul-div_cancel (length taken) {n = dims instance + 1}
      (omega arith))
      ∙ map_same _ _ 0 (length taken) line_at

taken_small : (instance : PlainInstance) (taken places : List ℕ) → IsBounded instance → IsBoxSet instance taken
    → IsPacking (subset instance taken) places
    → AreSmall (box_count instance) (dims instance) (length taken) (λ j. get_or taken j 0)
    (λ j i. get_or places (j * dims instance + i) 0)
taken_small instance taken places b set p = record {
  few = (let n = b.boxes in omega (arith, n));
  numbers = λ j l. set.there j 0 l;
  coordinates = λ j i l m.
      let n = length-map taken (λ u. slice_index_or instance.boxes u no_box) in
      let inside = p.within j i (omega (arith, l, n)) m in
      let s = b.sides i m in
      omega (arith, inside, s);
}

pub taken_filled : (instance : PlainInstance) (goal : ℕ) (numbers : List ℕ) → IsBounded instance
    → AreTakenNumbers instance goal numbers
    → AreFilled (take_lines instance numbers)
taken_filled instance goal numbers b shown =
    subst (λ ns. AreFilled (take_lines instance ns)) (sym shown.written)
    (subst AreFilled (sym (take_lines_are instance shown.taken shown.places))
    (numbered_filled (codes "take") (box_count instance) (dims instance) (length shown.taken)
    (λ j. get_or shown.taken j 0) (λ j i. get_or shown.places (j * dims instance + i) 0) (omega arith) refl
    (taken_small instance shown.taken shown.places b shown.set shown.packing)))

pub taken_taken : (instance : PlainInstance) (goal : ℕ) (numbers : List ℕ) → 1 ≤ dims instance → IsBounded instance
    → AreTakenNumbers instance goal numbers
    → AreTaken instance goal (take_lines instance numbers)
taken_taken instance goal numbers some b shown = record {
  taken = shown.taken;
  places = shown.places;
  are_lines = subst (λ ns. AreNumberedLines (codes "take") (box_count instance) (dims instance) (take_lines instance ns)
      shown.taken shown.places) (sym shown.written)
      (subst (λ lines. AreNumberedLines (codes "take") (box_count instance) (dims instance) lines shown.taken
      shown.places)
      (sym (take_lines_are instance shown.taken shown.places)) all);
  set = shown.set;
  packing = shown.packing;
  enough = shown.reached;
}
  where
    same_boxes : map (λ j. get_or shown.taken j 0) (below (length shown.taken)) ≡ shown.taken
    same_boxes = sym (fill_by_all (λ j. get_or shown.taken j 0) shown.taken (length shown.taken) 0 refl (λ j l. refl))

    count : length shown.places ≡ length shown.taken * dims instance
    count = shown.packing.count ∙ ap (λ n. n * dims instance)
        (length-map shown.taken (λ u. slice_index_or instance.boxes u no_box))

    all : AreNumberedLines (codes "take") (box_count instance) (dims instance)
        (taken_lines instance shown.taken shown.places) shown.taken shown.places
    all = subst (λ boxes. AreNumberedLines (codes "take") (box_count instance) (dims instance)
        (taken_lines instance shown.taken shown.places) boxes shown.places) same_boxes
        (subst (λ xs. AreNumberedLines (codes "take") (box_count instance) (dims instance)
        (taken_lines instance shown.taken shown.places)
        (map (λ j. get_or shown.taken j 0) (below (length shown.taken))) xs)
        (rows_again (dims instance) (length shown.taken) shown.places some count)
        (numbered_are (codes "take") (box_count instance) (dims instance) (length shown.taken)
        (λ j. get_or shown.taken j 0) (λ j i. get_or shown.places (j * dims instance + i) 0)
        0 (length shown.taken) (omega arith) (taken_small instance shown.taken shown.places b shown.set shown.packing)))
