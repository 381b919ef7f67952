-- The coordinates of the boxes of a set, one box after another.
use Rattle.std.proofs.Common.{◌≡◌, ◌∙◌, ℕ, ◌+◌, ◌-◌, ◌*◌, ◌<◌, ◌≤◌, sym, ap, ap₂, arith, List, [], ◌∷◌, ◌++◌, map}
use Rattle.std.proofs.Common.{length, take, drop, get_or, append-nil}
use Rattle.std.specs.List.{All, range_with_len, flat_map}
use Rattle.std.proofs.lemmas.List.{take_more, get_or-take, get_or-drop, length-take-le, length-drop}
use Rattle.std.proofs.lemmas.List.Concat.{flat_map-append}
use Rattle.std.proofs.lemmas.List.FromFn.{fill_by_all}
use Rattle.packing_terms.specs.Packing.{PlainInstance, dims, box_count, place}
use Rattle.packing_terms.specs.Goals.{places_of}

module _ (instance : PlainInstance) (places : List ℕ) (count : length places ≡ box_count instance * dims instance) where
  abbrev row : ℕ → List ℕ
  row v = map (λ i. place instance places v i) (range_with_len 0 (dims instance))

  -- the coordinates of a box end within the list
  row_end : (v : ℕ) → v < box_count instance → v * dims instance + dims instance ≤ length places
  row_end v l =
      let k = box_count instance - (v + 1) in
      let n : box_count instance ≡ v + 1 + k = omega (arith, l) in
      let e : (v + 1 + k) * dims instance ≡ v * dims instance + dims instance + k * dims instance = grind arith in
      let f = ap (λ m. m * dims instance) n in
      omega (arith, count, e, f)

  row_is : (v : ℕ) → v < box_count instance → take (dims instance) (drop (v * dims instance) places) ≡ row v
  row_is v l =
      let e = row_end v l in
      let d = length-drop (v * dims instance) places in
      fill_by_all (λ i. place instance places v i) (take (dims instance) (drop (v * dims instance) places))
      (dims instance) 0
      (length-take-le (dims instance) (drop (v * dims instance) places) (omega (arith, e, d)))
      (λ k m. get_or-take (dims instance) (drop (v * dims instance) places) k 0 m
      ∙ get_or-drop (v * dims instance) places k 0)

  pub rows_more : (keep list after : List ℕ) (j : ℕ) → j < length keep → All (λ v. v < box_count instance) keep
      → list ≡ places_of instance places (take j keep)
      → after ≡ list ++ take (dims instance) (drop (get_or keep j 0 * dims instance) places)
      → after ≡ places_of instance places (take (j + 1) keep)
  rows_more keep list after j l there before e =
      e
      ∙ (ap₂ (λ xs ys. xs ++ ys) before
      (row_is (get_or keep j 0) (there j 0 l) ∙ sym (append-nil (row (get_or keep j 0))))
      ∙ (sym (flat_map-append row (take j keep) (get_or keep j 0 ∷ []))
      ∙ ap (flat_map row) (sym (take_more keep j 0 l))))
