-- The tokens of an outer refutation have lines. A node never holds more boxes than there are, since
-- each that is placed was in no bin before.
use Rattle.std.proofs.Common.{◌≡◌, ℕ, zero, suc, pred, ◌+◌, ◌*◌, ◌<◌, ◌≤◌, ◌⊎◌, inl, inr, Bool, true, false, ◌||◌, refl}
use Rattle.std.proofs.Common.{ap, subst, ◌∙◌, arith, List, [], ◌∷◌, ◌++◌, map, length, eqb, if◌then◌else◌}
use Rattle.std.specs.Prelude.{nat_lt, slice_index_or}
use Rattle.std.specs.List.{list_any, range_with_len}
use Rattle.std.proofs.lemmas.Bool.{cases_lt, eq-eqb, or_left, or_right}
use Rattle.std.proofs.lemmas.List.{length-map}
use Rattle.packing_terms.specs.Packing.{PlainInstance, dims, box_count, no_box}
use Rattle.packing_terms.specs.Goals.{subset}
use Rattle.packing_terms.specs.Limits.{max_boxes}
use Rattle.packing_terms.specs.Sums.{sum_below}
use Rattle.packing_terms.specs.Tokens.{PlainToken}
use Rattle.packing_terms.specs.OuterRefutation.{Bins, insert_box, has_box, with_box, placements, bin_named, Choice}
use Rattle.packing_terms.specs.OuterRefutation.{with_taken, RefutesBins, RefutesValue, none_left, by_scales, by_set}
use Rattle.packing_terms.specs.OuterRefutation.{by_box, by_value, IsBinRefutation, IsValueRefutation}
use Rattle.packing_terms.proofs.WithBoxes.{has_inserted, any_with, any_new, inserted_length}
use Rattle.answer_terms.proofs.OwnWritten.{HaveLines, lines_joined, IsBounded, tuple_written, refuted_written}

-- ---- a box more in the bins

-- ---- how many of the first n numbers pass

abbrev one_where : Bool → ℕ
one_where b = if b then 1 else 0

abbrev tally : ℕ → (ℕ → Bool) → ℕ
tally n p = sum_below n (λ v. one_where (p v))

one_most : (b : Bool) → one_where b ≤ 1
one_most true = omega arith
one_most false = omega arith

tally_most : (n : ℕ) (p : ℕ → Bool) → tally n p ≤ n
tally_most zero p = omega arith
tally_most (suc n) p = let a = tally_most n p in let b = one_most (p n) in omega (arith, a, b)

one_grows : (b c : Bool) → (b ≡ true → c ≡ true) → one_where b ≤ one_where c
one_grows true c h = rw (h refl) (omega arith)
one_grows false c h = omega arith

tally_grows : (n : ℕ) (p q : ℕ → Bool) → ((v : ℕ) → p v ≡ true → q v ≡ true) → tally n p ≤ tally n q
tally_grows zero p q h = omega arith
tally_grows (suc n) p q h = let a = tally_grows n p q h in let b = one_grows (p n) (q n) (h n) in omega (arith, a, b)

-- one more passes
tally_more : (n : ℕ) (p q : ℕ → Bool) (v : ℕ) → v < n → p v ≡ false → q v ≡ true → ((u : ℕ) → p u ≡ true → q u ≡ true)
    → tally n p < tally n q
tally_more zero p q v l f t h = absurd (omega (arith, l))
tally_more (suc n) p q v l f t h = go (cases_lt v n) (tally_more n p q v)
  where
    go : (v < n) ⊎ (n ≤ v) → (v < n → p v ≡ false → q v ≡ true → ((u : ℕ) → p u ≡ true → q u ≡ true)
        → tally n p < tally n q) → tally (suc n) p < tally (suc n) q
    go (inl m) rest = let a = rest m f t h in let b = one_grows (p n) (q n) (h n) in omega (arith, a, b)
    go (inr m) rest =
        let e : v ≡ n = omega (arith, l, m) in
        let a = tally_grows n p q h in
        let b : one_where (p n) ≡ 0 = ap one_where (subst (λ x. p x ≡ false) e f) in
        let c : one_where (q n) ≡ 1 = ap one_where (subst (λ x. q x ≡ true) e t) in
        omega (arith, a, b, c)

same_box : (v : ℕ) → eqb v v ≡ true
same_box v = eq-eqb v v refl

-- a set of at most `2 * max_boxes` boxes of the instance
subset_bounded : (instance : PlainInstance) (keep : List ℕ) → IsBounded instance → length keep ≤ 2 * max_boxes
    → IsBounded (subset instance keep)
subset_bounded instance keep b few = record {
  dimensions = b.dimensions;
  boxes = (let n = length-map keep (λ v. slice_index_or instance.boxes v no_box) in omega (arith, n, few));
  sides = b.sides;
}

-- ---- bins

-- the bins, and the boxes in them
abbrev size : Bins → ℕ
size [] = 0
size (us ∷ bins) = suc (length us) + size bins

-- the bins and their boxes are at most twice the boxes that are placed
abbrev IsSized : ℕ → Bins → Type 0
IsSized n bins = size bins ≤ 2 * tally n (λ u. list_any (has_box u) bins)

abbrev AreSized : ℕ → List Bins → Type 0
AreSized n [] = Unit {0}
AreSized n (bins ∷ nodes) = IsSized n bins × AreSized n nodes

sized_append : (n : ℕ) (xs ys : List Bins) → AreSized n xs → AreSized n ys → AreSized n (xs ++ ys)
sized_append n [] ys h k = k
sized_append n (bins ∷ xs) ys h k = (h.0, sized_append n xs ys h.1 k)

with_size : (bins : Bins) (b v : ℕ) → b < length bins → size (with_box bins b v) ≡ suc (size bins)
with_size [] b v l = absurd (omega (arith, l))
with_size (us ∷ bins) zero v l = let e = inserted_length v us in omega (arith, e)
with_size (us ∷ bins) (suc b) v l = let e = with_size bins b v (omega (arith, l)) in omega (arith, e)

new_size : (bins : Bins) (v : ℕ) → size (bins ++ (v ∷ []) ∷ []) ≡ 2 + size bins
new_size [] v = omega arith
new_size (us ∷ bins) v = let e = new_size bins v in omega (arith, e)

-- a node that has placed one box more, and whose size grew by at most 2
placed_sized : (n v : ℕ) (bins more : Bins) → v < n → list_any (has_box v) bins ≡ false → IsSized n bins
    → size more ≤ 2 + size bins
    → ((u : ℕ) → list_any (has_box u) more ≡ (eqb v u || list_any (has_box u) bins)) → IsSized n more
placed_sized n v bins more l new sized grown has =
    let t : tally n (λ u. list_any (has_box u) bins) < tally n (λ u. list_any (has_box u) more) =
    tally_more n (λ u. list_any (has_box u) bins) (λ u. list_any (has_box u) more) v l new
    (has v ∙ or_left (eqb v v) (list_any (has_box v) bins) (same_box v))
    (λ u h. has u ∙ or_right (eqb v u) (list_any (has_box u) bins) h) in
    omega (arith, t, sized, grown)

used_sized : (n v : ℕ) (bins : Bins) → v < n → list_any (has_box v) bins ≡ false → IsSized n bins → (a m : ℕ)
    → a + m ≤ length bins
    → AreSized n (map (λ b. with_box bins b v) (range_with_len a m))
used_sized n v bins l new sized a zero h = tt
used_sized n v bins l new sized a (suc m) h =
    let e = with_size bins a v (omega (arith, h)) in (
      placed_sized n v bins (with_box bins a v) l new sized (omega (arith, e))
          (λ u. any_with u v bins a (omega (arith, h))),
      used_sized n v bins l new sized (a + 1) m (omega (arith, h)),
    )

placements_sized : (n k v : ℕ) (bins : Bins) → v < n → list_any (has_box v) bins ≡ false → IsSized n bins
    → AreSized n (placements k bins v)
placements_sized n k v bins l new sized =
    sized_append n (map (λ b. with_box bins b v) (range_with_len 0 (length bins)))
    (if nat_lt (length bins) k then (bins ++ (v ∷ []) ∷ []) ∷ [] else [])
    (used_sized n v bins l new sized 0 (length bins) (omega arith)) (go (nat_lt (length bins) k))
  where
    go : (b : Bool) → AreSized n (if b then (bins ++ (v ∷ []) ∷ []) ∷ [] else [])
    go true = let e = new_size bins v in
        (placed_sized n v bins (bins ++ (v ∷ []) ∷ []) l new sized (omega (arith, e)) (λ u. any_new u v bins), tt)
    go false = tt

length_size : (bins : Bins) → length bins ≤ size bins
length_size [] = omega arith
length_size (us ∷ bins) = let e = length_size bins in omega (arith, e)

bin_size : (bins : Bins) (b : ℕ) → length (slice_index_or bins b []) ≤ size bins
bin_size [] b = omega arith
bin_size (us ∷ bins) zero = omega arith
bin_size (us ∷ bins) (suc b) = let e = bin_size bins b in omega (arith, e)

-- nothing more than twice as many as there are boxes
size_most : (n : ℕ) (bins : Bins) → IsSized n bins → size bins ≤ 2 * n
size_most n bins sized = let t = tally_most n (λ u. list_any (has_box u) bins) in omega (arith, t, sized)

module _ (instance : PlainInstance) (bounded : IsBounded instance) (few : box_count instance ≤ max_boxes) (k : ℕ) where
  bins_nodes_written : {nodes : List Bins} {z : List PlainToken} → AreSized (box_count instance) nodes
      → RefutesBins instance k nodes z → HaveLines (dims instance) z
  bins_nodes_written sized none_left = tt
  bins_nodes_written sized (by_scales {fs = fs} h rest) =
      (tuple_written instance fs bounded h.tuple, bins_nodes_written sized.1 rest)
  bins_nodes_written sized (by_set {bins = bins} {b = b} {x = x} {y = y} {z = z} used refutes e rest) =
      let most = size_most (box_count instance) bins sized.0 in
      let count = length_size bins in
      let to = used.to in
      let within = bin_size bins (pred b) in (
        omega (arith, to, count, most, few),
        lines_joined (dims instance) z x y e
            (refuted_written (subset instance (bin_named bins b))
            (subset_bounded instance (bin_named bins b) bounded (omega (arith, within, most, few))) refutes)
            (bins_nodes_written sized.1 rest),
      )
  bins_nodes_written sized (by_box {bins = bins} {nodes = nodes} {v = v} new rest) =
      let from = new.from in
      let to = new.to in (
        omega (arith, to, few),
        bins_nodes_written (sized_append (box_count instance) (placements k bins (pred v)) nodes
            (placements_sized (box_count instance) k (pred v) bins (omega (arith, from, to)) new.unplaced sized.0)
            sized.1) rest,
      )

  pub bins_written : (z : List PlainToken) → IsBinRefutation instance k z → HaveLines (dims instance) z
  bins_written z h = bins_nodes_written (omega arith, tt) h

-- ---- values

abbrev IsFew : ℕ → Choice → Type 0
IsFew n c = length c.taken ≤ tally n (λ u. has_box u c.taken)

abbrev AreFew : ℕ → List Choice → Type 0
AreFew n [] = Unit {0}
AreFew n (c ∷ nodes) = IsFew n c × AreFew n nodes

taken_few : (n v : ℕ) (c : Choice) → v < n → has_box v c.taken ≡ false → IsFew n c → IsFew n (with_taken c v)
taken_few n v c l new few =
    let e = inserted_length v c.taken in
    let t : tally n (λ u. has_box u c.taken) < tally n (λ u. has_box u (insert_box v c.taken)) =
    tally_more n (λ u. has_box u c.taken) (λ u. has_box u (insert_box v c.taken)) v l new
    (has_inserted v v c.taken ∙ or_left (eqb v v) (has_box v c.taken) (same_box v))
    (λ u h. has_inserted u v c.taken ∙ or_right (eqb v u) (has_box u c.taken) h) in
    omega (arith, e, t, few)

module _ (instance : PlainInstance) (bounded : IsBounded instance) (few : box_count instance ≤ max_boxes)
    (goal : ℕ) where
  value_nodes_written : {nodes : List Choice} {z : List PlainToken} → AreFew (box_count instance) nodes
      → RefutesValue instance goal nodes z → HaveLines (dims instance) z
  value_nodes_written held none_left = tt
  value_nodes_written held (by_value short rest) = (tt, value_nodes_written held.1 rest)
  value_nodes_written held (by_set {c = c} {x = x} {y = y} {z = z} some refutes e rest) =
      let most = tally_most (box_count instance) (λ u. has_box u c.taken) in
      let h = held.0 in (
        tt,
        lines_joined (dims instance) z x y e
            (refuted_written (subset instance c.taken)
            (subset_bounded instance c.taken bounded (omega (arith, h, most, few))) refutes)
            (value_nodes_written held.1 rest),
      )
  value_nodes_written held (by_box {c = c} {v = v} new rest) =
      let from = new.from in
      let to = new.to in (
        omega (arith, to, few),
        value_nodes_written (
          taken_few (box_count instance) (pred v) c (omega (arith, from, to)) new.not_taken held.0,
          (held.0, held.1),
        ) rest,
      )

  pub value_written : (z : List PlainToken) → IsValueRefutation instance goal z → HaveLines (dims instance) z
  value_written z h = value_nodes_written (omega arith, tt) h
