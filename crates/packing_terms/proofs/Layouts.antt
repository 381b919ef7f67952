-- Coordinates as a function of box and dimension: those of a packing, mirrored in some dimensions,
-- and with boxes of equal sides exchanged.
use Rattle.std.proofs.Common.{◌≡◌, ◌≢◌, ℕ, ◌+◌, ◌-◌, ◌*◌, ◌<◌, ◌≤◌, ◌⊎◌, inl, inr, refl, ap, ◌∙◌, arith, Bool, true}
use Rattle.std.proofs.Common.{false, cond, List, map, length, get_or}
use Rattle.std.specs.List.{flat_map}
use Rattle.std.proofs.lemmas.Bool.{cases_lt, cases_Bool}
use Rattle.std.proofs.lemmas.List.FromFn.{get_or-range_with_len, get_or-map-range_with_len, length-map-range_with_len}
use Rattle.std.proofs.lemmas.List.FromFn.{length-range_with_len}
use Rattle.packing_terms.specs.Packing.{PlainInstance, IsPacking, dims, box_count, container_side, side, place}
use Rattle.packing_terms.specs.Packing.{AreDisjoint}
use Rattle.packing_terms.specs.Sums.{below}
use Rattle.packing_terms.proofs.InBins.{joined_at}
use Rattle.packing_terms.proofs.Lengths.{length_parts}
use Rattle.packing_terms.proofs.Working.{working, of_working}

module _ (instance : PlainInstance) where
  -- box u ends at or before the start of box v, by these coordinates
  abbrev pub Ends : (ℕ → ℕ → ℕ) → ℕ → ℕ → ℕ → Type 0
  Ends p i u v = p u i + side instance u i ≤ p v i

  -- coordinates of a packing
  pub record IsLayout (p : ℕ → ℕ → ℕ) : Type 0 where
    pub inside : (v i : ℕ) → v < box_count instance → i < dims instance
        → p v i + side instance v i ≤ container_side instance i
    pub apart : (u v : ℕ) → u < box_count instance → v < box_count instance → u ≢ v → (i : ℕ) × (i < dims instance)
        × (Ends p i u v ⊎ Ends p i v u)

  abbrev pub coordinates : List ℕ → ℕ → ℕ → ℕ
  coordinates places v i = place instance places v i

  pub layout_of : (places : List ℕ) → IsPacking instance places → IsLayout (coordinates places)
  layout_of places packing = record {
    inside = (working instance places packing).inside;
    apart = λ u v hu hv ne. go u v hu hv ne (cases_lt u v);
  }
    where
      turned : (u v : ℕ) → AreDisjoint instance places v u → (i : ℕ) × (i < dims instance)
          × (Ends (coordinates places) i u v ⊎ Ends (coordinates places) i v u)
      turned u v (i, m, inl h) = (i, m, inr h)
      turned u v (i, m, inr h) = (i, m, inl h)

      go : (u v : ℕ) → u < box_count instance → v < box_count instance → u ≢ v → (u < v) ⊎ (v ≤ u)
          → (i : ℕ) × (i < dims instance) × (Ends (coordinates places) i u v ⊎ Ends (coordinates places) i v u)
      go u v hu hv ne (inl l) = (working instance places packing).disjoint u v l hv
      go u v hu hv ne (inr l) = turned u v ((working instance places packing).disjoint v u (omega arith) hu)

  -- and back, as a list
  abbrev pub listed : (ℕ → ℕ → ℕ) → List ℕ
  listed p = flat_map (λ v. map (λ i. p v i) (below (dims instance))) (below (box_count instance))

  pub listed_at : (p : ℕ → ℕ → ℕ) (v i : ℕ) → v < box_count instance → i < dims instance
      → place instance (listed p) v i ≡ p v i
  listed_at p v i l m =
      joined_at (λ u. map (λ j. p u j) (below (dims instance))) (dims instance)
      (λ u. length-map-range_with_len (λ j. p u j) 0 (dims instance)) (below (box_count instance)) v i
      (let n = length-range_with_len 0 (box_count instance) in omega (arith, l, n)) m
      ∙ (get_or-map-range_with_len (λ j. p (get_or (below (box_count instance)) v 0) j) 0 (dims instance) i i 0 m
      (omega arith)
      ∙ ap (λ u. p u i) (let e = get_or-range_with_len 0 (box_count instance) v 0 l in omega (arith, e)))

  pub listed_packing : (p : ℕ → ℕ → ℕ) → IsLayout p → IsPacking instance (listed p)
  listed_packing p h = of_working instance (listed p) (record {
    count = count;
    inside = λ v i l m. (let e = listed_at p v i l m in let k = h.inside v i l m in omega (arith, e, k));
    disjoint = λ u v l m. go u v (omega arith) m (h.apart u v (omega arith) m (λ e. omega (arith, e, l)));
  })
    where
      count : length (listed p) ≡ box_count instance * dims instance
      count =
          length_parts (λ u. map (λ j. p u j) (below (dims instance))) (dims instance)
          (λ u. length-map-range_with_len (λ j. p u j) 0 (dims instance)) (below (box_count instance))
          ∙ ap (λ n. n * dims instance) (length-range_with_len 0 (box_count instance))

      go : (u v : ℕ) → u < box_count instance → v < box_count instance → (i : ℕ) × (i < dims instance)
          × (Ends p i u v ⊎ Ends p i v u) → AreDisjoint instance (listed p) u v
      go u v hu hv (i, m, inl h') = (
        i,
        m,
        inl (let e = listed_at p u i hu m in let f = listed_at p v i hv m in omega (arith, e, f, h')),
      )
      go u v hu hv (i, m, inr h') = (
        i,
        m,
        inr (let e = listed_at p u i hu m in let f = listed_at p v i hv m in omega (arith, e, f, h')),
      )

  -- ---- mirrors

  -- mirrored in the dimensions that the test names
  abbrev pub mirrored : (ℕ → Bool) → (ℕ → ℕ → ℕ) → ℕ → ℕ → ℕ
  mirrored m p v i = cond (m i) (container_side instance i - (p v i + side instance v i)) (p v i)

  pub mirrored_on : (m : ℕ → Bool) (p : ℕ → ℕ → ℕ) (v i : ℕ) → m i ≡ true
      → mirrored m p v i ≡ container_side instance i - (p v i + side instance v i)
  mirrored_on m p v i e = rw e refl

  pub mirrored_off : (m : ℕ → Bool) (p : ℕ → ℕ → ℕ) (v i : ℕ) → m i ≡ false → mirrored m p v i ≡ p v i
  mirrored_off m p v i e = rw e refl

  pub mirrored_layout : (m : ℕ → Bool) (p : ℕ → ℕ → ℕ) → IsLayout p → IsLayout (mirrored m p)
  mirrored_layout m p h = record {
    inside = λ v i l k. inside v i l k (cases_Bool (m i));
    apart = λ u v hu hv ne. apart u v hu hv (h.apart u v hu hv ne);
  }
    where
      inside : (v i : ℕ) → v < box_count instance → i < dims instance → (m i ≡ true) ⊎ (m i ≡ false)
          → mirrored m p v i + side instance v i ≤ container_side instance i
      inside v i l k (inl e) = let f = mirrored_on m p v i e in let g = h.inside v i l k in omega (arith, f, g)
      inside v i l k (inr e) = let f = mirrored_off m p v i e in let g = h.inside v i l k in omega (arith, f, g)

      flip : (u v i : ℕ) → u < box_count instance → v < box_count instance → i < dims instance → m i ≡ true
          → Ends p i u v → Ends (mirrored m p) i v u
      flip u v i hu hv k e b =
          let f = mirrored_on m p u i e in
          let g = mirrored_on m p v i e in
          let a = h.inside u i hu k in
          let c = h.inside v i hv k in
          omega (arith, f, g, a, b, c)

      stay : (u v i : ℕ) → m i ≡ false → Ends p i u v → Ends (mirrored m p) i u v
      stay u v i e b = let f = mirrored_off m p u i e in let g = mirrored_off m p v i e in omega (arith, f, g, b)

      apart : (u v : ℕ) → u < box_count instance → v < box_count instance → (i : ℕ) × (i < dims instance)
          × (Ends p i u v ⊎ Ends p i v u)
          → (i : ℕ) × (i < dims instance) × (Ends (mirrored m p) i u v ⊎ Ends (mirrored m p) i v u)
      apart u v hu hv (i, k, d) = (i, k, go d (cases_Bool (m i)))
        where
          go : Ends p i u v ⊎ Ends p i v u → (m i ≡ true) ⊎ (m i ≡ false) → Ends (mirrored m p) i u v
              ⊎ Ends (mirrored m p) i v u
          go (inl b) (inl e) = inr (flip u v i hu hv k e b)
          go (inr b) (inl e) = inl (flip v u i hv hu k e b)
          go (inl b) (inr e) = inl (stay u v i e b)
          go (inr b) (inr e) = inr (stay v u i e b)

  -- ---- exchanges

  -- each box at the place of another
  abbrev pub moved : (ℕ → ℕ) → (ℕ → ℕ → ℕ) → ℕ → ℕ → ℕ
  moved at p v i = p (at v) i

  pub moved_layout : (at : ℕ → ℕ) (p : ℕ → ℕ → ℕ) → ((v : ℕ) → v < box_count instance → at v < box_count instance)
      → ((u v : ℕ) → at u ≡ at v → u ≡ v) → ((v i : ℕ) → i < dims instance → side instance v i ≡ side instance (at v) i)
      → IsLayout p → IsLayout (moved at p)
  moved_layout at p within one_to_one sides h = record {
    inside = λ v i l k. (let e = sides v i k in let g = h.inside (at v) i (within v l) k in omega (arith, e, g));
    apart = λ u v hu hv ne. go u v (h.apart (at u) (at v) (within u hu) (within v hv) (λ e. ne (one_to_one u v e)));
  }
    where
      go : (u v : ℕ) → (i : ℕ) × (i < dims instance) × (Ends p i (at u) (at v) ⊎ Ends p i (at v) (at u))
          → (i : ℕ) × (i < dims instance) × (Ends (moved at p) i u v ⊎ Ends (moved at p) i v u)
      go u v (i, k, inl b) = (i, k, inl (let e = sides u i k in omega (arith, e, b)))
      go u v (i, k, inr b) = (i, k, inr (let e = sides v i k in omega (arith, e, b)))
