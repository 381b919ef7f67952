-- A box takes the place of one that it comes before: the set fits still and is worth no less, and the
-- boxes of the set have fewer boxes before them in all. So exchanges end in a complete set.
use Rattle.std.proofs.Common.{◌≡◌, ◌≢◌, ℕ, zero, suc, ◌+◌, ◌<◌, ◌≤◌, ◌⊎◌, inl, inr, refl, sym, ap, subst, ◌∙◌, arith, Bool}
use Rattle.std.proofs.Common.{true, false, not, ◌&&◌, ◌||◌, eqb, if◌then◌else◌, List, ◌∷◌, map, length, get_or}
use Rattle.std.specs.List.{list_any, filter, range_with_len, sum_by, AllByRecursion}
use Rattle.std.proofs.lemmas.Bool.{true≢false, cases_Bool, cases_eq, and_parts, and_from, or_cases, eq-eqb, ne_eqb, eqb-true}
use Rattle.std.proofs.lemmas.Bool.{not-true, not_from_false}
use Rattle.std.proofs.lemmas.List.{length-map, get_or-map}
use Rattle.std.proofs.lemmas.List.Sums.{sum_by-cons}
use Rattle.std.proofs.lemmas.List.Kept.{IsStrictlyIncreasing-filter}
use Rattle.std.proofs.lemmas.List.Elements.{All-filter}
use Rattle.std.proofs.lemmas.List.FromFn.{length-range_with_len, get_or-range_with_len}
use Rattle.packing_terms.specs.Packing.{PlainInstance, no_box, dims, box_count, side, value}
use Rattle.packing_terms.specs.Packing.{IsPacking, AreDisjoint, Fits}
use Rattle.packing_terms.specs.Rules.{AreBoxes}
use Rattle.packing_terms.specs.Goals.{subset, worth, IsBoxSet, ReachesValue}
use Rattle.packing_terms.specs.OuterRefutation.{has_box}
use Rattle.packing_terms.proofs.Members.{IsIn, any_at, any_from, in_map, in_filter, filter_in, in_range, range_in}
use Rattle.packing_terms.proofs.Boxes.{each_from, box_in, found, sum_within}
use Rattle.packing_terms.proofs.Sets.{or_true}
use Rattle.packing_terms.proofs.Agreeing.{set_boxes}
use Rattle.packing_terms.proofs.InBins.{side_of}
use Rattle.packing_terms.proofs.ValueRefuted.{part_fits}
use Rattle.packing_terms.proofs.Working.{working, of_working}
use Rattle.verdict_terms.specs.Exchanges.{replaces, comes_before, IsComplete}
use Rattle.verdict_terms.proofs.Before.{no_longer, no_less, before_replaces, before_itself, before_chain}
use Rattle.verdict_terms.proofs.PricedSets.{is_found}

-- ---- box u in the place of box v

module _ (instance : PlainInstance) (u v : ℕ) (r : replaces instance u v ≡ true) where
  pub swap : ℕ → ℕ
  swap w = if eqb w v then u else w

  swap_side : (w i : ℕ) → i < dims instance → side instance (swap w) i ≤ side instance w i
  unfolding swap
  swap_side w i l = go (cases_eq w v)
    where
      go : (w ≡ v) ⊎ (w ≡ v → ⊥) → side instance (if eqb w v then u else w) i ≤ side instance w i
      go (inl e) =
          let h = no_longer instance u v r i l in
          let same : side instance w i ≡ side instance v i = ap (λ x. side instance x i) e in
          rw (eq-eqb w v e) (omega (arith, h, same))
      go (inr ne) = rw (ne_eqb w v ne) (omega arith)

  module _ (keep : List ℕ) where
    abbrev swapped : List ℕ
    swapped = map swap keep

    same_count : box_count (subset instance swapped) ≡ box_count (subset instance keep)
    same_count =
        length-map swapped (λ w. get_or instance.boxes w no_box) ∙ (length-map keep swap
        ∙ sym (length-map keep (λ w. get_or instance.boxes w no_box)))

    -- each box has no longer a side than that in whose position it is
    shorter : (k i : ℕ) → k < box_count (subset instance swapped) → i < dims instance
        → side (subset instance swapped) k i ≤ side (subset instance keep) k i
    shorter k i l m =
        let count = length-map swapped (λ w. get_or instance.boxes w no_box) in
        let few = length-map keep swap in
        let n : k < length keep = omega (arith, l, count, few) in
        let new = side_of instance swapped k i (omega (arith, n, few)) in
        let old = side_of instance keep k i n in
        let here : side instance (get_or swapped k 0) i ≡ side instance (swap (get_or keep k 0)) i =
        ap (λ w. side instance w i) (get_or-map swap keep k 0 0 n) in
        let h = swap_side (get_or keep k 0) i m in
        omega (arith, new, old, here, h)

    packs : (places : List ℕ) → IsPacking (subset instance keep) places → IsPacking (subset instance swapped) places
    packs places p = of_working (subset instance swapped) places (record {
      count = rw same_count p.count;
      inside = λ k i l m. (let h = (working (subset instance keep) places p).inside k i
          (let e = same_count in omega (arith, l, e)) m in
          let s = shorter k i l m in omega (arith, h, s));
      disjoint = λ j k o l. go j k o l ((working (subset instance keep) places p).disjoint j k o
          (let e = same_count in omega (arith, l, e)));
    })
      where
        go : (j k : ℕ) → j < k → k < box_count (subset instance swapped) → AreDisjoint (subset instance keep) places j k
            → AreDisjoint (subset instance swapped) places j k
        go j k o l (i, m, inl h) = (i, m, inl (let s = shorter j i (omega (arith, o, l)) m in omega (arith, h, s)))
        go j k o l (i, m, inr h) = (i, m, inr (let s = shorter k i l m in omega (arith, h, s)))

    pub exchange_fits : (next : List ℕ) → AreBoxes instance next → ((w : ℕ) → IsIn w next → IsIn w swapped)
        → Fits (subset instance keep) → Fits (subset instance next)
    exchange_fits next boxes within (places, p) =
        part_fits instance swapped next boxes within (places, packs places p)

-- ---- boxes by a test

module _ (instance : PlainInstance) (test : ℕ → Bool) where
  -- the boxes that pass, by rising number
  abbrev passing : List ℕ
  passing = filter test (range_with_len 0 (box_count instance))

  pub passing_set : IsBoxSet instance passing
  passing_set = record {
    there = All-filter test (λ v. v < box_count instance) (range_with_len 0 (box_count instance))
        (λ i d l.
        let n = length-range_with_len 0 (box_count instance) in
        let m : i < box_count instance = omega (arith, l, n) in
        let e = get_or-range_with_len 0 (box_count instance) i d m in
        omega (arith, e, m));
    rising = IsStrictlyIncreasing-filter test (range_with_len 0 (box_count instance))
        (λ i l.
        let n = length-range_with_len 0 (box_count instance) in
        let m : i + 1 < box_count instance = omega (arith, l, n) in
        let a = get_or-range_with_len 0 (box_count instance) i 0 (omega (arith, m)) in
        let e = get_or-range_with_len 0 (box_count instance) (i + 1) 0 m in
        omega (arith, a, e));
  }

  pub passing_boxes : AreBoxes instance passing
  passing_boxes = set_boxes instance passing passing_set

  pub is_passing : (v : ℕ) → v < box_count instance → test v ≡ true → IsIn v passing
  is_passing v l t = in_filter test v (range_with_len 0 (box_count instance))
      (in_range 0 (box_count instance) v (omega arith) (omega (arith, l))) t

  pub passes : (v : ℕ) → IsIn v passing → (v < box_count instance) × (test v ≡ true)
  passes v i =
      let h = filter_in test v (range_with_len 0 (box_count instance)) i in
      let p = range_in 0 (box_count instance) v h.0 in
      (omega (arith, p.1), h.1)

-- the boxes that come before a box, and how many they are
abbrev earlier : PlainInstance → ℕ → List ℕ
earlier instance v = passing instance (λ w. comes_before instance w v)

abbrev rank : PlainInstance → ℕ → ℕ
rank instance v = sum_by (λ (w : ℕ). 1) (earlier instance v)

-- a box has fewer before it than one that it comes before
rank_less : (instance : PlainInstance) (u v : ℕ) → u < box_count instance → comes_before instance u v ≡ true
    → rank instance u < rank instance v
rank_less instance u v there b =
    let more = sum_within (λ (w : ℕ). 1) (box_count instance) (u ∷ earlier instance u) (earlier instance v)
    (there, aside, passing_boxes instance (λ w. comes_before instance w u)) all_before in
    omega (arith, more, sum_by-cons (λ (w : ℕ). 1) u (earlier instance u))
  where
    aside : AllByRecursion (λ w. u ≢ w) (earlier instance u)
    aside = each_from (λ w. u ≢ w) (earlier instance u) (λ w i e.
        true≢false (sym (passes instance (λ x. comes_before instance x u) w i).1
        ∙ (ap (λ x. comes_before instance x u) (sym e) ∙ before_itself instance u)))

    all_before : (w : ℕ) → IsIn w (u ∷ earlier instance u) → IsIn w (earlier instance v)
    all_before w (inl e) = is_passing instance (λ x. comes_before instance x v) w (omega (arith, there, e))
        (ap (λ x. comes_before instance x v) e ∙ b)
    all_before w (inr i) =
        let h = passes instance (λ x. comes_before instance x u) w i in
        is_passing instance (λ x. comes_before instance x v) w h.0 (before_chain instance w u v h.1 b)

-- ---- one exchange

module _ (instance : PlainInstance) (keep : List ℕ) (set : IsBoxSet instance keep) (u v : ℕ)
    (there : u < box_count instance) (b : comes_before instance u v ≡ true) (taken : has_box v keep ≡ true)
    (out : has_box u keep ≡ false) where
  -- the boxes of the set but for v
  abbrev others : List ℕ
  others = passing instance (λ w. has_box w keep && not (eqb w v))

  -- those, and u
  abbrev next : List ℕ
  next = passing instance (λ w. eqb w u || (has_box w keep && not (eqb w v)))

  boxes : AreBoxes instance keep
  boxes = set_boxes instance keep set

  v_there : v < box_count instance
  v_there = box_in (box_count instance) keep boxes v (found v keep taken)

  u_aside : AllByRecursion (λ w. u ≢ w) others
  u_aside = each_from (λ w. u ≢ w) others (λ w i e.
      let h = passes instance (λ x. has_box x keep && not (eqb x v)) w i in
      true≢false (sym (and_parts _ _ h.1).0 ∙ (ap (λ x. has_box x keep) (sym e) ∙ out)))

  v_aside : AllByRecursion (λ w. v ≢ w) others
  v_aside = each_from (λ w. v ≢ w) others (λ w i e.
      let h = passes instance (λ x. has_box x keep && not (eqb x v)) w i in
      true≢false (sym (eq-eqb w v (sym e)) ∙ not-true _ (and_parts _ _ h.1).1))

  others_kept : (w : ℕ) → IsIn w (v ∷ others) → IsIn w keep
  others_kept w (inl e) = found w keep (ap (λ x. has_box x keep) e ∙ taken)
  others_kept w (inr i) =
      let h = passes instance (λ x. has_box x keep && not (eqb x v)) w i in
      found w keep (and_parts _ _ h.1).0

  kept_others : (w : ℕ) → IsIn w keep → IsIn w (v ∷ others)
  kept_others w i = go (cases_eq w v)
    where
      go : (w ≡ v) ⊎ (w ≡ v → ⊥) → IsIn w (v ∷ others)
      go (inl e) = inl e
      go (inr ne) = inr (is_passing instance (λ x. has_box x keep && not (eqb x v)) w
          (box_in (box_count instance) keep boxes w i)
          (and_from _ _ (is_found w keep i) (not_from_false _ (ne_eqb w v ne))))

  others_next : (w : ℕ) → IsIn w (u ∷ others) → IsIn w next
  others_next w (inl e) = is_passing instance (λ x. eqb x u || (has_box x keep && not (eqb x v))) w
      (omega (arith, there, e)) (or_true _ _ (inl (eq-eqb w u e)))
  others_next w (inr i) =
      let h = passes instance (λ x. has_box x keep && not (eqb x v)) w i in
      is_passing instance (λ x. eqb x u || (has_box x keep && not (eqb x v))) w h.0 (or_true _ _ (inr h.1))

  next_others : (w : ℕ) → IsIn w next → IsIn w (u ∷ others)
  next_others w i =
      let h = passes instance (λ x. eqb x u || (has_box x keep && not (eqb x v))) w i in
      go h.0 (or_cases _ _ h.1)
    where
      go : w < box_count instance → (eqb w u ≡ true) ⊎ ((has_box w keep && not (eqb w v)) ≡ true)
          → IsIn w (u ∷ others)
      go l (inl e) = inl (eqb-true w u e)
      go l (inr t) = inr (is_passing instance (λ x. has_box x keep && not (eqb x v)) w l t)

  -- sums over the two sets differ by the two boxes
  sum_old : (f : ℕ → ℕ) → sum_by f keep ≡ f v + sum_by f others
  sum_old f =
      let most = sum_within f (box_count instance) keep (v ∷ others) boxes kept_others in
      let least = sum_within f (box_count instance) (v ∷ others) keep
      (v_there, v_aside, passing_boxes instance (λ w. has_box w keep && not (eqb w v))) others_kept in
      omega (arith, most, least, sum_by-cons f v others)

  sum_new : (f : ℕ → ℕ) → sum_by f next ≡ f u + sum_by f others
  sum_new f =
      let most = sum_within f (box_count instance) next (u ∷ others)
      (passing_boxes instance (λ w. eqb w u || (has_box w keep && not (eqb w v)))) next_others in
      let least = sum_within f (box_count instance) (u ∷ others) next
      (there, u_aside, passing_boxes instance (λ w. has_box w keep && not (eqb w v))) others_next in
      omega (arith, most, least, sum_by-cons f u others)

  pub next_set : IsBoxSet instance next
  next_set = passing_set instance (λ w. eqb w u || (has_box w keep && not (eqb w v)))

  pub next_worth : worth instance keep ≤ worth instance next
  next_worth =
      let old = sum_old (λ w. value instance w) in
      let new = sum_new (λ w. value instance w) in
      let more = no_less instance u v (before_replaces instance u v b) in
      omega (arith, old, new, more)

  pub next_rank : sum_by (λ w. rank instance w) next < sum_by (λ w. rank instance w) keep
  next_rank =
      let old = sum_old (λ w. rank instance w) in
      let new = sum_new (λ w. rank instance w) in
      let less = rank_less instance u v there b in
      omega (arith, old, new, less)

  next_swapped : (w : ℕ) → IsIn w next → IsIn w (map (swap instance u v (before_replaces instance u v b)) keep)
  unfolding swap
  next_swapped w i = go (next_others w i)
    where
      go : IsIn w (u ∷ others) → IsIn w (map (λ y. if eqb y v then u else y) keep)
      go (inl e) =
          let taken_by : (if eqb v v then u else v) ≡ u = rw (eq-eqb v v refl) refl in
          subst (λ x. IsIn x (map (λ y. if eqb y v then u else y) keep)) (taken_by ∙ sym e)
          (in_map (λ y. if eqb y v then u else y) v keep (found v keep taken))
      go (inr j) =
          let h = passes instance (λ x. has_box x keep && not (eqb x v)) w j in
          let parts = and_parts (has_box w keep) (not (eqb w v)) h.1 in
          let stays : (if eqb w v then u else w) ≡ w = rw (not-true (eqb w v) parts.1) refl in
          subst (λ x. IsIn x (map (λ y. if eqb y v then u else y) keep)) stays (in_map (λ y. if eqb y v then u else y) w keep (found w keep parts.0))

  pub next_fits : Fits (subset instance keep) → Fits (subset instance next)
  next_fits fits = exchange_fits instance u v (before_replaces instance u v b) keep next
      (passing_boxes instance (λ w. eqb w u || (has_box w keep && not (eqb w v)))) next_swapped fits

-- ---- exchanges to the end

pub record CompletelyReached (instance : PlainInstance) (goal : ℕ) : Type 0 where
  pub keep : List ℕ
  pub set : IsBoxSet instance keep
  pub complete : IsComplete instance keep
  pub reached : goal ≤ worth instance keep
  pub fits : Fits (subset instance keep)

module _ (instance : PlainInstance) (goal : ℕ) where
  -- whether box u is out and box v is in, which u comes before
  abbrev is_open : List ℕ → ℕ → ℕ → Bool
  is_open keep u v = comes_before instance u v && (has_box v keep && not (has_box u keep))

  abbrev has_open : List ℕ → Bool
  has_open keep = list_any (λ u. list_any (λ v. is_open keep u v) (range_with_len 0 (box_count instance)))
      (range_with_len 0 (box_count instance))

  complete_from : (keep : List ℕ) → IsBoxSet instance keep → has_open keep ≡ false → IsComplete instance keep
  complete_from keep set none u v l before taken = go (cases_Bool (has_box u keep))
    where
      there : v < box_count instance
      there = box_in (box_count instance) keep (set_boxes instance keep set) v (found v keep taken)

      go : (has_box u keep ≡ true) ⊎ (has_box u keep ≡ false) → has_box u keep ≡ true
      go (inl h) = h
      go (inr h) =
          let here = and_from (comes_before instance u v) _ before (and_from (has_box v keep) _ taken (not_from_false _ h)) in
          let inner = any_at (λ w. is_open keep u w) v (range_with_len 0 (box_count instance))
          (in_range 0 (box_count instance) v (omega arith) (omega (arith, there))) here in
          let outer = any_at (λ x. list_any (λ w. is_open keep x w) (range_with_len 0 (box_count instance))) u
          (range_with_len 0 (box_count instance)) (in_range 0 (box_count instance) u (omega arith) (omega (arith, l))) inner in
          absurd (true≢false (sym outer ∙ none))

  exchanged : (n : ℕ) (keep : List ℕ) → sum_by (λ w. rank instance w) keep < n → IsBoxSet instance keep
      → goal ≤ worth instance keep → Fits (subset instance keep) → CompletelyReached instance goal
  exchanged zero keep few set reached fits = absurd (omega (arith, few))
  exchanged (suc n) keep few set reached fits = go (cases_Bool (has_open keep)) (λ x l s h f. exchanged n x l s h f)
    where
      go : (has_open keep ≡ true) ⊎ (has_open keep ≡ false)
          → ((next : List ℕ) → sum_by (λ w. rank instance w) next < n → IsBoxSet instance next
          → goal ≤ worth instance next → Fits (subset instance next) → CompletelyReached instance goal)
          → CompletelyReached instance goal
      go (inr none) more =
          record { keep = keep; set = set; complete = complete_from keep set none; reached = reached; fits = fits }
      go (inl some) more =
          let first = any_from (λ u. list_any (λ v. is_open keep u v) (range_with_len 0 (box_count instance)))
          (range_with_len 0 (box_count instance)) some in
          let second = any_from (λ v. is_open keep first.item v) (range_with_len 0 (box_count instance)) first.passes in
          let u = first.item in
          let v = second.item in
          let tests = and_parts (comes_before instance u v) _ second.passes in
          let sides = and_parts (has_box v keep) _ tests.1 in
          let there : u < box_count instance = (let p = range_in 0 (box_count instance) u first.is_in in omega (arith, p.1)) in
          let out = not-true (has_box u keep) sides.1 in
          let worth_more = next_worth instance keep set u v there tests.0 sides.0 out in
          let less = next_rank instance keep set u v there tests.0 sides.0 out in
          more (next instance keep set u v there tests.0 sides.0 out)
          (omega (arith, less, few))
          (next_set instance keep set u v there tests.0 sides.0 out)
          (omega (arith, worth_more, reached))
          (next_fits instance keep set u v there tests.0 sides.0 out fits)

  pub reached_completely : ReachesValue instance goal → CompletelyReached instance goal
  reached_completely (keep, set, reached, fits) =
      exchanged (suc (sum_by (λ w. rank instance w) keep)) keep (omega arith) set reached fits
