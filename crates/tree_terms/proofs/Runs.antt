-- The run of levels: it ends where the levels are neighbours or a decision was spent, and else it
-- goes on with the level halfway.
use Rattle.std.proofs.Common.{◌≡◌, ℕ, zero, suc, ◌<◌, ◌≤◌, ◌⊎◌, inl, inr, refl, sym, ap, ◌∙◌, arith, Bool, true, false}
use Rattle.std.proofs.Common.{if◌then◌else◌, nat_lt, List}
use Rattle.std.proofs.lemmas.Bool.{true≢false, cases_lt, lt-ltb}
use Rattle.packing_terms.specs.Tokens.{PlainToken}
use Rattle.tree_terms.specs.Levels.{PlainLevel, PlacedBy, RefutedBy, SpentAt, PlainReached, distance, halfway, moved}
use Rattle.tree_terms.specs.Levels.{is_run_over, bisect_for, bisect_levels, IsLevelBetween, IsRightLevel, HasBothCertificates}

pub not_over : (r : PlainReached) → is_run_over r ≡ false → (r.spent ≡ false) × (2 ≤ distance r)
not_over r h = go r.spent refl h
  where
    go : (s : Bool) → r.spent ≡ s → (if s then true else nat_lt (distance r) 2) ≡ false
        → (r.spent ≡ false) × (2 ≤ distance r)
    go true e k = absurd (true≢false k)
    go false e k = (e, far (cases_lt (distance r) 2))
      where
        far : (distance r < 2) ⊎ (2 ≤ distance r) → 2 ≤ distance r
        far (inl l) = absurd (true≢false (sym (lt-ltb (distance r) 2 l) ∙ k))
        far (inr l) = l

-- an answer at the level halfway brings the levels closer, or is spent
closer : (r : PlainReached) (a : PlainLevel) → 2 ≤ distance r → (distance (moved r (halfway r) a) < distance r)
    ⊎ ((moved r (halfway r) a).spent ≡ true)
closer r (PlacedBy ns) l = inl (omega arith)
closer r (RefutedBy ts) l = inl (omega arith)
closer r SpentAt l = inr refl

-- the level halfway lies between, and what lies between closer levels lies between the two
pub halfway_between : (r : PlainReached) → 2 ≤ distance r → IsLevelBetween r (halfway r)
halfway_between r l = pick (cases_lt r.refuted r.placed)
  where
    pick : (r.refuted < r.placed) ⊎ (r.placed ≤ r.refuted) → IsLevelBetween r (halfway r)
    pick (inl x) = inl (omega (arith, x, l), omega (arith, x, l))
    pick (inr x) = inr (omega (arith, x, l), omega (arith, x, l))

pub wider_placed : (r : PlainReached) (ns : List ℕ) → 2 ≤ distance r → (m : ℕ)
    → IsLevelBetween (moved r (halfway r) (PlacedBy ns)) m → IsLevelBetween r m
wider_placed r ns l m b = from b (halfway_between r l)
  where
    from : IsLevelBetween (moved r (halfway r) (PlacedBy ns)) m → IsLevelBetween r (halfway r) → IsLevelBetween r m
    from (inl (x, y)) (inl (u, v)) = inl (x, omega (arith, y, v))
    from (inl (x, y)) (inr (u, v)) = absurd (omega (arith, x, y, v))
    from (inr (x, y)) (inl (u, v)) = absurd (omega (arith, x, y, u))
    from (inr (x, y)) (inr (u, v)) = inr (omega (arith, x, u), y)

pub wider_refuted : (r : PlainReached) (ts : List PlainToken) → 2 ≤ distance r → (m : ℕ)
    → IsLevelBetween (moved r (halfway r) (RefutedBy ts)) m → IsLevelBetween r m
wider_refuted r ts l m b = from b (halfway_between r l)
  where
    from : IsLevelBetween (moved r (halfway r) (RefutedBy ts)) m → IsLevelBetween r (halfway r) → IsLevelBetween r m
    from (inl (x, y)) (inl (u, v)) = inl (omega (arith, x, u), y)
    from (inl (x, y)) (inr (u, v)) = absurd (omega (arith, x, y, u))
    from (inr (x, y)) (inl (u, v)) = absurd (omega (arith, x, y, v))
    from (inr (x, y)) (inr (u, v)) = inr (x, omega (arith, y, v))

module _ (answer : ℕ → PlainLevel) where
  over_stays : (k : ℕ) (r : PlainReached) → is_run_over r ≡ true → bisect_for answer k r ≡ r
  over_stays zero r h = refl
  over_stays (suc k) r h = go (is_run_over r) h
    where
      go : (b : Bool) → b ≡ true → elim b
          [ true ↦ r | false ↦ bisect_for answer k (moved r (halfway r) (answer (halfway r))) ] ≡ r
      go true e = refl
      go false e = absurd (true≢false (sym e))

  spent_over : (r : PlainReached) → r.spent ≡ true → is_run_over r ≡ true
  spent_over r h = rw h refl

  near_over : (r : PlainReached) → distance r < 2 → is_run_over r ≡ true
  near_over r l = go r.spent refl
    where
      go : (s : Bool) → r.spent ≡ s → (if s then true else nat_lt (distance r) 2) ≡ true
      go true e = refl
      go false e = lt-ltb (distance r) 2 l

  -- as many decisions as the distance are enough
  same_run : (j k : ℕ) (r : PlainReached) → distance r ≤ j → distance r ≤ k → bisect_for answer j r ≡ bisect_for answer k r
  same_run zero k r l m = sym (over_stays k r (near_over r (omega (arith, l))))
  same_run (suc j) zero r l m = over_stays (suc j) r (near_over r (omega (arith, m)))
  same_run (suc j) (suc k) r l m = go (is_run_over r) refl (λ s x y. same_run j k s x y)
    where
      later : is_run_over r ≡ false → ((s : PlainReached) → distance s ≤ j → distance s ≤ k
          → bisect_for answer j s ≡ bisect_for answer k s)
          → (distance (moved r (halfway r) (answer (halfway r))) < distance r)
          ⊎ ((moved r (halfway r) (answer (halfway r))).spent ≡ true)
          → bisect_for answer j (moved r (halfway r) (answer (halfway r)))
          ≡ bisect_for answer k (moved r (halfway r) (answer (halfway r)))
      later h rest (inl c) = rest (moved r (halfway r) (answer (halfway r))) (omega (arith, c, l)) (omega (arith, c, m))
      later h rest (inr s) = over_stays j (moved r (halfway r) (answer (halfway r)))
          (spent_over (moved r (halfway r) (answer (halfway r))) s)
          ∙ sym (over_stays k (moved r (halfway r) (answer (halfway r)))
          (spent_over (moved r (halfway r) (answer (halfway r))) s))

      go : (b : Bool) → is_run_over r ≡ b
          → ((s : PlainReached) → distance s ≤ j → distance s ≤ k → bisect_for answer j s ≡ bisect_for answer k s)
          → ◌≡◌ {A = PlainReached} (elim b
          [ true ↦ r | false ↦ bisect_for answer j (moved r (halfway r) (answer (halfway r))) ])
          (elim b [ true ↦ r | false ↦ bisect_for answer k (moved r (halfway r) (answer (halfway r))) ])
      go true h rest = refl
      go false h rest = later h rest (closer r (answer (halfway r)) (not_over r h).1)

  pub run_ends : (r : PlainReached) → is_run_over r ≡ true → bisect_levels answer r ≡ r
  run_ends r h = over_stays (distance r) r h

  pub run_goes_on : (r : PlainReached) → is_run_over r ≡ false
      → bisect_levels answer r ≡ bisect_levels answer (moved r (halfway r) (answer (halfway r)))
  run_goes_on r h =
      same_run (distance r) (suc (distance r)) r (omega arith) (omega arith) ∙ go (is_run_over r) h
    where
      enough : (distance (moved r (halfway r) (answer (halfway r))) < distance r)
          ⊎ ((moved r (halfway r) (answer (halfway r))).spent ≡ true)
          → bisect_for answer (distance r) (moved r (halfway r) (answer (halfway r)))
          ≡ bisect_levels answer (moved r (halfway r) (answer (halfway r)))
      enough (inl c) = same_run (distance r) (distance (moved r (halfway r) (answer (halfway r))))
          (moved r (halfway r) (answer (halfway r))) (omega (arith, c)) (omega arith)
      enough (inr s) = over_stays (distance r) (moved r (halfway r) (answer (halfway r)))
          (spent_over (moved r (halfway r) (answer (halfway r))) s)
          ∙ sym (over_stays (distance (moved r (halfway r) (answer (halfway r))))
          (moved r (halfway r) (answer (halfway r))) (spent_over (moved r (halfway r) (answer (halfway r))) s))

      go : (b : Bool) → b ≡ false
          → elim b [ true ↦ r | false ↦ bisect_for answer (distance r) (moved r (halfway r) (answer (halfway r))) ]
          ≡ bisect_levels answer (moved r (halfway r) (answer (halfway r)))
      go true e = absurd (true≢false e)
      go false e = enough (closer r (answer (halfway r)) (not_over r h).1)

-- Where the answers between the two levels are right, the run keeps a refuted level with its tokens
-- and a placed one with its numbers.
module _ (Shows : ℕ → List ℕ → Type 0) (Denies : ℕ → List PlainToken → Type 0) (answer : ℕ → PlainLevel) where
  run_on_right : (k : ℕ) (r : PlainReached) → ((m : ℕ) → IsLevelBetween r m → IsRightLevel Shows Denies m (answer m))
      → Denies r.refuted r.tokens → Shows r.placed r.numbers
      → Denies (bisect_for answer k r).refuted (bisect_for answer k r).tokens
      × Shows (bisect_for answer k r).placed (bisect_for answer k r).numbers
  run_on_right zero r right no_low yes_high = (no_low, yes_high)
  run_on_right (suc k) r right no_low yes_high = go (is_run_over r) refl (λ s. run_on_right k s)
    where
      next : (a : PlainLevel) → 2 ≤ distance r → IsRightLevel Shows Denies (halfway r) a
          → ((s : PlainReached) → ((m : ℕ) → IsLevelBetween s m → IsRightLevel Shows Denies m (answer m))
          → Denies s.refuted s.tokens → Shows s.placed s.numbers
          → Denies (bisect_for answer k s).refuted (bisect_for answer k s).tokens
          × Shows (bisect_for answer k s).placed (bisect_for answer k s).numbers)
          → Denies (bisect_for answer k (moved r (halfway r) a)).refuted (bisect_for answer k (moved r (halfway r) a)).tokens
          × Shows (bisect_for answer k (moved r (halfway r) a)).placed (bisect_for answer k (moved r (halfway r) a)).numbers
      next (PlacedBy ns) l h rest = rest (moved r (halfway r) (PlacedBy ns))
          (λ m b. right m (wider_placed r ns l m b)) no_low h
      next (RefutedBy ts) l h rest =
          rest (moved r (halfway r) (RefutedBy ts)) (λ m b. right m (wider_refuted r ts l m b)) h yes_high
      next SpentAt l h rest = rest (moved r (halfway r) SpentAt) right no_low yes_high

      go : (b : Bool) → is_run_over r ≡ b
          → ((s : PlainReached) → ((m : ℕ) → IsLevelBetween s m → IsRightLevel Shows Denies m (answer m))
          → Denies s.refuted s.tokens → Shows s.placed s.numbers
          → Denies (bisect_for answer k s).refuted (bisect_for answer k s).tokens
          × Shows (bisect_for answer k s).placed (bisect_for answer k s).numbers)
          → HasBothCertificates Shows Denies
          (elim b [ true ↦ r | false ↦ bisect_for answer k (moved r (halfway r) (answer (halfway r))) ])
      go true e rest = (no_low, yes_high)
      go false e rest = let l = (not_over r e).1 in
          next (answer (halfway r)) l (right (halfway r) (halfway_between r l)) rest

  pub run_right : (r : PlainReached) → ((m : ℕ) → IsLevelBetween r m → IsRightLevel Shows Denies m (answer m))
      → Denies r.refuted r.tokens → Shows r.placed r.numbers
      → Denies (bisect_levels answer r).refuted (bisect_levels answer r).tokens
      × Shows (bisect_levels answer r).placed (bisect_levels answer r).numbers
  run_right r right no_low yes_high = run_on_right (distance r) r right no_low yes_high

-- the run ends where the levels are neighbours, or a decision was spent
run_on_over : (answer : ℕ → PlainLevel) (k : ℕ) (r : PlainReached) → distance r ≤ k
    → is_run_over (bisect_for answer k r) ≡ true
run_on_over answer zero r l = near_over answer r (omega (arith, l))
run_on_over answer (suc k) r l = go (is_run_over r) refl (λ s m. run_on_over answer k s m)
  where
    later : is_run_over r ≡ false → ((s : PlainReached) → distance s ≤ k → is_run_over (bisect_for answer k s) ≡ true)
        → (distance (moved r (halfway r) (answer (halfway r))) < distance r)
        ⊎ ((moved r (halfway r) (answer (halfway r))).spent ≡ true)
        → is_run_over (bisect_for answer k (moved r (halfway r) (answer (halfway r)))) ≡ true
    later h rest (inl c) = rest (moved r (halfway r) (answer (halfway r))) (omega (arith, c, l))
    later h rest (inr s) =
        let e = over_stays answer k (moved r (halfway r) (answer (halfway r)))
        (spent_over answer (moved r (halfway r) (answer (halfway r))) s) in
        ap is_run_over e ∙ spent_over answer (moved r (halfway r) (answer (halfway r))) s

    go : (b : Bool) → is_run_over r ≡ b → ((s : PlainReached) → distance s ≤ k → is_run_over (bisect_for answer k s) ≡ true)
        → is_run_over (elim b [ true ↦ r | false ↦ bisect_for answer k (moved r (halfway r) (answer (halfway r))) ]) ≡ true
    go true e rest = e
    go false e rest = later e rest (closer r (answer (halfway r)) (not_over r e).1)

pub run_over : (answer : ℕ → PlainLevel) (r : PlainReached) → is_run_over (bisect_levels answer r) ≡ true
run_over answer r = run_on_over answer (distance r) r (omega arith)
