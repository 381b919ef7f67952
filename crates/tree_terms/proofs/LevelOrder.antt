-- Where a run of levels ends: its two levels keep their order and stay within the first two, end as
-- neighbours where no decision was spent, and each
-- is the first one or what a decision on the run gave.
use Rattle.std.proofs.Common.{◌≡◌, ℕ, zero, suc, ◌<◌, ◌≤◌, ◌⊎◌, ◌↔◌, inl, inr, refl, sym, subst, ◌∙◌, arith, Bool, true}
use Rattle.std.proofs.Common.{false, if◌then◌else◌, nat_lt, IsTrue}
use Rattle.std.proofs.lemmas.Bool.{true≢false, ltb-true}
use Rattle.tree_terms.specs.Levels.{PlainLevel, PlacedBy, RefutedBy, SpentAt, PlainReached, distance, halfway, moved}
use Rattle.tree_terms.specs.Levels.{is_run_over, bisect_for, bisect_levels, IsLevelBetween}
use Rattle.tree_terms.specs.RunEnds.{IsLevelDecided, here, later, HasSpentDecision, IsFromRun, IsRisingEnd, IsFallingEnd}
use Rattle.tree_terms.proofs.Runs.{not_over, halfway_between, wider_placed, wider_refuted, run_over, run_ends}
use Rattle.tree_terms.proofs.Runs.{run_goes_on}

pub near_each_other : (r : PlainReached) → is_run_over r ≡ true → r.spent ≡ false → distance r < 2
near_each_other r h e = go r.spent e h
  where
    go : (s : Bool) → s ≡ false → (if s then true else nat_lt (distance r) 2) ≡ true → distance r < 2
    go true f k = absurd (true≢false f)
    go false f k = ltb-true (distance r) 2 k

-- within two levels, in rising order or in falling order
abbrev Rises : PlainReached → PlainReached → Type 0
Rises first r = (r.refuted < r.placed) × (first.refuted ≤ r.refuted) × (r.placed ≤ first.placed)

abbrev Falls : PlainReached → PlainReached → Type 0
Falls first r = (r.placed < r.refuted) × (first.placed ≤ r.placed) × (r.refuted ≤ first.refuted)

module _ (answer : ℕ → PlainLevel) (first : PlainReached) where
  rises_on : (k : ℕ) (r : PlainReached) → Rises first r → Rises first (bisect_for answer k r)
  rises_on zero r l = l
  rises_on (suc k) r l = go (is_run_over r) refl (λ s m. rises_on k s m)
    where
      next : (a : PlainLevel) → 2 ≤ distance r → ((s : PlainReached) → Rises first s → Rises first (bisect_for answer k s))
          → Rises first (bisect_for answer k (moved r (halfway r) a))
      next (PlacedBy ns) far rest = rest (moved r (halfway r) (PlacedBy ns))
          (omega (arith, far, l.0), l.1, omega (arith, far, l.0, l.2))
      next (RefutedBy ts) far rest =
          rest (moved r (halfway r) (RefutedBy ts)) (omega (arith, far, l.0), omega (arith, far, l.0, l.1), l.2)
      next SpentAt far rest = rest (moved r (halfway r) SpentAt) l

      go : (b : Bool) → is_run_over r ≡ b → ((s : PlainReached) → Rises first s → Rises first (bisect_for answer k s))
          → Rises first (elim b [ true ↦ r | false ↦ bisect_for answer k (moved r (halfway r) (answer (halfway r))) ])
      go true e rest = l
      go false e rest = next (answer (halfway r)) (not_over r e).1 rest

  falls_on : (k : ℕ) (r : PlainReached) → Falls first r → Falls first (bisect_for answer k r)
  falls_on zero r l = l
  falls_on (suc k) r l = go (is_run_over r) refl (λ s m. falls_on k s m)
    where
      next : (a : PlainLevel) → 2 ≤ distance r → ((s : PlainReached) → Falls first s → Falls first (bisect_for answer k s))
          → Falls first (bisect_for answer k (moved r (halfway r) a))
      next (PlacedBy ns) far rest = rest (moved r (halfway r) (PlacedBy ns))
          (omega (arith, far, l.0), omega (arith, far, l.0, l.1), l.2)
      next (RefutedBy ts) far rest =
          rest (moved r (halfway r) (RefutedBy ts)) (omega (arith, far, l.0), l.1, omega (arith, far, l.0, l.2))
      next SpentAt far rest = rest (moved r (halfway r) SpentAt) l

      go : (b : Bool) → is_run_over r ≡ b → ((s : PlainReached) → Falls first s → Falls first (bisect_for answer k s))
          → Falls first (elim b [ true ↦ r | false ↦ bisect_for answer k (moved r (halfway r) (answer (halfway r))) ])
      go true e rest = l
      go false e rest = next (answer (halfway r)) (not_over r e).1 rest

module _ (answer : ℕ → PlainLevel) where
  pub rising_end : (r : PlainReached) → r.refuted < r.placed → IsRisingEnd r (bisect_levels answer r)
  rising_end r l =
      let order = rises_on answer r (distance r) r (l, omega arith, omega arith) in
      record {
        order = order.0;
        low = order.1;
        high = order.2;
        beside = (λ e. (let near = near_each_other (bisect_levels answer r) (run_over answer r) e in let o = order.0 in
            omega (arith, near, o)));
      }

  pub falling_end : (r : PlainReached) → r.placed < r.refuted → IsFallingEnd r (bisect_levels answer r)
  falling_end r l =
      let order = falls_on answer r (distance r) r (l, omega arith, omega arith) in
      record {
        order = order.0;
        low = order.1;
        high = order.2;
        beside = (λ e. (let near = near_each_other (bisect_levels answer r) (run_over answer r) e in let o = order.0 in
            omega (arith, near, o)));
      }

  -- each level that is decided lies strictly between the two
  pub asked_between : {r : PlainReached} {level : ℕ} → IsLevelDecided answer r level → IsLevelBetween r level
  asked_between (here {r = r} o) = halfway_between r (not_over r o).1
  asked_between (later {r = r} {level = level} o d) = go (answer (halfway r)) (asked_between d)
    where
      go : (a : PlainLevel) → IsLevelBetween (moved r (halfway r) a) level → IsLevelBetween r level
      go (PlacedBy ns) b = wider_placed r ns (not_over r o).1 level b
      go (RefutedBy ts) b = wider_refuted r ts (not_over r o).1 level b
      go SpentAt b = b

  -- a step further on the run
  from_next : (r s : PlainReached) → is_run_over r ≡ false
      → IsFromRun answer (moved r (halfway r) (answer (halfway r))) s → IsFromRun answer r s
  from_next r s o h = record {
    refuted = first_refuted (answer (halfway r)) refl h.refuted;
    placed = first_placed (answer (halfway r)) refl h.placed;
  }
    where
      deeper : (a : PlainLevel) (level : ℕ) → answer (halfway r) ≡ a → IsLevelDecided answer (moved r (halfway r) a) level
          → IsLevelDecided answer r level
      deeper a level is d = later o (subst
          (λ (x : PlainLevel). IsLevelDecided answer (moved r (halfway r) x) level) (sym is) d)

      first_refuted : (a : PlainLevel) → answer (halfway r) ≡ a
          → ((s.refuted ≡ (moved r (halfway r) a).refuted) × (s.tokens ≡ (moved r (halfway r) a).tokens))
          ⊎ (IsLevelDecided answer (moved r (halfway r) a) s.refuted × (answer s.refuted ≡ RefutedBy s.tokens))
          → ((s.refuted ≡ r.refuted) × (s.tokens ≡ r.tokens))
          ⊎ (IsLevelDecided answer r s.refuted × (answer s.refuted ≡ RefutedBy s.tokens))
      first_refuted a is (inr (d, e)) = inr (deeper a s.refuted is d, e)
      first_refuted (PlacedBy ns) is (inl (e, f)) = inl (e, f)
      first_refuted (RefutedBy ts) is (inl (e, f)) =
          inr (subst (λ (m : ℕ). IsLevelDecided answer r m) (sym e) (here o), rw (e, f) is)
      first_refuted SpentAt is (inl (e, f)) = inl (e, f)

      first_placed : (a : PlainLevel) → answer (halfway r) ≡ a
          → ((s.placed ≡ (moved r (halfway r) a).placed) × (s.numbers ≡ (moved r (halfway r) a).numbers))
          ⊎ (IsLevelDecided answer (moved r (halfway r) a) s.placed × (answer s.placed ≡ PlacedBy s.numbers))
          → ((s.placed ≡ r.placed) × (s.numbers ≡ r.numbers))
          ⊎ (IsLevelDecided answer r s.placed × (answer s.placed ≡ PlacedBy s.numbers))
      first_placed a is (inr (d, e)) = inr (deeper a s.placed is d, e)
      first_placed (PlacedBy ns) is (inl (e, f)) =
          inr (subst (λ (m : ℕ). IsLevelDecided answer r m) (sym e) (here o), rw (e, f) is)
      first_placed (RefutedBy ts) is (inl (e, f)) = inl (e, f)
      first_placed SpentAt is (inl (e, f)) = inl (e, f)

  from_run_on : (k : ℕ) (r : PlainReached) → IsFromRun answer r (bisect_for answer k r)
  from_run_on zero r = record { refuted = inl (refl, refl); placed = inl (refl, refl) }
  from_run_on (suc k) r = go (is_run_over r) refl (λ s. from_run_on k s)
    where
      go : (b : Bool) → is_run_over r ≡ b → ((s : PlainReached) → IsFromRun answer s (bisect_for answer k s))
          → IsFromRun answer r (elim b [
            | true ↦ r
            | false ↦
                bisect_for answer k (moved r (halfway r) (answer (halfway r)))
          ])
      go true e rest = record { refuted = inl (refl, refl); placed = inl (refl, refl) }
      go false e rest = from_next r (bisect_for answer k (moved r (halfway r) (answer (halfway r)))) e
          (rest (moved r (halfway r) (answer (halfway r))))

  pub from_run : (r : PlainReached) → IsFromRun answer r (bisect_levels answer r)
  from_run r = from_run_on (distance r) r

  -- a run is spent exactly where a decision on it was
  spent_on : (k : ℕ) (r : PlainReached) → r.spent ≡ false → (bisect_for answer k r).spent ≡ true → HasSpentDecision answer r
  spent_on zero r e h = absurd (true≢false (sym h ∙ e))
  spent_on (suc k) r e h = go (is_run_over r) refl h (λ s f g. spent_on k s f g)
    where
      deeper : (a : PlainLevel) → answer (halfway r) ≡ a → is_run_over r ≡ false
          → HasSpentDecision answer (moved r (halfway r) a) → HasSpentDecision answer r
      deeper a is o (level, d, f) = (
        level,
        later o (subst (λ (x : PlainLevel). IsLevelDecided answer (moved r (halfway r) x) level) (sym is) d),
        f,
      )

      next : (a : PlainLevel) → answer (halfway r) ≡ a → is_run_over r ≡ false
          → (bisect_for answer k (moved r (halfway r) a)).spent ≡ true
          → ((s : PlainReached) → s.spent ≡ false → (bisect_for answer k s).spent ≡ true → HasSpentDecision answer s)
          → HasSpentDecision answer r
      next SpentAt is o g rest = (halfway r, here o, is)
      next (PlacedBy ns) is o g rest = deeper (PlacedBy ns) is o (rest (moved r (halfway r) (PlacedBy ns)) e g)
      next (RefutedBy ts) is o g rest = deeper (RefutedBy ts) is o (rest (moved r (halfway r) (RefutedBy ts)) e g)

      go : (b : Bool) → is_run_over r ≡ b
          → (elim b as (λ x. PlainReached)
          [ true ↦ r | false ↦ bisect_for answer k (moved r (halfway r) (answer (halfway r))) ]).spent ≡ true
          → ((s : PlainReached) → s.spent ≡ false → (bisect_for answer k s).spent ≡ true → HasSpentDecision answer s)
          → HasSpentDecision answer r
      go true o g rest = absurd (true≢false (sym g ∙ e))
      go false o g rest = next (answer (halfway r)) refl o g rest

  decided_spends : (r : PlainReached) (level : ℕ) → IsLevelDecided answer r level → answer level ≡ SpentAt
      → (bisect_levels answer r).spent ≡ true
  decided_spends r level (here o) e =
      rw (run_goes_on answer r o, e, run_ends answer (moved r (halfway r) SpentAt) refl) refl
  decided_spends r level (later o d) e = rw (run_goes_on answer r o) (decided_spends _ level d e)

  pub spent_exactly : (r : PlainReached) → r.spent ≡ false
      → IsTrue (bisect_levels answer r).spent ↔ HasSpentDecision answer r
  spent_exactly r e = (λ h. spent_on (distance r) r e h, λ (level, d, f). decided_spends r level d f)
