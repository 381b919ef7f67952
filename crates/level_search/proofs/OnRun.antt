-- A search that follows a run of levels stays on it.
use Rattle.std.proofs.Common.{◌≡◌, ℕ, ◌<◌, ◌≤◌, inl, inr, sym, ap, subst, ◌∙◌, arith, true, if◌then◌else◌}
use Rattle.tree_terms.specs.Levels.{PlainLevel, PlacedBy, RefutedBy, SpentAt, PlainReached, distance, halfway, moved}
use Rattle.tree_terms.specs.Levels.{is_run_over, bisect_levels, IsLevelBetween}
use Rattle.tree_terms.proofs.Runs.{not_over, halfway_between, run_ends, run_goes_on}
use Rattle.level_search.specs.Runs.{IsNext}

-- how many decisions are left at most
abbrev pub decisions_left : PlainReached → ℕ
decisions_left r = if r.spent then 0 else distance r

pub run_stays : (answer : ℕ → PlainLevel) (r : PlainReached) (level : ℕ) → IsNext r level
    → bisect_levels answer (moved r level (answer level)) ≡ bisect_levels answer r
run_stays answer r level next =
    ap (λ (k : ℕ). bisect_levels answer (moved r k (answer k))) next.1 ∙ sym (run_goes_on answer r next.0)

-- The two levels are on the run from the first two, and from low to high.
pub record IsOnRun (answer : ℕ → PlainLevel) (low high : ℕ) (first r : PlainReached) : Type 0 where
  pub run : bisect_levels answer r ≡ bisect_levels answer first
  pub refuted : (low ≤ r.refuted) × (r.refuted ≤ high)
  pub placed : (low ≤ r.placed) × (r.placed ≤ high)

module _ (answer : ℕ → PlainLevel) (low high : ℕ) (first : PlainReached) where
  -- the next level lies strictly between
  pub next_inside : (r : PlainReached) (level : ℕ) → IsOnRun answer low high first r → IsNext r level
      → (low < level) × (level < high)
  next_inside r level on next = rw next.1 (go (halfway_between r (not_over r next.0).1))
    where
      go : IsLevelBetween r (halfway r) → (low < halfway r) × (halfway r < high)
      go (inl (x, y)) = let a = on.refuted.0 in let b = on.placed.1 in (omega (arith, a, x), omega (arith, b, y))
      go (inr (x, y)) = let a = on.placed.0 in let b = on.refuted.1 in (omega (arith, a, x), omega (arith, b, y))

  pub on_run_next : (r s : PlainReached) (level : ℕ) (a : PlainLevel) → IsOnRun answer low high first r → IsNext r level
      → a ≡ answer level → s ≡ moved r level a
      → IsOnRun answer low high first s
  on_run_next r s level a on next e m = subst (λ (x : PlainReached). IsOnRun answer low high first x) (sym m) (record {
    run = ap (λ (x : PlainLevel). bisect_levels answer (moved r level x)) e ∙ (run_stays answer r level next ∙ on.run);
    refuted = stays_refuted a;
    placed = stays_placed a;
  })
    where
      inside : (low ≤ level) × (level ≤ high)
      inside = let i = next_inside r level on next in let x = i.0 in let y = i.1 in (omega (arith, x), omega (arith, y))

      stays_refuted : (x : PlainLevel) → (low ≤ (moved r level x).refuted) × ((moved r level x).refuted ≤ high)
      stays_refuted (PlacedBy ns) = on.refuted
      stays_refuted (RefutedBy ts) = inside
      stays_refuted SpentAt = on.refuted

      stays_placed : (x : PlainLevel) → (low ≤ (moved r level x).placed) × ((moved r level x).placed ≤ high)
      stays_placed (PlacedBy ns) = inside
      stays_placed (RefutedBy ts) = on.placed
      stays_placed SpentAt = on.placed

  -- where it goes no further, it is the end of the run
  pub run_told : (r : PlainReached) → IsOnRun answer low high first r → is_run_over r ≡ true
      → r ≡ bisect_levels answer first
  run_told r on over = sym (run_ends answer r over) ∙ on.run
