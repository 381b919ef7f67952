-- Where the two runs of a round end: with a corner that is refuted, and a point that is packed.
use Rattle.std.proofs.Common.{◌≡◌, ℕ, suc, ◌<◌, ◌≤◌, ◌⊎◌, inl, inr, refl, arith, false, List, []}
use Rattle.packing_terms.specs.Packing.{PlainInstance, IsPacking, written_container}
use Rattle.packing_terms.specs.Tokens.{PlainToken}
use Rattle.packing_terms.specs.Refutation.{Refutes}
use Rattle.tree_terms.specs.Levels.{PlainLevel, PlacedBy, RefutedBy, SpentAt, PlainReached, IsLevelBetween}
use Rattle.tree_terms.specs.Levels.{IsRightLevel}
use Rattle.tree_terms.proofs.Runs.{run_right}
use Rattle.tree_terms.proofs.LevelOrder.{rising_end}
use Rattle.verdict_terms.specs.Fronts.{with_container}
use Rattle.answer_terms.specs.Walks.{levels_from, width_run, height_run}

module _ (instance : PlainInstance) where
  -- what is answered for a container is right
  abbrev pub IsRightSize : ℕ → ℕ → PlainLevel → Type 0
  IsRightSize a b (PlacedBy places) = IsPacking (with_container instance a b) places
  IsRightSize a b (RefutedBy tokens) = Refutes (with_container instance a b) [] tokens
  IsRightSize a b SpentAt = Unit {0}

  -- what is answered for each container within the instance's own is right
  abbrev pub AreRightSizes : (ℕ → ℕ → PlainLevel) → Type 0
  AreRightSizes answer = (a b : ℕ) → 1 ≤ a → a ≤ written_container instance 0 → b ≤ written_container instance 1
      → IsRightSize a b (answer a b)

  -- the container is refuted, or its width is 0; `IsLow` says the same of its height
  abbrev pub IsNarrow : ℕ → ℕ → List PlainToken → Type 0
  IsNarrow h a tokens = (a ≡ 0) ⊎ Refutes (with_container instance a h) [] tokens

  abbrev pub IsLow : ℕ → ℕ → List PlainToken → Type 0
  IsLow a h tokens = (h ≡ 0) ⊎ Refutes (with_container instance a h) [] tokens

  pub record IsWidthEnd (h a : ℕ) (r : PlainReached) : Type 0 where
    pub low : a ≤ r.refuted
    pub order : r.refuted < r.placed
    pub high : r.placed ≤ written_container instance 0
    pub beside : r.spent ≡ false → suc r.refuted ≡ r.placed
    pub refutes : IsNarrow h r.refuted r.tokens
    pub packs : IsPacking (with_container instance r.placed h) r.numbers

  pub record IsHeightEnd (a h : ℕ) (r : PlainReached) : Type 0 where
    pub order : r.refuted < r.placed
    pub high : r.placed ≤ h
    pub beside : r.spent ≡ false → suc r.refuted ≡ r.placed
    pub refutes : IsLow a r.refuted r.tokens
    pub packs : IsPacking (with_container instance a r.placed) r.numbers

  module _ (answer : ℕ → ℕ → PlainLevel) (right : AreRightSizes answer) where
    as_width : (h m : ℕ) (l : PlainLevel) → IsRightSize m h l
        → IsRightLevel (λ w ns. IsPacking (with_container instance w h) ns) (IsNarrow h) m l
    as_width h m (PlacedBy ns) r = r
    as_width h m (RefutedBy ts) r = inr r
    as_width h m SpentAt r = tt

    as_height : (a m : ℕ) (l : PlainLevel) → IsRightSize a m l
        → IsRightLevel (λ h ns. IsPacking (with_container instance a h) ns) (IsLow a) m l
    as_height a m (PlacedBy ns) r = r
    as_height a m (RefutedBy ts) r = inr r
    as_height a m SpentAt r = tt

    pub width_end : (h a : ℕ) (tokens : List PlainToken) (places : List ℕ) → h ≤ written_container instance 1
        → a < written_container instance 0 → IsNarrow h a tokens
        → IsPacking (with_container instance (written_container instance 0) h) places
        → IsWidthEnd h a (width_run answer (written_container instance 0) h a tokens places)
    width_end h a tokens places l m narrow packed =
        let first : PlainReached = levels_from a tokens (written_container instance 0) places in
        let e = rising_end (λ w. answer w h) (levels_from a tokens (written_container instance 0) places) m in
        let k = run_right (λ w ns. IsPacking (with_container instance w h) ns) (IsNarrow h) (λ w. answer w h)
        (levels_from a tokens (written_container instance 0) places)
        (λ w b. as_width h w (answer w h) (at w b)) narrow packed in
        record { low = e.low; order = e.order; high = e.high; beside = e.beside; refutes = k.0; packs = k.1 }
      where
        at : (w : ℕ) → IsLevelBetween (levels_from a tokens (written_container instance 0) places) w
            → IsRightSize w h (answer w h)
        at w (inl (x, y)) = right w h (omega (arith, x)) (omega (arith, y)) l
        at w (inr (x, y)) = absurd (omega (arith, x, y, m))

    pub height_end : (a h : ℕ) (places : List ℕ) → 1 ≤ a → a ≤ written_container instance 0 → 1 ≤ h
        → h ≤ written_container instance 1
        → IsPacking (with_container instance a h) places
        → IsHeightEnd a h (height_run answer (written_container instance 0) a h places)
    height_end a h places l m n o packed =
        let e = rising_end (λ b. answer a b) (levels_from 0 [] h places) n in
        let k = run_right (λ b ns. IsPacking (with_container instance a b) ns) (IsLow a) (λ b. answer a b)
        (levels_from 0 [] h places)
        (λ b i. as_height a b (answer a b) (at b i)) (inl refl) packed in
        record { order = e.order; high = e.high; beside = e.beside; refutes = k.0; packs = k.1 }
      where
        at : (b : ℕ) → IsLevelBetween (levels_from 0 [] h places) b → IsRightSize a b (answer a b)
        at b (inl (x, y)) = right a b l m (omega (arith, y, o))
        at b (inr (x, y)) = absurd (omega (arith, x, y))
