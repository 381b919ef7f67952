-- A run of levels whose first tokens are kept beside: they are those of the refuted level where that stays.
use Rattle.std.proofs.Common.{◌≡◌, ℕ, zero, suc, ◌<◌, ◌≤◌, inl, inr, refl, sym, ap, ◌∙◌, arith, Bool, true, false, List}
use Rattle.std.proofs.Common.{[], ◌∷◌}
use Rattle.std.specs.Prelude.{◌==◌, if◌then◌else◌}
use Rattle.std.proofs.lemmas.Bool.{ne_eqb, eq-eqb}
use Rattle.packing_terms.specs.Tokens.{PlainToken}
use Rattle.tree_terms.specs.Levels.{PlainLevel, PlacedBy, RefutedBy, SpentAt, PlainReached, distance, halfway, moved}
use Rattle.tree_terms.specs.Levels.{is_run_over, bisect_for, IsLevelBetween}
use Rattle.tree_terms.proofs.Runs.{not_over, halfway_between}
use Rattle.tree_terms.proofs.LevelOrder.{rising_end}
use Rattle.answer_terms.specs.Walks.{PlainFront, levels_from, spent_front, whole_front, front_after, corner_unless_empty}
use Rattle.answer_terms.specs.Walks.{width_run, height_run, rest_by, round_found, round_by_heights, round_by_widths}
use Rattle.answer_terms.specs.Walks.{round_by}

-- `t` with the tokens `ts`, where its refuted level is `r`
abbrev pub retold : ℕ → List PlainToken → PlainReached → PlainReached
retold r ts t = record t { tokens = (if t.refuted == r then ts else t.tokens) }

module _ (answer : ℕ → PlainLevel) (r : ℕ) (ts : List PlainToken) where
  retold_on : (k : ℕ) (t : PlainReached) → r ≤ t.refuted → r ≤ t.placed
      → bisect_for answer k (retold r ts t) ≡ retold r ts (bisect_for answer k t)
  retold_on zero t l m = refl
  retold_on (suc k) t l m = go (is_run_over t) refl (λ s a b. retold_on k s a b)
    where
      above : IsLevelBetween t (halfway t) → r < halfway t
      above (inl (x, y)) = omega (arith, x, l)
      above (inr (x, y)) = omega (arith, x, m)

      same : (a : PlainLevel) → r < halfway t
          → moved (retold r ts t) (halfway t) a ≡ retold r ts (moved t (halfway t) a)
      same (PlacedBy ns) b = refl
      same (RefutedBy us) b = rw (ne_eqb (halfway t) r (omega (arith, b))) refl
      same SpentAt b = refl

      next : (a : PlainLevel) → r < halfway t
          → ((s : PlainReached) → r ≤ s.refuted → r ≤ s.placed
          → bisect_for answer k (retold r ts s) ≡ retold r ts (bisect_for answer k s))
          → bisect_for answer k (retold r ts (moved t (halfway t) a))
          ≡ retold r ts (bisect_for answer k (moved t (halfway t) a))
      next (PlacedBy ns) b later = later (moved t (halfway t) (PlacedBy ns)) l (omega (arith, b))
      next (RefutedBy us) b later = later (moved t (halfway t) (RefutedBy us)) (omega (arith, b)) m
      next SpentAt b later = later (moved t (halfway t) SpentAt) l m

      go : (b : Bool) → is_run_over t ≡ b
          → ((s : PlainReached) → r ≤ s.refuted → r ≤ s.placed
          → bisect_for answer k (retold r ts s) ≡ retold r ts (bisect_for answer k s))
          → elim b [
            | true ↦ retold r ts t
            | false ↦
                bisect_for answer k (moved (retold r ts t) (halfway t) (answer (halfway t)))
          ]
          ≡ retold r ts (elim b [ true ↦ t | false ↦ bisect_for answer k (moved t (halfway t) (answer (halfway t))) ])
      go true e later = refl
      go false e later =
          let b = above (halfway_between t (not_over t e).1) in
          ap (λ (s : PlainReached). bisect_for answer k s) (same (answer (halfway t)) b) ∙ next (answer (halfway t)) b later

module _ (answer : ℕ → ℕ → PlainLevel) (most : ℕ) where
  pub retold_run : (h r : ℕ) (ts : List PlainToken) (ps : List ℕ) → r ≤ most
      → width_run answer most h r ts ps ≡ retold r ts (width_run answer most h r [] ps)
  retold_run h r ts ps l =
      ap (λ (s : PlainReached). bisect_for (λ w. answer w h) (distance (levels_from r [] most ps)) s) first
      ∙ retold_on (λ w. answer w h) r ts (distance (levels_from r [] most ps)) (levels_from r [] most ps)
      (omega arith) l
    where
      first : levels_from r ts most ps ≡ retold r ts (levels_from r [] most ps)
      first = rw (eq-eqb r r refl) refl

  -- a round by its runs
  module _ (walk : ℕ → ℕ → List PlainToken → PlainFront) (h r : ℕ) (ts : List PlainToken) (ps : List ℕ)
      (placed : answer most h ≡ PlacedBy ps) (low : r ≤ most) where
    by_widths : (w : PlainReached) → w ≡ width_run answer most h r [] ps
        → round_by answer most walk h r ts (answer most h) ≡ round_by_widths answer most walk h (retold r ts w)
        (spent_front r h ts) w.spent
    by_widths w e =
        ap (λ (l : PlainLevel). round_by answer most walk h r ts l) placed
        ∙ ap (λ (s : PlainReached). round_by_widths answer most walk h s (spent_front r h ts) s.spent)
        (retold_run h r ts ps low ∙ ap (λ (s : PlainReached). retold r ts s) (sym e))

    pub spent_widths : (w : PlainReached) → w ≡ width_run answer most h r [] ps → w.spent ≡ true
        → round_by answer most walk h r ts (answer most h) ≡ spent_front r h ts
    spent_widths w e s = by_widths w e
        ∙ ap (λ (b : Bool). round_by_widths answer most walk h (retold r ts w) (spent_front r h ts) b) s

    by_heights : (w g : PlainReached) → w ≡ width_run answer most h r [] ps → w.spent ≡ false
        → g ≡ height_run answer most w.placed h w.numbers
        → round_by answer most walk h r ts (answer most h) ≡ round_by_heights answer most walk h (retold r ts w) g
        (spent_front r h ts) g.spent
    by_heights w g e s f =
        by_widths w e
        ∙ (ap (λ (b : Bool). round_by_widths answer most walk h (retold r ts w) (spent_front r h ts) b) s
        ∙ ap (λ (t : PlainReached). round_by_heights answer most walk h (retold r ts w) t (spent_front r h ts)
        t.spent) (sym f))

    pub spent_heights : (w g : PlainReached) → w ≡ width_run answer most h r [] ps → w.spent ≡ false
        → g ≡ height_run answer most w.placed h w.numbers → g.spent ≡ true
        → round_by answer most walk h r ts (answer most h) ≡ spent_front r h ts
    spent_heights w g e s f t = by_heights w g e s f
        ∙ ap (λ (b : Bool). round_by_heights answer most walk h (retold r ts w) g (spent_front r h ts) b) t

    pub found_heights : (w g : PlainReached) → w ≡ width_run answer most h r [] ps → w.spent ≡ false
        → g ≡ height_run answer most w.placed h w.numbers → g.spent ≡ false
        → round_by answer most walk h r ts (answer most h) ≡ round_found answer most walk h (retold r ts w) g
    found_heights w g e s f t = by_heights w g e s f
        ∙ ap (λ (b : Bool). round_by_heights answer most walk h (retold r ts w) g (spent_front r h ts) b) t

  -- behind the point of a round
  pub found_end : (walk : ℕ → ℕ → List PlainToken → PlainFront) (h r : ℕ) (ts : List PlainToken) (w g : PlainReached)
      → g.refuted ≡ 0
      → round_found answer most walk h (retold r ts w) g
      ≡ front_after (corner_unless_empty w.refuted h (if w.refuted == r then ts else w.tokens))
      (record { width = w.placed; height = g.placed; places = g.numbers } ∷ []) whole_front
  found_end walk h r ts w g e =
      ap (λ (k : ℕ). front_after (corner_unless_empty w.refuted h (if w.refuted == r then ts else w.tokens))
      (record { width = w.placed; height = g.placed; places = g.numbers } ∷ [])
      (rest_by answer most walk k w.placed g.tokens)) e

  rest_on : (walk : ℕ → ℕ → List PlainToken → PlainFront) (k a : ℕ) (ts : List PlainToken) → (k ≡ 0 → ⊥)
      → rest_by answer most walk k a ts ≡ walk k a ts
  rest_on walk zero a ts ne = absurd (ne refl)
  rest_on walk (suc k) a ts ne = refl

  pub found_next : (walk : ℕ → ℕ → List PlainToken → PlainFront) (h r : ℕ) (ts : List PlainToken) (w g : PlainReached)
      → (g.refuted ≡ 0 → ⊥)
      → round_found answer most walk h (retold r ts w) g
      ≡ front_after (corner_unless_empty w.refuted h (if w.refuted == r then ts else w.tokens))
      (record { width = w.placed; height = g.placed; places = g.numbers } ∷ []) (walk g.refuted w.placed g.tokens)
  found_next walk h r ts w g ne =
      ap (λ (x : PlainFront). front_after (corner_unless_empty w.refuted h (if w.refuted == r then ts else w.tokens))
      (record { width = w.placed; height = g.placed; places = g.numbers } ∷ []) x)
      (rest_on walk g.refuted w.placed g.tokens ne)

  -- a round ends lower
  lower_run : (a h : ℕ) (ps : List ℕ) → 1 ≤ (height_run answer most a h ps).refuted
      → (height_run answer most a h ps).refuted < h
  lower_run a zero ps l = absurd (omega (arith, l))
  lower_run a (suc h) ps l =
      let e = rising_end (λ b. answer a b) (levels_from 0 [] (suc h) ps) (omega arith) in
      let o = e.order in let t = e.high in omega (arith, o, t)

  pub lower_end : (a h : ℕ) (ps : List ℕ) (g : PlainReached) → g ≡ height_run answer most a h ps → (g.refuted ≡ 0 → ⊥)
      → g.refuted < h
  lower_end a h ps g e ne =
      let f : g.refuted ≡ (height_run answer most a h ps).refuted = ap (λ (t : PlainReached). t.refuted) e in
      let l = lower_run a h ps (omega (arith, f, ne)) in
      omega (arith, f, l)

pub placed_from : (r s : PlainReached) (level : ℕ) (a : PlainLevel) → s ≡ moved r level a → 1 ≤ level → 1 ≤ r.placed
    → 1 ≤ s.placed
placed_from r s level (PlacedBy ns) e l m = let f : s.placed ≡ level = ap (λ (t : PlainReached). t.placed) e in
    omega (arith, f, l)
placed_from r s level (RefutedBy us) e l m = let f : s.placed ≡ r.placed = ap (λ (t : PlainReached). t.placed) e in
    omega (arith, f, m)
placed_from r s level SpentAt e l m = let f : s.placed ≡ r.placed = ap (λ (t : PlainReached). t.placed) e in
    omega (arith, f, m)
