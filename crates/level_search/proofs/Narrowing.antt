-- Bounds stay bounds while they are narrowed, and each answer leaves less to be asked.
use Rattle.std.proofs.Common.{◌≡◌, ℕ, suc, ◌+◌, ◌-◌, ◌<◌, ◌≤◌, inl, inr, arith, refl, sym, ap, subst, ◌∙◌, Bool}
use Rattle.std.proofs.Common.{if◌then◌else◌, nat_lt, List}
use Rattle.std.proofs.lemmas.Bool.{lt-ltb, le-ltb}
use Rattle.packing_terms.specs.Tokens.{PlainToken}
use Rattle.tree_terms.specs.Levels.{PlainLevel, PlacedBy, RefutedBy, SpentAt}
use Rattle.level_search.specs.Bounds.{PlainBounds, first_bounds, IsAsked, HasNoLevelLeft, narrowed, levels_left, IsRightAnswer}
use Rattle.level_search.specs.Bounds.{AreSpent, AreBounds, IsClosed}

-- a choice by two numbers
by_less : (a b x y : ℕ) → a < b → (if nat_lt a b then x else y) ≡ x
by_less a b x y l = ap (λ (t : Bool). if t then x else y) (lt-ltb a b l)

by_more : (a b x y : ℕ) → b ≤ a → (if nat_lt a b then x else y) ≡ y
by_more a b x y l = ap (λ (t : Bool). if t then x else y) (le-ltb a b l)

-- what is left of bounds whose lowest and highest level are these
left_none : (b : PlainBounds) → b.highest < b.lowest → levels_left b ≡ suc (b.placed - b.refuted)
left_none b l = by_less b.highest b.lowest _ _ l

left_some : (b : PlainBounds) → b.lowest ≤ b.highest → levels_left b ≡ (b.lowest - b.refuted) + (b.placed - b.highest)
left_some b l = by_more b.highest b.lowest _ _ l

module _ (Shows : ℕ → List ℕ → Type 0) (Denies : ℕ → List PlainToken → Type 0) (Past : ℕ → Type 0) (top : ℕ) where
  abbrev Are : PlainBounds → Type 0
  Are b = AreBounds Shows Denies Past top b

  pub are_first : (refuted placed : ℕ) (tokens : List PlainToken) (numbers : List ℕ) → refuted < placed → placed ≤ top
      → Denies refuted tokens → Shows placed numbers
      → Are (first_bounds refuted tokens placed numbers)
  are_first refuted placed tokens numbers order within denied shown =
      record {
        order = order;
        within = within;
        denied = denied;
        shown = shown;
        low = order;
        high = order;
        spent = inl (refl, refl);
      }

  -- an answer leaves bounds, and less to be asked
  pub record IsStep (before after : PlainBounds) : Type 0 where
    pub are : Are after
    pub less : levels_left after < levels_left before

  -- bounds between which nothing was spent
  unspent : (b c : PlainBounds) (level : ℕ) → c.refuted < c.placed → c.placed ≤ top → Denies c.refuted c.tokens
      → Shows c.placed c.numbers
      → c.lowest ≡ c.placed → c.highest ≡ c.refuted → suc (c.placed - c.refuted) < levels_left b → IsStep b c
  unspent b c level order within denied shown l h less = record {
    are = record {
      order = order;
      within = within;
      denied = denied;
      shown = shown;
      low = omega (arith, order, l);
      high = omega (arith, order, h);
      spent = inl (l, h);
    };
    less = (let e = left_none c (omega (arith, order, l, h)) in omega (arith, e, less));
  }

  -- bounds with the lowest and the highest level that were spent
  spent_between : (b c : PlainBounds) (l h : ℕ) → c.refuted < l → l ≤ h → h < c.placed → c.placed ≤ top
      → Denies c.refuted c.tokens → Shows c.placed c.numbers
      → c.lowest ≡ l → c.highest ≡ h → Past l → Past h → (l - c.refuted) + (c.placed - h) < levels_left b → IsStep b c
  spent_between b c l h low order high within denied shown el eh pl ph less = record {
    are = record {
      order = omega (arith, low, order, high);
      within = within;
      denied = denied;
      shown = shown;
      low = omega (arith, low, el);
      high = omega (arith, high, eh);
      spent = inr (omega (arith, order, el, eh), (subst Past (sym el) pl, subst Past (sym eh) ph));
    };
    less = (let e = left_some c (omega (arith, order, el, eh)) in omega (arith, e, el, eh, less));
  }

  module _ (b : PlainBounds) (h : Are b) (level : ℕ) where
    -- a level that is placed
    placed_low : (ns : List ℕ) → Shows level ns → b.refuted < level → level < b.lowest → AreSpent Past b
        → IsStep b (narrowed b level (PlacedBy ns))
    placed_low ns shown x y (inl (l, g)) =
        let w = h.within in
        let o = h.order in
        let e = left_none b (omega (arith, l, g, o)) in
        unspent b (narrowed b level (PlacedBy ns)) level x (omega (arith, y, l, w)) h.denied shown
        (by_less level b.lowest level b.lowest y)
        (by_less b.highest level b.highest b.refuted (omega (arith, g, x)) ∙ g) (omega (arith, e, x, y, l))
    placed_low ns shown x y (inr (o, p)) =
        let w = h.within in
        let t = h.high in
        let e = left_some b o in
        unspent b (narrowed b level (PlacedBy ns)) level x (omega (arith, y, o, t, w)) h.denied shown
        (by_less level b.lowest level b.lowest y)
        (by_more b.highest level b.highest b.refuted (omega (arith, o, y))) (omega (arith, e, x, y, o, t))

    placed_high : (ns : List ℕ) → Shows level ns → b.highest < level → level < b.placed → AreSpent Past b
        → IsStep b (narrowed b level (PlacedBy ns))
    placed_high ns shown x y (inl (l, g)) = placed_low ns shown (omega (arith, x, g)) (omega (arith, y, l)) (inl (l, g))
    placed_high ns shown x y (inr (o, p)) =
        let w = h.within in
        let t = h.low in
        let e = left_some b o in
        spent_between b (narrowed b level (PlacedBy ns)) b.lowest b.highest t o x (omega (arith, y, w)) h.denied shown
        (by_more level b.lowest level b.lowest (omega (arith, o, x))) (by_less b.highest level b.highest b.refuted x)
        p.0 p.1 (omega (arith, e, x, y))

    -- a level that is refuted
    refuted_high : (ts : List PlainToken) → Denies level ts → b.highest < level → level < b.placed → AreSpent Past b
        → IsStep b (narrowed b level (RefutedBy ts))
    refuted_high ts denied x y (inl (l, g)) =
        let o = h.order in
        let e = left_none b (omega (arith, l, g, o)) in
        unspent b (narrowed b level (RefutedBy ts)) level y h.within denied h.shown
        (by_less level b.lowest b.lowest b.placed (omega (arith, y, l)) ∙ l) (by_less b.highest level level b.highest x)
        (omega (arith, e, x, y, g))
    refuted_high ts denied x y (inr (o, p)) =
        let t = h.low in
        let e = left_some b o in
        unspent b (narrowed b level (RefutedBy ts)) level y h.within denied h.shown
        (by_more level b.lowest b.lowest b.placed (omega (arith, o, x))) (by_less b.highest level level b.highest x)
        (omega (arith, e, x, y, o, t))

    refuted_low : (ts : List PlainToken) → Denies level ts → b.refuted < level → level < b.lowest → AreSpent Past b
        → IsStep b (narrowed b level (RefutedBy ts))
    refuted_low ts denied x y (inl (l, g)) =
        refuted_high ts denied (omega (arith, x, g)) (omega (arith, y, l)) (inl (l, g))
    refuted_low ts denied x y (inr (o, p)) =
        let t = h.high in
        let e = left_some b o in
        spent_between b (narrowed b level (RefutedBy ts)) b.lowest b.highest y o t h.within denied h.shown
        (by_less level b.lowest b.lowest b.placed y) (by_more b.highest level level b.highest (omega (arith, o, y))) p.0
        p.1 (omega (arith, e, x, y))

    -- a level that is spent
    spent_low : Past level → b.refuted < level → level < b.lowest → AreSpent Past b
        → IsStep b (narrowed b level SpentAt)
    spent_low past x y (inl (l, g)) =
        let o = h.order in
        let e = left_none b (omega (arith, l, g, o)) in
        spent_between b (narrowed b level SpentAt) level level x (omega arith) (omega (arith, y, l)) h.within
        h.denied h.shown
        (by_less level b.lowest level b.lowest y) (by_less b.highest level level b.highest (omega (arith, x, g))) past
        past (omega (arith, e, x, y, l))
    spent_low past x y (inr (o, p)) =
        let t = h.high in
        let e = left_some b o in
        spent_between b (narrowed b level SpentAt) level b.highest x (omega (arith, y, o)) t h.within h.denied h.shown
        (by_less level b.lowest level b.lowest y) (by_more b.highest level level b.highest (omega (arith, o, y))) past
        p.1 (omega (arith, e, x, y))

    spent_high : Past level → b.highest < level → level < b.placed → AreSpent Past b
        → IsStep b (narrowed b level SpentAt)
    spent_high past x y (inl (l, g)) = spent_low past (omega (arith, x, g)) (omega (arith, y, l)) (inl (l, g))
    spent_high past x y (inr (o, p)) =
        let t = h.low in
        let e = left_some b o in
        spent_between b (narrowed b level SpentAt) b.lowest level t (omega (arith, x, o)) y h.within h.denied h.shown
        (by_more level b.lowest level b.lowest (omega (arith, o, x))) (by_less b.highest level level b.highest x) p.0
        past (omega (arith, e, x, y))

    pub step : (answer : PlainLevel) → IsAsked b level → IsRightAnswer Shows Denies Past level answer
        → IsStep b (narrowed b level answer)
    step (PlacedBy ns) (inl (x, y)) right = placed_low ns right x y h.spent
    step (PlacedBy ns) (inr (x, y)) right = placed_high ns right x y h.spent
    step (RefutedBy ts) (inl (x, y)) right = refuted_low ts right x y h.spent
    step (RefutedBy ts) (inr (x, y)) right = refuted_high ts right x y h.spent
    step SpentAt (inl (x, y)) right = spent_low right x y h.spent
    step SpentAt (inr (x, y)) right = spent_high right x y h.spent

    -- a level that is asked lies strictly between the two
    pub asked_inside : IsAsked b level → (b.refuted < level) × (level < b.placed)
    asked_inside (inl (x, y)) = go h.spent
      where
        go : AreSpent Past b → (b.refuted < level) × (level < b.placed)
        go (inl (l, g)) = (x, omega (arith, y, l))
        go (inr (o, p)) = let t = h.high in (x, omega (arith, y, o, t))
    asked_inside (inr (x, y)) = go h.spent
      where
        go : AreSpent Past b → (b.refuted < level) × (level < b.placed)
        go (inl (l, g)) = (omega (arith, x, g), y)
        go (inr (o, p)) = let t = h.low in (omega (arith, x, o, t), y)

  -- where nothing is left to be asked, the two are neighbours, or those beside them were spent
  pub closed : (b : PlainBounds) → Are b → HasNoLevelLeft b → IsClosed Past b
  closed b h narrow = go h.spent
    where
      go : AreSpent Past b → IsClosed Past b
      go (inl (l, g)) = let o = h.order in let n = narrow.0 in inl (omega (arith, l, o, n))
      go (inr (o, p)) =
          let n = narrow.0 in
          let m = narrow.1 in
          let x = h.low in
          let y = h.high in
          inr (subst Past (omega (arith, n, x)) p.0, subst Past (omega (arith, m, y)) p.1)
