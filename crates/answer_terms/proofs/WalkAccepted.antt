-- The lines of a walk are good.
use Rattle.std.proofs.Common.{◌≡◌, ℕ, zero, suc, ◌-◌, ◌<◌, ◌≤◌, ◌⊎◌, inl, inr, refl, sym, ◌∙◌, subst, arith, Bool, true}
use Rattle.std.proofs.Common.{false, List, [], ◌∷◌, ◌++◌, length, Ok, Err}
use Rattle.std.specs.Prelude.{◌==◌, ◌&&◌, cond, nat_le}
use Rattle.std.proofs.lemmas.Bool.{and_from, eq-eqb, ne_eqb, le-leb, lt-ltb, cases_lt}
use Rattle.packing_terms.specs.Packing.{PlainInstance, IsPacking, Fits, dims, written_container}
use Rattle.packing_terms.specs.Limits.{IsInternalInstance}
use Rattle.packing_terms.specs.Tokens.{PlainToken}
use Rattle.packing_terms.specs.Refutation.{Refutes}
use Rattle.packing_terms.proofs.Internal.{some_box}
use Rattle.tree_terms.specs.Levels.{PlainLevel, PlacedBy, RefutedBy, SpentAt, PlainReached}
use Rattle.verdict_terms.specs.Fronts.{with_container}
use Rattle.answer_terms.specs.Walks.{PlainFront, corner_unless_empty, spent_front, closed_front, front_after, width_run}
use Rattle.answer_terms.specs.Walks.{height_run, rest_by, round_by_heights, round_by_widths, round_by, walk_on, walk}
use Rattle.verdict_terms.specs.Lines.{PlainLine, CornerAt, Cornered, Pointed, FrontStage, wanted, form, range}
use Rattle.verdict_terms.specs.Lines.{closing_width, cornered, closing_corner, front_line, announced}
use Rattle.verdict_terms.specs.Verdicts.{front_verdict}
use Rattle.answer_terms.specs.WalkLines.{step_lines, front_lines, corner_lines, point_lines}
use Rattle.verdict_terms.proofs.Sizes.{refuted_size, sides_at}
use Rattle.answer_terms.proofs.Rounds.{IsRightSize, AreRightSizes, IsNarrow, IsWidthEnd, IsHeightEnd, width_end}
use Rattle.answer_terms.proofs.Rounds.{height_end}
use Rattle.verdict_terms.specs.declared.front_answers.FrontVerdict.TheVariants.{Good}
use Rattle.verdict_terms.proofs.Good.{AreGood, good_verdict}
use Rattle.answer_terms.proofs.WalkPieces.{wanted_from, good_corner, good_point}

closing_by : {A : Type 0} (b : Bool) (x y : A) → b ≡ false → cond b x y ≡ y
closing_by b x y e = rw e refl

opening_by : {A : Type 0} (b : Bool) (x y : A) → b ≡ true → cond b x y ≡ x
opening_by b x y e = rw e refl

module _ (instance : PlainInstance) (limits : IsInternalInstance instance) (plane : dims instance ≡ 2) where
  -- behind a point of width a, above whose height less 1 nothing is left to be found
  abbrev standing : ℕ → ℕ → ℕ → FrontStage
  standing left a h = record { left = left; part = Pointed a (suc h) }

  -- the rest of a front, behind a point of width a, with heights from h down
  abbrev pub IsGoodRest : ℕ → ℕ → PlainFront → Type 0
  IsGoodRest a h front = AreGood instance front.complete (standing (length front.points) a h)
      (step_lines front.corners front.points)

  closing_allowed : (c : Bool) (a h w : ℕ) → 1 ≤ h → w ≡ closing_width (written_container instance 0) c a
      → front_line instance c (standing 0 a h) (CornerAt w h) ≡ Ok (cornered 0 w h)
  closing_allowed c a h w l e =
      closing_by (suc h == 1) (Err form)
      (closing_corner (closing_width (written_container instance 0) c a) (suc h - 1) w h)
      (ne_eqb (suc h) 1 (omega (arith, l)))
      ∙ wanted_from _ range (cornered 0 w h) (and_from _ _ (eq-eqb h (suc h - 1) (omega arith)) (eq-eqb w _ e))

  before_allowed : (c : Bool) (n a h w : ℕ) → a ≤ w → w < written_container instance 0
      → front_line instance c (standing (suc n) a h) (CornerAt w h) ≡ Ok (cornered (suc n) w h)
  before_allowed c n a h w l m =
      wanted_from _ range (cornered (suc n) w h)
      (and_from _ _ (eq-eqb h (suc h - 1) (omega arith))
      (and_from _ _ (le-leb a w l) (lt-ltb w (written_container instance 0) m)))

  first_allowed : (c : Bool) (n w h : ℕ) → h ≡ written_container instance 1 → 1 ≤ w → w < written_container instance 0
      → front_line instance c (announced (suc n)) (CornerAt w h) ≡ Ok (cornered (suc n) w h)
  first_allowed c n w h e l m =
      wanted_from _ range (cornered (suc n) w h)
      (and_from _ _ (eq-eqb h (written_container instance 1) e)
      (and_from _ _ (le-leb 1 w l) (lt-ltb w (written_container instance 0) m)))

  point_allowed : (w h width height : ℕ) (x : FrontStage) → width ≡ w → width ≤ written_container instance 0
      → 1 ≤ height → height ≤ h
      → wanted ((width == w) && (nat_le width (written_container instance 0) && (nat_le 1 height && nat_le height h)))
      range x ≡ Ok x
  point_allowed w h width height x e l m n =
      wanted_from _ range x (and_from _ _ (eq-eqb width w e)
      (and_from _ _ (le-leb width (written_container instance 0) l)
      (and_from _ _ (le-leb 1 height m) (le-leb height h n))))

  -- where the walk ends
  closed_good : (a h : ℕ) (us : List PlainToken) → 1 ≤ h
      → Refutes (with_container instance (written_container instance 0) h) [] us
      → IsGoodRest a h (closed_front (written_container instance 0) h us)
  closed_good a h us l refutes =
      good_corner instance true (standing 0 a h) 0 (written_container instance 0) h us []
      (closing_allowed true a h (written_container instance 0) l refl) refutes refl

  spent_good : (a h : ℕ) (ts : List PlainToken) → 1 ≤ a → 1 ≤ h → Refutes (with_container instance a h) [] ts
      → IsGoodRest a h (spent_front a h ts)
  spent_good zero h ts l m refutes = absurd (omega (arith, l))
  spent_good (suc a) h ts l m refutes =
      good_corner instance false (standing 0 (suc a) h) 0 (suc a) h ts []
      (closing_allowed false (suc a) h (suc a) m refl) refutes refl

  -- what a round found, and what is behind it
  abbrev pub IsGoodBehind : ℕ → ℕ → PlainFront → Type 0
  IsGoodBehind width height rest =
      AreGood instance rest.complete (record { left = length rest.points; part = Pointed width height })
      (step_lines rest.corners rest.points)

  -- a point that a round found
  pub record IsFound (h r width height : ℕ) (ps : List ℕ) : Type 0 where
    pub next : width ≡ suc r
    pub widest : width ≤ written_container instance 0
    pub from : 1 ≤ height
    pub to : height ≤ h
    pub packed : IsPacking (with_container instance width height) ps

  found_good : (a h r : ℕ) (ts : List PlainToken) (width height : ℕ) (ps : List ℕ) (rest : PlainFront) → 1 ≤ r → a ≤ r
      → IsNarrow instance h r ts → IsFound h r width height ps
      → IsGoodBehind width height rest
      → IsGoodRest a h (front_after (corner_unless_empty r h ts)
      (record { width = width; height = height; places = ps } ∷ []) rest)
  found_good a h zero ts width height ps rest some l narrow found good = absurd (omega (arith, some))
  found_good a h (suc w) ts width height ps rest some l (inl e) found good = absurd (omega (arith, e))
  found_good a h (suc w) ts width height ps rest some l (inr refutes) found good =
      let n : width ≡ suc (suc w) = found.next in
      let m : width ≤ written_container instance 0 = found.widest in
      good_corner instance rest.complete (standing (suc (length rest.points)) a h) (suc (length rest.points))
      (suc w) h ts _
      (before_allowed rest.complete (length rest.points) a h (suc w) l (omega (arith, n, m))) refutes
      (good_point instance rest.complete (record { left = suc (length rest.points); part = Cornered (suc w) h [] })
      (length rest.points) width height ps _ (some_box instance limits)
      (point_allowed (suc (suc w)) h width height _ found.next found.widest found.from found.to) found.packed good)

  rest_good : (answer : ℕ → ℕ → PlainLevel) (most : ℕ) (walk : ℕ → ℕ → List PlainToken → PlainFront)
      (k width height : ℕ) (ts : List PlainToken) → height ≡ suc k
      → (1 ≤ k → IsGoodRest width k (walk k width ts)) → IsGoodBehind width height (rest_by answer most walk k width ts)
  rest_good answer most walk zero width height ts e good = and_from _ _ refl (eq-eqb height 1 e)
  rest_good answer most walk (suc k) width height ts e good =
      subst (λ (x : ℕ). IsGoodBehind width x (walk (suc k) width ts)) (sym e) (good (omega arith))

  -- a packing needs some height, and a refuted container isn't packed
  packed_high : (a h : ℕ) (ps : List ℕ) → IsPacking (with_container instance a h) ps → 1 ≤ h
  packed_high a h ps packed =
      let w = packed.within 0 1 (some_box instance limits) (omega arith) in
      let s = sides_at instance limits plane a h 0 1 (some_box instance limits) (omega arith) in
      omega (arith, w, s)

  narrower : (a h : ℕ) (ts : List PlainToken) (ps : List ℕ) → 1 ≤ written_container instance 0
      → a ≤ written_container instance 0 → IsNarrow instance h a ts
      → IsPacking (with_container instance (written_container instance 0) h) ps → a < written_container instance 0
  narrower a h ts ps some l (inl e) packed = omega (arith, some, e)
  narrower a h ts ps some l (inr refutes) packed = go (cases_lt a (written_container instance 0))
    where
      go : (a < written_container instance 0) ⊎ (written_container instance 0 ≤ a) → a < written_container instance 0
      go (inl k) = k
      go (inr k) =
          let e : written_container instance 0 ≡ a = omega (arith, k, l) in
          absurd (refuted_size instance limits plane a h ts refutes
          (subst (λ (x : ℕ). Fits (with_container instance x h)) e (ps, packed)))

  some_width : 1 ≤ written_container instance 0
  some_width = (limits.container.others 0 (omega (arith, plane))).0

  module _ (answer : ℕ → ℕ → PlainLevel) (right : AreRightSizes instance answer) where
    -- what at most `fuel` rounds give
    abbrev IsGoodWalk : ℕ → Type 0
    IsGoodWalk fuel = (h a : ℕ) (ts : List PlainToken) → h < fuel → 1 ≤ h → h ≤ written_container instance 1 → 1 ≤ a
        → a ≤ written_container instance 0
        → Refutes (with_container instance a h) [] ts
        → IsGoodRest a h (walk_on answer (written_container instance 0) fuel h a ts)

    -- behind the point of a round
    behind_round : (more h : ℕ) → h ≤ more → h ≤ written_container instance 1 → IsGoodWalk more → (W H : PlainReached)
        → (a : ℕ) → IsWidthEnd instance h a W → IsHeightEnd instance W.placed h H
        → H.spent ≡ false → IsGoodBehind W.placed H.placed
        (rest_by answer (written_container instance 0) (walk_on answer (written_container instance 0) more) H.refuted
        W.placed H.tokens)
    behind_round more h l m good W H a we he unspent =
        rest_good answer (written_container instance 0) (walk_on answer (written_container instance 0) more) H.refuted
        W.placed H.placed H.tokens (sym (he.beside unspent))
        (λ some. let o = he.order in let t = he.high in let p = we.order in
        good H.refuted W.placed H.tokens (omega (arith, o, t, l)) some (omega (arith, o, t, m)) (omega (arith, p))
        we.high (low some he.refutes))
      where
        low : 1 ≤ H.refuted → (H.refuted ≡ 0) ⊎ Refutes (with_container instance W.placed H.refuted) [] H.tokens
            → Refutes (with_container instance W.placed H.refuted) [] H.tokens
        low some (inl e) = absurd (omega (arith, some, e))
        low some (inr refutes) = refutes

    found_of : (h : ℕ) (W H : PlainReached) (a : ℕ) → IsWidthEnd instance h a W → IsHeightEnd instance W.placed h H
        → W.spent ≡ false → IsFound h W.refuted W.placed H.placed H.numbers
    found_of h W H a we he unspent = record {
      next = sym (we.beside unspent);
      widest = we.high;
      from = (let o = he.order in omega (arith, o));
      to = he.high;
      packed = he.packs;
    }

    walk_good : (fuel : ℕ) → IsGoodWalk fuel
    walk_good zero h a ts less some high from to refutes = absurd (omega (arith, less))
    walk_good (suc more) h a ts less some high from to refutes =
        by_answer (answer (written_container instance 0) h)
        (right (written_container instance 0) h some_width (omega arith) high) (walk_good more)
      where
        by_heights : (W H : PlainReached) → IsWidthEnd instance h a W → IsHeightEnd instance W.placed h H
            → W.spent ≡ false → IsGoodWalk more → (b : Bool) → H.spent ≡ b
            → IsGoodRest a h (round_by_heights answer (written_container instance 0)
            (walk_on answer (written_container instance 0) more) h W H (spent_front a h ts) b)
        by_heights W H we he unspent later true is = spent_good a h ts from some refutes
        by_heights W H we he unspent later false is =
            found_good a h W.refuted W.tokens W.placed H.placed H.numbers _ (let l = we.low in omega (arith, l, from))
            we.low we.refutes (found_of h W H a we he unspent)
            (behind_round more h (omega (arith, less)) high later W H a we he is)

        by_widths : (W : PlainReached) → IsWidthEnd instance h a W → IsGoodWalk more → (b : Bool) → W.spent ≡ b
            → IsGoodRest a h (round_by_widths answer (written_container instance 0)
            (walk_on answer (written_container instance 0) more) h W (spent_front a h ts) b)
        by_widths W we later true is = spent_good a h ts from some refutes
        by_widths W we later false is =
            let o = we.order in
            by_heights W (height_run answer (written_container instance 0) W.placed h W.numbers) we
            (height_end instance answer right W.placed h W.numbers (omega (arith, o)) we.high some high
            we.packs) is later
            (height_run answer (written_container instance 0) W.placed h W.numbers).spent refl

        by_answer : (l : PlainLevel) → IsRightSize instance (written_container instance 0) h l → IsGoodWalk more
            → IsGoodRest a h (round_by answer (written_container instance 0)
            (walk_on answer (written_container instance 0) more) h a ts l)
        by_answer (RefutedBy us) is later = closed_good a h us some is
        by_answer SpentAt is later = spent_good a h ts from some refutes
        by_answer (PlacedBy ps) is later =
            by_widths (width_run answer (written_container instance 0) h a ts ps)
            (width_end instance answer right h a ts ps high (narrower a h ts ps some_width to (inr refutes) is)
            (inr refutes) is) later
            (width_run answer (written_container instance 0) h a ts ps).spent refl

    -- the whole walk, whose first point may have no corner
    abbrev IsGoodFront : PlainFront → Type 0
    IsGoodFront front = AreGood instance front.complete (announced (length front.points)) (front_lines front)

    first_good : (h r : ℕ) (ts : List PlainToken) (width height : ℕ) (ps : List ℕ) (rest : PlainFront)
        → h ≡ written_container instance 1 → IsNarrow instance h r ts → IsFound h r width height ps
        → IsGoodBehind width height rest
        → IsGoodFront (front_after (corner_unless_empty r h ts)
        (record { width = width; height = height; places = ps } ∷ []) rest)
    first_good h zero ts width height ps rest e narrow found good =
        subst (λ (x : List PlainLine). AreGood instance rest.complete (announced (suc (length rest.points))) x)
        (sym (opening_by (width == 1) (point_lines (record { width = width; height = height; places = ps })
        ++ step_lines rest.corners rest.points) _ (eq-eqb width 1 found.next)))
        (good_point instance rest.complete (announced (suc (length rest.points))) (length rest.points) width height ps
        (step_lines rest.corners rest.points) (some_box instance limits)
        (point_allowed 1 (written_container instance 1) width height _ found.next found.widest found.from
        (let t = found.to in omega (arith, t, e))) found.packed good)
    first_good h (suc w) ts width height ps rest e (inl k) found good = absurd (omega (arith, k))
    first_good h (suc w) ts width height ps rest e (inr refutes) found good =
        let n : width ≡ suc (suc w) = found.next in
        let m : width ≤ written_container instance 0 = found.widest in
        subst (λ (x : List PlainLine). AreGood instance rest.complete (announced (suc (length rest.points))) x)
        (sym (closing_by (width == 1) _
        (corner_lines (record { width = suc w; height = h; tokens = ts })
        ++ (point_lines (record { width = width; height = height; places = ps })
        ++ step_lines rest.corners rest.points))
        (ne_eqb width 1 (omega (arith, n)))))
        (good_corner instance rest.complete (announced (suc (length rest.points))) (suc (length rest.points))
        (suc w) h ts _
        (first_allowed rest.complete (length rest.points) (suc w) h e (omega arith) (omega (arith, n, m))) refutes
        (good_point instance rest.complete (record { left = suc (length rest.points); part = Cornered (suc w) h [] })
        (length rest.points) width height ps _ (some_box instance limits)
        (point_allowed (suc (suc w)) h width height _ found.next found.widest found.from found.to) found.packed good))

    whole_good : IsGoodFront (walk answer (written_container instance 0) (written_container instance 1))
    whole_good = by_answer (answer (written_container instance 0) (written_container instance 1))
        (right (written_container instance 0) (written_container instance 1) some_width (omega arith) (omega arith))
      where
        by_heights : 1 ≤ written_container instance 1 → (W H : PlainReached)
            → IsWidthEnd instance (written_container instance 1) 0 W
            → IsHeightEnd instance W.placed (written_container instance 1) H
            → W.spent ≡ false → (b : Bool) → H.spent ≡ b
            → IsGoodFront (round_by_heights answer (written_container instance 0)
            (walk_on answer (written_container instance 0) (written_container instance 1))
            (written_container instance 1) W H (spent_front 0 (written_container instance 1) []) b)
        by_heights some W H we he unspent true is = refl
        by_heights some W H we he unspent false is =
            first_good (written_container instance 1) W.refuted W.tokens W.placed H.placed H.numbers _ refl we.refutes
            (found_of (written_container instance 1) W H 0 we he unspent)
            (behind_round (written_container instance 1) (written_container instance 1) (omega arith) (omega arith)
            (walk_good (written_container instance 1)) W H 0 we he is)

        by_widths : 1 ≤ written_container instance 1 → (W : PlainReached)
            → IsWidthEnd instance (written_container instance 1) 0 W → (b : Bool) → W.spent ≡ b
            → IsGoodFront (round_by_widths answer (written_container instance 0)
            (walk_on answer (written_container instance 0) (written_container instance 1))
            (written_container instance 1) W (spent_front 0 (written_container instance 1) []) b)
        by_widths some W we true is = refl
        by_widths some W we false is =
            let o = we.order in
            by_heights some W (height_run answer (written_container instance 0) W.placed (written_container instance 1)
            W.numbers) we
            (height_end instance answer right W.placed (written_container instance 1) W.numbers (omega (arith, o))
            we.high some (omega arith) we.packs) is
            (height_run answer (written_container instance 0) W.placed (written_container instance 1)
            W.numbers).spent refl

        by_answer : (l : PlainLevel) → IsRightSize instance (written_container instance 0)
            (written_container instance 1) l
            → IsGoodFront (round_by answer (written_container instance 0)
            (walk_on answer (written_container instance 0) (written_container instance 1))
            (written_container instance 1) 0 [] l)
        by_answer (RefutedBy us) is =
            good_corner instance true (announced 0) 0 (written_container instance 0)
            (written_container instance 1) us []
            (wanted_from _ range (cornered 0 (written_container instance 0) (written_container instance 1))
            (and_from _ _ (eq-eqb (written_container instance 1) _ refl)
            (eq-eqb (written_container instance 0) _ refl)))
            is refl
        by_answer SpentAt is = refl
        by_answer (PlacedBy ps) is =
            by_widths (packed_high (written_container instance 0) (written_container instance 1) ps is)
            (width_run answer (written_container instance 0) (written_container instance 1) 0 [] ps)
            (width_end instance answer right (written_container instance 1) 0 [] ps (omega arith) some_width
            (inl refl) is)
            (width_run answer (written_container instance 0) (written_container instance 1) 0 [] ps).spent refl

    pub walk_verdict : front_verdict instance
        (walk answer (written_container instance 0) (written_container instance 1)).complete
        (length (walk answer (written_container instance 0) (written_container instance 1)).points)
        (front_lines (walk answer (written_container instance 0) (written_container instance 1))) ≡ Good
    walk_verdict = good_verdict instance _ _ _ whole_good
