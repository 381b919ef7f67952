-- Lines that are good have a staircase of points, so their points are what they claim to be.
use Rattle.std.proofs.Common.{◌≡◌, ℕ, zero, suc, ◌-◌, ◌*◌, ◌≤◌, inl, inr, refl, sym, ap, ◌∙◌, subst, arith, Bool, true}
use Rattle.std.proofs.Common.{false, ◌&&◌, cond, List, [], ◌∷◌, ◌++◌, length, Result, Ok, Err}
use Rattle.std.specs.Prelude.{◌==◌, nat_le, nat_lt}
use Rattle.std.proofs.lemmas.Bool.{true≢false, and_parts, eqb-true, leb-true}
use Rattle.packing_terms.specs.declared.Exclusion.{Exclusion}
use Rattle.packing_terms.specs.Packing.{PlainInstance, Fits, dims, box_count, written_container}
use Rattle.packing_terms.specs.Limits.{IsInternalInstance}
use Rattle.packing_terms.specs.Results.{◌>>=◌}
use Rattle.packing_terms.specs.Tokens.{PlainToken}
use Rattle.verdict_terms.specs.declared.check_answers.PlaceVerdict.{PlaceVerdict}
use Rattle.verdict_terms.specs.declared.check_answers.PlaceVerdict.TheVariants.{Good as GoodPlaces, Outside, Overlap}
use Rattle.verdict_terms.specs.declared.check_answers.RefuseCode.{RefuseCode}
use Rattle.verdict_terms.specs.Checking.{inner_after, nodes_after_all}
use Rattle.verdict_terms.specs.Placing.{place_verdict}
use Rattle.verdict_terms.proofs.Refuting.{inner_refutes}
use Rattle.verdict_terms.proofs.Places.{places_tested}
use Rattle.verdict_terms.specs.declared.front_answers.FrontReason.{FrontReason}
use Rattle.verdict_terms.specs.declared.front_answers.FrontVerdict.TheVariants.{Good, Short}
use Rattle.verdict_terms.specs.Fronts.{with_container}
use Rattle.verdict_terms.specs.Lines.{PlainLine, CornerAt, PointAt, PlaceAt, TreeToken, FrontPart, Begun, Cornered}
use Rattle.verdict_terms.specs.Lines.{Placing, Pointed, FrontStage, wanted, form, closing_width, cornered, closing_corner}
use Rattle.verdict_terms.specs.Lines.{tested, grown, at_line, first_corner, next_corner, corner_line, point_line, placed}
use Rattle.verdict_terms.specs.Lines.{place_line, token_line, front_line, front_lines_after, is_whole_part}
use Rattle.verdict_terms.specs.Lines.{is_whole_front, announced}
use Rattle.verdict_terms.specs.Verdicts.{points_named, verdict_by, front_verdict}
use Rattle.verdict_terms.specs.Laws.{IsTrueFront}
use Rattle.verdict_terms.proofs.Sizes.{refuted_size}
use Rattle.verdict_terms.proofs.Stairs.{IsClosed, AreSteps, steps_claim}

pub wanted_true : {A : Type 0} (b : Bool) (reason : FrontReason) (x y : A) → wanted b reason x ≡ Ok y
    → (b ≡ true) × (x ≡ y)
wanted_true true reason x y e = (refl, cc (e))
wanted_true false reason x y e = absurd (cc (e))

closed_zero : (instance : PlainInstance) (c : Bool) (a h : ℕ) → h ≡ 0 → IsClosed instance c a h
closed_zero instance true a h e = inl e
closed_zero instance false a h e = inl e

module _ (instance : PlainInstance) where
  -- the container doesn't hold the boxes, by its width and height
  none_at : (w h a b : ℕ) → w ≡ a → h ≡ b → ¬ Fits (with_container instance w h) → ¬ Fits (with_container instance a b)
  none_at w h a b e f none = subst (λ (y : ℕ). ¬ Fits (with_container instance a y)) f
      (subst (λ (x : ℕ). ¬ Fits (with_container instance x h)) e none)

  closed_by : (c : Bool) (a h w height : ℕ) → height ≡ h → w ≡ closing_width (written_container instance 0) c a
      → ¬ Fits (with_container instance w height) → IsClosed instance c a h
  closed_by true a h w height e f none = inr (none_at w height (written_container instance 0) h f e none)
  closed_by false a h w height e f none = inr (inr (none_at w height a h f e none))

  -- a point behind a corner
  pub record IsPointBehind (w h width height : ℕ) : Type 0 where
    pub next : width ≡ suc w
    pub widest : width ≤ written_container instance 0
    pub from : 1 ≤ height
    pub to : height ≤ h
    pub fits : Fits (with_container instance width height)

  -- what stands behind a corner: nothing, or a point and what is behind that
  abbrev pub IsBehind : Bool → ℕ → ℕ → ℕ → List (ℕ × ℕ) → Type 0
  IsBehind c left w h [] = left ≡ 0
  IsBehind c left w h (s ∷ steps) = IsPointBehind w h s.0 s.1 × AreSteps instance c s.0 (s.1 - 1) steps
      × (left ≡ suc (length steps))

  pub record IsTreeRead (c : Bool) (left w h : ℕ) (nodes : List (List Exclusion)) (steps : List (ℕ × ℕ)) : Type 0 where
    pub tokens : List PlainToken
    pub are : nodes_after_all (inner_after (with_container instance w h)) nodes tokens ≡ Ok []
    pub behind : IsBehind c left w h steps

  -- what good lines behind a stage say
  abbrev pub Means : Bool → ℕ → FrontPart → List (ℕ × ℕ) → Type 0
  Means c left Begun steps = AreSteps instance c 0 (written_container instance 1) steps × (left ≡ length steps)
  Means c left (Cornered w h nodes) steps = IsTreeRead c left w h nodes steps
  Means c left (Placing a b places) steps = Fits (with_container instance a b) × AreSteps instance c a (b - 1) steps
      × (left ≡ length steps)
  Means c left (Pointed a b) steps = AreSteps instance c a (b - 1) steps × (left ≡ length steps)

  -- a stage by its parts
  moved : (c : Bool) (steps : List (ℕ × ℕ)) (s next : FrontStage) → s ≡ next → Means c next.left next.part steps
      → Means c s.left s.part steps
  moved c steps s next e m = subst (λ (x : FrontStage). Means c x.left x.part steps) (sym e) m

  -- a corner and a point behind it are a step
  stepped : (c : Bool) (left a h w height : ℕ) (steps : List (ℕ × ℕ)) → height ≡ h → a ≤ w
      → ¬ Fits (with_container instance w height)
      → IsBehind c (suc left) w height steps → AreSteps instance c a h steps × (suc left ≡ length steps)
  stepped c left a h w height [] e l none behind = absurd (omega (arith, behind))
  stepped c left a h w height (s ∷ steps) e l none (point, more, count) = (
    (
      record {
        rising = (let n = point.next in omega (arith, n, l));
        widest = point.widest;
        from = point.from;
        to = (let t = point.to in omega (arith, t, e));
        corner = inr (none_at w height (s.0 - 1) h (let n = point.next in omega (arith, n)) e none);
        fits = point.fits;
      },
      more,
    ),
    count,
  )

  ended_behind : (c : Bool) (w h : ℕ) (steps : List (ℕ × ℕ)) → IsBehind c 0 w h steps → steps ≡ []
  ended_behind c w h [] behind = refl
  ended_behind c w h (s ∷ steps) behind = absurd (let k = behind.2 in omega (arith, k))

  module _ (limits : IsInternalInstance instance) (plane : dims instance ≡ 2) where
    -- the tree of a corner, read from its root on, refutes its container
    read_none : (c : Bool) (left w h : ℕ) (steps : List (ℕ × ℕ)) → IsTreeRead c left w h ([] ∷ []) steps
        → ¬ Fits (with_container instance w h)
    read_none c left w h steps read =
        refuted_size instance limits plane w h read.tokens
        ((inner_refutes (with_container instance w h) [] read.tokens).0 read.are)

    closing_step : (c : Bool) (a h w height : ℕ) (next : FrontStage) (steps : List (ℕ × ℕ))
        → closing_corner (closing_width (written_container instance 0) c a) h w height ≡ Ok next
        → Means c next.left next.part steps
        → AreSteps instance c a h steps × (0 ≡ length steps)
    closing_step c a h w height next steps e m =
        let k = wanted_true _ _ _ _ e in
        let tests = and_parts _ _ k.0 in
        let read = moved c steps (cornered 0 w height) next k.1 m in
        let none = ended_behind c w height steps read.behind in
        subst (λ (x : List (ℕ × ℕ)). AreSteps instance c a h x × (0 ≡ length x)) (sym none) (
          closed_by c a h w height (eqb-true _ _ tests.0) (eqb-true _ _ tests.1)
              (read_none c 0 w height steps read),
          refl,
        )

    before_step : (c : Bool) (left least a h w height : ℕ) (next : FrontStage) (steps : List (ℕ × ℕ)) → a ≤ least
        → wanted ((height == h) && (nat_le least w && nat_lt w (written_container instance 0)))
        (Rattle.verdict_terms.specs.Lines.range) (cornered (suc left) w height) ≡ Ok next
        → Means c next.left next.part steps → AreSteps instance c a h steps × (suc left ≡ length steps)
    before_step c left least a h w height next steps l e m =
        let k = wanted_true _ _ _ _ e in
        let tests = and_parts _ _ k.0 in
        let wide = and_parts _ _ tests.1 in
        let more : least ≤ w = leb-true _ _ wide.0 in
        let read = moved c steps (cornered (suc left) w height) next k.1 m in
        stepped c left a h w height steps (eqb-true _ _ tests.0) (omega (arith, l, more))
        (read_none c (suc left) w height steps read) read.behind

    begun_step : (c : Bool) (left w height : ℕ) (next : FrontStage) (steps : List (ℕ × ℕ))
        → first_corner instance c c left w height ≡ Ok next
        → Means c next.left next.part steps → AreSteps instance c 0 (written_container instance 1) steps
        × (left ≡ length steps)
    begun_step c (suc left) w height next steps e m =
        before_step c left 1 0 (written_container instance 1) w height next steps (omega arith) e m
    begun_step true zero w height next steps e m =
        closing_step true 0 (written_container instance 1) w height next steps e m
    begun_step false zero w height next steps e m = absurd (cc (e))

    pointed_step : (c : Bool) (left a b w height : ℕ) (next : FrontStage) (steps : List (ℕ × ℕ))
        → next_corner instance c left a b w height ≡ Ok next
        → Means c next.left next.part steps → AreSteps instance c a (b - 1) steps × (left ≡ length steps)
    pointed_step c (suc left) a b w height next steps e m =
        before_step c left a a (b - 1) w height next steps (omega arith) e m
    pointed_step c zero a b w height next steps e m = go (b == 1) e
      where
        go : (t : Bool) → cond t (Err form)
            (closing_corner (closing_width (written_container instance 0) c a) (b - 1) w height) ≡ Ok next
            → AreSteps instance c a (b - 1) steps × (0 ≡ length steps)
        go true k = absurd (cc (k))
        go false k = closing_step c a (b - 1) w height next steps k m

    corner_step : (c : Bool) (left : ℕ) (part : FrontPart) (w height : ℕ) (next : FrontStage) (steps : List (ℕ × ℕ))
        → corner_line instance c left part w height ≡ Ok next
        → Means c next.left next.part steps → Means c left part steps
    corner_step c left Begun w height next steps e m = begun_step c left w height next steps e m
    corner_step c left (Pointed a b) w height next steps e m = pointed_step c left a b w height next steps e m
    corner_step c left (Cornered a b nodes) w height next steps e m = absurd (cc (e))
    corner_step c left (Placing a b places) w height next steps e m = absurd (cc (e))

    point_step : (c : Bool) (left : ℕ) (part : FrontPart) (w height : ℕ) (next : FrontStage) (steps : List (ℕ × ℕ))
        → point_line instance c left part w height ≡ Ok next
        → Means c next.left next.part steps → Means c left part ((w, height) ∷ steps)
    point_step c (suc left) Begun w height next steps e m =
        let k = wanted_true _ _ _ _ e in
        let tests = and_parts _ _ k.0 in
        let more = and_parts _ _ tests.1 in
        let sides = and_parts _ _ more.1 in
        let is_one = eqb-true _ _ tests.0 in
        let read = moved c steps (record { left = left; part = Placing w height [] }) next k.1 m in
        let count = read.2 in (
          (
            record {
              rising = omega (arith, is_one);
              widest = leb-true _ _ more.0;
              from = leb-true _ _ sides.0;
              to = leb-true _ _ sides.1;
              corner = inl is_one;
              fits = read.0;
            },
            read.1,
          ),
          omega (arith, count),
        )
    point_step c (suc left) (Cornered a b []) w height next steps e m =
        let k = wanted_true _ _ _ _ e in
        let tests = and_parts _ _ k.0 in
        let more = and_parts _ _ tests.1 in
        let sides = and_parts _ _ more.1 in
        let read = moved c steps (record { left = left; part = Placing w height [] }) next k.1 m in
        let count = read.2 in
        record {
          tokens = [];
          are = refl;
          behind = (
            record {
              next = eqb-true _ _ tests.0;
              widest = leb-true _ _ more.0;
              from = leb-true _ _ sides.0;
              to = leb-true _ _ sides.1;
              fits = read.0;
            },
            read.1,
            omega (arith, count),
          );
        }
    point_step c (suc left) (Cornered a b (n ∷ nodes)) w height next steps e m = absurd (cc (e))
    point_step c (suc left) (Placing a b places) w height next steps e m = absurd (cc (e))
    point_step c (suc left) (Pointed a b) w height next steps e m = absurd (cc (e))
    point_step c zero part w height next steps e m = absurd (cc (e))

    place_step : (c : Bool) (left : ℕ) (part : FrontPart) (xs : List ℕ) (next : FrontStage) (steps : List (ℕ × ℕ))
        → place_line instance c left part xs ≡ Ok next
        → Means c next.left next.part steps → Means c left part steps
    place_step c left (Placing a b places) xs next steps e m = two (length xs == 2) e
      where
        read_verdict : length (places ++ xs) ≡ 2 * box_count instance → (v : PlaceVerdict)
            → place_verdict (with_container instance a b) (places ++ xs) ≡ v → tested left a b v ≡ Ok next
            → Means c left (Placing a b places) steps
        read_verdict count GoodPlaces is k =
            let r = moved c steps (record { left = left; part = Pointed a b }) next (cc (k)) m in (
              (
                places ++ xs,
                (places_tested (with_container instance a b) (places ++ xs) GoodPlaces (omega (arith, count))).0 is,
              ),
              r.0,
              r.1,
            )
        read_verdict count (Outside v i) is k = absurd (cc (k))
        read_verdict count (Overlap u v) is k = absurd (cc (k))

        whole : (t : Bool) → (length (places ++ xs) == 2 * box_count instance) ≡ t
            → cond t (tested left a b (place_verdict (with_container instance a b) (places ++ xs)))
            (Ok (record { left = left; part = Placing a b (places ++ xs) })) ≡ Ok next
            → Means c left (Placing a b places) steps
        whole true is k = read_verdict (eqb-true _ _ is)
            (place_verdict (with_container instance a b) (places ++ xs)) refl k
        whole false is k = moved c steps (record { left = left; part = Placing a b (places ++ xs) }) next (cc (k)) m

        two : (t : Bool) → cond t (placed instance c left a b (places ++ xs)) (Err form) ≡ Ok next
            → Means c left (Placing a b places) steps
        two true k = whole (length (places ++ xs) == 2 * box_count instance) refl k
        two false k = absurd (cc (k))
    place_step c left Begun xs next steps e m = absurd (cc (e))
    place_step c left (Cornered a b nodes) xs next steps e m = absurd (cc (e))
    place_step c left (Pointed a b) xs next steps e m = absurd (cc (e))

    token_step : (c : Bool) (left : ℕ) (part : FrontPart) (t : PlainToken) (next : FrontStage) (steps : List (ℕ × ℕ))
        → token_line instance c left part t ≡ Ok next
        → Means c next.left next.part steps → Means c left part steps
    token_step c left (Cornered a b nodes) t next steps e m =
        go (inner_after (with_container instance a b) nodes t) refl e
      where
        go : (r : Result (List (List Exclusion)) RefuseCode) → inner_after (with_container instance a b) nodes t ≡ r
            → grown left a b r ≡ Ok next → IsTreeRead c left a b nodes steps
        go (Ok after) is k =
            let read = moved c steps (record { left = left; part = Cornered a b after }) next (cc (k)) m in
            record {
              tokens = t ∷ read.tokens;
              are = ap (λ (r : Result (List (List Exclusion)) RefuseCode).
                  (r >>= λ more. nodes_after_all (inner_after (with_container instance a b)) more read.tokens))
                  is ∙ read.are;
              behind = read.behind;
            }
        go (Err code) is k = absurd (cc (k))
    token_step c left Begun t next steps e m = absurd (cc (e))
    token_step c left (Placing a b places) t next steps e m = absurd (cc (e))
    token_step c left (Pointed a b) t next steps e m = absurd (cc (e))

    line_step : (c : Bool) (s next : FrontStage) (line : PlainLine) (lines : List PlainLine)
        → front_line instance c s line ≡ Ok next
        → Means c next.left next.part (points_named lines) → Means c s.left s.part (points_named (line ∷ lines))
    line_step c s next (CornerAt w h) lines e m = corner_step c s.left s.part w h next (points_named lines) e m
    line_step c s next (PointAt w h) lines e m = point_step c s.left s.part w h next (points_named lines) e m
    line_step c s next (PlaceAt xs) lines e m = place_step c s.left s.part xs next (points_named lines) e m
    line_step c s next (TreeToken t) lines e m = token_step c s.left s.part t next (points_named lines) e m

    ended : (c : Bool) (left : ℕ) (part : FrontPart) → ((left == 0) && is_whole_part c part) ≡ true
        → Means c left part []
    ended true left Begun h = absurd (true≢false (sym ((and_parts _ _ h).1)))
    ended false left Begun h = (inr (inl refl), eqb-true _ _ (and_parts _ _ h).0)
    ended c left (Cornered a b []) h = record { tokens = []; are = refl; behind = eqb-true _ _ (and_parts _ _ h).0 }
    ended c left (Cornered a b (n ∷ nodes)) h = absurd (true≢false (sym ((and_parts _ _ h).1)))
    ended c left (Placing a b places) h = absurd (true≢false (sym ((and_parts _ _ h).1)))
    ended c left (Pointed a b) h =
        let k = and_parts _ _ h in
        let one = eqb-true _ _ k.1 in
        (closed_zero instance c a (b - 1) (omega (arith, one)), eqb-true _ _ k.0)

    pub judged : (c : Bool) (lines : List PlainLine) (index : ℕ) (s t : FrontStage)
        → front_lines_after instance c index s lines ≡ Ok t → is_whole_front c t ≡ true
        → Means c s.left s.part (points_named lines)
    judged c [] index s t e w = moved c [] s t (cc (e)) (ended c t.left t.part w)
    judged c (line ∷ lines) index s t e w =
        go (front_line instance c s line) refl e (λ next k. judged c lines (suc index) next t k w)
      where
        go : (r : Result FrontStage FrontReason) → front_line instance c s line ≡ r
            → (at_line index r >>= λ next. front_lines_after instance c (suc index) next lines) ≡ Ok t
            → ((next : FrontStage) → front_lines_after instance c (suc index) next lines ≡ Ok t
            → Means c next.left next.part (points_named lines))
            → Means c s.left s.part (points_named (line ∷ lines))
        go (Ok next) is k later = line_step c s next line lines is (later next k)
        go (Err reason) is k later = absurd (cc (k))

pub good_lines_are_true : (instance : PlainInstance) (complete : Bool) (points : ℕ) (lines : List PlainLine)
    → IsInternalInstance instance → dims instance ≡ 2
    → front_verdict instance complete points lines ≡ Good → IsTrueFront instance complete points lines
good_lines_are_true instance complete points lines limits plane e =
    go (front_lines_after instance complete 0 (announced points) lines) refl e
  where
    whole : (s : FrontStage) (b : Bool) → is_whole_front complete s ≡ b → cond b Good Short ≡ Good
        → is_whole_front complete s ≡ true
    whole s true is k = is
    whole s false is k = absurd (cc (k))

    go : (r : Result FrontStage (ℕ × FrontReason)) → front_lines_after instance complete 0 (announced points) lines ≡ r
        → verdict_by complete r ≡ Good → IsTrueFront instance complete points lines
    go (Ok s) is k =
        let m = judged instance limits plane complete lines 0 (announced points) s is
        (whole s (is_whole_front complete s) refl k) in
        record { count = sym m.1; claim = steps_claim instance complete (points_named lines) m.0 }
    go (Err refusal) is k = absurd (cc (k))
