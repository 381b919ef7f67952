-- What a token does at a node for a value, by the splits on the path.
use Rattle.std.proofs.Common.{◌≡◌, ℕ, suc, pred, ◌+◌, ◌<◌, ◌≤◌, refl, sym, ap, ap₂, subst, ◌∙◌, arith, Bool, true}
use Rattle.std.proofs.Common.{false, not, ◌||◌, ◌&&◌, if◌then◌else◌, List, [], ◌∷◌, length, None}
use Rattle.std.specs.Prelude.{nat_le, nat_lt, ◌==◌}
use Rattle.std.specs.List.{filter, range_with_len}
use Rattle.std.proofs.lemmas.Bool.{true≢false, lt-ltb, le-ltb, le-leb}
use Rattle.std.proofs.lemmas.List.Sums.{sum_by-append}
use Rattle.std.proofs.Math.Bool.{and-false}
use Rattle.packing_terms.specs.Packing.{PlainInstance, box_count, value}
use Rattle.packing_terms.specs.Goals.{worth}
use Rattle.packing_terms.specs.Tokens.PlainToken.{Choose, SetRefuted, ValueShort}
use Rattle.packing_terms.specs.OuterRefutation.{no_choice, has_box, undecided}
use Rattle.packing_terms.specs.OuterPaths.{choices_with, On, Inside}
use Rattle.verdict_terms.specs.declared.check_answers.RefuseCode.TheVariants.{Choice, Value, «Set»}
use Rattle.verdict_terms.specs.Judging.{unless, names_box}
use Rattle.outer_check.specs.declared.path.Frame.{Frame}
use Rattle.outer_check.specs.declared.goal.Goal.TheVariants.{Value as OfValue}
use Rattle.outer_check.specs.declared.step.Step.TheVariants.{Refuse, Close, Enter, Begin}
use Rattle.outer_check.specs.Frames.{PlainPath, ArePath, AreSplits, is_decided, is_put, is_some_put, boxes_put}
use Rattle.outer_check.specs.Frames.{open_boxes}
use Rattle.outer_check.specs.Nodes.{path_below}
use Rattle.outer_check.specs.Outers.{AreOf}
use Rattle.outer_check.specs.Steps.{IsTokenStep}
use Rattle.outer_check.proofs.Paths.{range_more}
use Rattle.outer_check.proofs.Ranges.{filter_same, filter_none}
use Rattle.outer_check.proofs.Views.{left_is, entered_is}
use Rattle.outer_check.proofs.Chosen.{choice_at, taken_is, decided_is, undecided_is}
use Rattle.outer_check.proofs.BinSteps.{named, boxes_some}

-- one box more is looked at
pub worth_more : (instance : PlainInstance) (p : ℕ → Bool) (v total : ℕ) (test : Bool) (more : ℕ)
    → total ≡ worth instance (filter p (range_with_len 0 v)) → test ≡ p v
    → more ≡ (if test then value instance v else 0)
    → total + more ≡ worth instance (filter p (range_with_len 0 (v + 1)))
worth_more instance p v total test more before tested added =
    ap₂ (λ a b. a + b) before (added ∙ ap (λ b. if b then value instance v else 0) tested)
    ∙ sym (ap (worth instance) (range_more p v)
    ∙ (sum_by-append (λ u. value instance u) (filter p (range_with_len 0 v)) (if p v then v ∷ [] else [])
    ∙ ap (λ n. worth instance (filter p (range_with_len 0 v)) + n) (go (p v))))
  where
    go : (b : Bool) → worth instance (if b then v ∷ [] else []) ≡ (if b then value instance v else 0)
    go true = let e : 0 + value instance v ≡ value instance v = omega arith in e
    go false = refl

-- no box is in a child that isn't on the path
nowhere : (frames : List Frame) (child v : ℕ) → is_some_put frames child ≡ false → is_put frames child v ≡ false
nowhere [] child v e = refl
nowhere (f ∷ frames) child v e = go (f.child == child) e (nowhere frames child v)
  where
    go : (t : Bool) → (t || is_some_put frames child) ≡ false
        → (is_some_put frames child ≡ false → is_put frames child v ≡ false)
        → (((f.box_no == suc v) && t) || is_put frames child v) ≡ false
    go true h rest = absurd (true≢false h)
    go false h rest = ap (λ b. b || is_put frames child v) (and-false (f.box_no == suc v)) ∙ rest h

none_put : (n : ℕ) (frames : List Frame) (child : ℕ) → is_some_put frames child ≡ false → boxes_put n frames child ≡ []
none_put n frames child e = filter_same (λ v. is_put frames child v) (λ v. false) 0 n
    (λ u l m. nowhere frames child u e) ∙ filter_none 0 n

module _ (instance : PlainInstance) (y : ℕ) (p : PlainPath) (same : p.boxes ≡ box_count instance) (path : ArePath p)
    (are : AreOf (OfValue y) p.frames) where
  -- the splits are by boxes of the instance
  splits : AreSplits (box_count instance) p.frames
  splits = subst (λ n. AreSplits n p.frames) same path.splits

  decided : (v : ℕ) → 1 ≤ v → v ≤ box_count instance
      → (has_box (pred v) (choice_at p.frames).taken || has_box (pred v) (choice_at p.frames).left)
      ≡ is_decided p.frames v
  decided v from to =
      decided_is (box_count instance) (pred v) p.frames (omega (arith, from, to)) splits path.apart are
      ∙ ap (is_decided p.frames) (let e : suc (pred v) ≡ v = omega (arith, from) in e)

  neither : (a b : Bool) → (not a && not b) ≡ not (a || b)
  neither true b = refl
  neither false b = refl

  free : (v : ℕ) → names_box instance v ≡ true
      → (not (has_box (pred v) (choice_at p.frames).taken) && not (has_box (pred v) (choice_at p.frames).left))
      ≡ not (is_decided p.frames v)
  free v e = neither (has_box (pred v) (choice_at p.frames).taken) (has_box (pred v) (choice_at p.frames).left)
      ∙ ap not (decided v (named instance v e).0 (named instance v e).1)

  pub choose_taken : (v : ℕ) → names_box instance v ≡ true → is_decided p.frames v ≡ true
      → IsTokenStep instance (OfValue y) p.frames (Choose v) (Refuse Choice)
  choose_taken v e d = rw (e, free v e ∙ ap not d) refl

  pub choose_split : (v : ℕ) → names_box instance v ≡ true → is_decided p.frames v ≡ false
      → IsTokenStep instance (OfValue y) p.frames (Choose v) (Enter v 2 0)
  choose_split v e d = (
    rw (e, free v e ∙ ap not d) refl,
    entered_is choices_with no_choice p.frames v 2 0 refl (omega arith),
    record {
      from = (named instance v e).0;
      to = (named instance v e).1;
      new = d;
      some = omega arith;
      are = (refl, are);
    },
  )

  pub set_refused : is_some_put p.frames 0 ≡ false
      → IsTokenStep instance (OfValue y) p.frames (SetRefuted None) (Refuse «Set»)
  set_refused e =
      ap (λ us. unless (nat_le 1 (length us)) «Set» None)
      (taken_is (box_count instance) p.frames splits path.apart are ∙ none_put (box_count instance) p.frames 0 e)

  pub set_begun : is_some_put p.frames 0 ≡ true → IsTokenStep instance (OfValue y) p.frames (SetRefuted None) (Begin 0)
  set_begun e =
      let t = taken_is (box_count instance) p.frames splits path.apart are in
      let some : 1 ≤ length (boxes_put (box_count instance) p.frames 0) =
      boxes_some (box_count instance) p.frames 0 splits e in (
        ap (λ us. unless (nat_le 1 (length us)) «Set» None) t
            ∙ ap (λ b. unless b «Set» None) (le-leb 1 (length (boxes_put (box_count instance) p.frames 0)) some),
        ap (λ keep. On (path_below choices_with no_choice p.frames) (Inside keep [] [])) t,
        some,
      )

  most_is : (taken rest : ℕ) → taken ≡ worth instance (boxes_put (box_count instance) p.frames 0)
      → rest ≡ worth instance (open_boxes (box_count instance) p.frames)
      → worth instance (choice_at p.frames).taken + worth instance (undecided instance (choice_at p.frames))
      ≡ taken + rest
  most_is taken rest a b =
      ap₂ (λ x y. x + y) (ap (worth instance) (taken_is (box_count instance) p.frames splits path.apart are) ∙ sym a)
      (ap (worth instance) (undecided_is instance p.frames splits path.apart are) ∙ sym b)

  pub short_refused : (taken rest : ℕ) → taken ≡ worth instance (boxes_put (box_count instance) p.frames 0)
      → rest ≡ worth instance (open_boxes (box_count instance) p.frames)
      → y ≤ taken + rest → IsTokenStep instance (OfValue y) p.frames ValueShort (Refuse Value)
  short_refused taken rest a b l =
      ap (λ m. unless (nat_lt m y) Value None) (most_is taken rest a b)
      ∙ ap (λ t. unless t Value None) (le-ltb (taken + rest) y l)

  pub short_closed : (taken rest : ℕ) → taken ≡ worth instance (boxes_put (box_count instance) p.frames 0)
      → rest ≡ worth instance (open_boxes (box_count instance) p.frames)
      → taken + rest < y → IsTokenStep instance (OfValue y) p.frames ValueShort Close
  short_closed taken rest a b l = (
    ap (λ m. unless (nat_lt m y) Value None) (most_is taken rest a b)
        ∙ ap (λ t. unless t Value None) (lt-ltb (taken + rest) y l),
    left_is choices_with no_choice p.frames are,
  )
