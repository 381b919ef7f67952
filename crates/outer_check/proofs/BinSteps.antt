-- What a token does at a node for bins, by the splits on the path.
use Rattle.std.proofs.Common.{◌≡◌, ℕ, suc, pred, ◌-◌, ◌<◌, ◌≤◌, ◌⊎◌, inl, inr, refl, sym, ap, subst, ◌∙◌, arith, Bool}
use Rattle.std.proofs.Common.{true, false, not, ◌||◌, ◌&&◌, ◌==◌, if◌then◌else◌, List, [], ◌∷◌, length, get_or, Some}
use Rattle.std.proofs.Common.{None}
use Rattle.std.specs.Prelude.{nat_le, nat_lt}
use Rattle.std.specs.List.{list_any}
use Rattle.std.proofs.lemmas.Bool.{true≢false, cases_eq, and_parts, and_from, leb-true, eq-eqb, or_left, or_right}
use Rattle.packing_terms.specs.Packing.{PlainInstance, box_count}
use Rattle.packing_terms.specs.Tokens.PlainToken.{Assign, SetRefuted}
use Rattle.packing_terms.specs.OuterRefutation.{has_box, placements}
use Rattle.packing_terms.specs.OuterPaths.{bins_with, On, Inside}
use Rattle.packing_terms.proofs.WithBoxes.{placements_count}
use Rattle.verdict_terms.specs.declared.check_answers.RefuseCode.TheVariants.{Range, Choice, «Set»}
use Rattle.verdict_terms.specs.Judging.{unless, names_box}
use Rattle.outer_check.specs.declared.path.Frame.{Frame}
use Rattle.outer_check.specs.declared.goal.Goal.TheVariants.{Bins}
use Rattle.outer_check.specs.declared.step.Step.TheVariants.{Refuse, Close, Enter, Begin}
use Rattle.outer_check.specs.Frames.{PlainPath, ArePath, AreSplits, is_decided, is_put, is_some_put, boxes_put}
use Rattle.outer_check.specs.Frames.{used_behind}
use Rattle.outer_check.specs.Nodes.{path_below, HaveChildren, HaveUsed, bin_count}
use Rattle.outer_check.specs.Outers.{AreOf}
use Rattle.outer_check.specs.Steps.{IsTokenStep}
use Rattle.outer_check.proofs.Ranges.{has_passing}
use Rattle.outer_check.proofs.Views.{entered_is, closed_is}
use Rattle.outer_check.proofs.Placed.{bins_at, used_is, placed_is, bin_is}

-- the numbers that name a box
pub named : (instance : PlainInstance) (v : ℕ) → names_box instance v ≡ true → (1 ≤ v) × (v ≤ box_count instance)
named instance v e =
    let p = and_parts (nat_le 1 v) (nat_le v (box_count instance)) e in
    (leb-true 1 v p.0, leb-true v (box_count instance) p.1)

-- some box is in a child on the path
some_box : (n : ℕ) (frames : List Frame) (child : ℕ) → AreSplits n frames → is_some_put frames child ≡ true
    → (v : ℕ) × (v < n) × (is_put frames child v ≡ true)
some_box n [] child splits e = absurd (true≢false (sym e))
some_box n (f ∷ frames) child splits e = go (f.child == child) refl e (λ h. some_box n frames child splits.4 h)
  where
    own : (f.box_no == suc (pred f.box_no)) ≡ true
    own = eq-eqb f.box_no (suc (pred f.box_no)) (let a = splits.0 in omega (arith, a))

    go : (t : Bool) → (f.child == child) ≡ t → (t || is_some_put frames child) ≡ true
        → (is_some_put frames child ≡ true → (v : ℕ) × (v < n) × (is_put frames child v ≡ true))
        → (v : ℕ) × (v < n) × (is_put (f ∷ frames) child v ≡ true)
    go true k h rest = (
      pred f.box_no,
      (let a = splits.0 in let b = splits.1 in omega (arith, a, b)),
      or_left ((f.box_no == suc (pred f.box_no)) && (f.child == child)) (is_put frames child (pred f.box_no))
          (and_from _ _ own k),
    )
    go false k h rest = let r = rest h in
        (r.0, r.1, or_right ((f.box_no == suc r.0) && (f.child == child)) (is_put frames child r.0) r.2)

some_length : (v : ℕ) (us : List ℕ) → has_box v us ≡ true → 1 ≤ length us
some_length v [] e = absurd (true≢false (sym e))
some_length v (u ∷ us) e = omega arith

pub boxes_some : (n : ℕ) (frames : List Frame) (child : ℕ) → AreSplits n frames → is_some_put frames child ≡ true
    → 1 ≤ length (boxes_put n frames child)
boxes_some n frames child splits e =
    let b = some_box n frames child splits e in
    some_length b.0 (boxes_put n frames child)
    (has_passing (λ u. is_put frames child u) b.0 0 n (omega arith) (let l = b.1 in omega (arith, l)) ∙ b.2)

-- each used bin has a box
used_put : (n k : ℕ) (frames : List Frame) (child : ℕ) → AreSplits n frames → HaveChildren (bins_with k) [] frames
    → HaveUsed k frames → child < used_behind frames
    → is_some_put frames child ≡ true
used_put n k [] child splits counted used l = absurd (omega (arith, l))
used_put n k (f ∷ frames) child splits counted used l =
    go (cases_eq f.child child) (λ h. used_put n k frames child splits.4 counted.1 used.1 h)
  where
    older : f.used ≡ used_behind frames
    older = used.0 ∙ used_is k n frames splits.4 counted.1 used.1

    small : f.child ≤ f.used
    small = let a = splits.2 in let b = counted.0 ∙ placements_count k (bins_at k frames) (pred f.box_no) in let c =
        used.0 in bounded (length (bins_at k frames)) a b c
      where
        bounded : (m : ℕ) → f.child < f.children → f.children ≡ bin_count k m → f.used ≡ m → f.child ≤ f.used
        bounded m a b c = by_test (nat_lt m k) b
          where
            by_test : (t : Bool) → f.children ≡ (if t then suc m else m) → f.child ≤ f.used
            by_test true e = omega (arith, a, e, c)
            by_test false e = omega (arith, a, e, c)

    go : (f.child ≡ child) ⊎ (f.child ≡ child → ⊥) → (child < used_behind frames → is_some_put frames child ≡ true)
        → is_some_put (f ∷ frames) child ≡ true
    go (inl e) rest = or_left (f.child == child) (is_some_put frames child) (eq-eqb f.child child e)
    go (inr ne) rest = or_right (f.child == child) (is_some_put frames child)
        (rest (let s = small in let o = older in omega (arith, l, s, o, ne)))

module _ (instance : PlainInstance) (k : ℕ) (p : PlainPath) (same : p.boxes ≡ box_count instance) (path : ArePath p)
    (are : AreOf (Bins k) p.frames) where
  -- whether a box of the text has a bin
  decided : (v : ℕ) → 1 ≤ v → list_any (has_box (pred v)) (bins_at k p.frames) ≡ is_decided p.frames v
  decided v from = placed_is k p.boxes (pred v) p.frames path.splits are.0
      ∙ ap (is_decided p.frames) (let e : suc (pred v) ≡ v = omega (arith, from) in e)

  pub assign_taken : (v : ℕ) → names_box instance v ≡ true → is_decided p.frames v ≡ true
      → IsTokenStep instance (Bins k) p.frames (Assign v) (Refuse Choice)
  assign_taken v e d = rw (e, decided v (named instance v e).0 ∙ d) refl

  assign_ok : (v : ℕ) → names_box instance v ≡ true → is_decided p.frames v ≡ false
      → unless (names_box instance v) Range
      (unless (not (list_any (has_box (pred v)) (bins_at k p.frames))) Choice None) ≡ None
  assign_ok v e d = rw (e, decided v (named instance v e).0 ∙ d) refl

  counted : (v used children : ℕ) → used ≡ used_behind p.frames → children ≡ bin_count k used
      → children ≡ length (placements k (bins_at k p.frames) (pred v))
  counted v used children u c =
      c ∙ (ap (bin_count k) (u ∙ sym (used_is k p.boxes p.frames path.splits are.0 are.1))
      ∙ sym (placements_count k (bins_at k p.frames) (pred v)))

  pub assign_closed : (v used children : ℕ) → names_box instance v ≡ true → is_decided p.frames v ≡ false
      → used ≡ used_behind p.frames → children ≡ bin_count k used
      → children ≡ 0 → IsTokenStep instance (Bins k) p.frames (Assign v) Close
  assign_closed v used children e d u c none = (
    assign_ok v e d,
    closed_is (bins_with k) [] p.frames v (sym none ∙ counted v used children u c) are.0,
  )

  pub assign_split : (v used children : ℕ) → names_box instance v ≡ true → is_decided p.frames v ≡ false
      → used ≡ used_behind p.frames → children ≡ bin_count k used
      → (children ≡ 0 → ⊥) → IsTokenStep instance (Bins k) p.frames (Assign v) (Enter v children used)
  assign_split v used children e d u c some = (
    assign_ok v e d,
    entered_is (bins_with k) [] p.frames v children used (counted v used children u c) (omega (arith, some)),
    record {
      from = (named instance v e).0;
      to = (named instance v e).1;
      new = d;
      some = omega (arith, some);
      are = (
        (counted v used children u c, are.0),
        (u ∙ sym (used_is k p.boxes p.frames path.splits are.0 are.1), are.1),
      );
    },
  )

  pub bin_refused : (b used : ℕ) → used ≡ used_behind p.frames → (nat_le 1 b && nat_le b used) ≡ false
      → IsTokenStep instance (Bins k) p.frames (SetRefuted (Some b)) (Refuse «Set»)
  bin_refused b used u e =
      let l = used_is k p.boxes p.frames path.splits are.0 are.1 in
      ap (λ m. unless (nat_le 1 b && nat_le b m) «Set» None) (l ∙ sym u) ∙ ap (λ t. unless t «Set» None) e

  pub bin_begun : (b used : ℕ) → used ≡ used_behind p.frames → (nat_le 1 b && nat_le b used) ≡ true
      → IsTokenStep instance (Bins k) p.frames (SetRefuted (Some b)) (Begin (b - 1))
  bin_begun b used u e =
      let l = used_is k p.boxes p.frames path.splits are.0 are.1 in
      let q = and_parts (nat_le 1 b) (nat_le b used) e in
      let from = leb-true 1 b q.0 in
      let to = leb-true b used q.1 in
      let at : pred b ≡ b - 1 = omega (arith, from) in (
        ap (λ m. unless (nat_le 1 b && nat_le b m) «Set» None) (l ∙ sym u) ∙ ap (λ t. unless t «Set» None) e,
        ap (λ keep. On (path_below (bins_with k) [] p.frames) (Inside keep [] []))
            (ap (λ m. get_or (bins_at k p.frames) m []) at
            ∙ (bin_is k p.boxes (b - 1) p.frames path.splits path.apart are.0
            ∙ ap (λ n. boxes_put n p.frames (b - 1)) same)),
        subst (λ n. 1 ≤ length (boxes_put n p.frames (b - 1))) same
            (boxes_some p.boxes p.frames (b - 1) path.splits
            (used_put p.boxes k p.frames (b - 1) path.splits are.0 are.1 (omega (arith, from, to, u)))),
      )
