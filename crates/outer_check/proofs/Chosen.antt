-- The node for a value that the splits lead to: which boxes are in, which are out, and which are undecided.
use Rattle.std.proofs.Common.{◌≡◌, ℕ, zero, suc, pred, ◌<◌, ◌⊎◌, inl, inr, refl, sym, ap, ap₂, ◌∙◌, arith, Bool, true}
use Rattle.std.proofs.Common.{false, not, ◌||◌, ◌&&◌, ◌==◌, if◌then◌else◌, List, [], ◌∷◌, get_or}
use Rattle.std.specs.List.{filter, range_with_len}
use Rattle.packing_terms.specs.Packing.{PlainInstance, box_count}
use Rattle.packing_terms.specs.OuterRefutation.{Choice, no_choice, has_box, insert_box, with_taken, with_left}
use Rattle.packing_terms.specs.OuterRefutation.{undecided}
use Rattle.packing_terms.specs.OuterPaths.{choices_with}
use Rattle.outer_check.specs.declared.path.Frame.{Frame}
use Rattle.outer_check.specs.Frames.{AreSplits, HaveDistinctBoxes, is_decided, is_put, boxes_put}
use Rattle.outer_check.specs.Nodes.{node_below, HaveChildren}
use Rattle.outer_check.proofs.Ranges.{has_passing, filter_same, filter_none}
use Rattle.outer_check.proofs.Placed.{put_one}

abbrev pub choice_at : List Frame → Choice
choice_at frames = node_below choices_with no_choice frames

-- the first child has the box in, the second has it out
two_children : (c d : Choice) (v child : ℕ) → child < 2
    → ((child ≡ 0) × (get_or (choices_with c v) child d ≡ with_taken c (pred v)))
    ⊎ ((child ≡ 1) × (get_or (choices_with c v) child d ≡ with_left c (pred v)))
two_children c d v zero l = inl (refl, refl)
two_children c d v (suc zero) l = inr (refl, refl)
two_children c d v (suc (suc n)) l = absurd (omega (arith, l))

child_small : (n : ℕ) (f : Frame) (frames : List Frame) → AreSplits n (f ∷ frames)
    → HaveChildren choices_with no_choice (f ∷ frames) → f.child < 2
child_small n f frames splits counted = let a = splits.2 in let b = counted.0 in omega (arith, a, b)

pub taken_is : (n : ℕ) (frames : List Frame) → AreSplits n frames → HaveDistinctBoxes frames
    → HaveChildren choices_with no_choice frames
    → (choice_at frames).taken ≡ boxes_put n frames 0
taken_is n [] splits apart counted = sym (filter_none 0 n)
taken_is n (f ∷ frames) splits apart counted =
    go (two_children (choice_at frames) (choice_at frames) f.box_no f.child (child_small n f frames splits counted))
    ∙ (ap (λ us. if f.child == 0 then insert_box (pred f.box_no) us else us)
    (taken_is n frames splits.4 apart.1 counted.1)
    ∙ put_one n 0 f frames splits.0 splits.1 apart.0)
  where
    go : ((f.child ≡ 0) × (choice_at (f ∷ frames) ≡ with_taken (choice_at frames) (pred f.box_no)))
        ⊎ ((f.child ≡ 1) × (choice_at (f ∷ frames) ≡ with_left (choice_at frames) (pred f.box_no)))
        → (choice_at (f ∷ frames)).taken
        ≡ (if f.child == 0 then insert_box (pred f.box_no) (choice_at frames).taken else (choice_at frames).taken)
    go (inl (c, e)) = ap (λ (x : Choice). x.taken) e
        ∙ ap (λ m. if m == 0 then insert_box (pred f.box_no) (choice_at frames).taken else
        (choice_at frames).taken) (sym c)
    go (inr (c, e)) = ap (λ (x : Choice). x.taken) e
        ∙ ap (λ m. if m == 0 then insert_box (pred f.box_no) (choice_at frames).taken else
        (choice_at frames).taken) (sym c)

pub left_is : (n : ℕ) (frames : List Frame) → AreSplits n frames → HaveDistinctBoxes frames
    → HaveChildren choices_with no_choice frames
    → (choice_at frames).left ≡ boxes_put n frames 1
left_is n [] splits apart counted = sym (filter_none 0 n)
left_is n (f ∷ frames) splits apart counted =
    go (two_children (choice_at frames) (choice_at frames) f.box_no f.child (child_small n f frames splits counted))
    ∙ (ap (λ us. if f.child == 1 then insert_box (pred f.box_no) us else us)
    (left_is n frames splits.4 apart.1 counted.1)
    ∙ put_one n 1 f frames splits.0 splits.1 apart.0)
  where
    go : ((f.child ≡ 0) × (choice_at (f ∷ frames) ≡ with_taken (choice_at frames) (pred f.box_no)))
        ⊎ ((f.child ≡ 1) × (choice_at (f ∷ frames) ≡ with_left (choice_at frames) (pred f.box_no)))
        → (choice_at (f ∷ frames)).left
        ≡ (if f.child == 1 then insert_box (pred f.box_no) (choice_at frames).left else (choice_at frames).left)
    go (inl (c, e)) = ap (λ (x : Choice). x.left) e
        ∙ ap (λ m. if m == 1 then insert_box (pred f.box_no) (choice_at frames).left else (choice_at frames).left) (sym c)
    go (inr (c, e)) = ap (λ (x : Choice). x.left) e
        ∙ ap (λ m. if m == 1 then insert_box (pred f.box_no) (choice_at frames).left else (choice_at frames).left) (sym c)

-- a box is decided where it is in or out
put_somewhere : (n v : ℕ) (frames : List Frame) → AreSplits n frames → HaveChildren choices_with no_choice frames
    → (is_put frames 0 v || is_put frames 1 v) ≡ is_decided frames (suc v)
put_somewhere n v [] splits counted = refl
put_somewhere n v (f ∷ frames) splits counted =
    go f.child (child_small n f frames splits counted) (f.box_no == suc v)
    ∙ ap (λ b. (f.box_no == suc v) || b) (put_somewhere n v frames splits.4 counted.1)
  where
    by_two : (t a b : Bool) → (((t && true) || a) || ((t && false) || b)) ≡ (t || (a || b))
    by_two true true b = refl
    by_two true false b = refl
    by_two false true b = refl
    by_two false false b = refl

    by_other : (t a b : Bool) → (((t && false) || a) || ((t && true) || b)) ≡ (t || (a || b))
    by_other true true b = refl
    by_other true false b = refl
    by_other false true b = refl
    by_other false false b = refl

    go : (c : ℕ) → c < 2 → (t : Bool)
        → (((t && (c == 0)) || is_put frames 0 v) || ((t && (c == 1)) || is_put frames 1 v))
        ≡ (t || (is_put frames 0 v || is_put frames 1 v))
    go zero l t = by_two t (is_put frames 0 v) (is_put frames 1 v)
    go (suc zero) l t = by_other t (is_put frames 0 v) (is_put frames 1 v)
    go (suc (suc m)) l t = absurd (omega (arith, l))

pub decided_is : (n v : ℕ) (frames : List Frame) → v < n → AreSplits n frames → HaveDistinctBoxes frames
    → HaveChildren choices_with no_choice frames
    → (has_box v (choice_at frames).taken || has_box v (choice_at frames).left) ≡ is_decided frames (suc v)
decided_is n v frames l splits apart counted =
    ap₂ (λ a b. has_box v a || has_box v b) (taken_is n frames splits apart counted)
    (left_is n frames splits apart counted)
    ∙ (ap₂ (λ a b. a || b) (has_passing (λ u. is_put frames 0 u) v 0 n (omega arith) (omega (arith, l)))
    (has_passing (λ u. is_put frames 1 u) v 0 n (omega arith) (omega (arith, l)))
    ∙ put_somewhere n v frames splits counted)

-- the boxes that are neither in nor out
pub undecided_is : (instance : PlainInstance) (frames : List Frame) → AreSplits (box_count instance) frames
    → HaveDistinctBoxes frames → HaveChildren choices_with no_choice frames
    → undecided instance (choice_at frames)
    ≡ filter (λ v. not (is_decided frames (suc v))) (range_with_len 0 (box_count instance))
undecided_is instance frames splits apart counted =
    filter_same (λ v. not (has_box v (choice_at frames).taken || has_box v (choice_at frames).left))
    (λ v. not (is_decided frames (suc v))) 0 (box_count instance)
    (λ u l m. ap not (decided_is (box_count instance) u frames (omega (arith, m)) splits apart counted))
