-- Splits on a path, and the boxes that they put into a child.
use Rattle.std.proofs.Common.{◌≡◌, ◌≢◌, ℕ, suc, pred, ◌+◌, ◌<◌, ◌≤◌, ◌⊎◌, inl, inr, refl, sym, ap, ap₂, ◌∙◌, arith}
use Rattle.std.proofs.Common.{Bool, true, false, ◌||◌, ◌&&◌, ◌==◌, if◌then◌else◌, List, [], ◌∷◌, ◌++◌, map, length}
use Rattle.std.proofs.Common.{reverse, take, get_or, ◌-◌, ◌^◌}
use Rattle.std.specs.List.{list_any, filter, range_with_len, AllByRecursion}
use Rattle.std.proofs.lemmas.Bool.{true≢false, cases_Bool, eq-eqb}
use Rattle.std.proofs.lemmas.List.{length-map, length-append, reverse-append, take_more}
use Rattle.std.proofs.lemmas.List.Folds.{list_any-append}
use Rattle.std.proofs.Math.Seq.{take-length}
use Rattle.std.proofs.lemmas.List.Elements.{filter-append}
use Rattle.packing_terms.specs.Rules.{AreBoxesAmong}
use Rattle.packing_terms.proofs.Boxes.{boxes_few}
use Rattle.packing_terms.proofs.Ranges.{numbers_more}
use Rattle.outer_check.specs.declared.path.Frame.{Frame}
use Rattle.outer_check.specs.Frames.{PlainPath, ArePath, AreSplits, HaveDistinctBoxes, is_decided, is_put, is_some_put}
use Rattle.outer_check.specs.Frames.{boxes_put}

pub any_reverse : {A : Type 0} (p : A → Bool) (xs : List A) → list_any p (reverse xs) ≡ list_any p xs
any_reverse p [] = refl
any_reverse p (x ∷ xs) =
    ap (list_any p) (reverse-append (x ∷ []) xs) ∙ (list_any-append p (reverse xs) (x ∷ [])
    ∙ (ap (λ b. b || (p x || false)) (any_reverse p xs) ∙ swapped (list_any p xs) (p x)))
  where
    swapped : (a b : Bool) → (a || (b || false)) ≡ (b || a)
    swapped true true = refl
    swapped true false = refl
    swapped false true = refl
    swapped false false = refl

-- tests of `frames`, the list that the path is seen as, made on `slice`, the stored list
pub any_decided : (frames items slice : List Frame) (box_no : ℕ) → slice ≡ items → reverse items ≡ frames
    → list_any (λ (f : Frame). f.box_no == box_no) slice ≡ is_decided frames box_no
any_decided frames items slice box_no same seen =
    ap (list_any (λ (f : Frame). f.box_no == box_no)) same
    ∙ (sym (any_reverse (λ (f : Frame). f.box_no == box_no) items)
    ∙ ap (list_any (λ (f : Frame). f.box_no == box_no)) seen)

pub any_put : (frames items slice : List Frame) (child v : ℕ) → slice ≡ items → reverse items ≡ frames
    → list_any (λ (f : Frame). (f.box_no == (v + 1)) && (f.child == child)) slice ≡ is_put frames child v
any_put frames items slice child v same seen =
    ap (list_any (λ (f : Frame). (f.box_no == (v + 1)) && (f.child == child))) same
    ∙ (sym (any_reverse (λ (f : Frame). (f.box_no == (v + 1)) && (f.child == child)) items)
    ∙ (ap (list_any (λ (f : Frame). (f.box_no == (v + 1)) && (f.child == child))) seen
    ∙ ap (λ w. list_any (λ (f : Frame). (f.box_no == w) && (f.child == child)) frames)
    (let e : v + 1 ≡ suc v = omega arith in e)))

pub any_child : (frames items slice : List Frame) (child : ℕ) → slice ≡ items → reverse items ≡ frames
    → list_any (λ (f : Frame). f.child == child) slice ≡ is_some_put frames child
any_child frames items slice child same seen =
    ap (list_any (λ (f : Frame). f.child == child)) same
    ∙ (sym (any_reverse (λ (f : Frame). f.child == child) items) ∙ ap (list_any (λ (f : Frame). f.child == child)) seen)

-- a box that isn't decided differs from those of the splits
pub undecided_differs : (n : ℕ) (frames : List Frame) (box_no : ℕ) → 1 ≤ box_no → AreSplits n frames
    → is_decided frames box_no ≡ false
    → AllByRecursion (λ u. pred box_no ≢ u) (map (λ (f : Frame). pred f.box_no) frames)
undecided_differs n [] box_no from splits e = tt
undecided_differs n (f ∷ frames) box_no from splits e =
    go (cases_Bool (f.box_no == box_no)) (λ k. undecided_differs n frames box_no from splits.4 k)
  where
    go : ((f.box_no == box_no) ≡ true) ⊎ ((f.box_no == box_no) ≡ false)
        → (is_decided frames box_no ≡ false
        → AllByRecursion (λ u. pred box_no ≢ u) (map (λ (g : Frame). pred g.box_no) frames))
        → AllByRecursion (λ u. pred box_no ≢ u) (map (λ (g : Frame). pred g.box_no) (f ∷ frames))
    go (inl h) rest = absurd (true≢false (sym (ap (λ b. b || is_decided frames box_no) h) ∙ e))
    go (inr h) rest = (
      (λ same. true≢false (sym (eq-eqb f.box_no box_no (let a = splits.0 in omega (arith, a, from, same))) ∙ h)),
      rest (sym (ap (λ b. b || is_decided frames box_no) h) ∙ e),
    )

-- so the boxes of the splits are distinct, and there are as many splits as boxes at most
distinct_boxes : (n : ℕ) (frames : List Frame) → AreSplits n frames → HaveDistinctBoxes frames
    → AreBoxesAmong n (map (λ (f : Frame). pred f.box_no) frames)
distinct_boxes n [] splits apart = tt
distinct_boxes n (f ∷ frames) splits apart = (
  (let a = splits.0 in let b = splits.1 in omega (arith, a, b)),
  undecided_differs n frames f.box_no splits.0 splits.4 apart.0,
  distinct_boxes n frames splits.4 apart.1,
)

pub few_splits : (p : PlainPath) → ArePath p → length p.frames ≤ p.boxes
few_splits p h =
    let e = length-map p.frames (λ (f : Frame). pred f.box_no) in
    let l = boxes_few p.boxes (map (λ (f : Frame). pred f.box_no) p.frames)
    (distinct_boxes p.boxes p.frames h.splits h.apart) in
    omega (arith, e, l)

pub entered : (p : PlainPath) (box_no children used : ℕ) → ArePath p → 1 ≤ box_no → box_no ≤ p.boxes
    → is_decided p.frames box_no ≡ false → 1 ≤ children → children < 2 ^ 32
    → ArePath (record p { frames = record { box_no = box_no; child = 0; children = children; used = used } ∷ p.frames })
entered p box_no children used h from to new some fits = record {
  splits = (from, to, omega (arith, some), fits, h.splits);
  apart = (new, h.apart);
}

pub range_more : (p : ℕ → Bool) (v : ℕ) → filter p (range_with_len 0 (v + 1)) ≡ filter p (range_with_len 0 v)
    ++ (if p v then v ∷ [] else [])
range_more p v =
    ap (filter p) (numbers_more v)
    ∙ (filter-append p (range_with_len 0 v) (v ∷ []) ∙ ap (λ l. filter p (range_with_len 0 v) ++ l) (go (p v) refl))
  where
    go : (b : Bool) → p v ≡ b → filter p (v ∷ []) ≡ (if b then v ∷ [] else [])
    go true e = rw e refl
    go false e = rw e refl

-- the newest split is the last of the list
pub newest_is : (xs : List Frame) (d : Frame) → 1 ≤ length xs
    → reverse xs ≡ get_or xs (length xs - 1) d ∷ reverse (take (length xs - 1) xs)
newest_is xs d some =
    let k = length xs - 1 in
    let n : k + 1 ≡ length xs = omega (arith, some) in
    let all : take k xs ++ get_or xs k d ∷ [] ≡ xs =
    sym (take_more xs k d (omega (arith, some))) ∙ (ap (λ m. take m xs) n ∙ take-length xs) in
    ap reverse (sym all) ∙ reverse-append (take k xs) (get_or xs k d ∷ [])

-- one box more is looked at
pub put_more : (frames : List Frame) (child v : ℕ) (kept pushed : List ℕ) (put : Bool) → kept ≡ boxes_put v frames child
    → put ≡ is_put frames child v
    → pushed ≡ kept ++ (if put then v ∷ [] else []) → pushed ≡ boxes_put (v + 1) frames child
put_more frames child v kept pushed put before tested after =
    after ∙ (ap₂ (λ xs b. xs ++ (if b then v ∷ [] else [])) before tested
    ∙ sym (range_more (λ w. is_put frames child w) v))

pub push_length : (v : ℕ) (kept pushed : List ℕ) (put : Bool) → pushed ≡ kept ++ (if put then v ∷ [] else [])
    → length kept ≤ v → length pushed ≤ v + 1
push_length v kept pushed true e few = let a = ap length e in let b = length-append kept (v ∷ []) in
    omega (arith, a, b, few)
push_length v kept pushed false e few = let a = ap length e in let b = length-append {A = ℕ} kept [] in
    omega (arith, a, b, few)
