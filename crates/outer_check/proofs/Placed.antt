-- The node for bins that the splits lead to: how many bins are used, the boxes of each, and which boxes have a bin.
use Rattle.std.proofs.Common.{◌≡◌, ℕ, zero, suc, pred, ◌<◌, ◌≤◌, ◌⊎◌, inl, inr, refl, sym, ap, subst, ◌∙◌, arith, Bool}
use Rattle.std.proofs.Common.{true, false, ◌||◌, ◌&&◌, ◌==◌, if◌then◌else◌, List, [], ◌∷◌, ◌++◌, length, get_or}
use Rattle.std.specs.List.{list_any, filter, range_with_len}
use mathlib.Core.Path.{fun_ext}
use Rattle.std.proofs.lemmas.Bool.{true≢false, cases_Bool, eqb-true, eq-eqb, ne_eqb}
use Rattle.std.proofs.lemmas.List.{length-append}
use Rattle.std.proofs.Math.Bool.{and-true, and-false}
use Rattle.packing_terms.specs.OuterRefutation.{Bins, insert_box, has_box, with_box}
use Rattle.packing_terms.specs.OuterPaths.{bins_with}
use Rattle.packing_terms.proofs.WithBoxes.{with_length, with_own, any_with, with_other, any_new, child_is}
use Rattle.outer_check.specs.declared.path.Frame.{Frame}
use Rattle.outer_check.specs.Frames.{AreSplits, HaveDistinctBoxes, is_decided, is_put, boxes_put, used_behind}
use Rattle.outer_check.specs.Nodes.{node_below, HaveChildren, HaveUsed}
use Rattle.outer_check.proofs.Ranges.{insert_passes, filter_none}

-- ---- one box more

new_own : (bins : Bins) (v : ℕ) → get_or (bins ++ (v ∷ []) ∷ []) (length bins) []
    ≡ insert_box v (get_or bins (length bins) [])
new_own [] v = refl
new_own (us ∷ bins) v = new_own bins v

new_other : (bins : Bins) (c v : ℕ) → (length bins ≡ c → ⊥) → get_or (bins ++ (v ∷ []) ∷ []) c [] ≡ get_or bins c []
new_other [] zero v ne = absurd (ne refl)
new_other [] (suc c) v ne = refl
new_other (us ∷ bins) zero v ne = refl
new_other (us ∷ bins) (suc c) v ne = new_other bins c v (λ e. ne (ap suc e))

-- ---- the node that the splits lead to

-- a number of the text, and the box counted from 0
pub pred_is : (box_no v : ℕ) → 1 ≤ box_no → (pred box_no == v) ≡ (box_no == suc v)
pred_is zero v h = absurd (omega (arith, h))
pred_is (suc m) v h = go (cases_Bool (m == v))
  where
    go : ((m == v) ≡ true) ⊎ ((m == v) ≡ false) → (m == v) ≡ (suc m == suc v)
    go (inl e) = e ∙ sym (eq-eqb (suc m) (suc v) (ap suc (eqb-true m v e)))
    go (inr e) = e ∙ sym (ne_eqb (suc m) (suc v) (λ s. true≢false (sym (eq-eqb m v (omega (arith, s))) ∙ e)))

-- a box that isn't decided is in no child
pub not_put : (frames : List Frame) (child v : ℕ) → is_decided frames (suc v) ≡ false → is_put frames child v ≡ false
not_put [] child v e = refl
not_put (f ∷ frames) child v e = go (f.box_no == suc v) refl e (not_put frames child v)
  where
    go : (t : Bool) → (f.box_no == suc v) ≡ t → (t || is_decided frames (suc v)) ≡ false
        → (is_decided frames (suc v) ≡ false → is_put frames child v ≡ false)
        → ((t && (f.child == child)) || is_put frames child v) ≡ false
    go true f h rest = absurd (true≢false h)
    go false f h rest = rest h

-- one split more puts its box into its child
pub put_one : (n b : ℕ) (f : Frame) (frames : List Frame) → 1 ≤ f.box_no → f.box_no ≤ n
    → is_decided frames f.box_no ≡ false
    → (if f.child == b then insert_box (pred f.box_no) (boxes_put n frames b) else boxes_put n frames b)
    ≡ boxes_put n (f ∷ frames) b
put_one n b f frames from to new = go (f.child == b)
  where
    own : suc (pred f.box_no) ≡ f.box_no
    own = omega (arith, from)

    test : (t : Bool) → ◌≡◌ {A = ℕ → Bool} (λ v. ((f.box_no == suc v) && t) || is_put frames b v)
        (if t then (λ v. (pred f.box_no == v) || is_put frames b v) else (λ v. is_put frames b v))
    test true = fun_ext (λ v. ap (λ x. x || is_put frames b v)
        (and-true (f.box_no == suc v) ∙ sym (pred_is f.box_no v from)))
    test false = fun_ext (λ v. ap (λ x. x || is_put frames b v) (and-false (f.box_no == suc v)))

    go : (t : Bool) → (if t then insert_box (pred f.box_no) (boxes_put n frames b) else boxes_put n frames b)
        ≡ filter (λ v. ((f.box_no == suc v) && t) || is_put frames b v) (range_with_len 0 n)
    go true =
        sym (insert_passes (λ v. is_put frames b v) (pred f.box_no) 0 n (omega arith) (omega (arith, from, to))
        (not_put frames b (pred f.box_no) (subst (λ x. is_decided frames x ≡ false) (sym own) new)))
        ∙ ap (λ p. filter p (range_with_len 0 n)) (sym (test true))
    go false = ap (λ p. filter p (range_with_len 0 n)) (sym (test false))

module _ (k : ℕ) where
  abbrev pub bins_at : List Frame → Bins
  bins_at frames = node_below (bins_with k) [] frames

  pub used_is : (n : ℕ) (frames : List Frame) → AreSplits n frames → HaveChildren (bins_with k) [] frames
      → HaveUsed k frames
      → length (bins_at frames) ≡ used_behind frames
  used_is n [] splits counted used = refl
  used_is n (f ∷ frames) splits counted used =
      go (child_is k (bins_at frames) (bins_at frames) (pred f.box_no) f.child
      (let a = splits.2 in let b = counted.0 in omega (arith, a, b)))
    where
      go : ((f.child < length (bins_at frames))
          × (bins_at (f ∷ frames) ≡ with_box (bins_at frames) f.child (pred f.box_no)))
          ⊎ ((f.child ≡ length (bins_at frames)) × (length (bins_at frames) < k)
          × (bins_at (f ∷ frames) ≡ bins_at frames ++ (pred f.box_no ∷ []) ∷ []))
          → length (bins_at (f ∷ frames)) ≡ used_behind (f ∷ frames)
      go (inl (l, e)) = ap length e ∙ (with_length (bins_at frames) f.child (pred f.box_no)
          ∙ (let u = used.0 in omega (arith, l, u)))
      go (inr (l, _, e)) = ap length e
          ∙ (let a = length-append (bins_at frames) ((pred f.box_no ∷ []) ∷ []) in let u = used.0 in
          omega (arith, l, a, u))

  -- whether a box has a bin
  pub placed_is : (n v : ℕ) (frames : List Frame) → AreSplits n frames → HaveChildren (bins_with k) [] frames
      → list_any (has_box v) (bins_at frames) ≡ is_decided frames (suc v)
  placed_is n v [] splits counted = refl
  placed_is n v (f ∷ frames) splits counted =
      go (child_is k (bins_at frames) (bins_at frames) (pred f.box_no) f.child
      (let a = splits.2 in let b = counted.0 in omega (arith, a, b)))
      ∙ (ap (λ r. (pred f.box_no == v) || r) (placed_is n v frames splits.4 counted.1)
      ∙ ap (λ b. b || is_decided frames (suc v)) (pred_is f.box_no v splits.0))
    where
      go : ((f.child < length (bins_at frames))
          × (bins_at (f ∷ frames) ≡ with_box (bins_at frames) f.child (pred f.box_no)))
          ⊎ ((f.child ≡ length (bins_at frames)) × (length (bins_at frames) < k)
          × (bins_at (f ∷ frames) ≡ bins_at frames ++ (pred f.box_no ∷ []) ∷ []))
          → list_any (has_box v) (bins_at (f ∷ frames))
          ≡ ((pred f.box_no == v) || list_any (has_box v) (bins_at frames))
      go (inl (l, e)) = ap (list_any (has_box v)) e ∙ any_with v (pred f.box_no) (bins_at frames) f.child l
      go (inr (l, _, e)) = ap (list_any (has_box v)) e ∙ any_new v (pred f.box_no) (bins_at frames)

  -- the boxes of a bin
  pub bin_is : (n b : ℕ) (frames : List Frame) → AreSplits n frames → HaveDistinctBoxes frames
      → HaveChildren (bins_with k) [] frames
      → get_or (bins_at frames) b [] ≡ boxes_put n frames b
  bin_is n b [] splits apart counted = sym (filter_none 0 n)
  bin_is n b (f ∷ frames) splits apart counted =
      go (child_is k (bins_at frames) (bins_at frames) (pred f.box_no) f.child
      (let a = splits.2 in let c = counted.0 in omega (arith, a, c)))
      ∙ (ap (λ us. if f.child == b then insert_box (pred f.box_no) us else us)
      (bin_is n b frames splits.4 apart.1 counted.1)
      ∙ put_one n b f frames splits.0 splits.1 apart.0)
    where
      by_test : (c : Bins) (t : Bool) → (f.child == b) ≡ t
          → (f.child ≡ b → get_or c b [] ≡ insert_box (pred f.box_no) (get_or (bins_at frames) b []))
          → ((f.child ≡ b → ⊥) → get_or c b [] ≡ get_or (bins_at frames) b [])
          → get_or c b [] ≡ (if t then insert_box (pred f.box_no) (get_or (bins_at frames) b []) else get_or
          (bins_at frames) b [])
      by_test c true e own other = own (eqb-true f.child b e)
      by_test c false e own other = other (λ h. true≢false (sym (eq-eqb f.child b h) ∙ e))

      go : ((f.child < length (bins_at frames))
          × (bins_at (f ∷ frames) ≡ with_box (bins_at frames) f.child (pred f.box_no)))
          ⊎ ((f.child ≡ length (bins_at frames)) × (length (bins_at frames) < k)
          × (bins_at (f ∷ frames) ≡ bins_at frames ++ (pred f.box_no ∷ []) ∷ []))
          → get_or (bins_at (f ∷ frames)) b []
          ≡ (if f.child == b then insert_box (pred f.box_no) (get_or (bins_at frames) b []) else get_or
          (bins_at frames) b [])
      go (inl (l, e)) =
          ap (λ c. get_or c b []) e
          ∙ by_test (with_box (bins_at frames) f.child (pred f.box_no)) (f.child == b) refl
          (λ h. subst (λ c. get_or (with_box (bins_at frames) f.child (pred f.box_no)) c []
          ≡ insert_box (pred f.box_no) (get_or (bins_at frames) c [])) h
          (with_own (bins_at frames) f.child (pred f.box_no) l))
          (λ h. with_other (bins_at frames) f.child b (pred f.box_no) (λ m. h (sym m)))
      go (inr (l, _, e)) =
          ap (λ c. get_or c b []) e
          ∙ by_test (bins_at frames ++ (pred f.box_no ∷ []) ∷ []) (f.child == b) refl
          (λ h. subst (λ c. get_or (bins_at frames ++ (pred f.box_no ∷ []) ∷ []) c []
          ≡ insert_box (pred f.box_no) (get_or (bins_at frames) c [])) (sym l ∙ h)
          (new_own (bins_at frames) (pred f.box_no)))
          (λ h. new_other (bins_at frames) b (pred f.box_no) (λ m. h (l ∙ m)))
