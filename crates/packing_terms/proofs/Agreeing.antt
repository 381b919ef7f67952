-- A set of boxes that agrees with a node of a choice tree: its boxes are distinct, and each is in or
-- undecided.
use Rattle.std.proofs.Common.{◌≡◌, ◌≢◌, ℕ, suc, ◌+◌, ◌<◌, ◌⊎◌, inl, inr, refl, subst, arith, true, false}
use Rattle.std.proofs.Common.{not, ◌||◌, List, [], ◌∷◌, ◌++◌, get_or}
use Rattle.std.specs.List.{range_with_len, All}
use Rattle.std.specs.List.Sorted.{IsStrictlyIncreasing}
use Rattle.std.proofs.lemmas.Bool.{cases_Bool, or_from, not_from_false}
use Rattle.packing_terms.specs.Packing.{PlainInstance, box_count}
use Rattle.packing_terms.specs.Rules.{AreBoxes, AreBoxesAmong}
use Rattle.packing_terms.specs.Goals.{IsBoxSet}
use Rattle.packing_terms.specs.Meanings.{AgreesWith}
use Rattle.packing_terms.specs.OuterRefutation.{Choice, has_box, undecided}
use Rattle.packing_terms.proofs.Members.{IsIn, in_append, in_filter, in_range}
use Rattle.packing_terms.proofs.Boxes.{each_in, each_from, box_in, not_found, found}

-- the numbers behind the first of a rising list rise
pub rising_later : (v : ℕ) (vs : List ℕ) → IsStrictlyIncreasing (v ∷ vs) → IsStrictlyIncreasing vs
rising_later v vs h k l =
    let e : suc k + 1 ≡ suc (k + 1) = omega arith in
    let n : get_or vs k 0 < get_or (v ∷ vs) (suc k + 1) 0 = h (suc k) (omega (arith, l)) in
    subst (λ (m : ℕ). get_or vs k 0 < get_or (v ∷ vs) m 0) e n

-- each of them is above the first
above : (v : ℕ) (vs : List ℕ) → IsStrictlyIncreasing (v ∷ vs) → (u : ℕ) → IsIn u vs → v < u
above v [] h u i = absurd i
above v (x ∷ xs) h u (inl e) = let first : v < x = h 0 (omega arith) in omega (arith, first, e)
above v (x ∷ xs) h u (inr i) =
    let first : v < x = h 0 (omega arith) in
    let later = above x xs (rising_later v (x ∷ xs) h) u i in
    omega (arith, first, later)

boxes_among : (n : ℕ) (vs : List ℕ) → All (λ v. v < n) vs → IsStrictlyIncreasing vs → AreBoxesAmong n vs
boxes_among n [] there h = tt
boxes_among n (v ∷ vs) there h = (
  there 0 0 (omega arith),
  each_from (λ u. v ≢ u) vs (λ u i e. let l = above v vs h u i in omega (arith, l, e)),
  boxes_among n vs (λ k d l. there (suc k) d (omega (arith, l))) (rising_later v vs h),
)

-- the boxes of a set are distinct boxes that are there
pub set_boxes : (instance : PlainInstance) (keep : List ℕ) → IsBoxSet instance keep → AreBoxes instance keep
set_boxes instance keep set = boxes_among (box_count instance) keep set.there set.rising

module _ (instance : PlainInstance) (keep : List ℕ) (c : Choice) where
  pub taken_in : AgreesWith instance keep c → (v : ℕ) → IsIn v c.taken → IsIn v keep
  taken_in agrees v i = found v keep (each_in (λ u. has_box u keep ≡ true) c.taken agrees.taken v i)

  left_out : AgreesWith instance keep c → (v : ℕ) → IsIn v c.left → ¬ IsIn v keep
  left_out agrees v i k = each_in (λ u. v ≢ u) keep
      (not_found v keep (each_in (λ u. has_box u keep ≡ false) c.left agrees.left v i)) v k refl

  -- each box of the set is in or undecided
  pub covered : AreBoxes instance keep → AgreesWith instance keep c → (v : ℕ) → IsIn v keep
      → IsIn v (c.taken ++ undecided instance c)
  covered boxes agrees v i = in_append v c.taken (undecided instance c)
      (go (cases_Bool (has_box v c.taken)) (cases_Bool (has_box v c.left)))
    where
      go : (has_box v c.taken ≡ true) ⊎ (has_box v c.taken ≡ false) → (has_box v c.left ≡ true)
          ⊎ (has_box v c.left ≡ false)
          → IsIn v c.taken ⊎ IsIn v (undecided instance c)
      go (inl k) _ = inl (found v c.taken k)
      go (inr k) (inl m) = absurd (left_out agrees v (found v c.left m) i)
      go (inr k) (inr m) = inr (in_filter (λ u. not (has_box u c.taken || has_box u c.left)) v
          (range_with_len 0 (box_count instance))
          (let l = box_in (box_count instance) keep boxes v i in
          in_range 0 (box_count instance) v (omega arith) (omega (arith, l)))
          (not_from_false _ (or_from _ _ k m)))
