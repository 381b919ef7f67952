-- No set of boxes that fits and is worth the goal has the boxes of a priced out list and otherwise
-- only open ones.
use Rattle.std.proofs.Common.{◌≡◌, ℕ, ◌+◌, ◌-◌, ◌*◌, ◌<◌, ◌≤◌, ◌⊎◌, inl, inr, refl, arith}
use Rattle.std.proofs.Common.{Bool, true, false, if◌then◌else◌, eqb, List, ◌++◌, sum_by}
use Rattle.std.proofs.lemmas.Bool.{cases_lt, eq-eqb}
use Rattle.std.proofs.lemmas.Nat.{mul-le}
use Rattle.std.proofs.lemmas.List.Sums.{sum_by-append}
use Rattle.packing_terms.specs.declared.ScaleFn.{ScaleFn}
use Rattle.packing_terms.specs.Packing.{PlainInstance, box_count, value, Fits}
use Rattle.packing_terms.specs.Rules.{AreBoxes}
use Rattle.packing_terms.specs.Goals.{subset, worth, IsBoxSet}
use Rattle.packing_terms.specs.Meanings.{AgreesWith}
use Rattle.packing_terms.specs.ExcessLaw.{ExcessLaw}
use Rattle.packing_terms.specs.OuterRefutation.{Choice, has_box, undecided}
use Rattle.packing_terms.proofs.Members.{IsIn, any_at}
use Rattle.packing_terms.proofs.Boxes.{sum_within}
use Rattle.verdict_terms.specs.Shares.{whole_share, share, shares, gain, ArePricedOut, IsPricedOut}
use Rattle.verdict_terms.proofs.Sums.{sum_each, sum_both, sum_scaled}
use Rattle.verdict_terms.proofs.ShareBounds.{each_fits_alone, shares_fit}
use Rattle.packing_terms.proofs.Agreeing.{set_boxes, taken_in, covered}
use Rattle.verdict_terms.proofs.Agreeing.{undecided_aside}

-- a box of the list is found
pub is_found : (v : ℕ) (us : List ℕ) → IsIn v us → has_box v us ≡ true
is_found v us i = any_at (λ u. eqb u v) v us i (eq-eqb v v refl)

module _ (law : ExcessLaw) (instance : PlainInstance) (goal q p : ℕ) (fs : List ScaleFn) (taken others keep : List ℕ)
    (taken_boxes : AreBoxes instance taken) (keep_boxes : AreBoxes instance keep)
    (aside : (v : ℕ) → IsIn v others → has_box v taken ≡ false) (taken_in : (v : ℕ) → IsIn v taken → IsIn v keep)
    (covered : (v : ℕ) → IsIn v keep → IsIn v (taken ++ others)) (fits : Fits (subset instance keep)) where
  -- the weighed value of a box, and its weighed share
  abbrev earns : ℕ → ℕ
  earns v = q * value instance v

  abbrev costs : ℕ → ℕ
  costs v = p * share instance fs v

  -- what is counted for a box of the set: its value where it is in, and its gain where it is open
  abbrev counted : ℕ → ℕ
  counted v = if has_box v taken then earns v else gain instance fs q p v

  -- the weighed share of a box that is in
  abbrev held : ℕ → ℕ
  held v = if has_box v taken then costs v else 0

  -- a box of the set earns no more than what is counted and what it costs
  each_earns : (v : ℕ) → IsIn v keep → earns v + held v ≤ counted v + costs v
  each_earns v i = go (has_box v taken)
    where
      open_gain : gain instance fs q p v ≡ q * value instance v - p * share instance fs v
      open_gain = rw (each_fits_alone law instance fs keep fits v i) refl

      go : (b : Bool) → earns v + (if b then costs v else 0) ≤ (if b then earns v else gain instance fs q p v) + costs v
      go true = omega arith
      go false = let e = open_gain in omega (arith, e)

  counted_most : sum_by counted keep ≤ sum_by earns taken + sum_by (λ v. gain instance fs q p v) others
  counted_most =
      let within = sum_within counted (box_count instance) keep (taken ++ others) keep_boxes covered in
      let parts = sum_by-append counted taken others in
      let inner = sum_each counted earns taken (λ v i. rw (is_found v taken i) (omega arith)) in
      let outer = sum_each counted (λ v. gain instance fs q p v) others (λ v i. rw (aside v i) (omega arith)) in
      omega (arith, within, parts, inner, outer)

  held_least : sum_by costs taken ≤ sum_by held keep
  held_least =
      let within = sum_within held (box_count instance) taken keep taken_boxes taken_in in
      let inner = sum_each costs held taken (λ v i. rw (is_found v taken i) (omega arith)) in
      omega (arith, within, inner)

  -- the set is worth less than the goal
  pub worth_less : ArePricedOut instance goal fs q p taken others → worth instance keep < goal
  worth_less out = go (cases_lt (worth instance keep) goal)
    where
      bound : q * worth instance keep + p * shares instance fs taken
          ≤ q * worth instance taken + p * whole_share + sum_by (λ v. gain instance fs q p v) others
      bound =
          let each = sum_each (λ v. earns v + held v) (λ v. counted v + costs v) keep each_earns in
          let left = sum_both earns held keep in
          let right = sum_both counted costs keep in
          let worth_keep = sum_scaled q (λ v. value instance v) keep in
          let worth_taken = sum_scaled q (λ v. value instance v) taken in
          let cost_keep = sum_scaled p (λ v. share instance fs v) keep in
          let cost_taken = sum_scaled p (λ v. share instance fs v) taken in
          let whole = mul-le p (shares instance fs keep) p whole_share (omega arith)
          (shares_fit law instance fs keep fits out.tuple) in
          omega (
            arith,
            each,
            left,
            right,
            worth_keep,
            worth_taken,
            cost_keep,
            cost_taken,
            whole,
            counted_most,
            held_least,
          )

      go : (worth instance keep < goal) ⊎ (goal ≤ worth instance keep) → worth instance keep < goal
      go (inl l) = l
      go (inr l) =
          let more = out.more in
          let m = mul-le q goal q (worth instance keep) (omega arith) l in
          absurd (omega (arith, more, bound, m))

-- no set that agrees with a node that is priced out fits and is worth the goal
pub node_worth_less : ExcessLaw → (instance : PlainInstance) (goal q p : ℕ) (fs : List ScaleFn) (c : Choice)
    (keep : List ℕ) → IsPricedOut instance goal fs q p c → IsBoxSet instance keep → AgreesWith instance keep c
    → Fits (subset instance keep) → worth instance keep < goal
node_worth_less law instance goal q p fs c keep out set agrees fits =
    let boxes = set_boxes instance keep set in
    worth_less law instance goal q p fs c.taken (undecided instance c) keep agrees.boxes boxes
    (undecided_aside instance c) (taken_in instance keep c agrees) (covered instance keep c boxes agrees) fits out
