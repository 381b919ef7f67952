-- What a bounded refutation refutes isn't reached, and a plain refutation is a bounded one. The cases
-- of plain leaves and of splits are those of plain refutations for a value. A node at which an
-- exchange is open agrees with no complete set, and what is reached is reached by a complete set.
use Rattle.std.proofs.Common.{◌≡◌, ℕ, pred, ◌+◌, ◌<◌, ◌≤◌, true, false, sym, ◌⊎◌, inl, inr, refl, ap, subst, ◌∙◌, arith, List, [], ◌∷◌}
use Rattle.std.proofs.Common.{◌++◌, map}
use Rattle.std.proofs.lemmas.Bool.{true≢false}
use Rattle.std.proofs.lemmas.List.{map-append}
use Rattle.std.proofs.lemmas.List.Sums.{sum_by-append}
use Rattle.packing_terms.specs.Packing.{PlainInstance, HasPositiveSides, box_count, value, Fits}
use Rattle.packing_terms.specs.Goals.{subset, worth, IsBoxSet, ReachesValue}
use Rattle.packing_terms.specs.Meanings.{AgreesWith}
use Rattle.packing_terms.specs.Tokens.{PlainToken}
use Rattle.packing_terms.specs.ExcessLaw.{ExcessLaw}
use Rattle.packing_terms.specs.OuterRefutation as plain
use Rattle.packing_terms.specs.OuterRefutation.{Choice, has_box, no_choice, undecided, with_taken, with_left, RefutesValue}
use Rattle.packing_terms.proofs.Members.{IsIn}
use Rattle.packing_terms.proofs.Boxes.{each_in, found, sum_within}
use Rattle.packing_terms.proofs.Refuted.{none_fits}
use Rattle.packing_terms.proofs.BinsRefuted.{set_sides}
use Rattle.packing_terms.proofs.ValueRefuted.{part_fits, child_agrees}
use Rattle.verdict_terms.specs.BoundedRefutation.{BoundedToken, Plain, RefutesBounded, none_left, by_value, by_price}
use Rattle.verdict_terms.specs.Exchanges.{IsComplete, IsExchange}
use Rattle.verdict_terms.specs.BoundedRefutation.{by_exchange, by_set, by_box}
use Rattle.packing_terms.proofs.Agreeing.{set_boxes, taken_in, covered}
use Rattle.verdict_terms.proofs.PricedSets.{node_worth_less}
use Rattle.verdict_terms.proofs.Exchanged.{reached_completely}

module _ (law : ExcessLaw) (instance : PlainInstance) (sides : HasPositiveSides instance) (goal : ℕ) (keep : List ℕ)
    (set : IsBoxSet instance keep) (complete : IsComplete instance keep)
    (reached : goal ≤ worth instance keep) (fits : Fits (subset instance keep)) where
  -- what is in and what is undecided is worth the goal
  enough : (c : Choice) → AgreesWith instance keep c
      → goal ≤ worth instance c.taken + worth instance (undecided instance c)
  enough c agrees =
      let boxes = set_boxes instance keep set in
      let most = sum_within (λ v. value instance v) (box_count instance) keep (c.taken ++ undecided instance c) boxes
      (covered instance keep c boxes agrees) in
      let sum = sum_by-append (λ v. value instance v) c.taken (undecided instance c) in
      omega (arith, reached, most, sum)

  -- a complete set that has box v has box u
  no_exchange : (c : Choice) (u v : ℕ) → IsExchange instance c u v → ¬ AgreesWith instance keep c
  no_exchange c u v x agrees =
      let taken = each_in (λ w. has_box w keep ≡ true) c.taken agrees.taken (pred v) (found (pred v) c.taken x.taken) in
      let left = each_in (λ w. has_box w keep ≡ false) c.left agrees.left (pred u) (found (pred u) c.left x.out) in
      let there : pred u < box_count instance = (let h = x.out_from in let j = x.out_to in omega (arith, h, j)) in
      true≢false (sym (complete (pred u) (pred v) there x.before taken) ∙ left)

  pub bounded_sound : {nodes : List Choice} {z : List BoundedToken} → RefutesBounded instance goal nodes z → (c : Choice)
      → IsIn c nodes → ¬ AgreesWith instance keep c
  bounded_sound none_left c i g = absurd i
  bounded_sound (by_value {c = own} short rest) c (inl e) g =
      let h = enough own (subst (λ x. AgreesWith instance keep x) e g) in omega (arith, h, short)
  bounded_sound (by_value short rest) c (inr i) g = bounded_sound rest c i g
  bounded_sound (by_price {c = own} {q = q} {p = p} {fs = fs} out rest) c (inl e) g =
      let less = node_worth_less law instance goal q p fs own keep out set
      (subst (λ x. AgreesWith instance keep x) e g) fits in
      omega (arith, less, reached)
  bounded_sound (by_price out rest) c (inr i) g = bounded_sound rest c i g
  bounded_sound (by_exchange {c = own} {u = u} {v = v} x rest) c (inl e) g =
      no_exchange own u v x (subst (λ y. AgreesWith instance keep y) e g)
  bounded_sound (by_exchange x rest) c (inr i) g = bounded_sound rest c i g
  bounded_sound (by_set {c = own} some inner e rest) c (inl f) g =
      let agrees = subst (λ x. AgreesWith instance keep x) f g in
      none_fits law (subset instance own.taken) (set_sides instance sides own.taken agrees.boxes) _ inner
      (part_fits instance keep own.taken agrees.boxes (taken_in instance keep own agrees) fits)
  bounded_sound (by_set some inner e rest) c (inr i) g = bounded_sound rest c i g
  bounded_sound (by_box {c = own} {v = v} free rest) c (inl e) g =
      go (child_agrees instance keep own v free (subst (λ x. AgreesWith instance keep x) e g))
      (bounded_sound rest (with_taken own (pred v)) (inl refl))
      (bounded_sound rest (with_left own (pred v)) (inr (inl refl)))
    where
      go : AgreesWith instance keep (with_taken own (pred v)) ⊎ AgreesWith instance keep (with_left own (pred v))
          → ¬ AgreesWith instance keep (with_taken own (pred v))
          → ¬ AgreesWith instance keep (with_left own (pred v)) → ⊥
      go (inl k) in_child out_child = in_child k
      go (inr k) in_child out_child = out_child k
  bounded_sound (by_box free rest) c (inr i) g = bounded_sound rest c (inr (inr i)) g

-- a bounded refutation shows that the instance doesn't reach the value
pub none_reaches_bounded : ExcessLaw → (instance : PlainInstance) → HasPositiveSides instance → (goal : ℕ)
    (z : List BoundedToken) → RefutesBounded instance goal (no_choice ∷ []) z → ¬ ReachesValue instance goal
none_reaches_bounded law instance sides goal z h reaches =
    let s = reached_completely instance goal reaches in
    bounded_sound law instance sides goal s.keep s.set s.complete s.reached s.fits h no_choice (inl refl)
    (record { boxes = tt; taken = tt; left = tt })

-- a plain refutation for a value is a bounded one
pub plain_is_bounded : (instance : PlainInstance) (goal : ℕ) {nodes : List Choice} {z : List PlainToken}
    → RefutesValue instance goal nodes z → RefutesBounded instance goal nodes (map (λ t. Plain t) z)
plain_is_bounded instance goal plain.none_left = none_left
plain_is_bounded instance goal (plain.by_value short rest) = by_value short (plain_is_bounded instance goal rest)
plain_is_bounded instance goal (plain.by_set {x = x} {y = y} some inner e rest) =
    by_set {x = x} {y = map (λ t. Plain t) y} some inner
    (ap (λ l. map (λ t. Plain t) l) e ∙ map-append (λ t. Plain t) x y)
    (plain_is_bounded instance goal rest)
plain_is_bounded instance goal (plain.by_box free rest) = by_box free (plain_is_bounded instance goal rest)
