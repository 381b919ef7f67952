-- The count of the choice tree.
use Rattle.std.proofs.Common.{◌≡◌, ℕ, zero, suc, ◌+◌, ◌-◌, ◌*◌, ◌/◌, ◌^◌, ◌≤◌, refl, ap, ◌∙◌, arith, Bool, true, false}
use Rattle.std.proofs.Common.{List, [], ◌∷◌, length}
use Rattle.std.proofs.Math.Nat.{mul-le-mul_left, pow-succ'}
use Rattle.packing_terms.specs.Packing.{PlainInstance, IsPacking, HasPositiveSides, dims, box_count}
use Rattle.packing_terms.specs.Rules.{AreBoxes}
use Rattle.packing_terms.specs.Sums.{sum_below}
use Rattle.packing_terms.specs.Goals.{subset}
use Rattle.packing_terms.specs.OuterRefutation.{insert_box, no_choice, with_taken, with_left, Choice}
use Rattle.packing_terms.specs.Tokens.PlainToken.{Choose, ValueShort}
use Rattle.packing_terms.proofs.Boxes.{boxes_few, insert_boxes, not_found}
use Rattle.packing_terms.proofs.WithBoxes.{inserted_some}
use Rattle.tree_terms.specs.Trees.{SearchTree, Refuted, Split, Verdict, Yes, No, join_from, outcome, count_of}
use Rattle.packing_terms.specs.Rank.{ranked}
use Rattle.tree_terms.specs.Search.{IsRightUnder}
use Rattle.tree_terms.specs.OuterTrees.{set_verdict, taken_child, choice_of, is_reached, is_short, choice_numbers}
use Rattle.tree_terms.specs.OuterTrees.{choice_node, choice_tree}
use Rattle.packing_terms.proofs.RankLemmas.{ranked_are_boxes}
use Rattle.tree_terms.proofs.BinSearch.{set_right}
use Rattle.tree_terms.proofs.ChoiceSearch.{Holds, taken_holds, left_holds, root_holds}
use Rattle.tree_terms.proofs.OuterCounts.{powers, powers_next, powers_more, most, set_count, most_some, most_is}
use Rattle.tree_terms.proofs.OuterCounts.{powers_are, count_join}
use Rattle.tree_terms.proofs.Counts.{count_two}

-- 2 + 4 + .. + 2 ^ n
pub twos : (n : ℕ) → sum_below n (λ j. 2 ^ (j + 1)) + 2 ≡ 2 ^ (n + 1)
twos zero = refl
twos (suc n) =
    let rest = twos n in
    let e : suc n + 1 ≡ suc (n + 1) = omega arith in
    let f : 2 ^ (suc n + 1) ≡ 2 * 2 ^ (n + 1) = ap (λ x. 2 ^ x) e ∙ pow-succ' 2 (n + 1) in
    omega (arith, rest, f)

module _ (instance : PlainInstance) (sides : HasPositiveSides instance) (some_dim : 1 ≤ dims instance) (scales : Bool)
    (goal : ℕ) where
  abbrev top : ℕ
  top = most instance sides some_dim scales

  taken_count : (keep : List ℕ) (w : Verdict) → IsRightUnder (subset instance keep) [] w → 1 + count_of w ≤ top
      → (rest : List ℕ → ℕ → SearchTree) (r : ℕ)
      → ((ns : List ℕ) → IsPacking (subset instance keep) ns → (c : ℕ)
      → count_of (outcome (rest ns c)) ≤ c + top * powers 2 r)
      → count_of (outcome (taken_child w rest)) ≤ top + top * powers 2 r
  taken_count keep (Yes ns c) right small rest r h = let x = h ns right (1 + c) in omega (arith, x, small)
  taken_count keep (No ts c) right small rest r h = omega (arith, small)

  node_count : (rest : List ℕ) (c : Choice) (numbers : List ℕ) (own : ℕ)
      → Holds instance sides some_dim scales goal rest c numbers
      → count_of (outcome (choice_node instance scales goal rest c.taken numbers own)) ≤ own + top * powers 2
      (length rest)
  node_count [] c numbers own h = go (is_reached instance goal c.taken)
    where
      go : (b : Bool) → count_of (outcome
          (choice_of b true (choice_numbers instance c.taken numbers) own (Refuted (ValueShort ∷ []) own))) ≤ own + top
          * powers 2 0
      go true = omega arith
      go false = omega arith
  node_count (v ∷ rest) c numbers own h =
      go (is_reached instance goal c.taken) (is_short instance goal c.taken (v ∷ rest))
      (taken_count (insert_box v c.taken) (set_verdict instance scales (insert_box v c.taken))
      (set_right instance sides some_dim scales 0 (insert_box v c.taken) boxes (inserted_some v c.taken))
      (set_count instance sides some_dim scales (insert_box v c.taken) boxes)
      (λ ns n. choice_node instance scales goal rest (insert_box v c.taken) ns n) (length rest)
      (λ ns pack n. node_count rest (with_taken c v) ns n
      (taken_holds instance sides some_dim scales goal v rest c numbers h ns pack)))
      (node_count rest (with_left c v) numbers 1 (left_holds instance sides some_dim scales goal v rest c numbers h))
    where
      boxes : AreBoxes instance (insert_box v c.taken)
      boxes = insert_boxes (box_count instance) v c.taken h.boxes.0 (not_found v c.taken h.not_taken.0) h.taken

      go : (b s : Bool)
          → count_of (outcome (taken_child (set_verdict instance scales (insert_box v c.taken))
          (λ ns n. choice_node instance scales goal rest (insert_box v c.taken) ns n)))
          ≤ top + top * powers 2 (length rest)
          → count_of (outcome (choice_node instance scales goal rest c.taken numbers 1)) ≤ 1 + top * powers 2
          (length rest)
          → count_of (outcome (choice_of b s (choice_numbers instance c.taken numbers) own
          (Split (Choose (suc v)) own 2 (λ k. elim k [
            | zero ↦ taken_child (set_verdict instance scales (insert_box v c.taken))
                (λ ns n. choice_node instance scales goal rest (insert_box v c.taken) ns n)
            | suc _ ↦ choice_node instance scales goal rest c.taken numbers 1
          ])))) ≤ own + top * powers 2 (suc (length rest))
      go true s x y = omega arith
      go false true x y = omega arith
      go false false x y =
          let two = count_two (outcome (taken_child (set_verdict instance scales (insert_box v c.taken))
          (λ ns n. choice_node instance scales goal rest (insert_box v c.taken) ns n)))
          (outcome (choice_node instance scales goal rest c.taken numbers 1)) in
          let all = count_join (No (Choose (suc v) ∷ []) own) (join_from 0 2 (λ k. outcome (elim k [
            | zero ↦ taken_child (set_verdict instance scales (insert_box v c.taken))
                (λ ns n. choice_node instance scales goal rest (insert_box v c.taken) ns n)
            | suc _ ↦ choice_node instance scales goal rest c.taken numbers 1
          ]))) in
          let one = most_some instance sides some_dim scales in
          let d : top * (2 * (1 + powers 2 (length rest))) ≡ 2 * top + 2 * (top * powers 2 (length rest)) =
          grind arith in
          let e : top * powers 2 (suc (length rest)) ≡ top * (2 * (1 + powers 2 (length rest))) =
          ap (λ z. top * z) (powers_next 2 (length rest)) in
          omega (arith, x, y, two, all, one, d, e)

  pub choice_count : count_of (outcome (choice_tree instance goal scales))
      ≤ 3 ^ (dims instance * box_count instance * (box_count instance - 1) / 2) * (2 ^ (box_count instance + 1) - 2)
  choice_count =
      let all = node_count (ranked instance) no_choice [] 0 (root_holds instance sides some_dim scales goal) in
      let few = boxes_few (box_count instance) (ranked instance) (ranked_are_boxes instance) in
      let more : top * powers 2 (length (ranked instance)) ≤ top * powers 2 (box_count instance)
      = mul-le-mul_left top (powers_more instance sides some_dim scales 2 (length (ranked instance))
      (box_count instance) few) in
      let t = twos (box_count instance) in
      let e : powers 2 (box_count instance) ≡ 2 ^ (box_count instance + 1) - 2 =
      powers_are 2 (box_count instance) ∙ omega (arith, t) in
      let f : top * powers 2 (box_count instance) ≡ top * (2 ^ (box_count instance + 1) - 2) = ap (λ z. top * z) e in
      let g = most_is instance sides some_dim scales in
      let k : top * (2 ^ (box_count instance + 1) - 2)
      ≡ 3 ^ (dims instance * box_count instance * (box_count instance - 1) / 2) * (2 ^ (box_count instance + 1) - 2)
      = ap (λ z. z * (2 ^ (box_count instance + 1) - 2)) g in
      omega (arith, all, more, f, k)
