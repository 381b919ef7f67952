-- One more than all boxes are worth is a value that a document can say.
use Rattle.std.proofs.Common.{ℕ, zero, suc, ◌≡◌, ◌+◌, ◌*◌, ◌≤◌, arith, refl, subst, get_or}
use Rattle.packing_terms.specs.Packing.{PlainInstance, no_box, box_count}
use Rattle.packing_terms.specs.Limits.{IsInternalInstance, max_boxes}
use Rattle.bin_knapsack.proofs.Summing.{IsSum, sum_next}
use Rattle.proposed_answers.specs.Values.{top_value}

module _ (instance : PlainInstance) (limits : IsInternalInstance instance) where
  -- what the boxes below v are worth
  sum_to : (v : ℕ) → v ≤ box_count instance → (sum : ℕ) × IsSum instance v sum
  sum_to zero l = (0, record { is = refl; small = omega arith })
  sum_to (suc v) l =
      let below_v = sum_to v (omega (arith, l)) in
      let next = sum_next instance limits v below_v.0 (get_or instance.boxes v no_box).value (omega (arith, l))
      below_v.1 refl in
      let e : v + 1 ≡ suc v = omega arith in (
        below_v.0 + (get_or instance.boxes v no_box).value,
        subst (λ (n : ℕ). IsSum instance n (below_v.0 + (get_or instance.boxes v no_box).value)) e next,
      )

  pub top_small : top_value instance ≤ 1000000000 * max_boxes + 1
  top_small =
      let all = sum_to (box_count instance) (omega arith) in
      let is = (all.1).is in
      let small = (all.1).small in
      let few = limits.boxes.count.1 in
      omega (arith, is, small, few)
