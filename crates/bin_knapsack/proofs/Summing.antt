-- What boxes are worth, one box after another.
use Rattle.std.proofs.Common.{◌≡◌, ℕ, ◌+◌, ◌*◌, ◌<◌, ◌≤◌, arith, get_or}
use Rattle.std.proofs.lemmas.List.Sums.{sum_by_push}
use Rattle.packing_terms.specs.Packing.{PlainInstance, no_box, box_count}
use Rattle.packing_terms.specs.Goals.{worth}
use Rattle.packing_terms.specs.Limits.{IsInternalInstance}
use Rattle.packing_terms.proofs.Ranges.{numbers_more}
use Rattle.packing_terms.specs.Sums.{below}

-- the boxes below v are worth so much
pub record IsSum (instance : PlainInstance) (v sum : ℕ) : Type 0 where
  pub is : sum ≡ worth instance (below v)
  pub small : sum ≤ v * 1000000000

pub sum_next : (instance : PlainInstance) → IsInternalInstance instance → (v sum more : ℕ) → v < box_count instance
    → IsSum instance v sum
    → more ≡ (get_or instance.boxes v no_box).value → IsSum instance (v + 1) (sum + more)
sum_next instance limits v sum more l h e = record {
  is = (let a = h.is in let p = sum_by_push (λ (u : ℕ). (get_or instance.boxes u no_box).value) (below v) v in
      rw (numbers_more v) (omega (arith, a, e, p)));
  small = (let s = h.small in let m = (limits.boxes.each v l).value in omega (arith, s, m, e));
}
