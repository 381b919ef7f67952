-- The boxes of a set are an instance with the old container.
use Rattle.std.proofs.Common.{◌≡◌, ℕ, zero, suc, ◌+◌, ◌-◌, ◌<◌, ◌≤◌, List, length, get_or, arith, sym, subst}
use Rattle.std.proofs.lemmas.List.{get_or-map, length-map}
use Rattle.std.specs.List.Sorted.{IsStrictlyIncreasing}
use Rattle.packing_terms.specs.Packing.{PlainInstance, no_box, dims, box_count}
use Rattle.packing_terms.specs.Goals.{subset, IsBoxSet}
use Rattle.packing_terms.specs.Limits.{IsBox, IsInternalInstance}

-- numbers that rise are never below their positions
at_least : (vs : List ℕ) → IsStrictlyIncreasing vs → (k : ℕ) → k < length vs → k ≤ get_or vs k 0
at_least vs h zero l = omega arith
at_least vs h (suc k) l =
    let a = at_least vs h k (omega (arith, l)) in
    let b : get_or vs k 0 < get_or vs (k + 1) 0 = h k (omega (arith, l)) in
    let e : k + 1 ≡ suc k = omega arith in
    let c : get_or vs k 0 < get_or vs (suc k) 0 = subst (λ (m : ℕ). get_or vs k 0 < get_or vs m 0) e b in
    omega (arith, a, c)

module _ (instance : PlainInstance) (keep : List ℕ) (set : IsBoxSet instance keep) (some : 1 ≤ length keep) where
  pub few : length keep ≤ box_count instance
  few =
      let last : length keep - 1 < length keep = omega (arith, some) in
      let a = at_least keep set.rising (length keep - 1) last in
      let b : get_or keep (length keep - 1) 0 < box_count instance = set.there (length keep - 1) 0 last in
      omega (arith, a, b, some)

  pub subset_within : IsInternalInstance instance → IsInternalInstance (subset instance keep)
  subset_within limits = record {
    container = limits.container;
    boxes = record {
      count = let e = length-map keep (λ u. get_or instance.boxes u no_box) in let f = few in let n =
          limits.boxes.count.1 in (omega (arith, e, some), omega (arith, e, f, n));
      each = λ v l.
          let m : v < length keep = (let e = length-map keep (λ u. get_or instance.boxes u no_box) in
          omega (arith, e, l)) in
          subst (λ b. IsBox (dims instance) instance.kerfs b)
          (sym (get_or-map (λ u. get_or instance.boxes u no_box) keep v 0 no_box m))
          (limits.boxes.each (get_or keep v 0) (set.there v 0 m));
    };
  }
