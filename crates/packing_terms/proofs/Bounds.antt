-- Images and wholes are small numbers.
use Rattle.std.proofs.Common.{ℕ, ◌+◌, ◌*◌, ◌^◌, ◌/◌, ◌<◌, ◌≤◌, arith}
use Rattle.std.proofs.lemmas.Nat.{mul-le, pow-add}
use Rattle.std.proofs.Math.Nat.{div-le_self, pow-le-pow_right, le_trans}
use Rattle.packing_terms.specs.Packing.{PlainInstance, dims, container_side}
use Rattle.packing_terms.specs.Limits.{IsInternalInstance}
use Rattle.packing_terms.specs.declared.ScaleFn.{ScaleFn}
use Rattle.packing_terms.specs.declared.ScaleFn.TheVariants.{Id, Step, Cut, Count}
use Rattle.packing_terms.specs.Scales.{IsLegalScale, scale_image, scale_whole}
use Rattle.packing_terms.proofs.Internal.{container_small}
use Rattle.packing_terms.proofs.Superadditive.{rises}
use Rattle.packing_terms.proofs.Families.{dominated}

pub image_small : (f : ScaleFn) (W x : ℕ) → IsLegalScale f W → x ≤ W → scale_image f W x ≤ scale_whole f W
image_small f W x h l =
    let d = dominated f W h in
    let i : scale_image f W x ≤ d.above x = d.at_most x l in
    let j : d.above x ≤ d.above W = rises W (scale_whole f W) d.above d.adds x W l (omega arith) in
    let k : d.above W ≤ scale_whole f W = d.adds.top in omega arith

whole_times : (f : ScaleFn) (W : ℕ) → IsLegalScale f W → scale_whole f W ≤ 16 * W
whole_times Id W h = omega arith
whole_times (Step k) W h = mul-le k W 16 W h.1 (omega arith)
whole_times (Cut e) W h = omega arith
whole_times (Count e) W h = let m : W / e ≤ W = div-le_self W e in omega arith

module _ (instance : PlainInstance) (limits : IsInternalInstance instance) where
  -- a whole in any dimension, and in one before the last
  pub whole_small : (f : ScaleFn) (i : ℕ) → i < dims instance → IsLegalScale f (container_side instance i)
      → scale_whole f (container_side instance i) ≤ 2 ^ 31
  whole_small f i l h = let m = whole_times f (container_side instance i) h in let c =
      container_small instance limits i l in omega (arith, m, c)

  pub whole_before_last : (f : ScaleFn) (i : ℕ) → i + 1 < dims instance → IsLegalScale f (container_side instance i)
      → scale_whole f (container_side instance i) ≤ 2 ^ 24
  whole_before_last f i l h =
      let m = whole_times f (container_side instance i) h in let c = limits.container.others i l in omega (arith, m, c)

-- the product of a number of `m` bits and one of `n` bits
pub next_power : (a b m n : ℕ) → a ≤ 2 ^ m → b ≤ 2 ^ n → a * b ≤ 2 ^ (m + n)
next_power a b m n h l = let k : a * b ≤ 2 ^ m * 2 ^ n = mul-le a b (2 ^ m) (2 ^ n) h l in rw (pow-add 2 m n) k

pub power_small : (a m n : ℕ) → a ≤ 2 ^ m → m ≤ n → a ≤ 2 ^ n
power_small a m n h l = le_trans h (pow-le-pow_right {n = 2} (omega arith) {i = m} {j = n} l)
