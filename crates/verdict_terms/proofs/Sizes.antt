-- Containers of other sides: what fits one fits each greater one, and what is refuted doesn't fit.
use Rattle.std.proofs.Common.{◌≡◌, ℕ, zero, suc, ◌+◌, ◌<◌, ◌≤◌, subst, arith, List, []}
use Rattle.packing_terms.specs.Packing.{PlainInstance, IsPacking, Fits, HasPositiveSides, dims, kerf, written_container}
use Rattle.packing_terms.specs.Limits.{IsInternalInstance, AreBoxItems, AreKerfs, IsSide, max_height}
use Rattle.packing_terms.specs.Tokens.{PlainToken}
use Rattle.packing_terms.specs.Refutation.{Refutes}
use Rattle.packing_terms.proofs.Internal.{internal_sides}
use Rattle.packing_terms.proofs.Refuted.{none_fits}
use Rattle.packing_terms.proofs.Excess.{excess_law}
use Rattle.verdict_terms.specs.Fronts.{with_container}

module _ (instance : PlainInstance) (a b x y : ℕ) where
  container_less : a ≤ x → b ≤ y → (i : ℕ) → i < 2
      → written_container (with_container instance a b) i ≤ written_container (with_container instance x y) i
  container_less l m zero h = l
  container_less l m (suc zero) h = m
  container_less l m (suc (suc i)) h = absurd (omega (arith, h))

  packed_wider : a ≤ x → b ≤ y → (places : List ℕ) → IsPacking (with_container instance a b) places
      → IsPacking (with_container instance x y) places
  packed_wider l m places p = record {
    count = p.count;
    within = (λ v i h k. let w = p.within v i h k in let c = container_less l m i k in omega (arith, w, c));
    apart = p.apart;
  }

  pub fits_wider : a ≤ x → b ≤ y → Fits (with_container instance a b) → Fits (with_container instance x y)
  fits_wider l m (places, p) = (places, packed_wider l m places p)

module _ (instance : PlainInstance) (limits : IsInternalInstance instance) (plane : dims instance ≡ 2) where
  pub sides_at : (a b : ℕ) → HasPositiveSides (with_container instance a b)
  sides_at a b v i h k = internal_sides instance limits v i h (omega (arith, k, plane))

  pub refuted_size : (a b : ℕ) (tokens : List PlainToken) → Refutes (with_container instance a b) [] tokens
      → ¬ Fits (with_container instance a b)
  refuted_size a b tokens h = none_fits excess_law (with_container instance a b) (sides_at a b) tokens h

  -- the instance with another container in range is an internal one
  pub internal_size : (a b : ℕ) → 1 ≤ a → a ≤ written_container instance 0 → b ≤ max_height
      → IsInternalInstance (with_container instance a b)
  internal_size a b l m n = record {
    container = record {
      dimensions = (omega arith, omega arith);
      others = others_in;
      last = n;
      kerf = subst (λ (d : ℕ). AreKerfs d instance.kerfs) plane limits.container.kerf;
    };
    boxes = subst (λ (d : ℕ). AreBoxItems d instance.kerfs instance.boxes) plane limits.boxes;
  }
    where
      others_in : (i : ℕ) → i + 1 < 2 → IsSide (kerf instance i) (written_container (with_container instance a b) i)
      others_in zero h = let w = limits.container.others 0 (omega (arith, plane)) in (l, omega (arith, w, m))
      others_in (suc i) h = absurd (omega (arith, h))
