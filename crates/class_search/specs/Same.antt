-- Parts of two instances that are the same.
use Rattle.std.specs.Prelude.{ℕ, ◌<◌, ◌≡◌}
use Rattle.packing_terms.specs.Packing.{PlainInstance, dims, written_container, kerf, written_side, value}

-- the same container and kerfs
pub record AreSameContainers (first second : PlainInstance) : Type 0 where
  pub dimensions : dims first ≡ dims second
  pub sides : (i : ℕ) → i < dims first → written_container first i ≡ written_container second i
  pub kerfs : (i : ℕ) → i < dims first → kerf first i ≡ kerf second i

-- the same box of this number
pub record AreSameBoxes (first second : PlainInstance) (v : ℕ) : Type 0 where
  pub values : value first v ≡ value second v
  pub sides : (i : ℕ) → i < dims first → written_side first v i ≡ written_side second v i
