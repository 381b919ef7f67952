-- Chains stay chains where more is excluded.
use Rattle.std.proofs.Common.{ℕ, [], ◌∷◌, ◌++◌}
use Rattle.packing_terms.specs.Packing.{PlainInstance}
use Rattle.packing_terms.specs.Exclusions.{Exclusions}
use Rattle.packing_terms.specs.Closure.{IsSubset}
use Rattle.packing_terms.proofs.Monotone.{chain_more}
use Rattle.packing_terms.specs.Runs.{HasHead, HasTail}

module _ (instance : PlainInstance) (X Y : Exclusions) (more : IsSubset X Y) (i v k : ℕ) where
  pub head_more : HasHead instance X i v k → HasHead instance Y i v k
  head_more h = record {
    before = h.before;
    boxes = h.boxes;
    chain = chain_more instance X Y more i (h.before ++ v ∷ []) h.chain;
    heavy = h.heavy;
  }

  pub tail_more : HasTail instance X i v k → HasTail instance Y i v k
  tail_more h = record {
    after = h.after;
    boxes = h.boxes;
    chain = chain_more instance X Y more i (v ∷ h.after) h.chain;
    heavy = h.heavy;
  }
