-- A row of which each member follows from what was there.
use Rattle.std.proofs.Common.{◌≡◌, ℕ, ◌<◌, Bool, true, List}
use Rattle.packing_terms.specs.declared.Rel.{Rel}
use Rattle.packing_terms.specs.declared.Exclusion.{Exclusion}
use Rattle.packing_terms.specs.Packing.{PlainInstance}
use Rattle.packing_terms.specs.Exclusions.{excludes, exclusion_at, IsEdge}
use Rattle.packing_terms.specs.Rules.{Follows}
use Rattle.packing_terms.proofs.Monotone.{follows_more}
use Rattle.packing_terms.specs.Steps.{with_exclusion}
use Rattle.packing_terms.specs.Applied.{Extends}
use Rattle.packing_terms.proofs.Applied.{extends_refl, extends_trans, step_follows}
use Rattle.edge_state.specs.RowExclusions.{with_row}
use Rattle.edge_state.proofs.RowExclusions.{row_each}

pub row_extends : (instance : PlainInstance) (es : List Exclusion) (i u : ℕ) (r : Rel) (row : ℕ → Bool) (n : ℕ)
    → ((v : ℕ) → v < n → row v ≡ true → IsEdge instance i u v × Follows instance (excludes es) i u v r)
    → Extends instance es (with_row es i u r row n)
row_extends instance es i u r row n each =
    row_each i u r (Extends instance es) es row n (extends_refl instance es)
    (λ v fs l on more h. extends_trans instance es fs (with_exclusion fs (exclusion_at i u v r)) h
    (step_follows instance fs (exclusion_at i u v r) (each v l on).0
    (follows_more instance (excludes es) (excludes fs) more i u v r (each v l on).1)).extends)
