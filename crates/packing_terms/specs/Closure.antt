-- What has a derivation from a set of exclusions, its closure, and when that has a conflict. A
-- derivation is a list, the newest exclusion first, in which each is given or follows from older
-- ones by one rule. Nothing is said of an order of work: the closure is all that stands in some
-- derivation.
use Rattle.std.specs.Prelude.{ℕ, ◌⊎◌, List, [], ◌∷◌, IsTrue}
use Rattle.packing_terms.specs.declared.Rel.{Rel}
use Rattle.packing_terms.specs.declared.Exclusion.{Exclusion}
use Rattle.packing_terms.specs.Packing.{PlainInstance}
use Rattle.packing_terms.specs.Relations.{mirror}
use Rattle.packing_terms.specs.Exclusions.{Exclusions, IsEdge, excludes}
use Rattle.packing_terms.specs.Rules.{Follows}

-- each exclusion of the list, the last one first, is in E or follows from those before it by one
-- rule
abbrev pub IsDerivation : PlainInstance → Exclusions → List Exclusion → Type 0
IsDerivation instance E [] = Unit {0}
IsDerivation instance E (e ∷ es) =
    (IsTrue (E e.dim e.u e.v e.rel) ⊎ Follows instance (excludes es) e.dim e.u e.v e.rel) × IsDerivation instance E es

-- the exclusion stands in some derivation from E: it is in the closure of E
pub record IsDerived (instance : PlainInstance) (E : Exclusions) (i u v : ℕ) (r : Rel) : Type 0 where
  pub steps : List Exclusion
  pub derivation : IsDerivation instance E steps
  pub stands : IsTrue (excludes steps i u v r)

-- all three relations are excluded in one dimension, at one pair
pub record HasConflict (instance : PlainInstance) (E : Exclusions) : Type 0 where
  pub dim : ℕ
  pub u : ℕ
  pub v : ℕ
  pub edge : IsEdge instance dim u v
  pub each : (r : Rel) → IsDerived instance E dim u v r

-- every exclusion of the first set is in the second
abbrev pub IsSubset : Exclusions → Exclusions → Type 0
IsSubset X Y = (i u v : ℕ) (r : Rel) → IsTrue (X i u v r) → IsTrue (Y i u v r)

-- an exclusion and its mirror are in the set together
abbrev pub IsSymmetric : Exclusions → Type 0
IsSymmetric X = (i u v : ℕ) (r : Rel) → IsTrue (X i u v r) → IsTrue (X i v u (mirror r))

-- no rule adds an exclusion
abbrev pub IsStable : PlainInstance → Exclusions → Type 0
IsStable instance X = (i u v : ℕ) (r : Rel) → Follows instance X i u v r → IsTrue (X i u v r)

-- each exclusion of the set has a derivation from E
abbrev pub AreDerived : PlainInstance → Exclusions → Exclusions → Type 0
AreDerived instance E X = (i u v : ℕ) (r : Rel) → IsTrue (X i u v r) → IsDerived instance E i u v r

-- all that the first set derives, the second derives: the closure of the first lies in that of the
-- second
abbrev pub Derives : PlainInstance → Exclusions → Exclusions → Type 0
Derives instance E F = (i u v : ℕ) (r : Rel) → IsDerived instance E i u v r → IsDerived instance F i u v r
