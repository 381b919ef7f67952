-- What a node of an outer refutation speaks of: the packings in bins that share bins as the node
-- does, and the sets of boxes that have what is in and nothing of what is out. The root speaks of
-- all.
use Rattle.std.specs.Prelude.{ℕ, ◌≡◌, List, [], ◌∷◌, slice_index, false, IsTrue}
use Rattle.std.specs.List.{AllByRecursion}
use Rattle.packing_terms.specs.Packing.{PlainInstance}
use Rattle.packing_terms.specs.Rules.{AreBoxes, AreBoxesAmong}
use Rattle.packing_terms.specs.OuterRefutation.{Bins, has_box, Choice}

-- Each used bin has a number, and holds distinct boxes that are there, to each of which the list of
-- bin numbers gives that number.
abbrev pub AreNumbered : PlainInstance → List ℕ → List ℕ → Bins → Type 0
AreNumbered instance bin_of [] [] = Unit {0}
AreNumbered instance bin_of [] (us ∷ bins) = ⊥
AreNumbered instance bin_of (m ∷ ms) [] = ⊥
AreNumbered instance bin_of (m ∷ ms) (us ∷ bins) =
    AreBoxes instance us × AllByRecursion (λ u. slice_index bin_of u ≡ m) us × AreNumbered instance bin_of ms bins

-- the list of bin numbers puts two boxes of the node into one bin exactly where they share a used
-- bin: these have distinct numbers below k
pub record SharesBins (instance : PlainInstance) (k : ℕ) (bin_of : List ℕ) (bins : Bins) : Type 0 where
  pub numbers : List ℕ
  pub distinct : AreBoxesAmong k numbers
  pub numbered : AreNumbered instance bin_of numbers bins

-- the set of boxes has all that is in, which are distinct boxes that are there, and nothing of what
-- is out
pub record AgreesWith (instance : PlainInstance) (keep : List ℕ) (c : Choice) : Type 0 where
  pub boxes : AreBoxes instance c.taken
  pub taken : AllByRecursion (λ v. IsTrue (has_box v keep)) c.taken
  pub left : AllByRecursion (λ v. has_box v keep ≡ false) c.left
