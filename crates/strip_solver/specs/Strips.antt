-- What is answered for a strip, and what it says.
use Rattle.std.specs.Prelude.{ℕ, ◌-◌, ◌<◌, ◌≤◌, ◌≡◌, Bool, true, false, List, []}
use Rattle.packing_terms.specs.declared.Exclusion.{Exclusion}
use Rattle.packing_terms.specs.Packing.{PlainInstance, IsPacking, Fits}
use Rattle.packing_terms.specs.Goals.{with_last_side, IsLeastHeight, HasTooWideBox}
use Rattle.packing_terms.specs.TooLarge.{IsFirstTooWide}
use Rattle.packing_terms.specs.Refutation.{Refutes}
use Rattle.packing_terms.specs.Tokens.{PlainToken}
use Rattle.tree_terms.specs.Levels.{PlainReached}
use Rattle.tree_terms.specs.Heights.{height_run_from, HasHeightPastBudgetFrom}
use Rattle.strip_solver.specs.declared.strip.Strip.{Strip}
use Rattle.strip_solver.specs.declared.strip.Strip.TheVariants.{Least, Between, NoneFits}

-- the answer states where a run of heights ended
abbrev pub Tells : PlainReached → Strip → Type 0
Tells r (Least height places tokens) =
    r ≡ record {
      refuted = height - 1;
      tokens = tokens;
      placed = height;
      numbers = places.items;
      spent = false;
    }
Tells r (Between refuted tokens height places) =
    r ≡ record {
      refuted = refuted;
      tokens = tokens;
      placed = height;
      numbers = places.items;
      spent = true;
    }
Tells r (NoneFits v i) = ⊥

-- The answer is that of the definition, with trees that begin with these exclusions: the first box
-- that is too wide, or, where none is, where the run of heights ended.
abbrev pub IsAnswerFrom : List Exclusion → PlainInstance → ℕ → Bool → Strip → Type 0
IsAnswerFrom start instance budget scales (NoneFits v i) = IsFirstTooWide instance v i
IsAnswerFrom start instance budget scales (Least height places tokens) =
    (¬ HasTooWideBox instance) × Tells (height_run_from start instance budget scales) (Least height places tokens)
IsAnswerFrom start instance budget scales (Between refuted tokens height places) =
    (¬ HasTooWideBox instance) × Tells (height_run_from start instance budget scales)
    (Between refuted tokens height places)

-- the least height, with both certificates
pub record IsCertifiedLeast (start : List Exclusion) (instance : PlainInstance) (height : ℕ) (places : List ℕ)
    (tokens : List PlainToken) : Type 0 where
  pub least : IsLeastHeight instance height
  pub packed : IsPacking (with_last_side instance height) places
  pub refuted : Refutes (with_last_side instance (height - 1)) start tokens

-- no height up to the refuted one holds the boxes, and the placed one does, with both certificates
pub record IsCertifiedBetween (start : List Exclusion) (instance : PlainInstance) (refuted : ℕ)
    (tokens : List PlainToken) (height : ℕ) (places : List ℕ) : Type 0 where
  pub order : refuted < height
  pub none_fits : (h : ℕ) → h ≤ refuted → ¬ Fits (with_last_side instance h)
  pub packed : IsPacking (with_last_side instance height) places
  pub refutes : Refutes (with_last_side instance refuted) start tokens

-- what the answer says is true, and its refutation is one under these exclusions
abbrev pub IsTrueStripFrom : List Exclusion → PlainInstance → Strip → Type 0
IsTrueStripFrom start instance (Least height places tokens) =
    IsCertifiedLeast start instance height places.items tokens
IsTrueStripFrom start instance (Between refuted tokens height places) =
    IsCertifiedBetween start instance refuted tokens height places.items
IsTrueStripFrom start instance (NoneFits v i) = (h : ℕ) → ¬ Fits (with_last_side instance h)

-- `Between` exactly where some height on the run has more branchings than the budget
abbrev pub IsSpentExactlyFrom : List Exclusion → PlainInstance → ℕ → Bool → Strip → Type 0
IsSpentExactlyFrom start instance budget scales (Least height places tokens) =
    ¬ HasHeightPastBudgetFrom start instance budget scales
IsSpentExactlyFrom start instance budget scales (Between refuted tokens height places) =
    HasHeightPastBudgetFrom start instance budget scales
IsSpentExactlyFrom start instance budget scales (NoneFits v i) = Unit {0}

-- the same from no exclusion: the run is `height_run`
abbrev pub IsAnswer : PlainInstance → ℕ → Bool → Strip → Type 0
IsAnswer instance budget scales strip = IsAnswerFrom [] instance budget scales strip

abbrev pub IsTrueStrip : PlainInstance → Strip → Type 0
IsTrueStrip instance strip = IsTrueStripFrom [] instance strip

abbrev pub IsSpentExactly : PlainInstance → ℕ → Bool → Strip → Type 0
IsSpentExactly instance budget scales strip = IsSpentExactlyFrom [] instance budget scales strip

-- the answer isn't `Between`
abbrev pub IsFinal : Strip → Type 0
IsFinal (Least height places tokens) = Unit {0}
IsFinal (Between refuted tokens height places) = ⊥
IsFinal (NoneFits v i) = Unit {0}
