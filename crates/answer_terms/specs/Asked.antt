-- Which containers a walk decides.
use Rattle.std.specs.Prelude.{ℕ, ◌<◌, ◌≤◌, ◌≡◌, Bool, false, List, []}
use Rattle.packing_terms.specs.Packing.{PlainInstance, written_container}
use Rattle.packing_terms.specs.Tokens.{PlainToken}
use Rattle.tree_terms.specs.Trees.{outcome, count_of}
use Rattle.tree_terms.specs.ClassTree.{class_tree}
use Rattle.tree_terms.specs.Levels.{PlainLevel, PlacedBy, SpentAt}
use Rattle.tree_terms.specs.RunEnds.{IsLevelDecided}
use Rattle.verdict_terms.specs.Fronts.{with_container}
use Rattle.answer_terms.specs.Walks.{levels_from, width_run, height_run, size_answer}

-- A walk that stands at a height and at a width that is refuted there decides the container of this
-- width and height: the widest one of the height, one of the widths of the round, one of its
-- heights, or one of a later round.
pub data IsSizeAsked (answer : ℕ → ℕ → PlainLevel) (most : ℕ) : ℕ → ℕ → List PlainToken → ℕ → ℕ → Type 0 where
  widest : {h r : ℕ} {ts : List PlainToken} → IsSizeAsked answer most h r ts most h
  by_width : {h r w : ℕ} {ts : List PlainToken} {ps : List ℕ} → answer most h ≡ PlacedBy ps
      → IsLevelDecided (λ x. answer x h) (levels_from r ts most ps) w
      → IsSizeAsked answer most h r ts w h
  by_height : {h r b : ℕ} {ts : List PlainToken} {ps : List ℕ} → answer most h ≡ PlacedBy ps
      → (width_run answer most h r ts ps).spent ≡ false
      → IsLevelDecided (λ y. answer (width_run answer most h r ts ps).placed y)
      (levels_from 0 [] h (width_run answer most h r ts ps).numbers) b
      → IsSizeAsked answer most h r ts (width_run answer most h r ts ps).placed b
  later : {h r w b : ℕ} {ts : List PlainToken} {ps : List ℕ} → answer most h ≡ PlacedBy ps
      → (width_run answer most h r ts ps).spent ≡ false
      → (height_run answer most (width_run answer most h r ts ps).placed h
      (width_run answer most h r ts ps).numbers).spent ≡ false
      → 1 ≤ (height_run answer most (width_run answer most h r ts ps).placed h
      (width_run answer most h r ts ps).numbers).refuted
      → IsSizeAsked answer most (height_run answer most (width_run answer most h r ts ps).placed h
      (width_run answer most h r ts ps).numbers).refuted
      (width_run answer most h r ts ps).placed
      (height_run answer most (width_run answer most h r ts ps).placed h
      (width_run answer most h r ts ps).numbers).tokens w b
      → IsSizeAsked answer most h r ts w b

-- a decision on the rest of the walk was spent
abbrev pub HasSpentSize : (ℕ → ℕ → PlainLevel) → ℕ → ℕ → ℕ → List PlainToken → Type 0
HasSpentSize answer most h r ts = (w : ℕ) × (b : ℕ) × IsSizeAsked answer most h r ts w b × (answer w b ≡ SpentAt)

-- some container that the walk of an instance decides has more branchings than the budget
abbrev pub HasContainerPastBudget : PlainInstance → ℕ → Bool → Type 0
HasContainerPastBudget instance budget scales =
    (w : ℕ) × (b : ℕ) × IsSizeAsked (size_answer instance budget scales) (written_container instance 0)
    (written_container instance 1) 0 [] w b
    × (budget < count_of (outcome (class_tree (with_container instance w b) [] scales)))
