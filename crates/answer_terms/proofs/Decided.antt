-- The walk of an instance: what is decided for a container is right, so its lines are good, and its
-- points are the front.
use Rattle.std.proofs.Common.{◌≡◌, ℕ, ◌-◌, ◌≤◌, subst, arith, Bool, true, false, if◌then◌else◌, ltb, List, [], length}
use Rattle.std.specs.Prelude.{slice_index}
use Rattle.packing_terms.specs.Packing.{PlainInstance, dims, written_container}
use Rattle.packing_terms.specs.Limits.{IsInternalInstance, max_height}
use Rattle.tree_terms.specs.Trees.{Verdict, Yes, No, Decided, Past, outcome, under_budget, count_of}
use Rattle.tree_terms.specs.ClassTree.{class_tree}
use Rattle.tree_terms.specs.Search.{IsRightUnder}
use Rattle.tree_terms.specs.Levels.{level_by}
use Rattle.tree_terms.proofs.Decisions.{class_tree_right}
use Rattle.verdict_terms.specs.declared.front_answers.FrontVerdict.TheVariants.{Good}
use Rattle.verdict_terms.specs.Fronts.{with_container, IsClaimed}
use Rattle.answer_terms.specs.Walks.{sizes, size_answer, front_walk}
use Rattle.verdict_terms.specs.Verdicts.{front_verdict}
use Rattle.answer_terms.specs.WalkLines.{front_lines}
use Rattle.verdict_terms.proofs.Sizes.{internal_size}
use Rattle.answer_terms.proofs.Rounds.{IsRightSize, AreRightSizes}
use Rattle.verdict_terms.proofs.FrontJudged.{good_lines_are_true}
use Rattle.answer_terms.proofs.WalkAccepted.{walk_verdict}
use Rattle.answer_terms.proofs.Named.{front_names}

module _ (instance : PlainInstance) (limits : IsInternalInstance instance) (plane : dims instance ≡ 2) where
  pub highest_small : written_container instance 1 ≤ max_height
  highest_small = subst (λ (d : ℕ). slice_index instance.container (d - 1) ≤ max_height) plane limits.container.last

  right_told : (budget a b : ℕ) (v : Verdict) → IsRightUnder (with_container instance a b) [] v
      → IsRightSize instance a b (level_by (under_budget budget v))
  right_told budget a b v h = go (ltb budget (count_of v)) v h
    where
      go : (past : Bool) (w : Verdict) → IsRightUnder (with_container instance a b) [] w
          → IsRightSize instance a b (level_by (if past then Past else Decided w))
      go true w k = tt
      go false (Yes ns c) k = k
      go false (No ts c) k = k

  pub right_sizes : (budget : ℕ) (scales : Bool) → AreRightSizes instance (size_answer instance budget scales)
  right_sizes budget scales a b l m n =
      right_told budget a b (outcome (class_tree (with_container instance a b) [] scales))
      (class_tree_right (with_container instance a b)
      (internal_size instance limits plane a b l m (let s = highest_small in omega (arith, n, s))) [] tt scales)

pub walks_are_good : (instance : PlainInstance) (budget : ℕ) (scales : Bool) → IsInternalInstance instance
    → dims instance ≡ 2
    → front_verdict instance (front_walk instance budget scales).complete
    (length (front_walk instance budget scales).points) (front_lines (front_walk instance budget scales)) ≡ Good
walks_are_good instance budget scales limits plane =
    walk_verdict instance limits plane (size_answer instance budget scales)
    (right_sizes instance limits plane budget scales)

pub walks_are_fronts : (instance : PlainInstance) (budget : ℕ) (scales : Bool) → IsInternalInstance instance
    → dims instance ≡ 2
    → IsClaimed instance (front_walk instance budget scales).complete (sizes (front_walk instance budget scales).points)
walks_are_fronts instance budget scales limits plane =
    subst (λ (l : List (ℕ × ℕ)). IsClaimed instance (front_walk instance budget scales).complete l)
    (front_names (front_walk instance budget scales))
    (good_lines_are_true instance (front_walk instance budget scales).complete
    (length (front_walk instance budget scales).points) (front_lines (front_walk instance budget scales))
    limits plane
    (walks_are_good instance budget scales limits plane)).claim
