-- A token that was fed to an outer refuter for a value is a step of its tree with priced leaves.
use Rattle.std.proofs.Common.{◌≡◌, ℕ, refl, sym, ap, subst, ◌∙◌, Bool, true, false, not, [], Option, Some, None, Ok, Err}
use Rattle.packing_terms.specs.Packing.{PlainInstance}
use Rattle.packing_terms.specs.OuterPaths.{OuterView, Whole, On, At, Inside, open_nodes, choices_with}
use Rattle.packing_terms.specs.OuterRefutation.{Choice as BoxChoice}
use Rattle.verdict_terms.specs.declared.check_answers.RefuseCode.{RefuseCode}
use Rattle.verdict_terms.specs.declared.check_answers.FeedVerdict.{FeedVerdict}
use Rattle.verdict_terms.specs.BoundedRefutation.{BoundedToken}
use Rattle.verdict_terms.specs.BoundedPaths.{stands_for, bounded_view_after}
use Rattle.verdict_terms.specs.BoundedJudging.{bounded_after}
use Rattle.outer_check.specs.Outers.{PlainOuter, OuterTree, ForBins, ForValue, fed_by, answered, answered_by}
use Rattle.outer_check.specs.Outers.{left_open, is_whole_view}
use Rattle.outer_check.specs.Bounded.{bounded_fed, bounded_tree_refusal}
use Rattle.outer_check.proofs.FurtherLeaves.{bounded_opened}
use Rattle.document_lines.specs.Checkers.{is_outer_open}
use Rattle.document_lines.specs.Boundings.{value_of, choices_of, IsForValue, IsSame, FeedsNodes}

-- a tree is whole exactly where no node is open
none_left : (view : OuterView BoxChoice) → is_whole_view view ≡ true → open_nodes choices_with view ≡ []
none_left Whole e = refl
none_left (On path (At node)) e = absurd (cc (e))
none_left (On path (Inside keep es behind)) e = absurd (cc (e))

module _ (instance : PlainInstance) (y : ℕ) (view : OuterView BoxChoice) (t : BoundedToken) where
  at_view : PlainOuter
  at_view = record { instance = instance; tree = ForValue y view; refused = None }

  step : (r : Option RefuseCode) → bounded_tree_refusal instance (ForValue y view) t ≡ r
      → bounded_after instance y (open_nodes choices_with view) t
      ≡ left_open r (open_nodes choices_with (bounded_view_after view t))
  step r e = bounded_opened instance y view t
      ∙ ap (λ x. left_open x (open_nodes choices_with (bounded_view_after view t))) e

  grows : FeedsNodes at_view t (bounded_fed at_view t) (answered (bounded_fed at_view t))
      × IsSame at_view (bounded_fed at_view t)
  unfolding at_view
  grows = go (bounded_tree_refusal instance (ForValue y view) t) refl
    where
      ended : (w : Bool) → is_whole_view (bounded_view_after view t) ≡ w
          → bounded_tree_refusal instance (ForValue y view) t ≡ None
          → FeedsNodes at_view t (fed_by None None at_view (stands_for t)) (answered_by None w)
      ended true f e = (step None e, none_left (bounded_view_after view t) f)
      ended false f e = (step None e, ap not f)

      go : (r : Option RefuseCode) → bounded_tree_refusal instance (ForValue y view) t ≡ r
          → FeedsNodes at_view t (fed_by None r at_view (stands_for t)) (answered (fed_by None r at_view (stands_for t)))
          × IsSame at_view (fed_by None r at_view (stands_for t))
      go (Some code) e = (step (Some code) e, record { instance = refl; for_value = tt; value = refl })
      go None e = (
        ended (is_whole_view (bounded_view_after view t)) refl e,
        record { instance = refl; for_value = tt; value = refl },
      )

-- a token that is fed to an open tree
fed_tree : (o : PlainOuter) (t : BoundedToken) → is_outer_open o ≡ true → IsForValue o.tree
    → FeedsNodes o t (bounded_fed o t) (answered (bounded_fed o t)) × IsSame o (bounded_fed o t)
unfolding at_view
fed_tree o t opens values = by_parts o.instance o.tree o.refused opens values
  where
    by_parts : (instance : PlainInstance) (tree : OuterTree) (refused : Option RefuseCode)
        → is_outer_open (record { instance = instance; tree = tree; refused = refused }) ≡ true → IsForValue tree
        → FeedsNodes (record { instance = instance; tree = tree; refused = refused }) t
        (bounded_fed (record { instance = instance; tree = tree; refused = refused }) t)
        (answered (bounded_fed (record { instance = instance; tree = tree; refused = refused }) t))
        × IsSame (record { instance = instance; tree = tree; refused = refused })
        (bounded_fed (record { instance = instance; tree = tree; refused = refused }) t)
    by_parts instance tree (Some code) opens values = absurd (cc (opens))
    by_parts instance (ForBins k view) None opens values = absurd values
    by_parts instance (ForValue y view) None opens values = grows instance y view t

pub bounded_feeds : (o new : PlainOuter) (t : BoundedToken) (answer : FeedVerdict) → new ≡ bounded_fed o t
    → answer ≡ answered new → is_outer_open o ≡ true → IsForValue o.tree
    → FeedsNodes o t new answer × IsSame o new
bounded_feeds o new t answer e f opens values = rw (f, e) (fed_tree o t opens values)
