-- A token that was fed to an outer refuter is a step of the tree.
use Rattle.std.proofs.Common.{◌≡◌, ℕ, refl, ap, ◌∙◌, Bool, true, false, not, Option, Some, None}
use Rattle.packing_terms.specs.Packing.{PlainInstance}
use Rattle.packing_terms.specs.Tokens.{PlainToken}
use Rattle.packing_terms.specs.OuterPaths.{OuterView, Whole, On, At, Inside, open_nodes, bins_with, choices_with}
use Rattle.packing_terms.specs.OuterPaths.{view_after, bin_step, choice_step}
use Rattle.packing_terms.specs.OuterRefutation.{Bins as UsedBins, Choice as BoxChoice}
use Rattle.verdict_terms.specs.declared.check_answers.RefuseCode.{RefuseCode}
use Rattle.verdict_terms.specs.declared.check_answers.FeedVerdict.{FeedVerdict}
use Rattle.verdict_terms.specs.OuterJudging.{bin_refusal, value_refusal}
use Rattle.verdict_terms.specs.Checking.{bins_after, value_after}
use Rattle.outer_check.specs.Outers.{PlainOuter, OuterTree, ForBins, ForValue, fed, fed_by, answered, answered_by}
use Rattle.outer_check.specs.Outers.{judged_at, left_open, is_whole_view}
use Rattle.outer_check.proofs.Opened.{bins_opened, value_opened}
use Rattle.verdict_terms.specs.Trees.{BinTree, ValueTree, map_ok, is_whole}
use Rattle.document_lines.specs.Proofs.{IsFed}
use Rattle.document_lines.specs.Checkers.{shown_outer_tree, is_outer_open}

-- ---- whether no node is open

bins_whole : (instance : PlainInstance) (k : ℕ) (view : OuterView UsedBins)
    → is_whole (BinTree instance k (open_nodes (bins_with k) view)) ≡ is_whole_view view
bins_whole instance k Whole = refl
bins_whole instance k (On path (At node)) = refl
bins_whole instance k (On path (Inside keep es behind)) = refl

value_whole : (instance : PlainInstance) (y : ℕ) (view : OuterView BoxChoice)
    → is_whole (ValueTree instance y (open_nodes choices_with view)) ≡ is_whole_view view
value_whole instance y Whole = refl
value_whole instance y (On path (At node)) = refl
value_whole instance y (On path (Inside keep es behind)) = refl

-- ---- a token

module _ (instance : PlainInstance) (t : PlainToken) where
  at_bins : (k : ℕ) → OuterView UsedBins → PlainOuter
  at_bins k view = record { instance = instance; tree = ForBins k view; refused = None }

  at_value : (y : ℕ) → OuterView BoxChoice → PlainOuter
  at_value y view = record { instance = instance; tree = ForValue y view; refused = None }

  bins_grow : (k : ℕ) (view : OuterView UsedBins)
      → IsFed (shown_outer_tree (at_bins k view)) t (shown_outer_tree (fed (at_bins k view) t))
      (is_outer_open (fed (at_bins k view) t)) (answered (fed (at_bins k view) t))
  unfolding at_bins
  bins_grow k view = go (judged_at (bin_refusal instance k) view t) refl
    where
      step : (r : Option RefuseCode) → judged_at (bin_refusal instance k) view t ≡ r
          → map_ok (BinTree instance k) (bins_after instance k (open_nodes (bins_with k) view) t)
          ≡ map_ok (BinTree instance k) (left_open r
          (open_nodes (bins_with k) (view_after (bins_with k) bin_step view t)))
      step r e = ap (map_ok (BinTree instance k))
          (bins_opened instance k view t
          ∙ ap (λ x. left_open x (open_nodes (bins_with k) (view_after (bins_with k) bin_step view t))) e)

      ended : (w : Bool) → is_whole_view (view_after (bins_with k) bin_step view t) ≡ w
          → judged_at (bin_refusal instance k) view t ≡ None
          → IsFed (BinTree instance k (open_nodes (bins_with k) view)) t
          (BinTree instance k (open_nodes (bins_with k) (view_after (bins_with k) bin_step view t))) (not w)
          (answered_by None w)
      ended true f e = (step None e, bins_whole instance k (view_after (bins_with k) bin_step view t) ∙ f)
      ended false f e = (step None e, bins_whole instance k (view_after (bins_with k) bin_step view t) ∙ f, refl)

      go : (r : Option RefuseCode) → judged_at (bin_refusal instance k) view t ≡ r
          → IsFed (BinTree instance k (open_nodes (bins_with k) view)) t
          (shown_outer_tree (fed_by None r (at_bins k view) t)) (is_outer_open (fed_by None r (at_bins k view) t))
          (answered (fed_by None r (at_bins k view) t))
      go (Some code) e = step (Some code) e
      go None e = ended (is_whole_view (view_after (bins_with k) bin_step view t)) refl e

  value_grow : (y : ℕ) (view : OuterView BoxChoice)
      → IsFed (shown_outer_tree (at_value y view)) t (shown_outer_tree (fed (at_value y view) t))
      (is_outer_open (fed (at_value y view) t)) (answered (fed (at_value y view) t))
  unfolding at_value
  value_grow y view = go (judged_at (value_refusal instance y) view t) refl
    where
      step : (r : Option RefuseCode) → judged_at (value_refusal instance y) view t ≡ r
          → map_ok (ValueTree instance y) (value_after instance y (open_nodes choices_with view) t)
          ≡ map_ok (ValueTree instance y)
          (left_open r (open_nodes choices_with (view_after choices_with choice_step view t)))
      step r e = ap (map_ok (ValueTree instance y))
          (value_opened instance y view t
          ∙ ap (λ x. left_open x (open_nodes choices_with (view_after choices_with choice_step view t))) e)

      ended : (w : Bool) → is_whole_view (view_after choices_with choice_step view t) ≡ w
          → judged_at (value_refusal instance y) view t ≡ None
          → IsFed (ValueTree instance y (open_nodes choices_with view)) t
          (ValueTree instance y (open_nodes choices_with (view_after choices_with choice_step view t))) (not w)
          (answered_by None w)
      ended true f e = (step None e, value_whole instance y (view_after choices_with choice_step view t) ∙ f)
      ended false f e = (step None e, value_whole instance y (view_after choices_with choice_step view t) ∙ f, refl)

      go : (r : Option RefuseCode) → judged_at (value_refusal instance y) view t ≡ r
          → IsFed (ValueTree instance y (open_nodes choices_with view)) t
          (shown_outer_tree (fed_by None r (at_value y view) t)) (is_outer_open (fed_by None r (at_value y view) t))
          (answered (fed_by None r (at_value y view) t))
      go (Some code) e = step (Some code) e
      go None e = ended (is_whole_view (view_after choices_with choice_step view t)) refl e

-- a token that is fed to an open tree
pub outer_grows : (o : PlainOuter) (t : PlainToken) → is_outer_open o ≡ true
    → IsFed (shown_outer_tree o) t (shown_outer_tree (fed o t)) (is_outer_open (fed o t)) (answered (fed o t))
unfolding at_bins at_value
outer_grows o t h = by_parts o.instance o.tree o.refused h
  where
    by_parts : (instance : PlainInstance) (tree : OuterTree) (refused : Option RefuseCode)
        → is_outer_open (record { instance = instance; tree = tree; refused = refused }) ≡ true
        → IsFed (shown_outer_tree (record { instance = instance; tree = tree; refused = refused })) t
        (shown_outer_tree (fed (record { instance = instance; tree = tree; refused = refused }) t))
        (is_outer_open (fed (record { instance = instance; tree = tree; refused = refused }) t))
        (answered (fed (record { instance = instance; tree = tree; refused = refused }) t))
    by_parts instance tree (Some code) h = absurd (cc (h))
    by_parts instance (ForBins k view) None h = bins_grow instance t k view
    by_parts instance (ForValue y view) None h = value_grow instance t y view

pub outer_feeds : (o new : PlainOuter) (t : PlainToken) (answer : FeedVerdict) → new ≡ fed o t → answer ≡ answered new
    → is_outer_open o ≡ true
    → IsFed (shown_outer_tree o) t (shown_outer_tree new) (is_outer_open new) answer
outer_feeds o new t answer e f h = rw (f, e) (outer_grows o t h)
