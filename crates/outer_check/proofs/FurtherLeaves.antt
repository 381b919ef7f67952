-- What a further leaf of a bounded refutation makes of the parts of an outer refuter, and the open
-- nodes that it leaves.
use Rattle.std.proofs.Common.{◌≡◌, ℕ, ◌≤◌, refl, sym, ap, subst, ◌∙◌, arith, List, [], ◌∷◌, length}
use Rattle.std.proofs.Common.{Some, None, Ok, Err}
use Rattle.packing_terms.specs.declared.Exclusion.{Exclusion}
use Rattle.packing_terms.specs.Packing.{PlainInstance}
use Rattle.packing_terms.specs.Tokens.PlainToken.{ValueShort}
use Rattle.packing_terms.specs.OuterRefutation.{Bins as UsedBins, Choice as BoxChoice, no_choice}
use Rattle.packing_terms.specs.OuterFeeding.{Outer}
use Rattle.packing_terms.specs.OuterPaths.{At, Inside, OuterView, Whole, On, open_nodes, bins_with, choices_with}
use Rattle.verdict_terms.specs.declared.check_answers.RefuseCode.{RefuseCode}
use Rattle.verdict_terms.specs.declared.check_answers.RefuseCode.TheVariants.{Kind, After}
use Rattle.verdict_terms.specs.BoundedRefutation.{BoundedToken, Plain, PricedOut, Exchange}
use Rattle.verdict_terms.specs.BoundedFeeding.{bounded_children}
use Rattle.verdict_terms.specs.BoundedPaths.{stands_for, bounded_view_after}
use Rattle.verdict_terms.specs.BoundedJudging.{bounded_refusal, bounded_after}
use Rattle.verdict_terms.proofs.BoundedViews.{bounded_view}
use Rattle.verdict_terms.proofs.BoundedJudged.{bounded_exact}
use Rattle.refutation_check.specs.Refuters.{PlainRefuter}
use Rattle.outer_check.specs.declared.path.Frame.{Frame}
use Rattle.outer_check.specs.declared.goal.Goal.{Goal}
use Rattle.outer_check.specs.declared.goal.Goal.TheVariants.{Bins, Value}
use Rattle.outer_check.specs.declared.point.Point.{Point}
use Rattle.outer_check.specs.declared.point.Point.TheVariants.{AtNode, InSet, AtEnd}
use Rattle.outer_check.specs.Frames.{PlainPath, next_frames}
use Rattle.outer_check.specs.Nodes.{node_below, path_below}
use Rattle.outer_check.specs.Outers.{ForBins, ForValue, view_by, tree_seen, tree_after, AreOf, left_open, inside_view, IsOpenAt, IsGoing}
use Rattle.outer_check.specs.Steps.{point_behind}
use Rattle.outer_check.specs.Bounded.{IsFurther, no_leaf, leaf_judged, bounded_tree_refusal, IsLeafTaken}
use Rattle.outer_check.proofs.Views.{left_is}
use Rattle.outer_check.proofs.Moves.{stands, next_are}
use Rattle.outer_check.proofs.Opened.{first_judged, value_opened}

module _ (instance : PlainInstance) (t : BoundedToken) (further : IsFurther t) where
  -- how it is judged, by the kind of the tree
  for_bins : (k : ℕ) (view : OuterView UsedBins) → bounded_tree_refusal instance (ForBins k view) t ≡ no_leaf view
  for_bins k view = go t further
    where
      go : (s : BoundedToken) → IsFurther s → bounded_tree_refusal instance (ForBins k view) s ≡ no_leaf view
      go (Plain s) h = absurd h
      go (PricedOut q p fs) h = refl
      go (Exchange u v) h = refl

  pub for_value : (y : ℕ) (view : OuterView BoxChoice)
      → bounded_tree_refusal instance (ForValue y view) t ≡ leaf_judged instance y t view
  for_value y view = go t further
    where
      go : (s : BoundedToken) → IsFurther s
          → bounded_tree_refusal instance (ForValue y view) s ≡ leaf_judged instance y s view
      go (Plain s) h = absurd h
      go (PricedOut q p fs) h = refl
      go (Exchange u v) h = refl

  closes : stands_for t ≡ ValueShort
  closes = go t further
    where
      go : (s : BoundedToken) → IsFurther s → stands_for s ≡ ValueShort
      go (Plain s) h = absurd h
      go (PricedOut q p fs) h = refl
      go (Exchange u v) h = refl

  module _ (path : PlainPath) (inner : PlainRefuter) where
    -- at its end the tree takes no token
    pub end_refused : (goal : Goal) → bounded_tree_refusal instance (tree_seen goal path.frames AtEnd inner) t ≡ Some After
    end_refused (Bins k) = for_bins k Whole
    end_refused (Value y) = for_value y Whole

    -- in the inner tree of a set there is no further leaf
    pub set_refused : (goal : Goal) → 1 ≤ length inner.checked.nodes
        → bounded_tree_refusal instance (tree_seen goal path.frames InSet inner) t ≡ Some Kind
    set_refused (Bins k) some = for_bins k _ ∙ no_bins inner.checked.nodes some
      where
        no_bins : (ns : List (List Exclusion)) → 1 ≤ length ns
            → no_leaf (inside_view (path_below (bins_with k) [] path.frames) (node_below (bins_with k) [] path.frames)
            inner.keep ns) ≡ Some Kind
        no_bins [] some = absurd (omega (arith, some))
        no_bins (n ∷ ns) some = refl
    set_refused (Value y) some = for_value y _ ∙ no_node inner.checked.nodes some
      where
        no_node : (ns : List (List Exclusion)) → 1 ≤ length ns
            → leaf_judged instance y t (inside_view (path_below choices_with no_choice path.frames)
            (node_below choices_with no_choice path.frames) inner.keep ns) ≡ Some Kind
        no_node [] some = absurd (omega (arith, some))
        no_node (n ∷ ns) some = refl

    -- nor is there one at a node for bins
    pub bins_refused : (k : ℕ) → bounded_tree_refusal instance (tree_seen (Bins k) path.frames AtNode inner) t ≡ Some Kind
    bins_refused k = for_bins k (view_by (bins_with k) [] path.frames AtNode inner)

    -- at a node for a value it is judged by the node
    node_judged : (y : ℕ) → bounded_tree_refusal instance (tree_seen (Value y) path.frames AtNode inner) t
        ≡ bounded_refusal instance y (Outer (node_below choices_with no_choice path.frames)) t
    node_judged y = for_value y (view_by choices_with no_choice path.frames AtNode inner)

    pub node_refused : (goal : Goal) (point : Point) (y : ℕ) (code : RefuseCode) → (point ≡ AtNode) × (goal ≡ Value y)
        → bounded_refusal instance y (Outer (node_below choices_with no_choice path.frames)) t ≡ Some code
        → IsLeafTaken instance goal path point inner t path point (Err code)
    node_refused goal point y code (e, f) refused =
        subst (λ s. IsLeafTaken instance goal path s inner t path s (Err code)) (sym e) (
        subst (λ g. IsLeafTaken instance g path AtNode inner t path AtNode (Err code)) (sym f)
        (node_judged y ∙ refused, refl, refl))

    -- an accepted leaf closes its node
    pub node_closed : (goal : Goal) (point : Point) (y : ℕ) → (point ≡ AtNode) × (goal ≡ Value y)
        → IsGoing instance goal path point inner
        → bounded_refusal instance y (Outer (node_below choices_with no_choice path.frames)) t ≡ None
        → (path' : PlainPath) (point' : Point) → path' ≡ record path { frames = next_frames path.frames }
        → point' ≡ point_behind (next_frames path.frames)
        → IsLeafTaken instance goal path point inner t path' point' (Ok tt)
    node_closed goal point y (e, f) going accepted path' point' h k =
        subst (λ s. IsLeafTaken instance goal path s inner t path' point' (Ok tt)) (sym e) (
        subst (λ g. IsLeafTaken instance g path AtNode inner t path' point' (Ok tt)) (sym f) (
        subst (λ r. IsLeafTaken instance (Value y) path AtNode inner t r point' (Ok tt)) (sym h) (
        subst (λ s. IsLeafTaken instance (Value y) path AtNode inner t
        (record path { frames = next_frames path.frames }) s (Ok tt)) (sym k) (
          node_judged y ∙ accepted,
          ap (λ v. ForValue y v)
              (stands choices_with no_choice inner (next_frames path.frames)
              ∙ sym (left_is choices_with no_choice path.frames are))
              ∙ sym (ap (λ s. tree_after (tree_seen (Value y) path.frames AtNode inner) s) closes),
          record {
            boxes = going.boxes;
            same = going.same;
            are = next_are (Value y) path.frames are;
            opens = opens_by (next_frames path.frames);
          },
        ))))
      where
        are : AreOf (Value y) path.frames
        are = subst (λ g. AreOf g path.frames) f going.are

        opens_by : (frames : List Frame) → IsOpenAt (point_behind frames) inner
        opens_by [] = tt
        opens_by (f ∷ frames) = tt

-- ---- the open nodes

pub bounded_opened : (instance : PlainInstance) (goal : ℕ) (view : OuterView BoxChoice) (t : BoundedToken)
    → bounded_after instance goal (open_nodes choices_with view) t
    ≡ left_open (bounded_tree_refusal instance (ForValue goal view) t)
    (open_nodes choices_with (bounded_view_after view t))
bounded_opened instance goal Whole (Plain t) = refl
bounded_opened instance goal (On path (At node)) (Plain t) = value_opened instance goal (On path (At node)) t
bounded_opened instance goal (On path (Inside keep es behind)) (Plain t) =
    value_opened instance goal (On path (Inside keep es behind)) t
bounded_opened instance goal Whole (PricedOut q p fs) = refl
bounded_opened instance goal Whole (Exchange u v) = refl
bounded_opened instance goal (On path (Inside keep es behind)) (PricedOut q p fs) = refl
bounded_opened instance goal (On path (Inside keep es behind)) (Exchange u v) = refl
bounded_opened instance goal (On path (At node)) (PricedOut q p fs) =
    first_judged (bounded_refusal instance goal (Outer node) (PricedOut q p fs))
    (bounded_children (Outer node) (PricedOut q p fs)) _ _
    (λ e. bounded_view instance goal (On path (At node)) (PricedOut q p fs ∷ []) _
    ((bounded_exact instance goal (Outer node) (PricedOut q p fs)).0 e, refl))
bounded_opened instance goal (On path (At node)) (Exchange u v) =
    first_judged (bounded_refusal instance goal (Outer node) (Exchange u v))
    (bounded_children (Outer node) (Exchange u v)) _ _
    (λ e. bounded_view instance goal (On path (At node)) (Exchange u v ∷ []) _
    ((bounded_exact instance goal (Outer node) (Exchange u v)).0 e, refl))
