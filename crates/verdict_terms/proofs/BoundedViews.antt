-- The open nodes of a bounded refutation are those of its path, and the path is short.
--
-- Tokens that are accepted are accepted as plain ones for a goal that is high enough: a further leaf
-- stands for one that is worth too little, and every leaf is worth too little for some goal. So the
-- laws of plain trees give those of bounded refutations.
use Rattle.std.proofs.Common.{◌≡◌, ℕ, suc, ◌+◌, ◌≤◌, arith, List, [], ◌∷◌, ◌++◌, map, length, Some, None}
use Rattle.packing_terms.specs.Packing.{PlainInstance, box_count}
use Rattle.packing_terms.specs.Goals.{worth}
use Rattle.packing_terms.specs.Tokens.{PlainToken}
use Rattle.packing_terms.specs.Tokens.PlainToken.{Apart, Order, Rules, TooLarge, Scales, Assign, Choose, SetRefuted}
use Rattle.packing_terms.specs.Tokens.PlainToken.{ValueShort, GlobalScales}
use Rattle.packing_terms.specs.OuterRefutation.{Choice, no_choice, undecided}
use Rattle.packing_terms.specs.OuterFeeding.{OpenNode, Outer, Inner, AcceptsValue, choice_children, FeedsValue}
use Rattle.packing_terms.specs.OuterPaths.{OuterView, On, At, open_nodes, path_of, choices_with}
use Rattle.packing_terms.proofs.OuterViews.{value_view, value_path}
use Rattle.verdict_terms.specs.BoundedRefutation.{BoundedToken, Plain, PricedOut, Exchange}
use Rattle.verdict_terms.specs.BoundedFeeding.{FeedsBounded}
use Rattle.verdict_terms.specs.BoundedPaths.{stands_for, bounded_views_after}

module _ (instance : PlainInstance) where
  -- what is accepted for a goal is accepted for a higher one
  higher_accepts : (goal high : ℕ) → goal ≤ high → (node : OpenNode Choice) (t : PlainToken)
      → AcceptsValue instance goal node t → AcceptsValue instance high node t
  higher_accepts goal high l (Inner keep es) t h = h
  higher_accepts goal high l (Outer c) ValueShort h = omega (arith, l, h)
  higher_accepts goal high l (Outer c) (SetRefuted None) h = h
  higher_accepts goal high l (Outer c) (SetRefuted (Some b)) h = h
  higher_accepts goal high l (Outer c) (Choose v) h = h
  higher_accepts goal high l (Outer c) (Apart i u v) h = h
  higher_accepts goal high l (Outer c) (Order i u v) h = h
  higher_accepts goal high l (Outer c) Rules h = h
  higher_accepts goal high l (Outer c) (TooLarge v i) h = h
  higher_accepts goal high l (Outer c) (Scales fs) h = h
  higher_accepts goal high l (Outer c) (Assign v) h = h
  higher_accepts goal high l (Outer c) (GlobalScales fs) h = h

  higher_feeds : (goal high : ℕ) → goal ≤ high → (nodes : List (OpenNode Choice)) (ts : List PlainToken)
      (left : List (OpenNode Choice)) → FeedsValue instance goal nodes ts left → FeedsValue instance high nodes ts left
  higher_feeds goal high l nodes [] left h = h
  higher_feeds goal high l [] (t ∷ ts) left h = absurd h
  higher_feeds goal high l (n ∷ nodes) (t ∷ ts) left h = (
    higher_accepts goal high l n t h.0,
    higher_feeds goal high l (choice_children n t ++ nodes) ts left h.1,
  )

  -- the tokens as plain ones, for a goal that is at least this one
  record FedHigher (goal : ℕ) (nodes : List (OpenNode Choice)) (ts : List BoundedToken) (left : List (OpenNode Choice))
      : Type 0 where
    high : ℕ
    above : goal ≤ high
    feeds : FeedsValue instance high nodes (map stands_for ts) left

  -- a leaf that is worth too little in front, for a goal that is high enough for it
  short_fed : (goal : ℕ) (c : Choice) (nodes : List (OpenNode Choice)) (ts : List BoundedToken)
      (left : List (OpenNode Choice)) → FedHigher goal nodes ts left
      → (high : ℕ) × (goal ≤ high) × FeedsValue instance high (Outer c ∷ nodes) (ValueShort ∷ map stands_for ts) left
  short_fed goal c nodes ts left rest =
      let own = worth instance c.taken + worth instance (undecided instance c) in
      let above = rest.above in (
        suc own + rest.high,
        omega (arith, above),
        (
          omega arith,
          higher_feeds rest.high (suc own + rest.high) (omega arith) nodes (map stands_for ts) left rest.feeds,
        ),
      )

  fed_higher : (goal : ℕ) (nodes : List (OpenNode Choice)) (ts : List BoundedToken) (left : List (OpenNode Choice))
      → FeedsBounded instance goal nodes ts left → FedHigher goal nodes ts left
  fed_higher goal nodes [] left h = record { high = goal; above = omega arith; feeds = h }
  fed_higher goal [] (t ∷ ts) left h = absurd h
  fed_higher goal (n ∷ nodes) (Plain t ∷ ts) left h =
      let rest = fed_higher goal (choice_children n t ++ nodes) ts left h.1 in
      record {
        high = rest.high;
        above = rest.above;
        feeds = (higher_accepts goal rest.high rest.above n t h.0, rest.feeds);
      }
  fed_higher goal (Inner keep es ∷ nodes) (PricedOut q p fs ∷ ts) left h = absurd h.0
  fed_higher goal (Outer c ∷ nodes) (PricedOut q p fs ∷ ts) left h =
      let (high, above, feeds) = short_fed goal c nodes ts left (fed_higher goal nodes ts left h.1) in
      record { high = high; above = above; feeds = feeds }
  fed_higher goal (Inner keep es ∷ nodes) (Exchange u v ∷ ts) left h = absurd h.0
  fed_higher goal (Outer c ∷ nodes) (Exchange u v ∷ ts) left h =
      let (high, above, feeds) = short_fed goal c nodes ts left (fed_higher goal nodes ts left h.1) in
      record { high = high; above = above; feeds = feeds }

  pub bounded_view : (goal : ℕ) (view : OuterView Choice) (ts : List BoundedToken) (left : List (OpenNode Choice))
      → FeedsBounded instance goal (open_nodes choices_with view) ts left
      → left ≡ open_nodes choices_with (bounded_views_after view ts)
  bounded_view goal view ts left h =
      let fed = fed_higher goal (open_nodes choices_with view) ts left h in
      value_view instance fed.high view (map stands_for ts) left fed.feeds

  pub bounded_path : (goal : ℕ) (ts : List BoundedToken) (left : List (OpenNode Choice))
      → FeedsBounded instance goal (Outer no_choice ∷ []) ts left
      → length (path_of (bounded_views_after (On [] (At no_choice)) ts)) ≤ box_count instance
  bounded_path goal ts left h =
      let fed = fed_higher goal (Outer no_choice ∷ []) ts left h in
      value_path instance fed.high (map stands_for ts) no_choice left fed.feeds
