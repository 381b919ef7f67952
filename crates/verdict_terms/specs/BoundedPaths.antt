-- The path to the current node of a bounded refutation. The further leaves close their node as one
-- that is worth too little does, so the tree is viewed as plain trees for a value are.
use Rattle.std.specs.Prelude.{List, map}
use Rattle.packing_terms.specs.Tokens.{PlainToken}
use Rattle.packing_terms.specs.Tokens.PlainToken.{ValueShort}
use Rattle.packing_terms.specs.OuterRefutation.{Choice}
use Rattle.packing_terms.specs.OuterPaths.{OuterView, view_after, views_after, choices_with, choice_step}
use Rattle.verdict_terms.specs.BoundedRefutation.{BoundedToken, Plain, PricedOut, Exchange}

-- the plain token that does to the path what this one does
abbrev pub stands_for : BoundedToken → PlainToken
stands_for (Plain t) = t
stands_for (PricedOut q p fs) = ValueShort
stands_for (Exchange u v) = ValueShort

-- the tree after a token, and after some
abbrev pub bounded_view_after : OuterView Choice → BoundedToken → OuterView Choice
bounded_view_after view t = view_after choices_with choice_step view (stands_for t)

abbrev pub bounded_views_after : OuterView Choice → List BoundedToken → OuterView Choice
bounded_views_after view ts = views_after choices_with choice_step view (map stands_for ts)
