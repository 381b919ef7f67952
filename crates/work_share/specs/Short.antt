-- A tree with a place where memory is short, as its callers see it.
use Rattle.std.specs.Prelude.{ℕ, List}

-- the tree below, and the path of the node where memory is short
pub record PlainShortTree (T : Type 0) : Type 0 where
  pub tree : T
  pub path : List ℕ
