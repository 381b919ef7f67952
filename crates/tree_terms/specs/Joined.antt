-- The joining of a list of verdicts.
use Rattle.std.specs.Prelude.{List, [], ◌∷◌}
use Rattle.tree_terms.specs.Trees.{Verdict, no_tokens, join}

-- the verdicts joined from left to right: the first yes with the counts up to it, or no with all
-- tokens and counts
abbrev pub join_all : List Verdict → Verdict
join_all [] = no_tokens
join_all (v ∷ vs) = join v (join_all vs)
