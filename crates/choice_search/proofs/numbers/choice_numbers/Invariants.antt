use Rattle.std.proofs.Common.{◌≡◌, ◌∷◌, get_or}
use Rattle.std.specs.List.{flat_map}
use Rattle.packing_terms.specs.Sums.{below}
use Rattle.packing_terms.specs.Packing.{dims}
use Rattle.tree_terms.specs.OuterTrees.{coordinates_at}
use Rattle.choice_search.proofs.numbers.choice_numbers.Given as goal

abbrev pub invariant-loop-k : goal.invariant-loop-k
invariant-loop-k l = l.all.items
    ≡ flat_map (λ k. get_or l.taken k 0 ∷ coordinates_at (dims l.instance) l.numbers k) (below l.k)
