use Rattle.std.proofs.Common.{◌≡◌, ◌∷◌, ◌==◌, [], get_or}
use Rattle.std.specs.List.{flat_map, position_or_len}
use Rattle.packing_terms.specs.Sums.{below}
use Rattle.packing_terms.specs.Packing.{dims}
use Rattle.packing_terms.specs.OuterRefutation.{has_box}
use Rattle.tree_terms.specs.OuterTrees.{coordinates_at}
use Rattle.bin_search.specs.Lists.{lists_of}
use Rattle.bin_search.proofs.numbers.bin_numbers.Given as goal

abbrev pub invariant-loop-v : goal.invariant-loop-v
invariant-loop-v l = l.all.items ≡ flat_map (λ v. let b = position_or_len (has_box v) (lists_of l.bins) in
    b ∷ coordinates_at (dims l.instance) (get_or (lists_of l.answers) b [])
    (position_or_len (λ u. u == v) (get_or (lists_of l.bins) b []))) (below l.v)
