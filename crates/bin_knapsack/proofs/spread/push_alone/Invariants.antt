use Rattle.std.proofs.Common.{◌≡◌, ◌++◌, ◌∷◌, map}
use Rattle.packing_terms.specs.Sums.{below}
use Rattle.bin_knapsack.proofs.spread.push_alone.Given as goal

abbrev pub invariant-loop : goal.invariant-loop
invariant-loop l = l.numbers.items ≡ l.fn.numbers.items ++ l.bin ∷ map (λ i. 0) (below l.counter)
