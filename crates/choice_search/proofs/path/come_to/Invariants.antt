use Rattle.std.proofs.Common.{◌≡◌, [], drop}
use Rattle.choice_search.specs.Paths.{taken_along}
use Rattle.choice_search.proofs.path.come_to.Given as goal

abbrev pub invariant-loop-k : goal.invariant-loop-k
invariant-loop-k l = taken_along [] l.order l.path ≡ taken_along l.taken.items (drop l.k l.order) (drop l.k l.path)
