use Rattle.std.proofs.Common.{◌-◌, length}
use Rattle.set_search.specs.Searches.{AreClosers}
use Rattle.set_search.proofs.search.ensure_closers.Given as goal

abbrev pub invariant-loop-alloc : goal.invariant-loop-alloc
invariant-loop-alloc l = AreClosers l.dims l.closers.items

abbrev pub decreases-loop-alloc : goal.decreases-loop-alloc
decreases-loop-alloc l = l.boxes - length l.closers.items
