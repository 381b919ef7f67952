use Rattle.std.proofs.Common.{◌≡◌}
use Rattle.set_search.proofs.cache.SetCache.place_entries.Given as goal

abbrev pub invariant-loop-number : goal.invariant-loop-number
invariant-loop-number l = l.self ≡ l.fn.self
