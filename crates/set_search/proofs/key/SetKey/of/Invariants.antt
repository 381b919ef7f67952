use Rattle.std.proofs.Common.{take}
use Rattle.set_search.specs.Memories.{HasBoxes}
use Rattle.set_search.proofs.key.SetKey.of.Given as goal

abbrev pub invariant-loop-v : goal.invariant-loop-v
invariant-loop-v l = HasBoxes l.key.boxes (take l.v-index l.keep)
