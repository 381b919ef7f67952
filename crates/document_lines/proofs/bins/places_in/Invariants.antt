use Rattle.std.proofs.Common.{◌≡◌, take}
use Rattle.packing_terms.specs.Goals.{places_of}
use Rattle.document_lines.proofs.bins.places_in.Given as goal

abbrev pub invariant-loop-v : goal.invariant-loop-v
invariant-loop-v l = l.list.items ≡ places_of l.instance l.places (take l.v-index l.keep)
