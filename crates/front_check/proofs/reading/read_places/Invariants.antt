use Rattle.std.proofs.Common.{map}
use Rattle.front_check.specs.Plain.{plain_line}
use Rattle.front_check.proofs.Audited.{IsPlacedAt}
use Rattle.front_check.proofs.reading.read_places.Given as goal

abbrev pub invariant-loop-index : goal.invariant-loop-index
invariant-loop-index l = IsPlacedAt l.fn.instance l.fn.width l.fn.height (map plain_line l.fn.lines) l.fn.start l.index
    l.places.items
