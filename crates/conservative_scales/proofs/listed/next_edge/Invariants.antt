use Rattle.conservative_scales.proofs.Edges.{IsBest}
use Rattle.conservative_scales.proofs.listed.next_edge.Given as goal

abbrev pub invariant-loop-box_no : goal.invariant-loop-box_no
invariant-loop-box_no l = IsBest l.instance l.dim l.above l.box_no l.next
