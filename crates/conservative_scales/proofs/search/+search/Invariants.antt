use Rattle.std.proofs.Common.{◌≡◌, ℕ, ◌+◌, ◌<◌, length, drop, get_or}
use Rattle.packing_terms.specs.Packing.{box_count}
use Rattle.conservative_scales.specs.Within.{from_next}
use Rattle.conservative_scales.specs.Rows.{AreAllRows}
use Rattle.conservative_scales.proofs.Searching.{IsOpen}
use Rattle.conservative_scales.proofs.search.+search.Given as goal

abbrev pub decreases-search : goal.decreases-search
decreases-search l = l.dim

abbrev pub invariant-loop-next : goal.invariant-loop-next
invariant-loop-next l = record {
  open_at : IsOpen l.instance l.copies l.dim l.below l.left (drop l.dim l.fn.tuple) l.tuple l.next;
  rows : 0 < l.listed_count → AreAllRows l.instance l.listed_count l.functions l.made;
  functions : length l.functions ≡ length l.fn.functions;
  made : length l.made ≡ length l.fn.made;
  length : length l.images ≡ length l.fn.images;
  products : (k : ℕ) → k < l.at + box_count l.instance → get_or l.images k 0 ≡ get_or l.fn.images k 0;
}

abbrev pub decreases-loop-next : goal.decreases-loop-next
decreases-loop-next l = length (from_next l.instance l.below l.next)
