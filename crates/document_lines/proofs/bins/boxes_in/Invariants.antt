use Rattle.std.proofs.Common.{◌≡◌, nat_eq}
use Rattle.std.specs.List.{range_with_len, slice_index}
use Rattle.std.specs.Prelude.{filter}
use Rattle.document_lines.proofs.bins.boxes_in.Given as goal

abbrev pub invariant-loop-v : goal.invariant-loop-v
invariant-loop-v l = l.keep.items ≡ filter (λ v. nat_eq (slice_index l.bins v) l.bin) (range_with_len 0 l.v)
