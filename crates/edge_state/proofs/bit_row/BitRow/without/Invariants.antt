use Rattle.std.proofs.Common.{◌≡◌, ◌<◌, ◌≤◌, ◌*◌, ◌^◌, ◌%◌, ◌/◌, bit_and, slice_index}
use Rattle.std.proofs.Math.ListN.{set}
use Rattle.std.specs.Int.{bit_not, w64}
use Rattle.edge_state.proofs.bit_row.BitRow.without.Given as goal

abbrev pub invariant-loop-i : goal.invariant-loop-i
invariant-loop-i g l =
    (l.i ≤ l.number / 64 → l.words ≡ l.initial.words)
    × (l.number / 64 < l.i → l.words
    ≡ set l.initial.words (l.number / 64)
    (bit_and (slice_index l.initial.words (l.number / 64)) (bit_not w64 (1 * 2 ^ (l.number % 64) % 2 ^ 64))))
