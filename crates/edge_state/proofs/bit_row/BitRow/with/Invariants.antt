use Rattle.std.proofs.Common.{◌≡◌, ◌<◌, ◌≤◌, ◌*◌, ◌^◌, ◌%◌, ◌/◌, bit_or, slice_index}
use Rattle.std.proofs.Math.ListN.{set}
use Rattle.edge_state.proofs.bit_row.BitRow.with.Given as goal

abbrev pub invariant-loop-i : goal.invariant-loop-i
invariant-loop-i g l =
    (l.i ≤ l.number / 64 → l.words ≡ l.initial.words)
    × (l.number / 64 < l.i → l.words
    ≡ set l.initial.words (l.number / 64)
    (bit_or (slice_index l.initial.words (l.number / 64)) (1 * 2 ^ (l.number % 64) % 2 ^ 64)))
