use Rattle.std.proofs.Common.{◌≡◌, ℕ, ◌*◌, ◌/◌, ◌<◌, ◌≤◌, length, get_or}
use Rattle.packing_terms.specs.Packing.{container_side, side}
use Rattle.conservative_scales.proofs.fastest.put_shares.Given as goal

-- the shares of the boxes before
abbrev pub invariant-loop-box_no : goal.invariant-loop-box_no
invariant-loop-box_no l =
    (length l.shares ≡ length l.fn.shares)
    × ((v : ℕ) → v < l.box_no → (720720 ≤ get_or l.shares v 0 * (container_side l.instance 0 / side l.instance v 0))
    × (get_or l.shares v 0 ≤ 720720))
