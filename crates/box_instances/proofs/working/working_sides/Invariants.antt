use Rattle.std.proofs.Common.{◌≡◌, ◌+◌, ◌<◌, ℕ, [], length, map, get_or}
use Rattle.packing_terms.specs.Packing.{no_box}
use Rattle.box_instances.specs.Plain.{plain_box}
use Rattle.box_instances.proofs.working.working_sides.Given as goal

abbrev pub invariant-loop-v : goal.invariant-loop-v
invariant-loop-v l = (length l.rows ≡ 128) × ((u i : ℕ) → u < l.v → i < length l.kerf
    → get_or (get_or l.rows u []) i 0 ≡ get_or (get_or (map plain_box l.boxes) u no_box).sides i 0 + get_or l.kerf i 0)
