use Rattle.std.proofs.Common.{◌≡◌, ◌≤◌, length, vec_capacity}
use Rattle.outer_check.specs.Frames.{boxes_put}
use Rattle.outer_check.proofs.path.Path.gather.Given as goal

abbrev pub invariant-loop-v : goal.invariant-loop-v
invariant-loop-v l = (l.keep.items ≡ boxes_put l.v l.self.frames l.child) × (length l.keep.items ≤ l.v)
    × (vec_capacity l.keep ≡ vec_capacity l.initial.keep)
