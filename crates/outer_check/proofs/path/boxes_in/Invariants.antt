use Rattle.std.proofs.Common.{◌≡◌, ◌<◌, ◌&&◌, ◌==◌, ◌+◌, ℕ, false, take, slice_index_or}
use Rattle.std.specs.List.{list_any}
use Rattle.outer_check.specs.declared.path.Frame.{Frame as PlainFrame}
use Rattle.outer_check.proofs.path.boxes_in.Given as goal

abbrev pub invariant-loop-frame : goal.invariant-loop-frame
invariant-loop-frame l = (v : ℕ) → v < 128 → slice_index_or l.put v false
    ≡ list_any (λ (f : PlainFrame). (f.box_no == v + 1) && (f.child == l.child)) (take l.frame-index l.frames)
