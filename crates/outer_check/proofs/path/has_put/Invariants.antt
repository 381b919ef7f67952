use Rattle.std.proofs.Common.{◌≡◌, false, take, ◌&&◌, ◌==◌}
use Rattle.std.specs.List.{list_any}
use Rattle.outer_check.specs.declared.path.Frame.{Frame as PlainFrame}
use Rattle.outer_check.proofs.path.has_put.Given as goal

abbrev pub invariant-loop-frame : goal.invariant-loop-frame
invariant-loop-frame l = list_any (λ (f : PlainFrame). (f.box_no == l.box_no) && (f.child == l.child))
    (take l.frame-index l.frames) ≡ false
