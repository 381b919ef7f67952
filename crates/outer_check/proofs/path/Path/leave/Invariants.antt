use Rattle.std.proofs.Common.{◌≡◌, ℕ, List, length}
use Rattle.outer_check.specs.declared.path.Frame.{Frame}
use Rattle.outer_check.specs.Frames.{next_frames}
use Rattle.outer_check.proofs.path.Path.leave.Given as goal

pub record IsLeaving (boxes_now boxes_old : ℕ) (frames_now frames_old : List Frame) : Type 0 where
  pub boxes : boxes_now ≡ boxes_old
  pub frames : next_frames frames_now ≡ next_frames frames_old

abbrev pub invariant-loop-frame : goal.invariant-loop-frame
invariant-loop-frame l = IsLeaving l.self.boxes l.initial.self.boxes l.self.frames l.initial.self.frames

abbrev pub decreases-loop-frame : goal.decreases-loop-frame
decreases-loop-frame l = length l.self.frames
