use Rattle.std.proofs.Common.{ap, ◌∙◌}
use Rattle.outer_check.specs.Frames.{PlainPath}
use Rattle.outer_check.proofs.Paths.{any_decided}
use Rattle.outer_check.proofs.path.Path.is_decided.Goals as goal

pub returns : goal.returns
returns c = c.has_split.ensures ∙ any_decided c.args.self.now.frames _ _ c.args.box_no c.as_slice.ensures.value
    (ap (λ (p : PlainPath). p.frames) c.self.view_is)
