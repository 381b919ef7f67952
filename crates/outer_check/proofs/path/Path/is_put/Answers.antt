use Rattle.std.proofs.Common.{ap, ◌∙◌}
use Rattle.outer_check.specs.Frames.{PlainPath}
use Rattle.outer_check.proofs.Paths.{any_put}
use Rattle.outer_check.proofs.path.Path.is_put.Goals as goal

pub returns : goal.returns
returns c = c.has_put.ensures ∙ any_put c.args.self.now.frames _ _ c.args.child c.args.v c.as_slice.ensures.value
    (ap (λ (p : PlainPath). p.frames) c.self.view_is)
