use Rattle.std.proofs.Common.{ap, ◌∙◌}
use Rattle.outer_check.specs.Frames.{PlainPath}
use Rattle.outer_check.proofs.Paths.{any_child}
use Rattle.outer_check.proofs.path.Path.is_some_put.Goals as goal

pub returns-clause-value : goal.returns-clause-value
returns-clause-value c = c.has_child.ensures ∙ any_child c.args.self.now.frames _ _ c.args.child
    c.as_slice.ensures.value (ap (λ (p : PlainPath). p.frames) c.self.view_is)
