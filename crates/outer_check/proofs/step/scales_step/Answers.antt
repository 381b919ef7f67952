use Rattle.std.proofs.Common.{◌∙◌, sym, []}
use Rattle.outer_check.proofs.Views.{left_is}
use Rattle.packing_terms.specs.OuterPaths.{bins_with}
use Rattle.outer_check.proofs.step.scales_step.Goals as goal

pub returns-in-None : goal.returns-in-None
returns-in-None c = (
  sym c.judge_tuple.ensures ∙ c.in-None.is,
  left_is (bins_with c.args.bins) [] c.args.path.now.frames c.requires.are.0,
)
