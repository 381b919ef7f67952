use Rattle.std.proofs.Common.{◌∙◌}
use Rattle.packing_terms.specs.declared.Rel.TheVariants.{Overlap}
use Rattle.packing_terms.specs.Exclusions.{excludes}
use Rattle.refutation_check.proofs.Beside.{beside_told}
use Rattle.refutation_check.proofs.joining.is_beside.Goals as goal

pub returns : goal.returns
returns c =
    beside_told (excludes c.args.state.now.trail) c.args.dim c.args.u c.args.v c.has.result c.if-u-v.false
    (c.has.ensures ∙ c.mask.ensures Overlap)
