use Rattle.std.proofs.Common.{◌≤◌, subst}
use Rattle.packing_terms.specs.Packing.{box_count}
use Rattle.outer_check.specs.Outers.{PlainOuter, path_length}
use Rattle.outer_check.proofs.Fed.{path_few}
use Rattle.outer_check.proofs.refuter.OuterRefuter.whole.Goals as goal

pub returns-clause-limits : goal.returns-clause-limits
returns-clause-limits c =
    subst (λ (o : PlainOuter). path_length o ≤ box_count o.instance) c.self.view_is
    (path_few c.self.inside.instance.now c.self.inside.goal c.self.inside.path c.self.inside.point c.self.inside.inner
    c.self.inside.refused c.boxes-boxes.ensures.path c.self.invariant.boxes)
