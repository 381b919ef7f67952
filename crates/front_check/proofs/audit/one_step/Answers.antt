use Rattle.std.proofs.Common.{ap}
use Rattle.front_check.specs.Plain.{plain_line}
use Rattle.front_check.proofs.Audited.{stands_as, place_refused, token_refused}
use Rattle.front_check.proofs.audit.one_step.Goals as goal

pub corner_step-requires-clause-line : goal.corner_step-requires-clause-line
corner_step-requires-clause-line c =
    stands_as c.args.lines.now c.args.index c.index-lines-index.result _ c.requires.there c.index-lines-index.is
    (ap plain_line c.in-Corner.is)

pub point_step-requires-clause-line : goal.point_step-requires-clause-line
point_step-requires-clause-line c =
    stands_as c.args.lines.now c.args.index c.index-lines-index.result _ c.requires.there c.index-lines-index.is
    (ap plain_line c.in-Point.is)

pub returns-in-Place : goal.returns-in-Place
returns-in-Place c =
    place_refused c.args.instance.now c.args.complete c.args.stage c.args.lines.now c.args.index
    c.index-lines-index.result _ _ c.requires.there c.index-lines-index.is c.in-Place.is c.form.ensures

pub returns-in-Tree : goal.returns-in-Tree
returns-in-Tree c =
    token_refused c.args.instance.now c.args.complete c.args.stage c.args.lines.now c.args.index
    c.index-lines-index.result _ _ c.requires.there c.index-lines-index.is c.in-Tree.is
    (c.token_reason.ensures c.args.instance.now c.args.complete c.args.stage.left _)
