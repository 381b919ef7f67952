use Rattle.rule_passes.proofs.Quiet.{worked_apart, worked_emptied}
use Rattle.rule_passes.proofs.overlaps.exclude_overlap.Goals as goal

pub returns : goal.returns
returns g c =
    worked_emptied c.args.instance.now _ _ _ _ _ c.is_empty_at.ensures
    (worked_apart c.args.instance.now _ _ c.args.i c.args.u c.args.v
    (record { dim = c.requires.sizes.there; first = c.requires.u; second = c.requires.v; distinct = c.requires.distinct })
    c.requires.joined c.exclude_in.ensures.state)
