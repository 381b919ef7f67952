use Rattle.std.proofs.Common.{sym, ◌∙◌}
use Rattle.rule_passes.proofs.overlaps.is_parted.Goals as goal

pub returns-clause-joined : goal.returns-clause-joined
returns-clause-joined g c off ne =
    c.either-apart.ensures.excluded c.args.v c.requires.v c.requires.distinct (sym c.has.ensures ∙ off)

pub returns-clause-parted : goal.returns-clause-parted
returns-clause-parted g c on =
    (c.if-other-i.false, λ is. c.either-apart.ensures.some c.args.v (sym c.has.ensures ∙ on) is.0 is.1)
