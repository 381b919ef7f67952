use Rattle.outer_check.proofs.taking.take.Goals as goal

pub returns-in-InSet-clause-taken : goal.returns-in-InSet-clause-taken
returns-in-InSet-clause-taken c = c.take_inner.ensures c.args.instance.now c.args.goal c.requires.going
