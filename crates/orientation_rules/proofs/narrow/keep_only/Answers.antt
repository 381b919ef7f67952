use Rattle.relation_table.specs.Masks.{mask_has}
use Rattle.orientation_rules.proofs.TakenOut.{taken_exactly}
use Rattle.orientation_rules.proofs.narrow.keep_only.Goals as goal

pub returns-clause-kept : goal.returns-clause-kept
returns-clause-kept c i a b r =
    rw (c.narrow-after.ensures.state, c.narrow-before.ensures.state, c.narrow-overlap.ensures.state)
    (taken_exactly c.args.dim c.args.u c.args.v (mask_has c.args.kept) c.args.state.now.trail i a b r)
