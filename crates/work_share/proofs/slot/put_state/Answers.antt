use Rattle.std.proofs.Common.{rules, ◌<◌, length}
use Rattle.work_share.proofs.Stored.{with_slot_is}
use Rattle.work_share.proofs.slot.put_state.Goals as goal

pub returns-clause-items : goal.returns-clause-items
returns-clause-items c =
    let inside : c.args.number < length c.args.slots.now.items = search rules in
    with_slot_is c.args.slots.now.items c.args.number c.args.state c.index_mut.result.now inside
    c.index_mut.ensures.value
