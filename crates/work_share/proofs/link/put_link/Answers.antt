use Rattle.std.proofs.Common.{rules, ◌<◌, length}
use Rattle.work_share.proofs.Links.{with_link_is}
use Rattle.work_share.proofs.link.put_link.Goals as goal

pub returns-clause-items : goal.returns-clause-items
returns-clause-items c =
    let inside : c.args.number < length c.args.slots.now.items = search rules in
    with_link_is c.args.slots.now.items c.args.number c.args.link c.index_mut.result.now inside
    c.index_mut.ensures.value
