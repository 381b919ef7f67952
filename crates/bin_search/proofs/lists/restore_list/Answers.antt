use Rattle.bin_search.proofs.ListsOf.{set_lists}
use Rattle.bin_search.proofs.lists.restore_list.Goals as goal

pub returns-then-at-len : goal.returns-then-at-len
returns-then-at-len c = rw c.in-Some.is (set_lists c.args.lists.now.items c.args.at c.in-Some.list)
