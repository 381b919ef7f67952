use Rattle.set_search.specs.Entries.{plain_entry}
use Rattle.set_search.proofs.Memories.{copied_none, copied_one}
use Rattle.set_search.proofs.cache.SetCache.copy_to.Goals as goal

pub returns-in_default : goal.returns-in_default
returns-in_default c = copied_none c.args.self.now c.args.other.now

pub returns : goal.returns
returns c =
    let entry = c.in-Some.entry.now in
    copied_one c.args.self.now c.args.other.now c.keep.new.self (plain_entry entry) c.in-Some.ensures.there
    (rw (← c.in-Some.ensures.same) at c.keep.ensures)
