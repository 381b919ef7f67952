use Rattle.std.proofs.Common.{◌-◌, ◌<◌, arith, length}
use Rattle.set_search.proofs.Entries.{entry_there, same_row}
use Rattle.set_search.proofs.cache.SetCache.entry_of.Goals as goal

pub returns : goal.returns
returns c =
    let there : c.number_at-number.result - 1 < length c.self.inside.entries.items =
    omega (arith, c.if-number-eq0.false, c.if-number-len.false, c.len.ensures, c.self.inside.entries.ok.0) in
    rw (← c.self.view_is) (record {
      there = entry_there c.self.inside.entries.items (c.number_at-number.result - 1) c.index-entry.result.now there
          c.index-entry.ensures;
      same = same_row c.index-entry.result.now.boxes c.args.key.now.boxes c.ne.result c.ne.ensures c.if-ne.false;
    })
