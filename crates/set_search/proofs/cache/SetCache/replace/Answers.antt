use Rattle.std.proofs.Common.{◌≡◌, List, sym, ap, subst, ◌∙◌, map}
use Rattle.std.specs.List.{All}
use Rattle.std.proofs.Math.ListN.{set}
use Rattle.std.proofs.lemmas.List.{map-set}
use Rattle.set_search.specs.declared.cache.Entry.{Entry}
use Rattle.set_search.specs.Memories.{PlainEntry, IsPut}
use Rattle.set_search.specs.Entries.{plain_entry}
use Rattle.set_search.proofs.Memories.{put_at}
use Rattle.set_search.proofs.cache.SetCache.replace.Goals as goal

pub returns-then-index-len : goal.returns-then-index-len
returns-then-index-len c =
    let items = c.self.inside.entries.items in
    let e : c.count_in.new.self ≡ set c.args.self.now c.args.index (plain_entry c.args.entry)
    = c.count_in.ensures
    ∙ (ap (λ (x : Entry). map plain_entry (set items c.args.index x)) c.replace-gone.ensures.after
    ∙ (map-set plain_entry items c.args.index c.args.entry
    ∙ ap (λ (es : List PlainEntry). set es c.args.index (plain_entry c.args.entry)) c.self.view_is)) in
    subst (λ (es : List PlainEntry). All (IsPut c.args.self.now (plain_entry c.args.entry)) es) (sym e)
    (put_at c.args.self.now c.args.index (plain_entry c.args.entry))
