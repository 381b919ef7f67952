use Rattle.std.proofs.Common.{◌≡◌, ◌++◌, ◌∷◌, [], List, sym, ap, subst, ◌∙◌, map}
use Rattle.std.specs.List.{All}
use Rattle.std.proofs.lemmas.List.{map-append}
use Rattle.set_search.specs.Memories.{PlainEntry, IsPut}
use Rattle.set_search.specs.Entries.{plain_entry}
use Rattle.set_search.proofs.Memories.{put_behind}
use Rattle.set_search.proofs.cache.SetCache.add.Goals as goal

pub returns : goal.returns
returns c =
    let e : map plain_entry c.push.new.self.items ≡ c.args.self.now ++ plain_entry c.args.entry ∷ []
    = ap (map plain_entry) c.in-Ok.ensures.items
    ∙ (map-append plain_entry c.self.inside.entries.items (c.args.entry ∷ [])
    ∙ ap (λ (es : List PlainEntry). es ++ plain_entry c.args.entry ∷ []) c.self.view_is) in
    subst (λ (es : List PlainEntry). All (IsPut c.args.self.now (plain_entry c.args.entry)) es) (sym e)
    (put_behind c.args.self.now (plain_entry c.args.entry))
