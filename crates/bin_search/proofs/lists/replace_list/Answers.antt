use Rattle.std.proofs.Common.{ℕ, ap, ◌∙◌, arith, List, length, take, pred, Vec, Global}
use Rattle.std.proofs.lemmas.List.{map_push}
use Rattle.bin_search.specs.Lists.{lists_of}
use Rattle.bin_search.proofs.ListsOf.{replaced, pushed, replaced_back, pushed_back}
use Rattle.bin_search.proofs.lists.replace_list.Goals as goal

pub returns-then-at-len-clause-lists : goal.returns-then-at-len-clause-lists
returns-then-at-len-clause-lists c =
    rw c.replace.ensures.after (replaced c.args.lists.now.items c.args.at c.args.list
    (omega (arith, c.if-at-len.true, c.args.lists.now.ok.0, c.len.ensures)))

pub returns-then-at-len-clause-back : goal.returns-then-at-len-clause-back
returns-then-at-len-clause-back c =
    rw (c.replace.ensures.value, c.replace.ensures.after)
    (replaced_back c.args.lists.now.items c.args.at c.index_mut.result.now c.args.list
    (omega (arith, c.if-at-len.true, c.args.lists.now.ok.0, c.len.ensures))
    c.index_mut.ensures.value)

pub returns-clause-lists : goal.returns-clause-lists
returns-clause-lists c = ap lists_of c.in-Ok.ensures.items ∙ pushed c.args.lists.now.items c.args.at c.args.list
    (omega (arith, c.if-at-len.false, c.args.lists.now.ok.0, c.len.ensures))

pub returns-clause-back : goal.returns-clause-back
returns-clause-back c =
    ap (λ (ls : List (List ℕ)). take (pred (length ls)) ls)
    (ap lists_of c.in-Ok.ensures.items ∙ map_push (λ (x : Vec ℕ Global). x.items) c.args.lists.now.items c.args.list)
    ∙ pushed_back (lists_of c.args.lists.now.items) c.args.list.items
