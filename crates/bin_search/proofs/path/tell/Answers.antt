use Rattle.std.proofs.Common.{ap, ap₂, sym, ◌∙◌, arith, length}
use Rattle.tree_terms.specs.Paths.{Splits}
use Rattle.bin_search.specs.Lists.{lists_of}
use Rattle.bin_search.specs.Paths.{box_at}
use Rattle.bin_search.proofs.Placements.{placements_count}
use Rattle.bin_search.proofs.Children.{split_told}
use Rattle.bin_search.proofs.path.tell.Goals as goal

pub returns : goal.returns
returns c =
    let e = ap length c.requires.order in
    λ scales answers. ap₂ (λ x n. Splits x c.args.own n) c.assign.ensures
    (c.children.ensures ∙ sym (placements_count c.args.most (lists_of c.args.bins.now)
    (box_at c.args.instance.now c.args.placed)))
    ∙ split_told c.args.instance.now scales c.args.most c.args.placed (lists_of c.args.bins.now) answers c.args.own
    (omega (arith, e, c.requires.there, c.if-placed-order.false)) c.requires.within
