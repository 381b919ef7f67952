use Rattle.std.proofs.Common.{◌||◌, eqb, sym, ap, ◌∙◌, arith}
use Rattle.packing_terms.specs.Packing.{box_count}
use Rattle.set_search.proofs.Grown.{has_insert, below_inserted}
use Rattle.set_search.proofs.search.SetSearch.key_with.Goals as goal

pub of-requires : goal.of-requires
of-requires c k d l =
    let v = c.self.view_is in
    let set = rw (← v) at c.requires in
    let b = below_inserted (box_count c.self.inside.whole.now) c.args.v c.args.keep.now set.there in
    let most = c.len-limits.ensures.limits.boxes.count.1 in
    omega (arith, b.0 k d l, most)

pub with-requires : goal.with-requires
with-requires c =
    let v = c.self.view_is in
    let set = rw (← v) at c.requires in
    let b = below_inserted (box_count c.self.inside.whole.now) c.args.v c.args.keep.now set.there in
    let most = c.len-limits.ensures.limits.boxes.count.1 in
    omega (arith, b.1, most)

pub returns : goal.returns
returns c x =
    c.with.ensures x ∙ (ap (λ b. b || eqb x c.args.v) (c.of.ensures x) ∙ sym (has_insert c.args.v c.args.keep.now x))
