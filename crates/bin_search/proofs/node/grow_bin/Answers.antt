use Rattle.std.proofs.Common.{◌≡◌, ℕ, ap, sym, ◌∙◌, [], Vec, Global, get_or, arith}
use Rattle.std.proofs.lemmas.List.{get_or-map, get_or_past, length-map}
use Rattle.bin_search.specs.Lists.{lists_of}
use Rattle.bin_search.proofs.node.grow_bin.Goals as goal

pub returns-then-b-bins-clause-child : goal.returns-then-b-bins-clause-child
returns-then-b-bins-clause-child c =
    let bin : c.as_slice.result.now ≡ get_or (lists_of c.args.bins.now) c.args.b []
    = c.as_slice.ensures.value ∙ (ap (λ (x : Vec ℕ Global). x.items) c.index-bins-b.is
    ∙ sym (get_or-map (λ (x : Vec ℕ Global). x.items) c.args.bins.now c.args.b c.index-bins-b.result []
    (omega (arith, c.if-b-bins.true)))) in
    rw bin at c.decide_with_box.ensures.child

pub returns-else-b-bins-clause-child : goal.returns-else-b-bins-clause-child
returns-else-b-bins-clause-child c =
    let many = length-map c.args.bins.now (λ (x : Vec ℕ Global). x.items) in
    let none : get_or (lists_of c.args.bins.now) c.args.b [] ≡ []
    = get_or_past (lists_of c.args.bins.now) c.args.b [] (omega (arith, many, c.if-b-bins.false)) in
    rw none c.decide_with_box-else-b-bins.ensures.child
