use Rattle.std.proofs.Common.{◌∙◌, ◌++◌, List, ap, ap₂, arith, map}
use Rattle.std.proofs.lemmas.List.{length-map, length-append, map-append}
use Rattle.packing_terms.specs.Tokens.{PlainToken}
use Rattle.proof_tree.specs.Plain.{plain_token}
use Rattle.proof_tree.specs.declared.short.Short.{Short}
use Rattle.proof_tree.specs.Shorts.{listed}
use Rattle.proof_tree.proofs.Shorts.{wide_append, listed_append}
use Rattle.proof_tree.proofs.list.CompactTokens.append.Goals as goal

pub invariant_of-self-in-Ok-extend_from_slice : goal.invariant_of-self-in-Ok-extend_from_slice
invariant_of-self-in-Ok-extend_from_slice c =
    let e = wide_append c.self.inside.shorts.items c.other.inside.shorts.items in
    let f = length-append c.self.inside.wides.items c.other.inside.wides.items in
    rw (c.in-Ok-extend_from_slice.ensures.items, c.as_slice.ensures.value, c.in-Ok.ensures.items)
    (omega (arith, e, f, c.self.invariant, c.other.invariant))

pub returns-clause-appends : goal.returns-clause-appends
returns-clause-appends c =
    let us = map plain_token c.self.inside.wides.items in
    let ws = map plain_token c.other.inside.wides.items in
    let many = length-map c.self.inside.wides.items plain_token in
    ap₂ listed (c.in-Ok-extend_from_slice.ensures.items
    ∙ ap (λ (ss : List Short). c.self.inside.shorts.items ++ ss) c.as_slice.ensures.value)
    (ap (map plain_token) c.in-Ok.ensures.items
    ∙ map-append plain_token c.self.inside.wides.items c.other.inside.wides.items)
    ∙ (listed_append c.self.inside.shorts.items c.other.inside.shorts.items us ws
    (omega (arith, c.self.invariant, many))
    ∙ ap₂ (λ (ts rs : List PlainToken). ts ++ rs) c.self.view_is c.other.view_is)
