use Rattle.std.proofs.Common.{◌∙◌, ◌++◌, ◌∷◌, [], List, ap, arith, map}
use Rattle.std.proofs.lemmas.List.{length-map}
use Rattle.packing_terms.specs.Tokens.{PlainToken}
use Rattle.proof_tree.specs.Plain.{plain_token}
use Rattle.proof_tree.specs.Shorts.{listed}
use Rattle.proof_tree.proofs.Shorts.{wide_append, listed_short}
use Rattle.proof_tree.proofs.list.CompactTokens.push_short.Goals as goal

pub invariant_of-self-2 : goal.invariant_of-self-2
invariant_of-self-2 c =
    let e = wide_append c.self.inside.shorts.items (c.args.short ∷ []) in
    rw c.in-Ok.ensures.items (omega (arith, e, c.self.invariant, c.requires))

pub returns-clause-appends : goal.returns-clause-appends
returns-clause-appends c =
    let us = map plain_token c.self.inside.wides.items in
    let many = length-map c.self.inside.wides.items plain_token in
    rw c.in-Ok.ensures.items (listed_short c.self.inside.shorts.items c.args.short us
    (omega (arith, c.self.invariant, many)) ∙ ap (λ (ts : List PlainToken). ts ++ listed (c.args.short ∷ []) []) c.self.view_is)
