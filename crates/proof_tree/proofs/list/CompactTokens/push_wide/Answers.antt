use Rattle.std.proofs.Common.{◌∙◌, ◌++◌, ◌∷◌, [], List, ap, ap₂, arith, map}
use Rattle.std.proofs.lemmas.List.{length-map, length-append, map-append}
use Rattle.packing_terms.specs.Tokens.{PlainToken}
use Rattle.proof_tree.specs.declared.token.Token.{Token}
use Rattle.proof_tree.specs.Plain.{plain_token}
use Rattle.proof_tree.specs.Shorts.{listed}
use Rattle.proof_tree.specs.declared.short.Short.TheVariants.{Wide}
use Rattle.proof_tree.proofs.Shorts.{wide_append, listed_append}
use Rattle.proof_tree.proofs.list.CompactTokens.push_wide.Goals as goal

pub invariant_of-self-in-Ok-push : goal.invariant_of-self-in-Ok-push
invariant_of-self-in-Ok-push c =
    let e = wide_append c.self.inside.shorts.items (Wide ∷ []) in
    let f = length-append c.self.inside.wides.items (c.args.token ∷ []) in
    rw (c.in-Ok.ensures.items, c.in-Ok-push.ensures.items, c.reserve_first.ensures) (omega (arith, e, f, c.self.invariant))

pub returns-clause-appends : goal.returns-clause-appends
returns-clause-appends c =
    let us = map plain_token c.self.inside.wides.items in
    let many = length-map c.self.inside.wides.items plain_token in
    ap₂ listed c.in-Ok.ensures.items
    (ap (map plain_token) (c.in-Ok-push.ensures.items
    ∙ ap (λ (ts : List Token). ts ++ c.args.token ∷ []) c.reserve_first.ensures)
    ∙ map-append plain_token c.self.inside.wides.items (c.args.token ∷ []))
    ∙ (listed_append c.self.inside.shorts.items (Wide ∷ []) us (plain_token c.args.token ∷ [])
    (omega (arith, c.self.invariant, many))
    ∙ ap (λ (ts : List PlainToken). ts ++ plain_token c.args.token ∷ []) c.self.view_is)
