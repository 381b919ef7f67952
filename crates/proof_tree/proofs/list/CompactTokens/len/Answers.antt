use Rattle.std.proofs.Common.{◌∙◌, ap, sym, arith, length, List, map}
use Rattle.std.proofs.lemmas.List.{length-map}
use Rattle.packing_terms.specs.Tokens.{PlainToken}
use Rattle.proof_tree.specs.Plain.{plain_token}
use Rattle.proof_tree.proofs.Shorts.{listed_length}
use Rattle.proof_tree.proofs.list.CompactTokens.len.Goals as goal

pub returns : goal.returns
returns c =
    let many = length-map c.self.inside.wides.items plain_token in
    let same = listed_length c.self.inside.shorts.items (map plain_token c.self.inside.wides.items)
    (omega (arith, c.self.invariant, many)) in
    let seen = ap (λ (ts : List PlainToken). length ts) c.self.view_is in
    omega (arith, same, seen, c.len.ensures, c.self.inside.shorts.ok.0)
