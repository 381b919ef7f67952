use Rattle.std.proofs.Common.{◌≡◌, ◌≤◌, ◌∙◌, ap, ap₂, sym, arith, map, take, drop, length, List}
use Rattle.std.proofs.lemmas.List.{length-map, length-drop, length-take-le, take-map, drop-map}
use Rattle.packing_terms.specs.Tokens.{PlainToken}
use Rattle.proof_tree.specs.Plain.{plain_token}
use Rattle.proof_tree.specs.declared.short.Short.{Short}
use Rattle.proof_tree.specs.Shorts.{listed, wide_count}
use Rattle.proof_tree.proofs.Parts.{wides_within, rest_wides, first_part, rest_part, held_wides, held_inside}
use Rattle.proof_tree.proofs.list.CompactTokens.split_at.Goals as goal

pub slice_bounds-count_wide-end : goal.slice_bounds-count_wide-end
slice_bounds-count_wide-end c =
    let inside = held_inside c.self.inside.shorts.items c.self.inside.wides.items c.args.self c.args.at c.self.invariant
    c.self.view_is c.requires in
    let same = ap (λ (ss : List Short). length ss) c.as_slice.ensures.value in
    sym (length-take-le c.args.at c.as_slice.result.now (omega (arith, inside, same)))

pub split_off-requires : goal.split_off-requires
split_off-requires c =
    let ss = c.self.inside.shorts.items in
    let us = c.self.inside.wides.items in
    let inside = held_inside ss us c.args.self c.args.at c.self.invariant c.self.view_is c.requires in
    let value = c.count_wide-wide.ensures.value
    ∙ ap (λ (xs : List Short). wide_count (take c.args.at xs)) c.as_slice.ensures.value in
    let within = wides_within ss (map plain_token us) c.args.at (held_wides ss us c.self.invariant) inside in
    let many = length-map us plain_token in
    omega (arith, value, within, many, c.self.inside.wides.ok.0)

pub split_off-requires-2 : goal.split_off-requires-2
split_off-requires-2 c =
    let inside = held_inside c.self.inside.shorts.items c.self.inside.wides.items c.args.self c.args.at c.self.invariant
    c.self.view_is c.requires in
    omega (arith, inside, c.self.inside.shorts.ok.0)

pub invariant_of-rest : goal.invariant_of-rest
invariant_of-rest c =
    let ss = c.self.inside.shorts.items in
    let us = c.self.inside.wides.items in
    let w = c.count_wide-wide.result in
    let inside = held_inside ss us c.args.self c.args.at c.self.invariant c.self.view_is c.requires in
    let value : w ≡ wide_count (take c.args.at ss) = c.count_wide-wide.ensures.value
    ∙ ap (λ (xs : List Short). wide_count (take c.args.at xs)) c.as_slice.ensures.value in
    ap wide_count c.in-Ok-split_off.ensures.tail
    ∙ (rest_wides ss (map plain_token us) c.args.at (held_wides ss us c.self.invariant) inside
    ∙ (ap (λ n. length (drop n (map plain_token us))) (sym value)
    ∙ (ap (λ (ts : List PlainToken). length ts) (drop-map plain_token w us)
    ∙ (length-map (drop w us) plain_token ∙ ap length (sym c.in-Ok.ensures.tail)))))

pub returns-clause-first : goal.returns-clause-first
returns-clause-first c =
    let ss = c.self.inside.shorts.items in
    let us = c.self.inside.wides.items in
    let w = c.count_wide-wide.result in
    let inside = held_inside ss us c.args.self c.args.at c.self.invariant c.self.view_is c.requires in
    let value : w ≡ wide_count (take c.args.at ss) = c.count_wide-wide.ensures.value
    ∙ ap (λ (xs : List Short). wide_count (take c.args.at xs)) c.as_slice.ensures.value in
    ap₂ listed c.in-Ok-split_off.ensures.items
    (ap (map plain_token) c.in-Ok.ensures.items
    ∙ (sym (take-map plain_token w us) ∙ ap (λ n. take n (map plain_token us)) value))
    ∙ (first_part ss (map plain_token us) c.args.at (held_wides ss us c.self.invariant) inside
    ∙ ap (λ (ts : List PlainToken). take c.args.at ts) c.self.view_is)

pub returns-clause-rest : goal.returns-clause-rest
returns-clause-rest c =
    let ss = c.self.inside.shorts.items in
    let us = c.self.inside.wides.items in
    let w = c.count_wide-wide.result in
    let inside = held_inside ss us c.args.self c.args.at c.self.invariant c.self.view_is c.requires in
    let value : w ≡ wide_count (take c.args.at ss) = c.count_wide-wide.ensures.value
    ∙ ap (λ (xs : List Short). wide_count (take c.args.at xs)) c.as_slice.ensures.value in
    ap₂ listed c.in-Ok-split_off.ensures.tail
    (ap (map plain_token) c.in-Ok.ensures.tail
    ∙ (sym (drop-map plain_token w us) ∙ ap (λ n. drop n (map plain_token us)) value))
    ∙ (rest_part ss (map plain_token us) c.args.at (held_wides ss us c.self.invariant) inside
    ∙ ap (λ (ts : List PlainToken). drop c.args.at ts) c.self.view_is)
