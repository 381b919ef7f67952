use Rattle.std.proofs.Common.{◌≡◌, ◌<◌, inl, sym, ◌∙◌, arith}
use Rattle.std.proofs.lemmas.Bool.{and_parts}
use Rattle.packing_terms.specs.Packing.{dims}
use Rattle.packing_terms.specs.Exclusions.{excludes, IsSurelyBefore}
use Rattle.rule_tests.proofs.closure_rows.places_of.Goals as goal

pub place_from-requires-clause-settled : goal.place_from-requires-clause-settled
place_from-requires-clause-settled c u v l hv =
    let first : u ≡ 0 = omega (arith, c.requires.instance.1) in
    let second : v ≡ 1 = omega (arith, c.requires.instance.1) in
    let hi : 1 < dims c.args.instance.now = omega (arith, c.requires.instance.0) in
    let before : IsSurelyBefore (excludes c.close.new.state.trail) 1 0 1 =
    and_parts _ _ (sym c.sure_before.ensures ∙ c.if-sure_before.true) in
    rw (first, second) (1, hi, inl before)
