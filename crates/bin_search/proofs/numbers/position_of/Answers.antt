use Rattle.std.proofs.Common.{◌==◌, ap, ◌∙◌, length, rules, tests}
use Rattle.std.specs.Option.{unwrap_or}
use Rattle.std.proofs.lemmas.Iterator.{YieldsList-from_slice}
use Rattle.std.proofs.lemmas.Iterator.Search.{position_from_yields_List}
use Rattle.bin_search.proofs.Positions.{position_or_length}
use Rattle.bin_search.proofs.numbers.position_of.Goals as goal

pub returns : goal.returns
returns c =
    let found = position_from_yields_List (λ u. u == c.args.v) _ _ c.position.result c.position.ensures.ran
    (YieldsList-from_slice _ c.iter.ensures.rest) (λ x b q k. search (rules, tests)) in
    c.unwrap_or.ensures ∙ (ap (λ r. unwrap_or r (length c.args.keep.now)) found
    ∙ position_or_length (λ u. u == c.args.v) c.args.keep.now)
