use Rattle.std.proofs.Common.{◌≡◌, ◌∙◌, ◌-◌, ◌++◌, ◌&&◌, [], ◌∷◌, sym, ap, subst, true, nat_le, get_or, Ok}
use Rattle.std.proofs.lemmas.Bool.{and_parts, leb-true}
use Rattle.verdict_terms.specs.Numbers.{coordinates}
use Rattle.document_lines.proofs.Takes.{all_behind}
use Rattle.document_lines.proofs.Shares.{shared_line, shares_kept}
use Rattle.document_lines.proofs.bin_places.take_share.Goals as goal

pub returns-clause-kept : goal.returns-clause-kept
returns-clause-kept c =
    let named : (nat_le 1 (get_or c.args.numbers.now 0 0) && nat_le (get_or c.args.numbers.now 0 0) c.args.bin_count)
    ≡ true = sym c.names_bin.ensures ∙ c.if-not-names_bin.false in
    let p = and_parts _ _ named in
    shares_kept c.args.instance.now c.args.bin_count c.args.bins.now.items c.args.places.now.items c.args.numbers.now
    c.push_reserved.new.self.items c.push_coordinates.new.places.items c.requires.count
    (leb-true _ _ p.0) (leb-true _ _ p.1)
    (c.push_reserved.ensures.items ∙ ap (λ us. us ++ (get_or c.args.numbers.now 0 0 - 1) ∷ []) c.reserve.ensures.items)
    (c.in_ok-push_coordinates.ensures.1 ∙ ap (λ xs. c.args.places.now.items ++ xs) (all_behind c.args.numbers.now))
    c.requires.held

pub returns-clause-takes : goal.returns-clause-takes
returns-clause-takes c =
    let named : (nat_le 1 (get_or c.args.numbers.now 0 0) && nat_le (get_or c.args.numbers.now 0 0) c.args.bin_count)
    ≡ true = sym c.names_bin.ensures ∙ c.if-not-names_bin.false in
    let p = and_parts _ _ named in
    shared_line c.args.instance.now c.args.bin_count c.args.bins.now.items c.args.places.now.items c.args.numbers.now
    c.push_reserved.new.self.items c.push_coordinates.new.places.items c.requires.count
    (leb-true _ _ p.0) (leb-true _ _ p.1)
    (c.push_reserved.ensures.items ∙ ap (λ us. us ++ (get_or c.args.numbers.now 0 0 - 1) ∷ []) c.reserve.ensures.items)
    (c.in_ok-push_coordinates.ensures.1 ∙ ap (λ xs. c.args.places.now.items ++ xs) (all_behind c.args.numbers.now))
    named (subst (λ xs. coordinates xs ≡ Ok xs) (all_behind c.args.numbers.now) c.in_ok-push_coordinates.ensures.0)
