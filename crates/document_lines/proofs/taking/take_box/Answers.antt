use Rattle.std.proofs.Common.{◌≡◌, ◌∙◌, ◌-◌, ◌++◌, [], ◌∷◌, sym, ap, subst, true, false, nat_lt, get_or, Ok}
use Rattle.verdict_terms.specs.Numbers.{coordinates}
use Rattle.std.specs.List.{list_all}
use Rattle.document_lines.proofs.Takes.{taken_late, taken_line, taken_kept, all_behind}
use Rattle.document_lines.proofs.taking.take_box.Goals as goal

pub returns-then-not-are_before-clause-takes : goal.returns-then-not-are_before-clause-takes
returns-then-not-are_before-clause-takes c =
    taken_late c.args.instance.now c.args.taken.now.items c.args.places.now.items c.args.numbers.now c.requires.count
    (sym c.names_box.ensures.value ∙ c.if-not-names_box.false)
    (subst (λ us. list_all (λ u. nat_lt u (get_or c.args.numbers.now 0 0 - 1)) us ≡ false) c.deref.ensures.value
    (sym c.are_before.ensures ∙ c.if-not-are_before.true))

pub returns-clause-kept : goal.returns-clause-kept
returns-clause-kept c =
    taken_kept c.args.instance.now c.args.taken.now.items c.args.places.now.items c.args.numbers.now
    c.push_reserved.new.self.items c.push_coordinates.new.places.items c.requires.count
    (sym c.names_box.ensures.value ∙ c.if-not-names_box.false)
    (subst (λ us. list_all (λ u. nat_lt u (get_or c.args.numbers.now 0 0 - 1)) us ≡ true) c.deref.ensures.value
    (sym c.are_before.ensures ∙ c.if-not-are_before.false))
    (c.push_reserved.ensures.items ∙ ap (λ us. us ++ (get_or c.args.numbers.now 0 0 - 1) ∷ []) c.reserve.ensures.items)
    (c.in_ok-push_coordinates.ensures.1 ∙ ap (λ xs. c.args.places.now.items ++ xs) (all_behind c.args.numbers.now))
    c.requires.held

pub returns-clause-takes : goal.returns-clause-takes
returns-clause-takes c =
    taken_line c.args.instance.now c.args.taken.now.items c.args.places.now.items c.args.numbers.now
    c.push_reserved.new.self.items c.push_coordinates.new.places.items c.requires.count
    (sym c.names_box.ensures.value ∙ c.if-not-names_box.false)
    (subst (λ us. list_all (λ u. nat_lt u (get_or c.args.numbers.now 0 0 - 1)) us ≡ true) c.deref.ensures.value
    (sym c.are_before.ensures ∙ c.if-not-are_before.false))
    (c.push_reserved.ensures.items ∙ ap (λ us. us ++ (get_or c.args.numbers.now 0 0 - 1) ∷ []) c.reserve.ensures.items)
    (c.in_ok-push_coordinates.ensures.1 ∙ ap (λ xs. c.args.places.now.items ++ xs) (all_behind c.args.numbers.now))
    (subst (λ xs. coordinates xs ≡ Ok xs) (all_behind c.args.numbers.now) c.in_ok-push_coordinates.ensures.0)
