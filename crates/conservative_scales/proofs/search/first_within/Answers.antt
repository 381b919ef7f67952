use Rattle.std.proofs.Common.{◌+◌, ap, sym, refl, arith, ◌∙◌, Some}
use Rattle.std.proofs.lemmas.List.{get_or-replicate}
use Rattle.packing_terms.specs.Packing.{dims, box_count}
use Rattle.conservative_scales.proofs.Tuples.{excess_within, none_left}
use Rattle.conservative_scales.proofs.PartialProducts.{partial_none, rows_less}
use Rattle.conservative_scales.proofs.search.first_within.Goals as goal

pub returns-then-search : goal.returns-then-search
returns-then-search g c =
    excess_within c.args.instance.now c.args.copies _ _ c.dims-dims.ensures.value (none_left c.dims-dims.result _)
    ∙ c.if-search.ensures.found ∙ ap Some (sym c.copied.ensures)

pub returns-else-search : goal.returns-else-search
returns-else-search g c =
    excess_within c.args.instance.now c.args.copies _ _ c.dims-dims.ensures.value (none_left c.dims-dims.result _)
    ∙ c.if-search.ensures.found

pub search-requires-clause-partial : goal.search-requires-clause-partial
search-requires-clause-partial g c =
    let r = rows_less (dims c.args.instance.now + 1) (dims c.args.instance.now) (box_count c.args.instance.now) refl in
    rw (none_left, c.dims-dims.ensures.value)
    (partial_none c.args.instance.now _ _
    (λ v l. get_or-replicate g.row.T (0 + v) 1 0 (omega (arith, r, c.requires.room, l))) refl)
