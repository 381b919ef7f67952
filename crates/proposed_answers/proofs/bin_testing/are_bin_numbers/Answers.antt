use Rattle.std.proofs.Common.{◌∙◌, ◌<◌, sym, ap, ap₂, subst, length}
use Rattle.std.specs.List.{All}
use Rattle.tree_terms.proofs.BinNumbers.{places_count}
use Rattle.verdict_terms.specs.Stages.{bins_reason}
use Rattle.proposed_answers.proofs.BinNumbers.{bins_length, met, told_by}
use Rattle.proposed_answers.proofs.bin_testing.are_bin_numbers.Goals as goal

pub bins_reason-requires-clause-count : goal.bins_reason-requires-clause-count
bins_reason-requires-clause-count c =
    ap length (c.deref-2.ensures.value ∙ c.in_ok-bins.ensures) ∙ bins_length c.args.instance.now c.args.numbers.now

pub bins_reason-requires-clause-placed : goal.bins_reason-requires-clause-placed
bins_reason-requires-clause-placed c =
    ap length (c.deref-3.ensures.value ∙ c.in_ok-places.ensures) ∙ places_count c.args.instance.now c.args.numbers.now

pub returns : goal.returns
returns c =
    told_by c.args.instance.now c.args.numbers.now c.requires c.args.count
    (subst (All (λ b. b < c.args.count)) (c.deref.ensures.value ∙ c.in_ok-bins.ensures)
    (met _ _ c.are_below.result c.if-not-are_below.false c.are_below.ensures))
    c.in_ok-reason.reason
    (sym (c.in_ok-reason.ensures
    ∙ ap₂ (λ b p. bins_reason c.args.instance.now c.args.count b p) (c.deref-2.ensures.value ∙ c.in_ok-bins.ensures)
    (c.deref-3.ensures.value ∙ c.in_ok-places.ensures)))
    c.is_none.result c.is_none.ensures
