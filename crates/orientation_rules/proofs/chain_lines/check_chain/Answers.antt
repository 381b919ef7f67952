use Rattle.std.proofs.Common.{arith, ◌<◌, ◌≡◌, ◌+◌, sym, ◌∙◌, slice_index_or}
use Rattle.std.proofs.lemmas.Bool.{and_parts}
use Rattle.packing_terms.specs.Packing.{box_count, side}
use Rattle.packing_terms.specs.Exclusions.{excludes}
use Rattle.edge_state.specs.BitRows.{row_has}
use Rattle.orientation_rules.proofs.ListedChains.{line_more}
use Rattle.orientation_rules.proofs.chain_lines.check_chain.Goals as goal

pub loop-k-preserved : goal.loop-k-preserved
loop-k-preserved g c =
    let next = slice_index_or c.args.line.now c.loop-k.k 0 in
    let there : next < box_count c.args.instance.now =
    omega (arith, c.if-next-len.false, c.len-in-loop-k.ensures.value) in
    let heavy : c.in-Some.more ≡ c.loop-k.weight + side c.args.instance.now next c.args.dim
    = omega (arith, c.in-Some.ensures, c.checked_add.ensures, c.from.ensures, c.side-in-loop-k.ensures) in (
      there,
      line_more c.args.instance.now (excludes c.args.state.now.trail) c.args.dim c.loop-k.first next c.loop-k.weight
          c.in-Some.more
          (row_has c.loop-k.known) (row_has c.with-known-in-loop-k.result) c.loop-k.invariant.1 there
          (sym c.has.ensures ∙ c.if-has.false)
          (and_parts _ _ (sym c.sure_before_in.ensures ∙ c.if-not-sure_before_in.false)) heavy c.with-known-in-loop-k.ensures,
    )
