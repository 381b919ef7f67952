use Rattle.std.proofs.Common.{◌≡◌, arith, subst, sym}
use Rattle.std.proofs.lemmas.Grind.{common_steps}
use Rattle.packing_terms.specs.Packing.{dims, box_count}
use Rattle.edge_state.specs.ChainWeights.{PlainWeights, AreOf}
use Rattle.edge_state.proofs.Histories.{good_back, of_back}
use Rattle.edge_state.proofs.chain_weights.ChainWeights.begin.Goals as goal

pub returns-clause-held : goal.returns-clause-held
returns-clause-held c es h =
    let instance = c.args.instance.now in
    subst (λ (k : PlainWeights). AreOf (dims instance) (box_count instance) es k) (sym c.take_back.ensures)
    (of_back (dims instance) (box_count instance) es c.args.self.now c.in-Some.end c.in-Some.ensures h)

pub returns-clause-good : goal.returns-clause-good
returns-clause-good c _ es h =
    let same : c.in-Some.end.mark ≡ c.args.closed = grind (arith, common_steps, c.if-ne.ensures) in
    rw (c.take_back.ensures, ← same)
    (good_back c.args.instance.now es c.args.self.now c.in-Some.end (c.are_for.ensures c.if-not-are_for.false)
    c.in-Some.ensures h)
