use Rattle.std.proofs.Common.{◌∙◌, arith}
use Rattle.packing_terms.specs.Packing.{dims, container_side}
use Rattle.packing_terms.specs.Scales.{function_at}
use Rattle.verdict_terms.specs.Judging.{is_legal}
use Rattle.verdict_terms.proofs.TupleTests.{all_below, not_all_below, next_below, legal_told}
use Rattle.line_proofs.proofs.tuples.are_legal.Goals as goal

pub returns-then-not-legal : goal.returns-then-not-legal
returns-then-not-legal c =
    not_all_below (λ i. is_legal (container_side c.args.instance.now i) (function_at c.args.tuple.now i))
    (dims c.args.instance.now) c.loop-dim.dim
    (omega (arith, c.loop-dim-test.true, c.dims-dim-end.ensures.value))
    (rw (← c.container_side.ensures)
    (legal_told c.args.instance.now c.container_side.result (function_at c.args.tuple.now c.loop-dim.dim)
    c.legal.result c.legal.ensures) ∙ c.if-not-legal.true)

pub returns : goal.returns
returns c =
    all_below (λ i. is_legal (container_side c.args.instance.now i) (function_at c.args.tuple.now i))
    (dims c.args.instance.now)
    (λ i h. c.loop-dim.invariant i (omega (arith, h, c.loop-dim-test.false, c.dims-dim-end.ensures.value)))

pub loop-dim-preserved : goal.loop-dim-preserved
loop-dim-preserved c = next_below
    (λ i. is_legal (container_side c.args.instance.now i) (function_at c.args.tuple.now i)) c.loop-dim.dim
    c.loop-dim.invariant
    (rw (← c.container_side.ensures)
    (legal_told c.args.instance.now c.container_side.result (function_at c.args.tuple.now c.loop-dim.dim)
    c.legal.result c.legal.ensures) ∙ c.if-not-legal.false)
