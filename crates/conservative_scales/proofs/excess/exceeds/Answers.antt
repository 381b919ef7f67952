use Rattle.std.proofs.Common.{arith}
use Rattle.packing_terms.specs.Scales.{Exceeds}
use Rattle.packing_terms.proofs.Excess.{excess_law}
use Rattle.conservative_scales.proofs.Products.{excess_at_end, excess_is_told}
use Rattle.conservative_scales.proofs.excess.exceeds.Goals as goal

pub returns-clause-exactly : goal.returns-clause-exactly
returns-clause-exactly c = (
  λ x. excess_at_end c.args.instance.now c.args.tuple.now c.args.copies _ _ _ c.requires.tuple c.requires.fit
      c.loop-box_no.invariant (omega arith) c.whole_product.ensures.value x,
  λ x. excess_is_told c.args.instance.now c.args.tuple.now c.args.copies _ _ _ c.loop-box_no.invariant (omega arith)
      c.whole_product.ensures.value x,
)

pub returns-clause-refutes : goal.returns-clause-refutes
returns-clause-refutes c x =
    excess_law.bins c.args.instance.now c.args.tuple.now c.args.copies
    (excess_at_end c.args.instance.now c.args.tuple.now c.args.copies _ _ _ c.requires.tuple c.requires.fit
    c.loop-box_no.invariant (omega arith) c.whole_product.ensures.value x)

pub returns-clause-refutes_one : goal.returns-clause-refutes_one
returns-clause-refutes_one c x e =
    let h : Exceeds c.args.instance.now c.args.tuple.now c.args.copies
    = excess_at_end c.args.instance.now c.args.tuple.now c.args.copies _ _ _ c.requires.tuple c.requires.fit
    c.loop-box_no.invariant (omega arith) c.whole_product.ensures.value x in
    excess_law.one c.args.instance.now c.args.tuple.now (rw e at h)
