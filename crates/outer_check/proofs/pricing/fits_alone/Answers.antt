use Rattle.std.proofs.Common.{arith}
use Rattle.std.specs.Prelude.{nat_le}
use Rattle.std.proofs.lemmas.Bool.{lt-leb}
use Rattle.packing_terms.specs.Packing.{dims, container_side, side}
use Rattle.verdict_terms.proofs.TupleTests.{not_all_below}
use Rattle.outer_check.proofs.pricing.fits_alone.Goals as goal

pub returns-then-side-container_side : goal.returns-then-side-container_side
returns-then-side-container_side c =
    not_all_below (λ i. nat_le (side c.args.instance.now c.args.v i) (container_side c.args.instance.now i))
    (dims c.args.instance.now) c.loop-dim.dim (omega (arith, c.loop-dim-test.true, c.dims-dim-end.ensures.value))
    (lt-leb (side c.args.instance.now c.args.v c.loop-dim.dim) (container_side c.args.instance.now c.loop-dim.dim)
    (omega (arith, c.if-side-container_side.true, c.side.ensures, c.container_side.ensures)))
