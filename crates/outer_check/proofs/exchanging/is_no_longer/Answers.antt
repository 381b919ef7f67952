use Rattle.std.proofs.Common.{arith}
use Rattle.std.specs.Prelude.{nat_le}
use Rattle.std.proofs.lemmas.Bool.{lt-leb}
use Rattle.packing_terms.specs.Packing.{dims, side}
use Rattle.verdict_terms.proofs.TupleTests.{not_all_below}
use Rattle.outer_check.proofs.exchanging.is_no_longer.Goals as goal

pub returns-then-side : goal.returns-then-side
returns-then-side c =
    not_all_below (λ i. nat_le (side c.args.instance.now c.args.u i) (side c.args.instance.now c.args.v i))
    (dims c.args.instance.now) c.loop-dim.dim (omega (arith, c.loop-dim-test.true, c.dims-dim-end.ensures.value))
    (lt-leb (side c.args.instance.now c.args.u c.loop-dim.dim) (side c.args.instance.now c.args.v c.loop-dim.dim)
    (omega (arith, c.if-side.true, c.side.ensures, c.side-in-loop-dim.ensures)))
