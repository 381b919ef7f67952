use Rattle.conservative_scales.proofs.Edges.{steps_after}
use Rattle.conservative_scales.proofs.listed.next_function.Goals as goal

pub returns-then-k-lt4-clause-next : goal.returns-then-k-lt4-clause-next
returns-then-k-lt4-clause-next c =
    rw c.in-Step.is (steps_after c.args.instance.now c.args.dim c.in-Step.k c.if-k-lt4.true)
