use Rattle.std.proofs.Common.{◌≡◌, arith}
use Rattle.packing_terms.specs.Packing.{dims}
use Rattle.pack_command.proofs.FrontAnswering.{front_written}
use Rattle.pack_command.proofs.front_job.run_front.Goals as goal

pub returns-in-Ok-stream-clause-answered : goal.returns-in-Ok-stream-clause-answered
returns-in-Ok-stream-clause-answered g c = λ words asks.
    let value = c.dims.ensures.value in
    let two = c.if-dims-ne2.false in
    let plane : dims c.in_ok-instance.instance ≡ 2 = omega (arith, value, two) in
    front_written words _ _ _ _ _ _ c.in-Ok.front asks c.in_ok-instance.ensures.moves c.in_ok-instance.ensures.limits
    plane c.in-Ok.ensures.walk
    _ c.front_status.ensures c.in-Ok-stream.ensures.whole
