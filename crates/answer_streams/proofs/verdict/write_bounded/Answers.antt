use Rattle.pack_streams.proofs.Writers.{more, same}
use Rattle.answer_streams.proofs.Lined.{bounded_line}
use Rattle.answer_streams.proofs.verdict.write_bounded.Goals as goal

pub returns : goal.returns
returns g c = (same _ _ _ _ _ _ _ _ (bounded_line c.args.claim)
    (more _ _ _ _ _ _ _ _ _ _ _ c.write_on-named.ensures.goes_on c.write_claim.ensures)).goes
