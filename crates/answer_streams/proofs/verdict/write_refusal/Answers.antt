use Rattle.pack_streams.proofs.Writers.{more, same}
use Rattle.answer_streams.proofs.Lined.{refusal_line}
use Rattle.answer_streams.proofs.verdict.write_refusal.Goals as goal

pub returns : goal.returns
returns g c =
    (same _ _ _ _ _ _ _ _ (refusal_line c.args.line c.args.reason)
    (more _ _ _ _ _ _ _ _ _ _ _ (more _ _ _ _ _ _ _ _ _ _ _ c.write_on-named.ensures.goes_on
    c.write_number-numbered.ensures.goes_on) c.write_reason.ensures)).goes
