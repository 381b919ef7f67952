use Rattle.pack_streams.proofs.Writers.{more, same}
use Rattle.answer_streams.proofs.Lined.{explained_refusal_line}
use Rattle.answer_streams.proofs.audited.write_explained_refusal.Goals as goal

pub returns : goal.returns
returns g c =
    (same _ _ _ _ _ _ _ _ (explained_refusal_line c.args.line c.args.reason)
    (more _ _ _ _ _ _ _ _ _ _ _ (more _ _ _ _ _ _ _ _ _ _ _ c.write_on-named.ensures.goes_on
    c.write_number-numbered.ensures.goes_on) c.write_explained_reason.ensures)).goes
