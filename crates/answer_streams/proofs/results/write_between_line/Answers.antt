use Rattle.pack_streams.proofs.Writers.{more, same}
use Rattle.answer_streams.proofs.ResultTexts.{between_line}
use Rattle.answer_streams.proofs.results.write_between_line.Goals as goal

pub returns : goal.returns
returns g c = same _ _ _ _ _ _ _ _ (between_line c.args.low c.args.high)
    (more _ _ _ _ _ _ _ _ _ _ _ c.write_on-named.ensures.goes_on
    (more _ _ _ _ _ _ _ _ _ _ _ c.write_number-first.ensures.goes_on
    (more _ _ _ _ _ _ _ _ _ _ _ c.write_on-spaced.ensures.goes_on
    (more _ _ _ _ _ _ _ _ _ _ _ c.write_number-second.ensures.goes_on c.write_on.ensures.goes_on))))
