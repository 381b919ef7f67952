use Rattle.pack_streams.proofs.Writers.{more, same}
use Rattle.answer_streams.proofs.ResultTexts.{least_line}
use Rattle.answer_streams.proofs.results.write_least_line.Goals as goal

pub returns : goal.returns
returns g c = same _ _ _ _ _ _ _ _ (least_line c.args.level)
    (more _ _ _ _ _ _ _ _ _ _ _ c.write_on-named.ensures.goes_on
    (more _ _ _ _ _ _ _ _ _ _ _ c.write_number-said.ensures.goes_on c.write_on.ensures.goes_on))
