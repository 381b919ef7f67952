use Rattle.pack_streams.proofs.Writers.{more, same}
use Rattle.answer_streams.proofs.ResultTexts.{greatest_line}
use Rattle.answer_streams.proofs.knapsack_documents.write_greatest_line.Goals as goal

pub returns : goal.returns
returns g c = same _ _ _ _ _ _ _ _ (greatest_line c.args.value)
    (more _ _ _ _ _ _ _ _ _ _ _ c.write_on-named.ensures.goes_on
    (more _ _ _ _ _ _ _ _ _ _ _ c.write_number-said.ensures.goes_on c.write_on.ensures.goes_on))
