use Rattle.pack_streams.proofs.Writers.{later, same, wrote_same}
use Rattle.work_share.specs.Outcomes.{plain_outcome}
use Rattle.answer_streams.proofs.SummaryTexts.{three_lines}
use Rattle.answer_streams.proofs.summary.MadeStreamed.write_to.Goals as goal

pub returns : goal.returns
returns g c = wrote_same _ _ _ _ _ _ _
    (three_lines c.args.self.now.number c.args.self.now.instance c.args.self.now.budget
    (plain_outcome c.args.self.now.outcome))
    (later _ _ _ _ _ _ _ _ _ _ (later _ _ _ _ _ _ _ _ _ _ c.write_made_line-named.ensures
    (same _ _ _ _ _ _ _ _ c.fit_line.ensures c.write_on-said.ensures.goes_on))
    c.write_branchings.ensures)
