use Rattle.verdict_terms.proofs.FrontJudged.{good_lines_are_true}
use Rattle.verdict_terms.proofs.front_laws.good_lines_are_true.Goals as goal

pub returns : goal.returns
returns c = good_lines_are_true
