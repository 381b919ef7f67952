use Rattle.std.proofs.Common.{sym, ap}
use Rattle.pack_streams.proofs.Writers.{wrote_same}
use Rattle.verdict_terms.specs.Documents.{verdict_line}
use Rattle.answer_streams.specs.Verdicts.{plain_verdict}
use Rattle.answer_streams.proofs.verdict.VerdictStreamed.write_to.Goals as goal

pub returns-in-Verified : goal.returns-in-Verified
returns-in-Verified g c = wrote_same _ _ _ _ _ _ _ (ap (λ v. verdict_line (plain_verdict v)) (sym c.in-Verified.is))
    c.write_verified.ensures
