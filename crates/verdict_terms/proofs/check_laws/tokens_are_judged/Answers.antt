use Rattle.verdict_terms.proofs.Judged.{inner_exact, bins_exact, value_exact}
use Rattle.verdict_terms.proofs.check_laws.tokens_are_judged.Goals as goal

pub returns : goal.returns
returns c = record { inner = inner_exact; bins = bins_exact; value = value_exact }
