use Rattle.verdict_terms.proofs.Refuting.{inner_refutes, bins_refute, value_refutes}
use Rattle.verdict_terms.proofs.check_laws.checking_is_refuting.Goals as goal

pub returns : goal.returns
returns c = record { inner = inner_refutes; bins = bins_refute; value = value_refutes }
