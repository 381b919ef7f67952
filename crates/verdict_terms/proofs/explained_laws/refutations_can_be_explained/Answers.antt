use Rattle.std.proofs.Common.{[], sym}
use Rattle.std.proofs.lemmas.Bool.{true≢false}
use Rattle.verdict_terms.proofs.explained_laws.refutations_can_be_explained.Goals as goal
use Rattle.verdict_terms.proofs.Stepped.{explainable, steps_explain}

pub returns-clause-whole : goal.returns-clause-whole
returns-clause-whole c instance tokens h =
    explainable instance h [] (λ i u v r k. k) (λ i u v r k. absurd (true≢false (sym k)))

pub returns-clause-under : goal.returns-clause-under
returns-clause-under c instance es held tokens h there derived = explainable instance h held there derived

pub returns-clause-steps : goal.returns-clause-steps
returns-clause-steps c instance rules old new lines h k = steps_explain instance rules old new lines h k
