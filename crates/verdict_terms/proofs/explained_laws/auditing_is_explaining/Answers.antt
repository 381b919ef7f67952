use Rattle.std.proofs.Common.{[], append-nil, ap, sym, ◌∙◌}
use Rattle.verdict_terms.specs.ExplainedJudging.{at_rest}
use Rattle.verdict_terms.specs.Auditing.{audited_after_all}
use Rattle.verdict_terms.proofs.explained_laws.auditing_is_explaining.Goals as goal
use Rattle.verdict_terms.proofs.ExplainedFed.{explained_fed}
use Rattle.verdict_terms.proofs.Few.{few_left, few_nodes, few_at_start}
use Rattle.verdict_terms.proofs.Explained.{fed_explains}
use Rattle.std.proofs.Common.{◌∷◌}

pub returns-clause-whole : goal.returns-clause-whole
returns-clause-whole c instance es lines = (
  fed_explains instance es lines,
  λ h. ap (λ z. audited_after_all instance (at_rest es ∷ []) z) (sym (append-nil lines))
      ∙ explained_fed instance h [] [],
)

pub returns-clause-few : goal.returns-clause-few
returns-clause-few c instance es lines left e =
    few_nodes instance left (few_left instance lines (at_rest es ∷ []) left (few_at_start instance es) e)
