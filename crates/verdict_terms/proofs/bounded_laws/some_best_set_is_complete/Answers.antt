use Rattle.verdict_terms.proofs.Before.{before_itself, before_chain}
use Rattle.verdict_terms.proofs.Exchanged.{reached_completely}
use Rattle.verdict_terms.proofs.bounded_laws.some_best_set_is_complete.Goals as goal

pub returns-clause-reached : goal.returns-clause-reached
returns-clause-reached c instance goal_value reaches =
    let s = reached_completely instance goal_value reaches in (s.keep, s.set, s.complete, s.reached, s.fits)

pub returns-clause-strict : goal.returns-clause-strict
returns-clause-strict c instance v = before_itself instance v

pub returns-clause-chained : goal.returns-clause-chained
returns-clause-chained c instance u v w a b = before_chain instance u v w a b
