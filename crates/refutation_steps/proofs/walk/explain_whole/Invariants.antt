use Rattle.std.proofs.Common.{◌≡◌, take, drop}
use Rattle.verdict_terms.specs.Steps.{tokens_among}
use Rattle.proof_tree.specs.Plain.{plain_tokens}
use Rattle.refutation_steps.specs.Walks.{IsFor, IsBetween}
use Rattle.refutation_steps.proofs.walk.explain_whole.Given as goal

abbrev pub invariant-loop-token : goal.invariant-loop-token
invariant-loop-token l =
    record {
      sizes : IsFor l.instance l.walk;
      between : IsBetween l.instance l.walk (drop l.token-index (plain_tokens l.tokens));
      told : tokens_among l.walk.lines ≡ take l.token-index (plain_tokens l.tokens);
    }
