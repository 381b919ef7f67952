use Rattle.std.proofs.Common.{subst, sym, ap, ◌∙◌, List, []}
use Rattle.packing_terms.specs.Refutation.{Refutes}
use Rattle.packing_terms.specs.Tokens.{PlainToken}
use Rattle.proof_tree.specs.declared.outcome.Outcome.{Outcome}
use Rattle.proof_tree.specs.Plain.{plain_tokens}
use Rattle.class_search.specs.Right.{IsRight}
use Rattle.work_share.specs.Outcomes.{plain_outcome}
use Rattle.refutation_tests.proofs.written.explained.Goals as goal

pub explain-requires : goal.explain-requires
explain-requires c = subst (λ (l : List PlainToken). Refutes c.args.instance.now [] l)
    (sym (ap plain_tokens c.as_slice.ensures.value ∙ c.in_ok-tokens-in-No.ensures))
    (subst (λ (o : Outcome). IsRight c.args.instance.now [] (plain_outcome o)) c.in-No.is c.in_ok-found.ensures.right)
