use Rattle.std.proofs.Common.{List, [], ap, sym, subst, ◌∙◌, map}
use Rattle.packing_terms.specs.Refutation.{Refutes}
use Rattle.packing_terms.specs.Tokens.{PlainToken}
use Rattle.proof_tree.specs.declared.token.Token.{Token}
use Rattle.proof_tree.specs.Plain.{plain_token}
use Rattle.proposed_answers.proofs.Behind.{tokens_right}
use Rattle.proposed_answers.proofs.decision.answer_of.Goals as goal

pub returns-then-branch-clause-right : goal.returns-then-branch-clause-right
returns-then-branch-clause-right c =
    subst (λ (l : List PlainToken). Refutes c.args.instance.now [] l)
    (sym (c.in_ok-tokens-in-Tokens.ensures
    ∙ ap (λ (l : List Token). map plain_token l) c.deref-then-branch.ensures.value))
    (tokens_right c.args.instance.now c.in-Tokens.tokens.items c.deref-in-Tokens.result.now
    c.in_ok-is_refutation-in-Tokens.field-0 c.deref-in-Tokens.ensures.value
    c.in_ok-is_refutation-in-Tokens.ensures c.if-branch.true)
