use Rattle.std.proofs.Common.{sym, subst}
use Rattle.std.proofs.lemmas.Bool.{true≢false}
use Rattle.packing_terms.specs.Tokens.PlainToken.{TooLarge}
use Rattle.proof_tree.specs.Plain.{plain_token}
use Rattle.proof_tree.specs.declared.token.Token.{Token}
use Rattle.refutation_check.specs.Nodes.{node_exclusions, IsJudged}
use Rattle.refutation_check.proofs.Judged.{judged_still}
use Rattle.refutation_check.proofs.judging.judge.Goals as goal

pub returns-in-TooLarge-clause-judged : goal.returns-in-TooLarge-clause-judged
returns-in-TooLarge-clause-judged c =
    subst (λ (t : Token). IsJudged c.args.instance.now c.args.node c.args.state.now.trail c.args.state.now.trail
    c.side_refusal.result (plain_token t)) (sym c.in-TooLarge.is)
    (judged_still c.args.instance.now c.args.node c.args.state.now.trail c.side_refusal.result
    (TooLarge c.in-TooLarge.box_no c.in-TooLarge.dim) c.requires.over.mark
    (λ A. c.side_refusal.ensures (node_exclusions c.args.node A)) (λ e s. true≢false (sym s)))
