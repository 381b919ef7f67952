use Rattle.std.proofs.Common.{◌∙◌, ap}
use Rattle.proof_tree.specs.Plain.{plain_token}
use Rattle.outer_check.specs.FamilyAnswers.{refusal_in}
use Rattle.outer_check.proofs.FamilySteps.{refusal_told, plain_step}
use Rattle.outer_check.proofs.family_refuter.FamilyRefuter.feed_plain.Goals as goal

pub returns-clause-step : goal.returns-clause-step
returns-clause-step c =
    rw c.in_default-dim.is (plain_step c.args.self.now c.self.inside.inner c.feed-verdict.new.self
    c.self.inside.family.items (plain_token c.args.token.now) c.refusal_in-self-inside.result c.self.invariant.whole
    (c.self.invariant.going c.in_default.is).inner_goes (rw (c.in_default-dim.is, c.in_default.is) at c.self.view_is)
    c.feed-verdict.ensures.step
    (c.refusal_in-self-inside.ensures ∙ (ap refusal_in c.feed-verdict.ensures.answer
    ∙ refusal_told c.feed-verdict.new.self.checked.refused c.feed-verdict.new.self.checked.nodes)))
