use Rattle.std.proofs.Common.{◌∙◌, ◌++◌, ◌∷◌, [], List, ap, length, map}
use Rattle.std.proofs.lemmas.List.Elements.{All-push}
use Rattle.verdict_terms.specs.Steps.{PlainStep}
use Rattle.line_proofs.specs.Plain.{plain_step}
use Rattle.line_proofs.specs.ShortSteps.{shown_step, shown_steps, IsWithin}
use Rattle.line_proofs.proofs.ShortSteps.{steps_short}
use Rattle.line_proofs.proofs.step_list.StepList.push_short.Goals as goal

pub invariant_of-self-2 : goal.invariant_of-self-2
invariant_of-self-2 c =
    let n = length c.self.inside.wides.items in
    rw c.in-Ok.ensures.items
    (All-push (IsWithin n) c.self.inside.shorts.items c.args.short c.self.invariant (c.requires n))

pub returns-clause-appends : goal.returns-clause-appends
returns-clause-appends c =
    let ws = map plain_step c.self.inside.wides.items in
    ap (shown_steps ws) c.in-Ok.ensures.items
    ∙ (steps_short c.self.inside.shorts.items c.args.short ws c.requires
    ∙ ap (λ (xs : List PlainStep). xs ++ shown_step [] c.args.short ∷ []) c.self.view_is)
