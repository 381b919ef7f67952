use Rattle.std.proofs.Common.{◌≡◌, ◌∙◌, ◌++◌, ◌∷◌, [], List, ap, ap₂, sym, length, map}
use Rattle.std.proofs.lemmas.List.{length-map, map-append}
use Rattle.verdict_terms.specs.Steps.{PlainStep}
use Rattle.line_proofs.specs.declared.step.Step.{Step}
use Rattle.line_proofs.specs.Plain.{plain_step}
use Rattle.line_proofs.specs.ShortSteps.{shown_steps}
use Rattle.line_proofs.proofs.ShortSteps.{steps_wide}
use Rattle.line_proofs.proofs.step_list.StepList.push_wide.Goals as goal

pub returns-clause-appends : goal.returns-clause-appends
returns-clause-appends c =
    let ss = c.self.inside.shorts.items in
    let us = c.self.inside.wides.items in
    let ws = map plain_step us in
    let many : length us ≡ length ws = sym (length-map us plain_step) in
    let last : c.in_ok-index.index ≡ length ws =
    c.in_ok-index.ensures ∙ (ap (λ (xs : List Step). length xs) c.as_slice.ensures.value ∙ many) in
    ap₂ shown_steps (ap (map plain_step) c.in-Ok-push.ensures.items ∙ map-append plain_step us (c.args.step ∷ []))
    c.in-Ok.ensures.items
    ∙ (steps_wide ss ws (plain_step c.args.step) (length us) c.in_ok-index.index many last c.self.invariant
    ∙ ap (λ (xs : List PlainStep). xs ++ plain_step c.args.step ∷ []) c.self.view_is)
