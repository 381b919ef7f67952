use Rattle.std.proofs.Common.{ℕ, ◌∙◌, sym, ap}
use Rattle.packing_terms.specs.Packing.{written_container}
use Rattle.tree_terms.specs.Levels.{PlainLevel}
use Rattle.level_search.specs.Runs.{plain_level}
use Rattle.answer_terms.specs.Walks.{closed_front, size_answer, round_by, walk_on}
use Rattle.size_front.specs.Plain.{joined}
use Rattle.size_front.proofs.rounds.one_round.Goals as goal

pub returns-in_ok-end_closed-in-Refuted-clause-round :
    goal.returns-in_ok-end_closed-in-Refuted-clause-round
returns-in_ok-end_closed-in-Refuted-clause-round g c = λ more.
    ap (λ (l : PlainLevel). joined c.args.front.now
    (round_by (size_answer c.args.instance.now c.args.settings.now.budget c.args.settings.now.scales)
    (written_container c.args.instance.now 0)
    (walk_on (size_answer c.args.instance.now c.args.settings.now.budget c.args.settings.now.scales)
    (written_container c.args.instance.now 0) more)
    c.args.stand.height c.args.stand.refuted c.args.stand.tokens l))
    (ap (λ (w : ℕ). size_answer c.args.instance.now c.args.settings.now.budget c.args.settings.now.scales w
    c.args.stand.height) (sym c.written_container-most.ensures)
    ∙ (sym c.in_ok-widest.ensures.answer ∙ ap plain_level c.in-Refuted.is))
    ∙ (ap (λ (w : ℕ). joined c.args.front.now
    (closed_front w c.args.stand.height c.in-Refuted.tokens))
    (sym c.written_container-most.ensures)
    ∙ sym c.in_ok-end_closed-in-Refuted.ensures)

pub returns-in_ok-end_spent-in-Spent-clause-round :
    goal.returns-in_ok-end_spent-in-Spent-clause-round
returns-in_ok-end_spent-in-Spent-clause-round g c = λ more.
    ap (λ (l : PlainLevel). joined c.args.front.now
    (round_by (size_answer c.args.instance.now c.args.settings.now.budget c.args.settings.now.scales)
    (written_container c.args.instance.now 0)
    (walk_on (size_answer c.args.instance.now c.args.settings.now.budget c.args.settings.now.scales)
    (written_container c.args.instance.now 0) more)
    c.args.stand.height c.args.stand.refuted c.args.stand.tokens l))
    (ap (λ (w : ℕ). size_answer c.args.instance.now c.args.settings.now.budget c.args.settings.now.scales w
    c.args.stand.height) (sym c.written_container-most.ensures)
    ∙ (sym c.in_ok-widest.ensures.answer ∙ ap plain_level c.in-Spent.is))
    ∙ sym c.in_ok-end_spent-in-Spent.ensures
