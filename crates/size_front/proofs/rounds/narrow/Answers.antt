use Rattle.std.proofs.Common.{◌∙◌, sym, ap}
use Rattle.packing_terms.specs.Packing.{written_container}
use Rattle.level_search.specs.Runs.{plain_reached}
use Rattle.answer_terms.specs.Walks.{PlainFront, size_answer, walk_on}
use Rattle.size_front.specs.Plain.{joined}
use Rattle.size_front.proofs.Retold.{spent_widths}
use Rattle.size_front.proofs.rounds.narrow.Goals as goal

pub returns-then-widths-clause-round : goal.returns-then-widths-clause-round
returns-then-widths-clause-round g c = λ more.
    ap (λ (x : PlainFront). joined c.args.front.now x)
    (spent_widths (size_answer c.args.instance.now c.args.settings.now.budget c.args.settings.now.scales)
    (written_container c.args.instance.now 0)
    (walk_on (size_answer c.args.instance.now c.args.settings.now.budget c.args.settings.now.scales)
    (written_container c.args.instance.now 0) more)
    c.args.stand.height c.args.stand.refuted c.args.stand.tokens c.args.places.items
    c.requires.placed c.requires.refuted
    (plain_reached c.in_ok-widths.widths) c.in_ok-widths.ensures.run c.if-widths.true)
    ∙ sym c.in_ok-end_spent.ensures
