use Rattle.std.proofs.Common.{◌∙◌, sym, ap, map, List, [], ◌∷◌, ◌++◌}
use Rattle.packing_terms.specs.Tokens.{PlainToken}
use Rattle.packing_terms.specs.Packing.{written_container}
use Rattle.level_search.specs.Runs.{plain_reached}
use Rattle.answer_terms.specs.Walks.{PlainFront, corner_unless_empty, size_answer, walk_on}
use Rattle.size_front.specs.Plain.{plain_corner, plain_point, joined}
use Rattle.size_front.proofs.Retold.{spent_heights, found_heights, found_end, found_next, lower_end}
use Rattle.size_front.proofs.Walked.{joined_end, joined_next}
use Rattle.size_front.proofs.rounds.lower.Goals as goal

pub returns-then-heights-clause-round : goal.returns-then-heights-clause-round
returns-then-heights-clause-round g c = λ more.
    ap (λ (x : PlainFront). joined c.args.front.now x)
    (spent_heights (size_answer c.args.instance.now c.args.settings.now.budget c.args.settings.now.scales)
    (written_container c.args.instance.now 0)
    (walk_on (size_answer c.args.instance.now c.args.settings.now.budget c.args.settings.now.scales)
    (written_container c.args.instance.now 0) more)
    c.args.stand.height c.args.stand.refuted c.args.stand.tokens c.requires.run.places
    c.requires.run.placed c.requires.refuted
    (plain_reached c.args.widths) (plain_reached c.in_ok-heights.heights) c.requires.run.run c.requires.run.unspent
    c.in_ok-heights.ensures.run c.if-heights.true)
    ∙ sym c.in_ok-end_spent.ensures

pub returns-then-heights-eq0-clause-round : goal.returns-then-heights-eq0-clause-round
returns-then-heights-eq0-clause-round g c = λ more.
    ap (λ (x : PlainFront). joined c.args.front.now x)
    (found_heights (size_answer c.args.instance.now c.args.settings.now.budget c.args.settings.now.scales)
    (written_container c.args.instance.now 0)
    (walk_on (size_answer c.args.instance.now c.args.settings.now.budget c.args.settings.now.scales)
    (written_container c.args.instance.now 0) more)
    c.args.stand.height c.args.stand.refuted c.args.stand.tokens c.requires.run.places
    c.requires.run.placed c.requires.refuted
    (plain_reached c.args.widths) (plain_reached c.in_ok-heights.heights) c.requires.run.run c.requires.run.unspent
    c.in_ok-heights.ensures.run c.if-heights.false
    ∙ found_end (size_answer c.args.instance.now c.args.settings.now.budget c.args.settings.now.scales)
    (written_container c.args.instance.now 0)
    (walk_on (size_answer c.args.instance.now c.args.settings.now.budget c.args.settings.now.scales)
    (written_container c.args.instance.now 0) more) c.args.stand.height c.args.stand.refuted
    c.args.stand.tokens (plain_reached c.args.widths) (plain_reached c.in_ok-heights.heights)
    c.if-heights-eq0.true)
    ∙ joined_end (map plain_corner c.args.front.now.corners.items) _
    (map plain_corner c.push_point.new.front.corners.items)
    (map plain_point c.args.front.now.points.items) _ (map plain_point c.push_point.new.front.points.items)
    (ap (λ v. map plain_corner v.items) c.push_point.ensures.corners
    ∙ (c.in_ok-push_corner.ensures.corners
    ∙ ap (λ (z : List PlainToken). map plain_corner c.args.front.now.corners.items
    ++ corner_unless_empty c.args.widths.refuted c.args.stand.height z)
    c.told_tokens-corner_tokens.ensures))
    (c.in_ok-push_point.ensures.points
    ∙ ap (λ v. map plain_point v.items
    ++ record {
      width = c.args.widths.placed;
      height = c.in_ok-heights.heights.placed;
      places = c.in_ok-heights.heights.numbers.items;
    } ∷ []) c.push_corner.ensures.points)

pub returns-clause-round : goal.returns-clause-round
returns-clause-round g c = (
  lower_end (size_answer c.args.instance.now c.args.settings.now.budget c.args.settings.now.scales)
      (written_container c.args.instance.now 0) c.args.widths.placed c.args.stand.height c.args.widths.numbers.items
      (plain_reached c.in_ok-heights.heights) c.in_ok-heights.ensures.run c.if-heights-eq0.false,
  c.requires.placed_to,
  λ more.
      ap (λ (x : PlainFront). joined c.args.front.now x)
      (found_heights (size_answer c.args.instance.now c.args.settings.now.budget c.args.settings.now.scales)
      (written_container c.args.instance.now 0)
      (walk_on (size_answer c.args.instance.now c.args.settings.now.budget c.args.settings.now.scales)
      (written_container c.args.instance.now 0) more)
      c.args.stand.height c.args.stand.refuted c.args.stand.tokens c.requires.run.places
      c.requires.run.placed c.requires.refuted
      (plain_reached c.args.widths) (plain_reached c.in_ok-heights.heights) c.requires.run.run c.requires.run.unspent
      c.in_ok-heights.ensures.run c.if-heights.false
      ∙ found_next (size_answer c.args.instance.now c.args.settings.now.budget c.args.settings.now.scales)
      (written_container c.args.instance.now 0)
      (walk_on (size_answer c.args.instance.now c.args.settings.now.budget c.args.settings.now.scales)
      (written_container c.args.instance.now 0) more) c.args.stand.height c.args.stand.refuted
      c.args.stand.tokens (plain_reached c.args.widths) (plain_reached c.in_ok-heights.heights)
      c.if-heights-eq0.false)
      ∙ joined_next (map plain_corner c.args.front.now.corners.items) _
      (map plain_corner c.push_point.new.front.corners.items)
      (map plain_point c.args.front.now.points.items) _ (map plain_point c.push_point.new.front.points.items)
      (walk_on (size_answer c.args.instance.now c.args.settings.now.budget c.args.settings.now.scales)
      (written_container c.args.instance.now 0) more c.in_ok-heights.heights.refuted c.args.widths.placed
      c.in_ok-heights.heights.tokens)
      (ap (λ v. map plain_corner v.items) c.push_point.ensures.corners
      ∙ (c.in_ok-push_corner.ensures.corners
      ∙ ap (λ (z : List PlainToken). map plain_corner c.args.front.now.corners.items
      ++ corner_unless_empty c.args.widths.refuted c.args.stand.height z)
      c.told_tokens-corner_tokens.ensures))
      (c.in_ok-push_point.ensures.points
      ∙ ap (λ v. map plain_point v.items
      ++ record {
        width = c.args.widths.placed;
        height = c.in_ok-heights.heights.placed;
        places = c.in_ok-heights.heights.numbers.items;
      } ∷ []) c.push_corner.ensures.points),
)
