use Rattle.std.proofs.Common.{arith, sym, ap, ◌∙◌}
use Rattle.std.specs.Prelude.{option_map}
use Rattle.bounded_tokens.proofs.Joining.{few_words, many_words, good_line}
use Rattle.bounded_tokens.proofs.family_reading.family_token.Goals as goal

pub returns-then-count-lt3 : goal.returns-then-count-lt3
returns-then-count-lt3 c =
    let n = c.word_count-count.ensures.count in
    let l = c.word_count-count.ensures.limits.held in
    let o = c.if-count-lt3.true in
    few_words c.args.line.now.held.words (omega (arith, n, l, o))

pub returns-then-count-gt11 : goal.returns-then-count-gt11
returns-then-count-gt11 c =
    let n = c.word_count-count.ensures.count in
    let l = c.word_count-count.ensures.limits.held in
    let o = c.if-count-gt11.true in
    many_words c.args.line.now.held.words (omega (arith, n, l, o))

pub returns : goal.returns
returns c =
    let n = c.word_count-count.ensures.count in
    let l = c.word_count-count.ensures.limits.held in
    let o = c.if-count-lt3.false in
    let p = c.if-count-gt11.false in
    good_line c.args.line.now.held.words c.in_ok-dim.dim c.in_ok-boxes.boxes.items (omega (arith, n, l, o))
    (omega (arith, n, l, p)) (sym c.parameter_at.ensures ∙ c.in_ok-dim.was)
    (sym c.joining_boxes.ensures ∙ ap (option_map (λ boxes. boxes.items)) c.in_ok-boxes.was)
