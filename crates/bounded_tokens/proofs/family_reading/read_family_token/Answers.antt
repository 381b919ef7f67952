use Rattle.std.proofs.Common.{arith, sym, ap, ◌∙◌, codes}
use Rattle.text_terms.specs.Lines.{same_bytes}
use Rattle.text_terms.specs.Feeding.{ended_line}
use Rattle.bounded_tokens.proofs.FamilyWords.{empty_line, family_line, plain_line}
use Rattle.bounded_tokens.proofs.family_reading.read_family_token.Goals as goal

pub returns-then-word_count-eq0 : goal.returns-then-word_count-eq0
returns-then-word_count-eq0 c =
    let n = c.word_count.ensures.count in
    let l = c.word_count.ensures.limits.held in
    let o = c.if-word_count-eq0.true in
    empty_line c.args.dims (ended_line c.args.line.now.held) (sym c.bad_byte.ensures ∙ c.if-bad_byte.false)
    (omega (arith, n, l, o))

pub returns-then-is_same : goal.returns-then-is_same
returns-then-is_same c =
    let n = c.word_count.ensures.count in
    let l = c.word_count.ensures.limits.held in
    let o = c.if-word_count-eq0.false in
    c.family_token.ensures
    ∙ family_line c.args.dims (ended_line c.args.line.now.held) (sym c.bad_byte.ensures ∙ c.if-bad_byte.false)
    (omega (arith, n, l, o))
    (ap (λ w. same_bytes w (codes "k")) (sym c.word.ensures) ∙ sym c.is_same.ensures ∙ c.if-is_same.true)

pub returns : goal.returns
returns c =
    let n = c.word_count.ensures.count in
    let l = c.word_count.ensures.limits.held in
    let o = c.if-word_count-eq0.false in
    c.plain_line.ensures
    ∙ plain_line c.args.dims (ended_line c.args.line.now.held) (sym c.bad_byte.ensures ∙ c.if-bad_byte.false)
    (omega (arith, n, l, o))
    (ap (λ w. same_bytes w (codes "k")) (sym c.word.ensures) ∙ sym c.is_same.ensures ∙ c.if-is_same.false)
