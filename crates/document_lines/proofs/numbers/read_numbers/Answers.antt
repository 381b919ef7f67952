use Rattle.std.proofs.Common.{◌≡◌, ◌∙◌, ◌+◌, arith, sym, subst, true}
use Rattle.text_terms.specs.Lines.{same_bytes}
use Rattle.document_lines.proofs.Wanted.{unread}
use Rattle.document_lines.proofs.Lengths.{counted}
use Rattle.document_lines.proofs.numbers.read_numbers.Goals as goal

-- src/numbers.rt:29:22
pub returns-in_err-number-clause-numbers : goal.returns-in_err-number-clause-numbers
returns-in_err-number-clause-numbers c =
    let u = unread c.args.key.now c.args.count c.args.line.now.held.words c.loop-k.k c.in_err-number.field-0.0
    (omega (arith, c.loop-k-test.true))
    (counted (c.args.count + 1) _ _ _ c.word_count.ensures.limits c.word_count.ensures.count c.if-word_count-count.false
    (omega (arith, c.requires.few)))
    (subst (λ w. same_bytes w c.args.key.now ≡ true) c.word.ensures (sym c.is_same.ensures ∙ c.if-not-is_same.false))
    (sym c.number_at.ensures ∙ c.in_err-number.was) in
    let f = c.from_residual.ensures.1 in
    grind (arith, f, u)
