use Rattle.std.proofs.Common.{◌∙◌, ap, arith}
use Rattle.document_lines.proofs.Lengths.{counted, uncounted}
use Rattle.document_lines.specs.Words.{claimed_fit}
use Rattle.document_lines.proofs.Claims.{fit_one, fit_none}
use Rattle.document_lines.proofs.claim.fit_claim.Goals as goal

pub returns-then-word_count-eq2 : goal.returns-then-word_count-eq2
returns-then-word_count-eq2 c = λ instance.
    c.claimed_fit.ensures ∙ (ap claimed_fit c.word.ensures
    ∙ fit_one instance c.args.line.now.held.words
    (counted 2 _ _ _ c.word_count.ensures.limits c.word_count.ensures.count c.if-word_count-eq2.true (omega arith)))

pub returns : goal.returns
returns c = λ instance.
    fit_none instance c.args.line.now.held.words c.requires
    (uncounted 2 _ _ _ c.word_count.ensures.limits c.word_count.ensures.count c.if-word_count-eq2.false (omega arith))
