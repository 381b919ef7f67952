use Rattle.std.proofs.Common.{◌∙◌, arith}
use Rattle.document_lines.proofs.Lengths.{counted, uncounted}
use Rattle.document_lines.proofs.Claims.{value_greatest, value_between, no_value}
use Rattle.document_lines.proofs.claim.knapsack_claim.Goals as goal

pub returns-then-words-eq3 : goal.returns-then-words-eq3
returns-then-words-eq3 c = λ instance. c.greatest_value.ensures ∙ value_greatest instance c.args.line.now.held.words
    (counted 3 _ _ _ c.word_count-words.ensures.limits c.word_count-words.ensures.count c.if-words-eq3.true (omega arith))

pub returns-then-words-eq4 : goal.returns-then-words-eq4
returns-then-words-eq4 c = λ instance. c.value_between.ensures ∙ value_between instance c.args.line.now.held.words
    (counted 4 _ _ _ c.word_count-words.ensures.limits c.word_count-words.ensures.count c.if-words-eq4.true (omega arith))

pub returns : goal.returns
returns c = λ instance. no_value instance c.args.line.now.held.words c.requires
    (uncounted 3 _ _ _ c.word_count-words.ensures.limits c.word_count-words.ensures.count c.if-words-eq3.false
    (omega arith)) (uncounted 4 _ _ _ c.word_count-words.ensures.limits c.word_count-words.ensures.count
    c.if-words-eq4.false (omega arith))
