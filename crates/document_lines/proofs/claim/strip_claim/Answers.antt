use Rattle.std.proofs.Common.{◌∙◌, arith}
use Rattle.text_terms.specs.declared.claim.SolvingJob.TheVariants.{Strip}
use Rattle.document_lines.proofs.Lengths.{counted, uncounted}
use Rattle.document_lines.proofs.Claims.{strip_none, strip_least, strip_between, no_claim}
use Rattle.document_lines.proofs.claim.strip_claim.Goals as goal

pub returns-then-words-eq2 : goal.returns-then-words-eq2
returns-then-words-eq2 c = λ instance. c.none_claim.ensures
    ∙ strip_none instance c.args.line.now.held.words
    (counted 2 _ _ _ c.word_count-words.ensures.limits c.word_count-words.ensures.count c.if-words-eq2.true (omega arith))

pub returns-then-words-eq3 : goal.returns-then-words-eq3
returns-then-words-eq3 c = λ instance. c.least_height.ensures
    ∙ strip_least instance c.args.line.now.held.words
    (counted 3 _ _ _ c.word_count-words.ensures.limits c.word_count-words.ensures.count c.if-words-eq3.true (omega arith))

pub returns-then-words-eq4 : goal.returns-then-words-eq4
returns-then-words-eq4 c = λ instance. c.height_between.ensures ∙ strip_between instance c.args.line.now.held.words
    (counted 4 _ _ _ c.word_count-words.ensures.limits c.word_count-words.ensures.count c.if-words-eq4.true (omega arith))

pub returns : goal.returns
returns c = λ instance.
    no_claim instance Strip c.args.line.now.held.words c.requires
    (uncounted 2 _ _ _ c.word_count-words.ensures.limits c.word_count-words.ensures.count c.if-words-eq2.false
    (omega arith)) (uncounted 3 _ _ _ c.word_count-words.ensures.limits c.word_count-words.ensures.count
    c.if-words-eq3.false (omega arith))
    (uncounted 4 _ _ _ c.word_count-words.ensures.limits c.word_count-words.ensures.count c.if-words-eq4.false
    (omega arith))
