use Rattle.std.proofs.Common.{◌∙◌, ap, arith, get_or}
use Rattle.std.proofs.Common.{codes, []}
use Rattle.text_terms.specs.declared.claim.SolvingJob.TheVariants.{Bins}
use Rattle.text_terms.specs.declared.claim.Claim.TheVariants.{LeastBins, BinsBetween}
use Rattle.verdict_terms.specs.Results.{one_claim, two_claim}
use Rattle.document_lines.proofs.Lengths.{counted, uncounted}
use Rattle.document_lines.proofs.Claims.{bins_none, bins_least, bins_between, no_claim}
use Rattle.document_lines.proofs.claim.bins_claim.Goals as goal

pub returns-then-words-eq2 : goal.returns-then-words-eq2
returns-then-words-eq2 c = c.none_claim.ensures ∙ bins_none c.args.instance.now c.args.line.now.held.words
    (counted 2 _ _ _ c.word_count-words.ensures.limits c.word_count-words.ensures.count c.if-words-eq2.true (omega arith))

pub returns-then-words-eq3 : goal.returns-then-words-eq3
returns-then-words-eq3 c =
    c.least_bins.ensures ∙ (ap (λ n. one_claim (codes "least") 1 n LeastBins (get_or c.args.line.now.held.words 1 [])
    (get_or c.args.line.now.held.words 2 [])) c.len.ensures.value
    ∙ bins_least c.args.instance.now c.args.line.now.held.words
    (counted 3 _ _ _ c.word_count-words.ensures.limits c.word_count-words.ensures.count c.if-words-eq3.true
    (omega arith)))

pub returns-then-words-eq4 : goal.returns-then-words-eq4
returns-then-words-eq4 c =
    c.bins_between.ensures
    ∙ (ap (λ n. two_claim n BinsBetween (get_or c.args.line.now.held.words 1 [])
    (get_or c.args.line.now.held.words 2 []) (get_or c.args.line.now.held.words 3 []))
    c.len-then-words-eq4.ensures.value
    ∙ bins_between c.args.instance.now c.args.line.now.held.words
    (counted 4 _ _ _ c.word_count-words.ensures.limits c.word_count-words.ensures.count c.if-words-eq4.true
    (omega arith)))

pub returns : goal.returns
returns c =
    no_claim c.args.instance.now Bins c.args.line.now.held.words c.requires
    (uncounted 2 _ _ _ c.word_count-words.ensures.limits c.word_count-words.ensures.count c.if-words-eq2.false
    (omega arith)) (uncounted 3 _ _ _ c.word_count-words.ensures.limits c.word_count-words.ensures.count
    c.if-words-eq3.false (omega arith))
    (uncounted 4 _ _ _ c.word_count-words.ensures.limits c.word_count-words.ensures.count c.if-words-eq4.false
    (omega arith))
