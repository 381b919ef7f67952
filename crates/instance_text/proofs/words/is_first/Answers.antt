use Rattle.std.proofs.Common.{arith}
use Rattle.instance_text.proofs.WordCounts.{counted, no_first}
use Rattle.instance_text.proofs.words.is_first.Goals as goal

pub returns-then-word_count-eq0 : goal.returns-then-word_count-eq0
returns-then-word_count-eq0 c =
    no_first c.args.line.now.held.words c.args.key.now
    (counted 0 _ _ _ c.word_count.ensures.limits c.word_count.ensures.count c.if-word_count-eq0.true
    (omega arith)) c.requires
