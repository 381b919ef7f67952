use Rattle.bounded_tokens.specs.Plain.{plain_bounded}
use Rattle.document_lines.proofs.Bounds.{bounded_feeds}
use Rattle.document_lines.proofs.bounding.feed.Goals as goal

pub returns-clause-feeds : goal.returns-clause-feeds
returns-clause-feeds c =
    (bounded_feeds c.args.refuter.now c.feed_bounded.new.self (plain_bounded c.args.token.now) c.feed_bounded.result
    c.feed_bounded.ensures.step c.feed_bounded.ensures.answer c.requires.opens c.requires.for_value).0

pub returns-clause-same : goal.returns-clause-same
returns-clause-same c =
    (bounded_feeds c.args.refuter.now c.feed_bounded.new.self (plain_bounded c.args.token.now) c.feed_bounded.result
    c.feed_bounded.ensures.step c.feed_bounded.ensures.answer c.requires.opens c.requires.for_value).1
