use Rattle.bounded_tokens.specs.FamilyPlain.{plain_family}
use Rattle.document_lines.proofs.Families.{family_feeds, family_same}
use Rattle.document_lines.proofs.gathering.feed.Goals as goal

pub returns-clause-feeds : goal.returns-clause-feeds
returns-clause-feeds c =
    family_feeds c.args.refuter.now c.feed.new.self (plain_family c.args.token.now) c.feed.result c.feed.ensures.step
    c.feed.ensures.answer c.requires

pub returns-clause-same : goal.returns-clause-same
returns-clause-same c =
    family_same c.args.refuter.now c.feed.new.self (plain_family c.args.token.now) c.feed.ensures.step
