use Rattle.proof_tree.specs.Plain.{plain_token}
use Rattle.document_lines.proofs.Outers.{outer_feeds}
use Rattle.document_lines.proofs.checkers.OuterRefuterTreeChecker.feed.Goals as goal

pub returns : goal.returns
returns c = outer_feeds c.args.self.now c.feed.new.self (plain_token c.args.token.now) c.feed.result c.feed.ensures.step
    c.feed.ensures.answer c.requires
