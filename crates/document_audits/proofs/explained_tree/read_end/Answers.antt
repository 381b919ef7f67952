use Rattle.document_audits.proofs.Verdicts.{ended}
use Rattle.document_audits.proofs.explained_tree.read_end.Goals as goal

pub returns : goal.returns
returns c = λ instance same. (
  instance,
  ended c.args.bytes.now _ c.next_taken-there.new.at c.next_taken.new.at instance
      c.if-not-there.ensures.line (c.in_default.ensures instance same) c.if-next_taken.ensures.line,
)
