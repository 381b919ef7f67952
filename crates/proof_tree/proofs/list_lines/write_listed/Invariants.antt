use Rattle.std.proofs.Common.{◌≤◌, map, drop, length}
use Rattle.pack_streams.specs.Writing.{Continues}
use Rattle.proof_tree.specs.Plain.{plain_token}
use Rattle.proof_tree.specs.Lines.{token_text}
use Rattle.proof_tree.specs.Shorts.{listed}
use Rattle.proof_tree.proofs.Shorts.{AreTold}
use Rattle.proof_tree.proofs.list_lines.write_listed.Given as goal

abbrev pub invariant-loop-k : goal.invariant-loop-k
invariant-loop-k g l = AreTold l.shorts (map plain_token l.wides) l.k l.next
    (λ done. Continues (g.K.Sink.written l.initial.sink) (g.K.Sink.written l.sink) (g.K.Sink.faults l.initial.sink)
    (g.K.Sink.faults l.sink) (token_text done) l.initial.now l.now)
