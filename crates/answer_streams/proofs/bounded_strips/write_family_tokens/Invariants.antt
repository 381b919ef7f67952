use Rattle.std.proofs.Common.{take}
use Rattle.pack_streams.specs.Writing.{Continues}
use Rattle.verdict_terms.specs.FamilyLines.{family_token_text}
use Rattle.bounded_tokens.specs.FamilyPlain.{plain_family_tokens}
use Rattle.answer_streams.proofs.bounded_strips.write_family_tokens.Given as goal

abbrev pub invariant-loop-k : goal.invariant-loop-k
invariant-loop-k g l =
    Continues (g.K.Sink.written l.initial.sink) (g.K.Sink.written l.sink) (g.K.Sink.faults l.initial.sink)
    (g.K.Sink.faults l.sink)
    (family_token_text (plain_family_tokens (take l.k l.tokens))) l.initial.now l.now
