use Rattle.answer_streams.proofs.streaming.stream.Given as goal

abbrev pub ghosts-write_through : goal.ghosts-write_through
ghosts-write_through g a = record { name = a.out.ghost_name; begun = g.K.Sink.written a.out.now }
