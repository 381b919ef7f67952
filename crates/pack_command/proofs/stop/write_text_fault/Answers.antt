use Rattle.pack_streams.proofs.Writers.{more}
use Rattle.pack_command.proofs.stop.write_text_fault.Goals as goal

pub returns : goal.returns
returns g c =
    (more _ _ _ _ _ _ _ _ _ _ _ (more _ _ _ _ _ _ _ _ _ _ _ (more _ _ _ _ _ _ _ _ _ _ _ (more _ _ _ _ _ _ _ _ _ _ _
    c.write_on-named.ensures.goes_on c.write_number-numbered.ensures.goes_on) c.write_on-coded.ensures.goes_on)
    c.write_number-written.ensures.goes_on) c.write_on.ensures.goes_on).goes
