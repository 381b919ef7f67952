use Rattle.line_proofs.specs.Plain.{plain_step}
use Rattle.refutation_steps.proofs.Going.{on_ok}
use Rattle.refutation_steps.proofs.Shorter.{line_passed}
use Rattle.refutation_steps.proofs.written.write_step.Goals as goal

pub returns : goal.returns
returns c = on_ok c.write_line.result
    (λ e. line_passed c.args.lines.now c.write_line.new.lines
    (plain_step c.args.step) c.requires e) c.write_line.ensures
