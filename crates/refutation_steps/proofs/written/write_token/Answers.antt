use Rattle.line_proofs.specs.Plain.{plain_step}
use Rattle.proof_tree.specs.Plain.{plain_token}
use Rattle.refutation_steps.proofs.Going.{on_ok}
use Rattle.refutation_steps.proofs.Shorter.{line_taken}
use Rattle.refutation_steps.proofs.written.write_token.Goals as goal

pub returns : goal.returns
returns c = on_ok c.write_line.result
    (λ e. line_taken c.args.lines.now c.write_reasons.new.lines
    c.write_line.new.lines (plain_step c.in_ok-line.line)
    (plain_token c.args.token.now) c.in_ok-write_reasons.ensures e c.in_ok-line.ensures) c.write_line.ensures
