use native.Mathlib.Numerals.{unary_clauses}
use Rattle.std.proofs.Common.{[], ◌∷◌}
use Rattle.packing_terms.specs.Rules.Rule.{Cycle}
use Rattle.refutation_steps.proofs.Going.{on_ok, stepped, instance_of}
use Rattle.refutation_steps.proofs.steps.step_cycle.Goals as goal

pub returns : goal.returns
returns c =
    on_ok c.write_taken.result
    (λ e. stepped c.args.instance.now c.args.state.now c.take_cycle-taken.new.state
    (Cycle c.args.dim c.args.a c.args.b c.args.c c.args.d) c.take_cycle-taken.result
    c.args.lines.now c.write_taken.new.lines
    (instance_of c.args.instance.now c.args.state.now c.args.dim (c.args.a ∷ c.args.b ∷ c.args.c ∷ c.args.d ∷ [])
    c.requires.dims c.requires.count c.requires.dim c.requires.boxes) (c.take_cycle-taken.ensures c.args.instance.now)
    e)
    (simp unary_clauses at c.write_taken.ensures)
