use native.Mathlib.Numerals.{unary_clauses}
use Rattle.std.proofs.Common.{[], ◌∷◌}
use Rattle.packing_terms.specs.Rules.Rule.{Apart}
use Rattle.refutation_steps.proofs.Going.{on_ok, stepped, instance_of}
use Rattle.refutation_steps.proofs.steps.step_apart.Goals as goal

pub returns : goal.returns
returns c =
    on_ok c.write_taken.result
    (λ e. stepped c.args.instance.now c.args.state.now c.take_apart-taken.new.state (Apart c.args.dim c.args.u c.args.v)
    c.take_apart-taken.result c.args.lines.now c.write_taken.new.lines
    (instance_of c.args.instance.now c.args.state.now c.args.dim (c.args.u ∷ c.args.v ∷ []) c.requires.dims
    c.requires.count c.requires.dim c.requires.boxes) c.take_apart-taken.ensures e)
    (simp unary_clauses at c.write_taken.ensures)
