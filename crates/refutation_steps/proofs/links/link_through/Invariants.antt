use Rattle.std.proofs.Common.{◌+◌, ◌*◌, cond}
use Rattle.verdict_terms.specs.Kept.{opens}
use Rattle.refutation_steps.proofs.Linked.{IsLinking}
use Rattle.refutation_steps.proofs.links.link_through.Given as goal

abbrev pub invariant-loop-changed : goal.invariant-loop-changed
invariant-loop-changed l = IsLinking l.instance l.dim l.fn.state l.state l.fn.lines
    l.lines l.changed

abbrev pub decreases-loop-changed : goal.decreases-loop-changed
decreases-loop-changed l = 2 * opens l.instance l.state.trail + cond l.changed 1 0
