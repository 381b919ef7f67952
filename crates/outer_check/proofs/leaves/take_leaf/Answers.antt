use Rattle.std.proofs.Common.{sym, ◌∙◌}
use Rattle.bounded_tokens.specs.Plain.{plain_bounded}
use Rattle.outer_check.proofs.FurtherLeaves.{node_closed}
use Rattle.outer_check.proofs.leaves.take_leaf.Goals as goal

pub returns : goal.returns
returns c = λ inner going.
    node_closed c.args.instance.now (plain_bounded c.args.token.now) c.requires.further c.args.path.now inner c.args.goal
    c.args.point.now c.in_ok-value.value c.in_ok-value.ensures going (sym c.leaf_refusal.ensures ∙ c.in_default.is)
    c.leave.new.path c.leave.new.point c.leave.ensures.path c.leave.ensures.point
