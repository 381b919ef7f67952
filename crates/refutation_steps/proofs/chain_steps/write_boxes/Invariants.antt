use Rattle.std.proofs.Common.{◌≡◌, ◌++◌, take}
use Rattle.verdict_terms.specs.Steps.{box_lines}
use Rattle.refutation_steps.proofs.chain_steps.write_boxes.Given as goal

abbrev pub invariant-loop-v : goal.invariant-loop-v
invariant-loop-v l = l.lines ≡ l.fn.lines ++ box_lines (take l.v-index l.boxes)
