use Rattle.std.proofs.Common.{◌<◌}
use Rattle.packing_terms.specs.Packing.{box_count}
use Rattle.packing_terms.specs.Exclusions.{excludes}
use Rattle.edge_state.specs.BitRows.{row_has}
use Rattle.orientation_rules.specs.ChainLines.{IsKnownChain}
use Rattle.orientation_rules.proofs.chain_lines.check_chain.Given as goal

abbrev pub invariant-loop-k : goal.invariant-loop-k
invariant-loop-k g l = (l.first < box_count l.instance)
    × IsKnownChain l.instance (excludes l.state.trail) l.dim l.first l.weight (row_has l.known)
