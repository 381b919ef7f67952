use Rattle.std.proofs.Common.{◌*◌, ◌≡◌, ◌<◌, ℕ, true, false}
use Rattle.packing_terms.specs.Packing.{side}
use Rattle.edge_state.specs.BitRows.{row_has, members_below}
use Rattle.rule_passes.proofs.triples.has_long.Given as goal

abbrev pub invariant-loop-v : goal.invariant-loop-v
invariant-loop-v g l = record {
  part : (x : ℕ) → row_has l.rest x ≡ true → row_has l.fn.row x ≡ true;
  others : (x : ℕ) → row_has l.fn.row x ≡ true → row_has l.rest x ≡ false → side l.instance x l.dim < l.least;
}

abbrev pub decreases-loop-v : goal.decreases-loop-v
decreases-loop-v g l = members_below (row_has l.rest) (64 * g.row.K)
