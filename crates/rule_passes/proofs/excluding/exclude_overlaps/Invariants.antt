use Rattle.std.proofs.Common.{◌*◌, ◌≡◌, ℕ, true, false}
use Rattle.packing_terms.specs.declared.Rel.TheVariants.{Overlap}
use Rattle.packing_terms.specs.Exclusions.{excludes}
use Rattle.edge_state.specs.BitRows.{row_has, members_below}
use Rattle.edge_state.specs.Work.{HasApplied}
use Rattle.rule_passes.specs.Reached.{NoRule}
use Rattle.rule_passes.proofs.excluding.exclude_overlaps.Given as goal

abbrev pub invariant-loop-u : goal.invariant-loop-u
invariant-loop-u g l = record {
  work : HasApplied l.instance l.fn.state l.state false NoRule;
  part : (x : ℕ) → row_has l.rest x ≡ true → row_has l.fn.from x ≡ true;
  excluded : (x y : ℕ) → row_has l.fn.from x ≡ true → row_has l.rest x ≡ false → row_has l.fn.to y ≡ true
      → (x ≡ y → ⊥) → excludes l.state.trail l.dim x y Overlap ≡ true;
}

abbrev pub decreases-loop-u : goal.decreases-loop-u
decreases-loop-u g l = members_below (row_has l.rest) (64 * g.row.K)
