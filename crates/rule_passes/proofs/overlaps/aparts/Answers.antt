use Rattle.std.proofs.Common.{◌≡◌, ◌≢◌}
use Rattle.packing_terms.specs.Rules.{Apart}
use Rattle.edge_state.proofs.Worked.{worked_start, worked_next, worked_lost, worked_kept, sizes_worked}
use Rattle.rule_passes.proofs.overlaps.aparts.Goals as goal

pub loop-i-init : goal.loop-i-init
loop-i-init g c = worked_start _ _ (λ i rule. (c.args.dim ≢ i) × (rule ≡ Apart i c.args.u c.args.v))

pub apart_at-requires-clause-sizes : goal.apart_at-requires-clause-sizes
apart_at-requires-clause-sizes g c = sizes_worked _ _ _ _ _ _ c.loop-i.invariant c.requires.sizes

pub returns-then-apart_at : goal.returns-then-apart_at
returns-then-apart_at g c = worked_lost _ _ _ _ _ _ _ _ c.if-apart_at.true c.loop-i.invariant c.apart_at.ensures

pub loop-i-preserved : goal.loop-i-preserved
loop-i-preserved g c =
    worked_next _ _ _ _ _ _ (λ i rule. (c.args.dim ≢ i) × (rule ≡ Apart i c.args.u c.args.v)) c.loop-i.invariant
    (worked_kept _ _ _ _ _ c.if-apart_at.false c.apart_at.ensures)
