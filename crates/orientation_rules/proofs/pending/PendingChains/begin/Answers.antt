use Rattle.std.proofs.Common.{◌≤◌, refl, arith}
use Rattle.packing_terms.specs.Packing.{dims}
use Rattle.orientation_rules.proofs.KnownWeights.{followed_begun, same_rows}
use Rattle.orientation_rules.proofs.pending.PendingChains.begin.Goals as goal

pub returns-clause-followed : goal.returns-clause-followed
returns-clause-followed g c =
    let few : dims c.args.instance.now ≤ 4 = omega (arith, c.dims.ensures.limits.container.dimensions.1) in
    followed_begun _ _ _ _ _ c.begin_closing-is_known.result (record {
      back = rw c.begin_closing-is_known.ensures.state c.begin_closing-is_known.ensures.held;
      same = c.begin_closing-is_known.ensures.instance;
    }) refl (rw c.dims.ensures.value at c.dims_if-unknown.ensures)
    (λ i hi. same_rows c.empty.result i (omega (arith, hi, few)) c.empty.ensures)
    (λ i hi. same_rows c.empty-2.result i (omega (arith, hi, few)) c.empty-2.ensures)
    (rw c.begin_closing-is_known.ensures.state c.begin_closing-is_known.ensures.good)
