use Rattle.std.proofs.Common.{◌≡◌, ◌<◌, ◌≤◌, ◌∙◌, sym, ap, arith, [], length, slice_index, slice_index_or}
use Rattle.edge_state.specs.ChainWeights.{list_number, weights_in}
use Rattle.orientation_rules.proofs.PropagatedWeights.{raise_fewer, raised_one, written_beside, written_here}
use Rattle.orientation_rules.proofs.rising.raise_to.Goals as goal

pub returns-clause-raised : goal.returns-clause-raised
returns-clause-raised g c =
    let list = list_number c.args.direction c.args.dim in
    let old = c.args.weights.now.numbers in
    let new = c.write.new.self.numbers in
    let count : length (slice_index_or old list []) ≡ 128 = ap length (sym c.weights.ensures.value) ∙ c.weights.ensures.count in
    let written = c.write.ensures.written c.if-not-write.false in
    let small : c.args.v < 128 = omega (arith, c.requires.v, c.requires.boxes, c.requires.limits.boxes.count) in
    let more : slice_index (weights_in old c.args.direction c.args.dim) c.args.v ≤ c.args.weight
    = rw (← c.weights.ensures.value) (omega (arith, c.if-weight-weights.false)) in
    raised_one c.args.instance.now c.args.state.now c.args.dim c.args.direction old new c.args.rest.now c.with.result
    c.args.risen.now c.with-2.result c.args.v c.args.weight (omega (arith, c.requires.v, c.requires.boxes)) c.requires.walk
    (written_here old new list c.args.v c.args.weight written count small)
    (written_beside old new list c.args.v c.args.weight written count) more c.with.ensures c.with-2.ensures

pub returns-clause-enough : goal.returns-clause-enough
returns-clause-enough g c =
    let list = list_number c.args.direction c.args.dim in
    let old = c.args.weights.now.numbers in
    let count : length (slice_index_or old list []) ≡ 128 = ap length (sym c.weights.ensures.value) ∙ c.weights.ensures.count in
    let small : c.args.v < 128 = omega (arith, c.requires.v, c.requires.boxes, c.requires.limits.boxes.count) in
    let here = written_here old c.write.new.self.numbers list c.args.v c.args.weight
    (c.write.ensures.written c.if-not-write.false) count small in
    omega (arith, here)

pub returns-clause-fewer : goal.returns-clause-fewer
returns-clause-fewer g c =
    let logged = c.write.ensures.logged c.if-not-write.false in
    raise_fewer g.row.K (length c.args.weights.now.log) (length c.write.new.self.log) c.args.rest.now c.with.result
    logged.0 logged.1
