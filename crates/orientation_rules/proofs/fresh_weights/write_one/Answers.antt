use Rattle.std.proofs.Common.{◌≡◌, ◌∙◌, sym, ap, [], length, slice_index_or}
use Rattle.edge_state.specs.ChainWeights.{list_number}
use Rattle.orientation_rules.proofs.PropagatedWeights.{written_beside, written_here, written_other}
use Rattle.orientation_rules.proofs.FollowedChanges.{written_if}
use Rattle.orientation_rules.proofs.fresh_weights.write_one.Goals as goal

pub returns-clause-written : goal.returns-clause-written
returns-clause-written c =
    let on = written_if c.write.result _ _ c.write.ensures.full c.requires.small c.requires.room in
    let count : length (slice_index_or c.args.weights.now.numbers (list_number c.args.direction c.args.dim) []) ≡ 128
    = ap length (sym c.weights-sizes.ensures.value) ∙ c.weights-sizes.ensures.count in
    written_here c.args.weights.now.numbers c.write.new.self.numbers (list_number c.args.direction c.args.dim) c.args.v
    c.args.weight (c.write.ensures.written on) count c.requires.v

pub returns-clause-beside : goal.returns-clause-beside
returns-clause-beside c =
    let on = written_if c.write.result _ _ c.write.ensures.full c.requires.small c.requires.room in
    let count : length (slice_index_or c.args.weights.now.numbers (list_number c.args.direction c.args.dim) []) ≡ 128
    = ap length (sym c.weights-sizes.ensures.value) ∙ c.weights-sizes.ensures.count in
    written_beside c.args.weights.now.numbers c.write.new.self.numbers (list_number c.args.direction c.args.dim)
    c.args.v c.args.weight (c.write.ensures.written on) count

pub returns-clause-other : goal.returns-clause-other
returns-clause-other c =
    let on = written_if c.write.result _ _ c.write.ensures.full c.requires.small c.requires.room in
    let count : length (slice_index_or c.args.weights.now.numbers (list_number c.args.direction c.args.dim) []) ≡ 128
    = ap length (sym c.weights-sizes.ensures.value) ∙ c.weights-sizes.ensures.count in
    written_other c.args.weights.now.numbers c.write.new.self.numbers (list_number c.args.direction c.args.dim) c.args.v
    c.args.weight (c.write.ensures.written on) count

pub returns-clause-logged : goal.returns-clause-logged
returns-clause-logged c =
    (c.write.ensures.logged (written_if c.write.result _ _ c.write.ensures.full c.requires.small c.requires.room)).0
