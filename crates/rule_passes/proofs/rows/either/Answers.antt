use Rattle.packing_terms.specs.Packing.{box_count}
use Rattle.packing_terms.specs.Exclusions.{excludes}
use Rattle.edge_state.proofs.Filters.{either_within, either_shut, either_some}
use Rattle.rule_passes.proofs.RowStates.{either_other}
use Rattle.rule_passes.proofs.rows.either.Goals as goal

pub returns-clause-within : goal.returns-clause-within
returns-clause-within g c v on =
    either_within (box_count c.args.instance.now) c.args.u v _ _ _ _ _
    ((rw c.requires.sizes.same_boxes at c.row_in-one.ensures) v)
    ((rw c.requires.sizes.same_boxes at c.row_in-other.ensures) v) (c.or.ensures v) on

pub returns-clause-other : goal.returns-clause-other
returns-clause-other g c v on =
    either_other (box_count c.args.instance.now) c.args.u v _ _ _ _ _
    ((rw c.requires.sizes.same_boxes at c.row_in-one.ensures) v)
    ((rw c.requires.sizes.same_boxes at c.row_in-other.ensures) v) (c.or.ensures v) on

pub returns-clause-excluded : goal.returns-clause-excluded
returns-clause-excluded g c v small ne off =
    either_shut (box_count c.args.instance.now) c.args.dim c.args.u v (excludes c.args.state.now.trail) c.args.first
    c.args.second _ _ _ small ne ((rw c.requires.sizes.same_boxes at c.row_in-one.ensures) v)
    ((rw c.requires.sizes.same_boxes at c.row_in-other.ensures) v) (c.or.ensures v) off

pub returns-clause-some : goal.returns-clause-some
returns-clause-some g c v on one other =
    either_some (box_count c.args.instance.now) c.args.dim c.args.u v (excludes c.args.state.now.trail) c.args.first
    c.args.second _ _ _ ((rw c.requires.sizes.same_boxes at c.row_in-one.ensures) v)
    ((rw c.requires.sizes.same_boxes at c.row_in-other.ensures) v) (c.or.ensures v) on one other
