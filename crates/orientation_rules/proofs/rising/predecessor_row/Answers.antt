use Rattle.std.proofs.Common.{subst}
use Rattle.packing_terms.specs.declared.Direction.{Direction}
use Rattle.packing_terms.specs.declared.Rel.TheVariants.{Before, After}
use Rattle.packing_terms.specs.Exclusions.{excludes}
use Rattle.packing_terms.specs.Runs.{Leads}
use Rattle.edge_state.specs.BitRows.{row_has}
use Rattle.orientation_rules.proofs.PropagatedWeights.{predecessor, led_by, leads_on, no_predecessor}
use Rattle.orientation_rules.proofs.rising.predecessor_row.Goals as goal
use Rattle.orientation_rules.proofs.rising.predecessor_row.Goals.{in-Forwards, in-Backwards}

pub returns-clause-leads : goal.returns-clause-leads
returns-clause-leads g c v on =
    let n = c.args.state.now.boxes in
    let es = c.args.state.now.trail in
    elim c.match-direction.branch [
      | in-Forwards w ↦ (let h = predecessor n c.args.dim c.args.x es Before (row_has c.args.all) (row_has c.row_in-near.result)
          (row_has c.match-direction.back) (row_has c.minus.result) (row_has c.minus-2.result) (row_has c.without.result)
          c.requires.all c.row_in-near.ensures (rw w.back-is w.row_in-back.ensures) c.minus.ensures c.minus-2.ensures
          c.without.ensures v on in
          (h.1, rw w.in-Forwards.is (leads_on es c.args.dim v c.args.x h.2 h.3)))
      | in-Backwards w ↦ (let h = predecessor n c.args.dim c.args.x es After (row_has c.args.all) (row_has c.row_in-near.result)
          (row_has c.match-direction.back) (row_has c.minus.result) (row_has c.minus-2.result) (row_has c.without.result)
          c.requires.all c.row_in-near.ensures (rw w.back-is w.row_in-back-in-Backwards.ensures) c.minus.ensures c.minus-2.ensures
          c.without.ensures v on in
          (h.1, rw w.in-Backwards.is (h.2, h.3)))
    ]

pub returns-clause-all : goal.returns-clause-all
returns-clause-all g c v small off ne lead =
    let n = c.args.state.now.boxes in
    let es = c.args.state.now.trail in
    elim c.match-direction.branch [
      | in-Forwards w ↦ (let h = led_by es c.args.dim v c.args.x
          (subst (λ (d : Direction). Leads (excludes es) c.args.dim d v c.args.x) w.in-Forwards.is lead) in
          no_predecessor n c.args.dim c.args.x es Before (row_has c.args.all) (row_has c.row_in-near.result)
          (row_has c.match-direction.back) (row_has c.minus.result) (row_has c.minus-2.result) (row_has c.without.result)
          c.requires.all c.row_in-near.ensures (rw w.back-is w.row_in-back.ensures) c.minus.ensures c.minus-2.ensures
          c.without.ensures v small off ne h.0 h.1)
      | in-Backwards w ↦ (let h =
          subst (λ (d : Direction). Leads (excludes es) c.args.dim d v c.args.x) w.in-Backwards.is lead in
          no_predecessor n c.args.dim c.args.x es After (row_has c.args.all) (row_has c.row_in-near.result)
          (row_has c.match-direction.back) (row_has c.minus.result) (row_has c.minus-2.result) (row_has c.without.result)
          c.requires.all c.row_in-near.ensures (rw w.back-is w.row_in-back-in-Backwards.ensures) c.minus.ensures c.minus-2.ensures
          c.without.ensures v small off ne h.0 h.1)
    ]
