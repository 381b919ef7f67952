use Rattle.std.proofs.Common.{◌<◌, ◌≤◌, ◌+◌, ◌*◌, ◌∙◌, ℕ, sym, arith, rules, slice_index}
use Rattle.packing_terms.specs.Packing.{box_count, side}
use Rattle.packing_terms.specs.Exclusions.{excludes}
use Rattle.packing_terms.specs.Runs.{Leads}
use Rattle.edge_state.specs.BitRows.{row_has}
use Rattle.edge_state.specs.ChainWeights.{weights_in}
use Rattle.edge_state.proofs.RowBits.{members_fewer}
use Rattle.orientation_rules.proofs.PropagatedWeights.{history_next, least_trans, led_next, left_part, raised_next, walk_by}
use Rattle.orientation_rules.proofs.rising.propagate_from.Goals as goal

pub raise_to-requires : goal.raise_to-requires
raise_to-requires g c =
    let n = box_count c.args.instance.now in
    let R = Leads (excludes c.args.state.now.trail) c.args.dim c.args.direction in
    let w = λ (u : ℕ). side c.args.instance.now u c.args.dim in
    let i = c.loop-v.invariant in
    let v = c.in-Some.v in
    let there = c.in-Some.ensures.least.there in
    let hv = i.within v there in
    let lead = i.leads v there in
    let hx : c.args.x < n = omega (arith, c.requires.x, c.requires.boxes) in (
      search rules,
      (
        c.requires.limits,
        (
          c.requires.words,
          (
            c.requires.dims,
            (
              c.requires.boxes,
              (
                c.requires.dim,
                (
                  hv,
                  walk_by n R w v c.args.x (slice_index (weights_in c.loop-v.weights.numbers c.args.direction c.args.dim) c.args.x) _
                      (omega (arith, hv, c.requires.boxes)) lead.0 lead.1 (i.raised.walks c.requires.walks c.args.x hx)
                      (omega (arith, i.same, c.side.ensures)),
                ),
              ),
            ),
          ),
        ),
      ),
    )

pub loop-v-smaller : goal.loop-v-smaller
loop-v-smaller g c =
    members_fewer (row_has c.loop-v.row) (row_has c.without-row.result) c.in-Some.v (64 * g.row.K)
    c.without-row.ensures c.in-Some.ensures.least.there c.in-Some.ensures.limit

pub loop-v-preserved : goal.loop-v-preserved
loop-v-preserved g c =
    let n = box_count c.args.instance.now in
    let R = Leads (excludes c.args.state.now.trail) c.args.dim c.args.direction in
    let w = λ (u : ℕ). side c.args.instance.now u c.args.dim in
    let i = c.loop-v.invariant in
    let v = c.in-Some.v in
    let lead = i.leads v c.in-Some.ensures.least.there in
    let row = row_has c.loop-v.row in
    let left = row_has c.without-row.result in
    let old = weights_in c.loop-v.weights.numbers c.args.direction c.args.dim in
    let new = weights_in c.raise_to.new.weights.numbers c.args.direction c.args.dim in
    let here : side c.args.instance.now v c.args.dim + slice_index old c.args.x ≤ slice_index new v
    = omega (arith, c.in_ok-raise_to.ensures.enough, i.same, c.side.ensures) in
    record {
      history = history_next _ _ _ i.history c.raise_to.ensures.history;
      other = λ list ne. c.raise_to.ensures.other list ne ∙ i.other list ne;
      raised = raised_next _ _ _ _ _ _ _ _ _ _ _ _ _ i.raised c.in_ok-raise_to.ensures.raised;
      same = c.raise_to.ensures.beside c.args.x (λ e. lead.0 (sym e)) ∙ i.same;
      settled = led_next n R w old new v c.args.x row left c.without-row.ensures lead.0 c.raise_to.ensures.beside
          i.settled here;
      within = λ u on. i.within u (left_part row left v c.without-row.ensures u on);
      leads = λ u on. i.leads u (left_part row left v c.without-row.ensures u on);
      fewer = least_trans _ _ _ c.in_ok-raise_to.ensures.fewer i.fewer;
    }

pub returns-clause-settled : goal.returns-clause-settled
returns-clause-settled g c v hv = c.loop-v.invariant.settled v hv (c.in_default.ensures.least v)
