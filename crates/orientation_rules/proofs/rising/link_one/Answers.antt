use Rattle.std.proofs.Common.{◌<◌, ap, ℕ, List, arith, rules, slice_index}
use Rattle.packing_terms.specs.Packing.{box_count, side}
use Rattle.packing_terms.specs.Exclusions.{excludes}
use Rattle.packing_terms.specs.Runs.{Leads}
use Rattle.edge_state.specs.ChainWeights.{weights_in}
use Rattle.orientation_rules.proofs.PropagatedWeights.{walk_by}
use Rattle.orientation_rules.proofs.rising.link_one.Goals as goal

pub raise_and_propagate-requires : goal.raise_and_propagate-requires
raise_and_propagate-requires g c =
    let n = box_count c.args.instance.now in
    let R = Leads (excludes c.args.state.now.trail) c.args.dim c.args.direction in
    let w = λ (u : ℕ). side c.args.instance.now u c.args.dim in
    let hx : c.args.x < n = omega (arith, c.requires.x, c.requires.boxes) in
    let read = ap (λ (ks : List ℕ). slice_index ks c.args.x) c.weights.ensures.value in (
      search rules,
      (
        c.requires.limits,
        (
          c.requires.words,
          (
            c.requires.dims,
            (
              c.requires.boxes,
              (
                c.requires.dim,
                (
                  c.requires.v,
                  (
                    c.requires.all,
                    (
                      walk_by n R w c.args.v c.args.x
                          (slice_index (weights_in c.args.weights.now.numbers c.args.direction c.args.dim) c.args.x) _
                          (omega (arith, c.requires.v, c.requires.boxes)) c.requires.distinct c.requires.leads
                          (c.requires.walks c.args.x hx) (omega (arith, read, c.side.ensures)),
                      c.requires.walks,
                    ),
                  ),
                ),
              ),
            ),
          ),
        ),
      ),
    )
