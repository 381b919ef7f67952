use Rattle.std.proofs.Common.{◌≡◌, sym, refl, subst, List, ℕ, arith, rules}
use Rattle.packing_terms.specs.declared.Direction.TheVariants.{Forwards, Backwards}
use Rattle.packing_terms.specs.Packing.{box_count, side}
use Rattle.packing_terms.specs.Exclusions.{excludes}
use Rattle.packing_terms.specs.Runs.{Leads}
use Rattle.edge_state.specs.ChainWeights.{AreWalks, list_number, weights_in}
use Rattle.orientation_rules.proofs.PropagatedWeights.{linked_same}
use Rattle.orientation_rules.proofs.rising.link.Goals as goal

pub link_one-requires-2 : goal.link_one-requires-2
link_one-requires-2 g c =
    let same : weights_in c.link_one.new.weights.numbers Forwards c.args.dim
    ≡ weights_in c.args.weights.now.numbers Forwards c.args.dim
    = c.link_one.ensures.other (list_number Forwards c.args.dim) (λ e. absurd (omega (arith, e))) in (
      search rules,
      (
        c.len-count.ensures.limits,
        (
          c.requires.words,
          (
            c.requires.dims,
            (
              c.requires.boxes,
              (
                c.requires.dim,
                (
                  c.requires.a,
                  (
                    c.requires.b,
                    (
                      c.requires.distinct,
                      (
                        c.requires.ordered,
                        (
                          c.requires.all,
                          subst
                              (λ (ks : List ℕ). AreWalks (box_count c.args.instance.now)
                              (Leads (excludes c.args.state.now.trail) c.args.dim Forwards)
                              (λ u. side c.args.instance.now u c.args.dim) ks)
                              (sym same) c.requires.tails,
                        ),
                      ),
                    ),
                  ),
                ),
              ),
            ),
          ),
        ),
      ),
    )

pub returns-clause-linked : goal.returns-clause-linked
returns-clause-linked g c =
    let first : weights_in c.link_one.new.weights.numbers Forwards c.args.dim
    ≡ weights_in c.args.weights.now.numbers Forwards c.args.dim
    = c.link_one.ensures.other (list_number Forwards c.args.dim) (λ e. absurd (omega (arith, e))) in
    let second : weights_in c.link_one-2.new.weights.numbers Backwards c.args.dim
    ≡ weights_in c.link_one.new.weights.numbers Backwards c.args.dim
    = c.link_one-2.ensures.other (list_number Backwards c.args.dim) (λ e. absurd (omega (arith, e))) in
    record {
      first = linked_same c.args.instance.now c.args.state.now c.args.dim Backwards c.args.weights.now.numbers
          c.link_one.new.weights.numbers c.args.weights.now.numbers c.link_one-2.new.weights.numbers _ c.args.b c.args.a
          refl second c.in_ok-heads.ensures.linked;
      second = linked_same c.args.instance.now c.args.state.now c.args.dim Forwards c.link_one.new.weights.numbers
          c.link_one-2.new.weights.numbers c.args.weights.now.numbers c.link_one-2.new.weights.numbers _ c.args.a c.args.b
          (sym first) refl c.in_ok-tails.ensures.linked;
    }
