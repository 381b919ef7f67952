use Rattle.std.proofs.Common.{◌+◌, ◌∙◌, sym, Bool, ℕ, arith, rules, nat_lt, refl, slice_index}
use Rattle.packing_terms.specs.declared.Direction.TheVariants.{Forwards, Backwards}
use Rattle.edge_state.specs.ChainWeights.{weights_in}
use Rattle.packing_terms.specs.Packing.{container_side}
use Rattle.packing_terms.specs.Exclusions.{excludes}
use Rattle.packing_terms.specs.declared.Rel.TheVariants.{Before}
use Rattle.std.proofs.lemmas.Bool.{and_parts, ltb-true}
use Rattle.edge_state.specs.BitRows.{row_has}
use Rattle.edge_state.proofs.Passes.{pass_as}
use Rattle.rule_passes.proofs.ChainRows.{member, edge, is_far, no_row, whole_row, empty_row, row_checked, row_follow}
use Rattle.rule_passes.proofs.chains.shut_from.Goals as goal

pub returns-then-is_empty-clause-pass : goal.returns-then-is_empty-clause-pass
returns-then-is_empty-clause-pass g c =
    let far : ℕ → Bool = λ v. nat_lt (container_side c.args.instance.now c.args.dim) (slice_index (weights_in c.args.weights.now.numbers Backwards c.args.dim) c.args.u
    + slice_index (weights_in c.args.weights.now.numbers Forwards c.args.dim) v) in
    pass_as _ _ _ _ _ (λ es. row_checked c.args.instance.now c.args.dim _ _ _ refl c.args.u es)
    (no_row c.args.instance.now c.args.state.now c.args.dim c.args.u Before (row_has c.row_in-before.result) far
    (row_has c.find_over_long-over_long.result) c.requires.sizes c.requires.u c.row_in-before.ensures
    c.find_over_long-over_long.ensures (c.is_empty.ensures.none c.if-is_empty.true))

pub exclude_row-requires : goal.exclude_row-requires
exclude_row-requires g c =
    let far : ℕ → Bool = λ v. nat_lt (container_side c.args.instance.now c.args.dim) (slice_index (weights_in c.args.weights.now.numbers Backwards c.args.dim) c.args.u
    + slice_index (weights_in c.args.weights.now.numbers Forwards c.args.dim) v) in (
      search rules,
      (
        rw (← c.requires.sizes.same_boxes) at c.requires.words,
        (
          omega (arith, c.requires.sizes.there, c.requires.sizes.same_dims),
          (
            omega (arith, c.requires.u, c.requires.sizes.same_boxes),
            member c.args.instance.now c.args.state.now c.args.dim c.args.u Before (row_has c.row_in-before.result) far
                (row_has c.find_over_long-over_long.result) c.requires.sizes c.requires.u c.row_in-before.ensures
                c.find_over_long-over_long.ensures,
          ),
        ),
      ),
    )

pub returns-clause-pass : goal.returns-clause-pass
returns-clause-pass g c =
    let instance = c.args.instance.now in
    let far : ℕ → Bool = λ v. nat_lt (container_side c.args.instance.now c.args.dim) (slice_index (weights_in c.args.weights.now.numbers Backwards c.args.dim) c.args.u
    + slice_index (weights_in c.args.weights.now.numbers Forwards c.args.dim) v) in
    let row = row_has c.row_in-before.result in
    let out = row_has c.find_over_long-over_long.result in
    let there = edge instance c.args.state.now c.args.dim c.args.u Before row far out c.requires.sizes c.requires.u
    c.row_in-before.ensures c.find_over_long-over_long.ensures in
    let wide = is_far instance c.args.state.now c.args.dim c.args.u Before row far out c.requires.sizes c.requires.u
    c.row_in-before.ensures c.find_over_long-over_long.ensures in
    pass_as _ _ _ _ _ (λ es. row_checked instance c.args.dim _ _ _ refl c.args.u es)
    (whole_row instance c.args.state.now c.args.dim c.args.u Before row far out c.requires.sizes c.requires.u
    c.row_in-before.ensures c.find_over_long-over_long.ensures _
    (λ v on. row_follow instance c.args.dim _ _ _ refl (excludes c.args.state.now.trail) c.requires.heads
    c.requires.tails c.args.u v (there v on) (wide v on)) c.exclude_row.ensures.state)

pub returns-clause-empty : goal.returns-clause-empty
returns-clause-empty g c is =
    let far : ℕ → Bool = λ v. nat_lt (container_side c.args.instance.now c.args.dim) (slice_index (weights_in c.args.weights.now.numbers Backwards c.args.dim) c.args.u
    + slice_index (weights_in c.args.weights.now.numbers Forwards c.args.dim) v) in
    empty_row c.args.instance.now c.args.state.now c.args.dim c.args.u Before (row_has c.row_in-before.result) far
    (row_has c.find_over_long-over_long.result) c.requires.sizes c.requires.u c.row_in-before.ensures
    c.find_over_long-over_long.ensures _ (c.exclude_row.ensures.empty is)

pub find_over_long-over_long-requires : goal.find_over_long-over_long-requires
find_over_long-over_long-requires g c =
    let few = c.dims-sizes.ensures.limits.boxes.1 in (
      search rules,
      (
        c.requires.words.0,
        (
          c.requires.sizes.there,
          (
            omega (arith, few, c.requires.u, c.requires.sizes.same_boxes),
            λ x on. (let there = ltb-true x c.args.state.now.boxes
                (and_parts _ _ (and_parts _ _ (sym (c.row_in-before.ensures x) ∙ on)).0).0 in
                omega (arith, there, few)),
          ),
        ),
      ),
    )
