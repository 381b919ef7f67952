use Rattle.std.proofs.Common.{◌+◌, ◌∙◌, sym, Bool, ℕ, arith, rules, nat_lt, refl, slice_index}
use Rattle.packing_terms.specs.declared.Direction.TheVariants.{Forwards, Backwards}
use Rattle.edge_state.specs.ChainWeights.{weights_in}
use Rattle.packing_terms.specs.Packing.{container_side}
use Rattle.packing_terms.specs.Exclusions.{excludes}
use Rattle.packing_terms.specs.declared.Rel.TheVariants.{After}
use Rattle.std.proofs.lemmas.Bool.{and_parts, ltb-true}
use Rattle.edge_state.specs.BitRows.{row_has}
use Rattle.edge_state.proofs.Passes.{pass_as}
use Rattle.rule_passes.proofs.ChainRows.{member, edge, is_far, no_row, whole_row, empty_row, column_checked, column_follow}
use Rattle.rule_passes.proofs.chains.shut_to.Goals as goal

pub returns-then-is_empty-clause-pass : goal.returns-then-is_empty-clause-pass
returns-then-is_empty-clause-pass g c =
    let far : ℕ → Bool = λ u. nat_lt (container_side c.args.instance.now c.args.dim) (slice_index (weights_in c.args.weights.now.numbers Backwards c.args.dim) u
    + slice_index (weights_in c.args.weights.now.numbers Forwards c.args.dim) c.args.v) in
    pass_as _ _ _ _ _ (λ es. column_checked c.args.instance.now c.args.dim _ _ _ refl c.args.v es)
    (no_row c.args.instance.now c.args.state.now c.args.dim c.args.v After (row_has c.row_in-after.result) far
    (row_has c.find_over_long_to-over_long.result) c.requires.sizes c.requires.v c.row_in-after.ensures
    c.find_over_long_to-over_long.ensures (c.is_empty.ensures.none c.if-is_empty.true))

pub exclude_row-requires : goal.exclude_row-requires
exclude_row-requires g c =
    let far : ℕ → Bool = λ u. nat_lt (container_side c.args.instance.now c.args.dim) (slice_index (weights_in c.args.weights.now.numbers Backwards c.args.dim) u
    + slice_index (weights_in c.args.weights.now.numbers Forwards c.args.dim) c.args.v) in (
      search rules,
      (
        rw (← c.requires.sizes.same_boxes) at c.requires.words,
        (
          omega (arith, c.requires.sizes.there, c.requires.sizes.same_dims),
          (
            omega (arith, c.requires.v, c.requires.sizes.same_boxes),
            member c.args.instance.now c.args.state.now c.args.dim c.args.v After (row_has c.row_in-after.result) far
                (row_has c.find_over_long_to-over_long.result) c.requires.sizes c.requires.v c.row_in-after.ensures
                c.find_over_long_to-over_long.ensures,
          ),
        ),
      ),
    )

pub returns-clause-pass : goal.returns-clause-pass
returns-clause-pass g c =
    let instance = c.args.instance.now in
    let far : ℕ → Bool = λ u. nat_lt (container_side c.args.instance.now c.args.dim) (slice_index (weights_in c.args.weights.now.numbers Backwards c.args.dim) u
    + slice_index (weights_in c.args.weights.now.numbers Forwards c.args.dim) c.args.v) in
    let row = row_has c.row_in-after.result in
    let out = row_has c.find_over_long_to-over_long.result in
    let there = edge instance c.args.state.now c.args.dim c.args.v After row far out c.requires.sizes c.requires.v
    c.row_in-after.ensures c.find_over_long_to-over_long.ensures in
    let wide = is_far instance c.args.state.now c.args.dim c.args.v After row far out c.requires.sizes c.requires.v
    c.row_in-after.ensures c.find_over_long_to-over_long.ensures in
    pass_as _ _ _ _ _ (λ es. column_checked instance c.args.dim _ _ _ refl c.args.v es)
    (whole_row instance c.args.state.now c.args.dim c.args.v After row far out c.requires.sizes c.requires.v
    c.row_in-after.ensures c.find_over_long_to-over_long.ensures _
    (λ u on. column_follow instance c.args.dim _ _ _ refl (excludes c.args.state.now.trail) c.requires.heads
    c.requires.tails c.args.v u (there u on) (wide u on)) c.exclude_row.ensures.state)

pub returns-clause-empty : goal.returns-clause-empty
returns-clause-empty g c is =
    let far : ℕ → Bool = λ u. nat_lt (container_side c.args.instance.now c.args.dim) (slice_index (weights_in c.args.weights.now.numbers Backwards c.args.dim) u
    + slice_index (weights_in c.args.weights.now.numbers Forwards c.args.dim) c.args.v) in
    empty_row c.args.instance.now c.args.state.now c.args.dim c.args.v After (row_has c.row_in-after.result) far
    (row_has c.find_over_long_to-over_long.result) c.requires.sizes c.requires.v c.row_in-after.ensures
    c.find_over_long_to-over_long.ensures _ (c.exclude_row.ensures.empty is)

pub find_over_long_to-over_long-requires : goal.find_over_long_to-over_long-requires
find_over_long_to-over_long-requires g c =
    let few = c.dims-sizes.ensures.limits.boxes.1 in (
      search rules,
      (
        c.requires.words.0,
        (
          c.requires.sizes.there,
          (
            omega (arith, few, c.requires.v, c.requires.sizes.same_boxes),
            λ x on. (let there = ltb-true x c.args.state.now.boxes
                (and_parts _ _ (and_parts _ _ (sym (c.row_in-after.ensures x) ∙ on)).0).0 in
                omega (arith, there, few)),
          ),
        ),
      ),
    )
