use Rattle.std.proofs.Common.{◌≡◌, ◌∙◌, ◌<◌, sym, ap, arith, List, map}
use Rattle.packing_terms.specs.Tokens.{PlainToken}
use Rattle.tree_terms.specs.Levels.{RefutedBy}
use Rattle.proof_tree.specs.Plain.{plain_token}
use Rattle.level_search.specs.Bounds.{plain_bounds, narrowed}
use Rattle.proposed_answers.specs.Values.{value_at}
use Rattle.proposed_answers.proofs.Trees.{passed, tree_lowers}
use Rattle.proposed_answers.proofs.upper.lowered.Goals as goal

pub returns : goal.returns
returns c =
    let t = c.requires.top in
    let e = c.saturating_sub-level.ensures in
    let m = c.if-level-bounds.false in
    let l = c.if-bounds-level.false in
    let w = c.if-top-limit.false in
    let above : c.args.bounds.refuted < c.saturating_sub-level.result = omega (arith, m) in
    let below : c.saturating_sub-level.result < c.args.bounds.lowest = omega (arith, l) in
    let value : value_at c.args.instance.now c.saturating_sub-level.result ≡ c.in-Some.limit.value
    = omega (arith, t, e, w) in
    tree_lowers c.args.instance.now (plain_bounds c.args.bounds) c.requires.bounds c.saturating_sub-level.result
    c.in-Some.limit.value above below value (map plain_token c.deref.result.now)
    (passed c.args.instance.now c.in-Some.limit.value (map plain_token c.deref.result.now)
    c.in_ok-is_value_refutation.field-0 c.in_ok-is_value_refutation.ensures c.if-not-branch.false)
    (plain_bounds c.after.result)
    (c.after.ensures
    ∙ ap (λ (ts : List PlainToken). narrowed (plain_bounds c.args.bounds) c.saturating_sub-level.result (RefutedBy ts))
    (c.in_ok-tokens.ensures ∙ ap (map plain_token) (c.deref-2.ensures.value ∙ sym c.deref.ensures.value)))
