use Rattle.std.proofs.Common.{◌≡◌, ◌≢◌, ◌≤◌, ◌+◌, ◌-◌, ◌∙◌, refl, sym, subst, arith, length, rules}
use Rattle.std.proofs.lemmas.Bool.{true≢false, eqb-true, eq-eqb}
use Rattle.packing_terms.specs.Packing.{PlainInstance}
use Rattle.packing_terms.specs.Limits.{IsInternalInstance}
use Rattle.proof_tree.specs.Plain.{plain_token}
use Rattle.refutation_check.proofs.Feeding.{over, splits_within, splits_few, held_refused, step_refused, split_fits}
use Rattle.refutation_check.proofs.Feeding.{nodes_fit, held_accepted, step_accepted, same_node, fed_seen, judged_parent}
use Rattle.refutation_check.proofs.Feeding.{put_children, answered_empty, answered_more}
use Rattle.refutation_check.proofs.refuter.Refuter.feed.Goals.{then-is_empty-2, else-is_empty-2}
use Rattle.refutation_check.proofs.refuter.Refuter.feed.Goals as goal

pub judge-found-requires-clause-over : goal.judge-found-requires-clause-over
judge-found-requires-clause-over c =
    let last : c.len-last.result - 1 + 1 ≡ length c.self.inside.nodes.items = search rules in
    rw c.instance-2.ensures (over _ _ _ _ _ _ _ _ _ refl c.self.invariant (c.len-last.result - 1) last
    c.index-node.result.now c.index-node.ensures)

pub invariant_of-self-in-Some-found : goal.invariant_of-self-in-Some-found
invariant_of-self-in-Some-found c =
    let last : c.len-last.result - 1 + 1 ≡ length c.self.inside.nodes.items = search rules in
    let judged = rw c.instance-2.ensures at c.judge-found.ensures.judged in
    held_refused _ _ _ _ _ _ _ _ _ refl c.self.invariant (c.len-last.result - 1) last c.index-node.result.now
    c.index-node.ensures
    _ c.judge-found.ensures.sizes _ c.judge-found.ensures.room _ _ judged

pub returns-in-Some-found-clause-step : goal.returns-in-Some-found-clause-step
returns-in-Some-found-clause-step c =
    let last : c.len-last.result - 1 + 1 ≡ length c.self.inside.nodes.items = search rules in
    let judged = rw c.instance-2.ensures at c.judge-found.ensures.judged in
    fed_seen _ _ _ (plain_token c.args.token.now) c.self.view_is
    (rw c.in_default.is (step_refused _ _ _ _ _ _ _ _ _ refl c.self.invariant (c.len-last.result - 1) last
    c.index-node.result.now c.index-node.ensures
    _ c.judge-found.ensures.sizes _ c.judge-found.ensures.room (plain_token c.args.token.now) _ judged
    c.in-Some-found.code c.in-Some-found.is))

pub replace-requires-clause-within : goal.replace-requires-clause-within
replace-requires-clause-within c =
    let last : c.len-last.result - 1 + 1 ≡ length c.self.inside.nodes.items = search rules in
    splits_within _ _ _ _ _ _ _ _ _ refl c.self.invariant (c.len-last.result - 1) last c.index-parent.result.now
    c.index-parent.ensures

pub replace-requires-clause-few : goal.replace-requires-clause-few
replace-requires-clause-few c =
    let last : c.len-last.result - 1 + 1 ≡ length c.self.inside.nodes.items = search rules in
    splits_few _ _ _ _ _ _ _ _ _ refl c.self.invariant (c.len-last.result - 1) last c.index-parent.result.now
    c.index-parent.ensures
    (subst (λ (i : PlainInstance). IsInternalInstance i) c.instance.ensures c.dims-dims.ensures.limits)

pub replace-requires-clause-split_room : goal.replace-requires-clause-split_room
replace-requires-clause-split_room c s =
    let last : c.len-last.result - 1 + 1 ≡ length c.self.inside.nodes.items = search rules in
    let same = same_node c.self.inside.nodes.items (c.len-last.result - 1) _ _ (omega (arith, last))
    c.index-node.ensures c.index-parent.ensures in
    let judged = judged_parent _ _ _ _ _ _ _ same c.in_default-found.is
    (rw c.instance-2.ensures at c.judge-found.ensures.judged) in
    split_fits _ _ _ _ _ _ _ _ _ refl c.self.invariant (c.len-last.result - 1) last c.index-parent.result.now
    c.index-parent.ensures
    _ c.judge-found.ensures.sizes _ c.judge-found.ensures.room _ judged s

pub replace-requires-clause-node_room : goal.replace-requires-clause-node_room
replace-requires-clause-node_room c s =
    let last : c.len-last.result - 1 + 1 ≡ length c.self.inside.nodes.items = search rules in
    let same = same_node c.self.inside.nodes.items (c.len-last.result - 1) _ _ (omega (arith, last))
    c.index-node.ensures c.index-parent.ensures in
    let judged = judged_parent _ _ _ _ _ _ _ same c.in_default-found.is
    (rw c.instance-2.ensures at c.judge-found.ensures.judged) in
    let fits = nodes_fit _ _ _ _ _ _ _ _ _ refl c.self.invariant (c.len-last.result - 1) last c.index-parent.result.now
    c.index-parent.ensures
    _ c.judge-found.ensures.sizes _ c.judge-found.ensures.room _ judged s in
    let few : length c.truncate.new.self.items ≤ c.len-last.result - 1 = search rules in
    omega (arith, fits, few, c.truncate.ensures.capacity)

pub invariant_of-self-2 : goal.invariant_of-self-2
invariant_of-self-2 c =
    let last : c.len-last.result - 1 + 1 ≡ length c.self.inside.nodes.items = search rules in
    let same = same_node c.self.inside.nodes.items (c.len-last.result - 1) _ _ (omega (arith, last))
    c.index-node.ensures c.index-parent.ensures in
    let judged = judged_parent _ _ _ _ _ _ _ same c.in_default-found.is
    (rw c.instance-2.ensures at c.judge-found.ensures.judged) in
    held_accepted _ _ _ _ _ _ _ _ _ refl c.self.invariant (c.len-last.result - 1) last c.index-parent.result.now
    c.index-parent.ensures
    _ c.judge-found.ensures.sizes _ c.judge-found.ensures.room _ judged _ c.replace.ensures.splits _
    (put_children c.self.inside.nodes.items _ c.replace.new.nodes.items (c.len-last.result - 1) _ _ _ _
    c.replace.ensures.nodes c.truncate.ensures.items c.mark-mark.ensures) _ _ c.replace.ensures.split_capacity
    (c.replace.ensures.node_capacity ∙ c.truncate.ensures.capacity)

pub returns-clause-step : goal.returns-clause-step
returns-clause-step c =
    let last : c.len-last.result - 1 + 1 ≡ length c.self.inside.nodes.items = search rules in
    let same = same_node c.self.inside.nodes.items (c.len-last.result - 1) _ _ (omega (arith, last))
    c.index-node.ensures c.index-parent.ensures in
    let judged = judged_parent _ _ _ _ _ _ _ same c.in_default-found.is
    (rw c.instance-2.ensures at c.judge-found.ensures.judged) in
    fed_seen _ _ _ (plain_token c.args.token.now) c.self.view_is
    (rw c.in_default.is (step_accepted _ _ _ _ _ _ _ _ _ refl c.self.invariant (c.len-last.result - 1) last
    c.index-parent.result.now c.index-parent.ensures
    _ c.judge-found.ensures.sizes _ c.judge-found.ensures.room (plain_token c.args.token.now) judged _
    c.replace.ensures.splits c.replace.new.nodes.items
    (put_children c.self.inside.nodes.items _ c.replace.new.nodes.items (c.len-last.result - 1) _ _ _ _
    c.replace.ensures.nodes c.truncate.ensures.items c.mark-mark.ensures)))

pub returns-clause-answer : goal.returns-clause-answer
returns-clause-answer c =
    elim c.if-is_empty-2.branch [
      | then-is_empty-2 w ↦
          let none : length c.replace.new.nodes.items ≡ 0 =
          sym c.replace.new.nodes.ok.0 ∙ eqb-true _ 0 (sym c.is_empty-2.ensures ∙ w.if-is_empty-2.true) in
          w.result-is ∙ rw c.in_default.is (answered_empty _ _ c.replace.new.nodes.items none)
      | else-is_empty-2 w ↦
          let some : length c.replace.new.nodes.items ≢ 0
          = (λ e. true≢false (sym (eq-eqb _ 0 (c.replace.new.nodes.ok.0 ∙ e))
          ∙ (sym c.is_empty-2.ensures ∙ w.if-is_empty-2.false))) in
          w.result-is ∙ rw c.in_default.is (answered_more _ _ c.replace.new.nodes.items some)
    ]
