use Rattle.std.proofs.Common.{◌≡◌, ◌+◌, ◌-◌, ◌<◌, ◌∙◌, ℕ, refl, ap, subst, arith, length, IfOk, []}
use Rattle.std.proofs.lemmas.List.{get_or_default}
use Rattle.packing_terms.specs.Packing.{PlainInstance, dims}
use Rattle.packing_terms.specs.Goals.{subset}
use Rattle.tree_terms.specs.Trees.{outcome, under_budget}
use Rattle.tree_terms.specs.ClassTree.{class_tree}
use Rattle.work_share.specs.Outcomes.{plain_outcome}
use Rattle.box_instances.proofs.BoxSets.{set_few}
use Rattle.set_search.specs.Searches.{no_closer}
use Rattle.set_search.proofs.search.SetSearch.decide_anew.Goals as goal

pub overflow_cast-boxes : goal.overflow_cast-boxes
overflow_cast-boxes c =
    let v = c.self.view_is in
    let few = set_few _ _ (rw (← v) at c.requires.set) in
    let most = c.len-limits.ensures.limits.boxes.count.1 in
    omega (arith, few, most)

pub ensure_closers-requires-clause-few : goal.ensure_closers-requires-clause-few
ensure_closers-requires-clause-few c =
    let v = c.self.view_is in
    let few = set_few _ _ (rw (← v) at c.requires.set) in
    let most = c.len-limits.ensures.limits.boxes.count.1 in
    omega (arith, few, most)

pub resize-requires-clause-count : goal.resize-requires-clause-count
resize-requires-clause-count c =
    let v = c.self.view_is in
    let few = set_few _ _ (rw (← v) at c.requires.set) in
    let most = c.len-limits.ensures.limits.boxes.count.1 in
    (c.requires.some, omega (arith, few, most))

pub resize-requires-clause-room : goal.resize-requires-clause-room
resize-requires-clause-room c =
    let v = c.self.view_is in
    let few = set_few _ _ (rw (← v) at c.requires.set) in
    omega (arith, few, c.self.invariant.0.room)

pub index_mut-closer-requires : goal.index_mut-closer-requires
index_mut-closer-requires c = omega (arith, c.in_ok-ensure_closers.ensures.enough, c.requires.some)

pub decide_in-requires-clause-room : goal.decide_in-requires-clause-room
decide_in-requires-clause-room c =
    let there : length c.args.keep.now - 1 < length c.ensure_closers.new.closers.items =
    omega (arith, c.in_ok-ensure_closers.ensures.enough, c.requires.some) in
    let k = c.in_ok-ensure_closers.ensures.rooms (length c.args.keep.now - 1) there in
    let count : length c.args.keep.now - 1 + 1 ≡ length c.args.keep.now = omega (arith, c.requires.some) in
    let h = c.index_mut-closer.ensures.value
    ∙ (get_or_default c.ensure_closers.new.closers.items (length c.args.keep.now - 1) c.index_mut-closer.result.now
    no_closer there ∙ (k ∙ ap (λ (d : ℕ). record { dims = d; boxes = length c.args.keep.now - 1 + 1 })
    c.dims.ensures.value)) in
    rw (c.resize.ensures, c.self.invariant.0.same_dims)
    (subst (λ (n : ℕ). c.index_mut-closer.result.now
    ≡ record { dims = dims c.self.inside.whole.now; boxes = n }) count h)

pub returns-clause-outcome : goal.returns-clause-outcome
returns-clause-outcome c =
    let v = c.self.view_is in
    let h = c.instance-instance.ensures in
    let k = c.set_to.ensures in
    let i = c.self.invariant.0.same in
    let e : c.instance-instance.result.now ≡ subset c.self.inside.whole.now c.args.keep.now = rw (h, k, i) refl in
    rw (← v) (subst (λ (x : PlainInstance). IfOk c.decide_in.result
    (λ r. plain_outcome r ≡ under_budget c.args.budget (outcome (class_tree x [] c.self.inside.scales)))) e
    c.decide_in.ensures.outcome)
