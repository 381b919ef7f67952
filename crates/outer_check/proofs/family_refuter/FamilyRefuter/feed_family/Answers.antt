use Rattle.std.proofs.Common.{◌≡◌, ◌∙◌, sym, ap, subst, arith, length, rules, Ok}
use Rattle.std.proofs.lemmas.List.{length-append}
use Rattle.packing_terms.specs.Goals.{subset}
use Rattle.refutation_check.specs.Joining.{AreBoxNos}
use Rattle.outer_check.proofs.FamilySteps.{refused_step, closed_step, open_step, answer_is, front_part, parts_told, are_own}
use Rattle.outer_check.proofs.FamilyHeld.{begun_few, begun_named, set_named, held_open}
use Rattle.outer_check.proofs.family_refuter.FamilyRefuter.feed_family.Goals as goal

pub append-requires : goal.append-requires
append-requires c =
    let few = begun_few c.self.inside.inner.instance c.self.inside.dim c.self.inside.family.items
    c.self.inside.inner.checked.nodes (c.self.invariant.going c.in_default.is).begun in
    let room = c.self.invariant.room in
    let boxes = c.requires in
    omega (arith, few, room, boxes)

pub join_family-requires-clause-few : goal.join_family-requires-clause-few
join_family-requires-clause-few c =
    let few = begun_few c.self.inside.inner.instance c.self.inside.dim c.self.inside.family.items
    c.self.inside.inner.checked.nodes (c.self.invariant.going c.in_default.is).begun in
    let most = c.self.invariant.few in
    let boxes = c.requires in
    let both = ap length (c.as_slice.ensures.value ∙ c.append.ensures.items)
    ∙ length-append c.self.inside.family.items c.args.boxes.now in
    omega (arith, few, most, boxes, both)

pub join_family-requires-clause-named : goal.join_family-requires-clause-named
join_family-requires-clause-named c =
    let count : c.len-begun.result ≡ length c.self.inside.family.items = search rules in
    subst (λ us. AreBoxNos (subset c.self.inside.inner.instance c.self.inside.inner.keep) us)
    (sym (front_part c.self.inside.family.items c.args.boxes.now c.as_slice.result.now c.len-begun.result count
    (c.as_slice.ensures.value ∙ c.append.ensures.items)))
    (set_named c.self.inside.inner c.self.inside.family.items c.self.invariant.whole
    (begun_named c.self.inside.inner.instance c.self.inside.dim c.self.inside.family.items
    c.self.inside.inner.checked.nodes (c.self.invariant.going c.in_default.is).begun))

pub invariant_of-self-in-Ok-false : goal.invariant_of-self-in-Ok-false
invariant_of-self-in-Ok-false c =
    let count : c.len-begun.result ≡ length c.self.inside.family.items = search rules in
    let going = c.self.invariant.going c.in_default.is in
    let own = sym c.is_own_dim.ensures ∙ c.if-not-is_own_dim.false in
    let answer = parts_told c.self.inside.inner c.args.dim c.self.inside.family.items c.args.boxes.now
    c.as_slice.result.now c.len-begun.result c.join_family.result count
    (c.as_slice.ensures.value ∙ c.append.ensures.items) c.join_family.ensures.answer in
    rw (c.in_default.is, c.append.ensures.capacity) (held_open c.self.inside.inner c.join_family.new.self
    c.self.inside.family.items _ c.self.inside.dim c.args.dim c.args.boxes.now c.join_family.result
    c.append.new.family.items (rw c.in_default.is at c.self.invariant) c.join_family.ensures.step
    (c.in-Ok-false.is ∙ ap Ok c.in-Ok-false.field-0-test)
    (answer_is c.args.self.now c.self.inside.inner c.join_family.new.self c.self.inside.dim
    c.self.inside.family.items c.args.dim c.args.boxes.now c.join_family.result c.self.invariant.whole
    going.inner_goes (rw c.in_default.is at c.self.view_is) own
    (are_own c.self.inside.inner.instance c.self.inside.dim c.self.inside.family.items
    c.self.inside.inner.checked.nodes going.begun) answer c.join_family.ensures.step) own c.append.ensures.items)

pub returns-in-Err-clause-step : goal.returns-in-Err-clause-step
returns-in-Err-clause-step c =
    let count : c.len-begun.result ≡ length c.self.inside.family.items = search rules in
    let going = c.self.invariant.going c.in_default.is in
    let own = sym c.is_own_dim.ensures ∙ c.if-not-is_own_dim.false in
    let answer = parts_told c.self.inside.inner c.args.dim c.self.inside.family.items c.args.boxes.now
    c.as_slice.result.now c.len-begun.result c.join_family.result count
    (c.as_slice.ensures.value ∙ c.append.ensures.items) c.join_family.ensures.answer in
    refused_step c.args.self.now c.self.inside.inner c.join_family.new.self c.self.inside.dim
    c.self.inside.family.items c.args.dim c.args.boxes.now c.join_family.result c.self.invariant.whole
    going.inner_goes (rw c.in_default.is at c.self.view_is) own
    (are_own c.self.inside.inner.instance c.self.inside.dim c.self.inside.family.items
    c.self.inside.inner.checked.nodes going.begun) answer c.join_family.ensures.step c.in-Err.code c.in-Err.is
    c.truncate.new.self.items
    (c.truncate.ensures.items ∙ front_part c.self.inside.family.items c.args.boxes.now c.append.new.family.items
    c.len-begun.result count c.append.ensures.items)

pub returns-after-whole-clause-step : goal.returns-after-whole-clause-step
returns-after-whole-clause-step c =
    let count : c.len-begun.result ≡ length c.self.inside.family.items = search rules in
    let going = c.self.invariant.going c.in_default.is in
    let own = sym c.is_own_dim.ensures ∙ c.if-not-is_own_dim.false in
    let answer = parts_told c.self.inside.inner c.args.dim c.self.inside.family.items c.args.boxes.now
    c.as_slice.result.now c.len-begun.result c.join_family.result count
    (c.as_slice.ensures.value ∙ c.append.ensures.items) c.join_family.ensures.answer in
    rw c.in_default.is (closed_step c.args.self.now c.self.inside.inner c.join_family.new.self c.self.inside.dim
    c.self.inside.family.items c.args.dim c.args.boxes.now c.join_family.result c.self.invariant.whole
    going.inner_goes (rw c.in_default.is at c.self.view_is) own
    (are_own c.self.inside.inner.instance c.self.inside.dim c.self.inside.family.items
    c.self.inside.inner.checked.nodes going.begun) answer c.join_family.ensures.step
    (c.in-Ok-true.is ∙ ap Ok c.in-Ok-true.field-0-test) c.clear.new.self.items c.clear.ensures.items)

pub returns-in-Ok-false-clause-step : goal.returns-in-Ok-false-clause-step
returns-in-Ok-false-clause-step c =
    let count : c.len-begun.result ≡ length c.self.inside.family.items = search rules in
    let going = c.self.invariant.going c.in_default.is in
    let own = sym c.is_own_dim.ensures ∙ c.if-not-is_own_dim.false in
    let answer = parts_told c.self.inside.inner c.args.dim c.self.inside.family.items c.args.boxes.now
    c.as_slice.result.now c.len-begun.result c.join_family.result count
    (c.as_slice.ensures.value ∙ c.append.ensures.items) c.join_family.ensures.answer in
    rw c.in_default.is (open_step c.args.self.now c.self.inside.inner c.join_family.new.self c.self.inside.dim
    c.self.inside.family.items c.args.dim c.args.boxes.now c.join_family.result c.self.invariant.whole
    going.inner_goes (rw c.in_default.is at c.self.view_is) own
    (are_own c.self.inside.inner.instance c.self.inside.dim c.self.inside.family.items
    c.self.inside.inner.checked.nodes going.begun) answer c.join_family.ensures.step
    (c.in-Ok-false.is ∙ ap Ok c.in-Ok-false.field-0-test) c.append.new.family.items c.append.ensures.items)
