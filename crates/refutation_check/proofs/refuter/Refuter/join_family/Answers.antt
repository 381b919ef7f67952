use Rattle.std.proofs.Common.{◌≡◌, ◌+◌, ◌-◌, refl, length, rules}
use Rattle.refutation_check.proofs.Feeding.{over}
use Rattle.refutation_check.proofs.Joined.{held_kept, held_closed, told_refused, told_joined, answer_seen, both_parts}
use Rattle.refutation_check.proofs.refuter.Refuter.join_family.Goals as goal

pub test_boxes-found-requires-clause-over : goal.test_boxes-found-requires-clause-over
test_boxes-found-requires-clause-over c =
    let last : c.len-last.result - 1 + 1 ≡ length c.self.inside.nodes.items = search rules in
    rw c.instance.ensures (over _ _ _ _ _ _ _ _ _ refl c.self.invariant (c.len-last.result - 1) last
    c.index-node.result.now c.index-node.ensures)

pub invariant_of-self : goal.invariant_of-self
invariant_of-self c =
    let last : c.len-last.result - 1 + 1 ≡ length c.self.inside.nodes.items = search rules in
    let tested = rw c.instance.ensures at c.test_boxes-found.ensures.tested in
    held_kept _ _ _ _ _ _ _ _ _ refl c.self.invariant (c.len-last.result - 1) last c.index-node.result.now
    c.index-node.ensures _ c.test_boxes-found.ensures.sizes _ c.test_boxes-found.ensures.room _ _ _ _ tested

pub returns-in-Some-found-clause-answer : goal.returns-in-Some-found-clause-answer
returns-in-Some-found-clause-answer c =
    let last : c.len-last.result - 1 + 1 ≡ length c.self.inside.nodes.items = search rules in
    let tested = rw c.instance.ensures at c.test_boxes-found.ensures.tested in
    rw c.refuse-in-Some-found.ensures.code (answer_seen _ _ _ _ _ _ c.self.view_is (rw c.in_default.is
    (told_refused _ _ _ _ _ _ _ _ _ refl c.self.invariant (c.len-last.result - 1) last c.index-node.result.now
    c.index-node.ensures _ c.test_boxes-found.ensures.sizes _ c.test_boxes-found.ensures.room _ _ _ _ tested
    c.in-Some-found.code c.in-Some-found.is)))

pub invariant_of-self-then-long : goal.invariant_of-self-then-long
invariant_of-self-then-long c =
    let last : c.len-last.result - 1 + 1 ≡ length c.self.inside.nodes.items = search rules in
    let tested = rw c.instance.ensures at c.test_boxes-found.ensures.tested in
    held_closed _ _ _ _ _ _ _ _ _ refl c.self.invariant (c.len-last.result - 1) last c.index-node.result.now
    c.index-node.ensures _ c.test_boxes-found.ensures.sizes _ c.test_boxes-found.ensures.room _ _ _ _ tested _
    c.truncate.ensures.items _ c.truncate.ensures.capacity

pub invariant_of-self-else-long : goal.invariant_of-self-else-long
invariant_of-self-else-long c =
    let last : c.len-last.result - 1 + 1 ≡ length c.self.inside.nodes.items = search rules in
    let tested = rw c.instance.ensures at c.test_boxes-found.ensures.tested in
    held_kept _ _ _ _ _ _ _ _ _ refl c.self.invariant (c.len-last.result - 1) last c.index-node.result.now
    c.index-node.ensures _ c.test_boxes-found.ensures.sizes _ c.test_boxes-found.ensures.room _ _ _ _ tested

pub returns-then-long-clause-answer : goal.returns-then-long-clause-answer
returns-then-long-clause-answer c =
    let last : c.len-last.result - 1 + 1 ≡ length c.self.inside.nodes.items = search rules in
    let tested = rw c.instance.ensures at c.test_boxes-found.ensures.tested in
    let long = rw c.instance-2.ensures at c.is_too_long-long.ensures in
    answer_seen _ _ _ _ _ _ c.self.view_is (rw c.in_default.is
    (told_joined _ _ _ _ _ _ _ _ _ refl c.self.invariant (c.len-last.result - 1) last c.index-node.result.now
    c.index-node.ensures _ c.test_boxes-found.ensures.sizes _ c.test_boxes-found.ensures.room _ _ _ _ tested
    c.is_too_long-long.result c.in_default-found.is _ (both_parts c.args.family.now c.args.begun) long))

pub returns-else-long-clause-answer : goal.returns-else-long-clause-answer
returns-else-long-clause-answer c =
    let last : c.len-last.result - 1 + 1 ≡ length c.self.inside.nodes.items = search rules in
    let tested = rw c.instance.ensures at c.test_boxes-found.ensures.tested in
    let long = rw c.instance-2.ensures at c.is_too_long-long.ensures in
    answer_seen _ _ _ _ _ _ c.self.view_is (rw c.in_default.is
    (told_joined _ _ _ _ _ _ _ _ _ refl c.self.invariant (c.len-last.result - 1) last c.index-node.result.now
    c.index-node.ensures _ c.test_boxes-found.ensures.sizes _ c.test_boxes-found.ensures.room _ _ _ _ tested
    c.is_too_long-long.result c.in_default-found.is _ (both_parts c.args.family.now c.args.begun) long))
