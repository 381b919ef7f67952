use Rattle.std.proofs.Common.{arith, ◌≡◌, ◌≤◌, subst, length, vec_capacity, Some, MatchBool, refl, ap}
use Rattle.std.specs.Prelude.{slice_get}
use Rattle.std.proofs.lemmas.Option.{slice_get_read}
use Rattle.std.proofs.lemmas.Bool.Decides.{when_true}
use Rattle.work_share.specs.Board.{TaskEntry, Out}
use Rattle.work_share.specs.Slots.{entry_of, entries_of}
use Rattle.work_share.specs.Links.{order_of}
use Rattle.work_share.proofs.Finishing.{out_reached}
use Rattle.work_share.proofs.Outside.{read_out, none_out}
use Rattle.work_share.proofs.board.Board.is_out.Goals as goal

pub returns-in-Some-clause-exactly : goal.returns-in-Some-clause-exactly
returns-in-Some-clause-exactly g c =
    let b = c.self.inside in
    let n = c.args.task.now.number in
    let slot = c.in-Some.slot.now in
    let item = c.in-Some.ensures.lookup.1 in
    let inside = c.in-Some.ensures.lookup.3.0 in
    let number = c.number.ensures in
    let read : slice_get b.slots.items n ≡ Some slot = subst (λ k. slice_get b.slots.items k ≡ Some slot) number
    (subst (λ ss. slice_get ss c.number.result ≡ Some slot) c.deref.ensures.value
    (slice_get_read c.deref.result.now (length c.deref.result.now) c.number.result slot refl inside item)) in
    let out = subst (λ p. MatchBool c.is_out_at.result (entry_of n slot ≡ TaskEntry n p Out)
    (¬ (entry_of n slot ≡ TaskEntry n p Out))) c.path.ensures (c.is_out_at.ensures n) in
    rw (← c.self.view_is) (read_out (g.T.Tree.shape b.tree.now) b.budget b.slots.items (order_of b.slots.items)
    b.waiting.items b.front.len b.front.count b.front.is_ended b.is_short
    b.history.items (vec_capacity b.history) c.self.invariant.0 n c.args.task.now.path slot c.is_out_at.result read out)

pub returns-in-Some-clause-reached : goal.returns-in-Some-clause-reached
returns-in-Some-clause-reached g c =
    let b = c.self.inside in
    let n = c.args.task.now.number in
    let slot = c.in-Some.slot.now in
    let item = c.in-Some.ensures.lookup.1 in
    let inside = c.in-Some.ensures.lookup.3.0 in
    let number = c.number.ensures in
    let read : slice_get b.slots.items n ≡ Some slot = subst (λ k. slice_get b.slots.items k ≡ Some slot) number
    (subst (λ ss. slice_get ss c.number.result ≡ Some slot) c.deref.ensures.value
    (slice_get_read c.deref.result.now (length c.deref.result.now) c.number.result slot refl inside item)) in
    let out = subst (λ p. MatchBool c.is_out_at.result (entry_of n slot ≡ TaskEntry n p Out)
    (¬ (entry_of n slot ≡ TaskEntry n p Out))) c.path.ensures (c.is_out_at.ensures n) in
    let all = read_out (g.T.Tree.shape b.tree.now) b.budget b.slots.items (order_of b.slots.items) b.waiting.items
    b.front.len b.front.count b.front.is_ended b.is_short
    b.history.items (vec_capacity b.history) c.self.invariant.0 n c.args.task.now.path slot c.is_out_at.result read
    out in
    λ yes_out. rw (← c.self.view_is) (out_reached (g.T.Tree.shape b.tree.now) b.budget
    (entries_of b.slots.items (order_of b.slots.items)) n c.args.task.now.path
    (when_true _ _ yes_out all) c.self.invariant.0.right)

pub returns-in-None-clause-exactly : goal.returns-in-None-clause-exactly
returns-in-None-clause-exactly g c =
    let b = c.self.inside in
    let n = c.args.task.now.number in
    let past = c.in-None.ensures.lookup.3 in
    let number = c.number.ensures in
    let size = ap length c.deref.ensures.value in
    let outside : length b.slots.items ≤ n = omega (arith, past, number, size) in
    rw (← c.self.view_is) (none_out (g.T.Tree.shape b.tree.now) b.budget b.slots.items (order_of b.slots.items)
    b.waiting.items b.front.len b.front.count b.front.is_ended b.is_short
    b.history.items (vec_capacity b.history) c.self.invariant.0 n c.args.task.now.path outside)
