use Rattle.std.proofs.Common.{rules, arith, ◌≡◌, ◌++◌, ◌∷◌, [], ◌∙◌, sym, ap, subst, length, reverse, vec_len}
use Rattle.std.proofs.Common.{vec_capacity, Some, refl}
use Rattle.std.proofs.lemmas.List.{reverse-reverse, nil_from_length}
use Rattle.work_share.specs.declared.Event.TheVariants as event
use Rattle.work_share.specs.Board.{out_path}
use Rattle.work_share.specs.declared.slot.SlotState.TheVariants.{Out}
use Rattle.work_share.specs.Slots.{entries_of, with_slot}
use Rattle.work_share.specs.Boards.{stored_state, waiting_tasks}
use Rattle.work_share.specs.Links.{order_of}
use Rattle.work_share.proofs.Standing.{none_is}
use Rattle.work_share.proofs.Links.{order_stays, linked_stays}
use Rattle.work_share.proofs.Kept.{kept_ordered}
use Rattle.work_share.proofs.Taking.{take_inside, take_first, take_entries, take_out, take_path, take_kept}
use Rattle.work_share.proofs.board.Board.take.Goals as goal

pub put_state-requires : goal.put_state-requires
put_state-requires g c =
    let b = c.self.inside in
    let inside = take_inside (g.T.Tree.shape b.tree.now) b.budget b.slots.items (order_of b.slots.items)
    b.waiting.items c.pop.new.self.items b.front.len b.front.count b.front.is_ended b.is_short
    b.history.items (vec_capacity b.history) c.self.invariant.0 c.in-Some.task c.in-Some.ensures.items in
    let size : vec_len b.slots ≡ length b.slots.items = search rules in
    let number = c.number.ensures in
    omega (arith, inside, size, number)

pub invariant_of-self-in-Some : goal.invariant_of-self-in-Some
invariant_of-self-in-Some g c =
    let b = c.self.inside in
    let kept = take_kept (g.T.Tree.shape b.tree.now) b.budget b.slots.items (order_of b.slots.items) b.waiting.items
    c.pop.new.self.items b.front.len b.front.count b.front.is_ended b.is_short
    b.history.items (vec_capacity b.history) c.self.invariant.0 c.in-Some.task c.in-Some.ensures.items in
    let slots = c.put_state.ensures.items ∙ ap (λ n. with_slot b.slots.items n Out) c.number.ensures in
    let history = c.push_reserved.ensures.items
    ∙ ap (λ n. b.history.items ++ event.Take n ∷ []) c.number-in-Some.ensures in
    let n = c.in-Some.task.number in
    let order = order_stays b.slots.items n Out in
    let ordered = kept_ordered (g.T.Tree.shape b.tree.now) b.budget (with_slot b.slots.items n Out)
    (order_of b.slots.items) (order_of (with_slot b.slots.items n Out))
    c.pop.new.self.items b.front.len b.front.count b.front.is_ended b.is_short (b.history.items ++ event.Take n ∷ [])
    (vec_capacity b.history) kept order in
    rw (slots, history, c.push_reserved.ensures.capacity)
    (ordered, linked_stays b.slots.items n Out b.front.len b.front.behind c.self.invariant.1)

pub returns-in-None-clause-step : goal.returns-in-None-clause-step
returns-in-None-clause-step g c =
    let b = c.self.inside in
    let es = entries_of b.slots.items (order_of b.slots.items) in
    let empty : vec_len b.waiting ≡ 0 = c.in-None.ensures.cases.0 in
    let size : length b.waiting.items ≡ 0 = search (rules, empty) in
    let none : waiting_tasks es ≡ [] =
    sym (reverse-reverse (waiting_tasks es)) ∙ ap reverse (sym c.self.invariant.0.stacked
    ∙ nil_from_length b.waiting.items size) in
    (sym c.if-is_over.ensures, rw (← c.self.view_is) (none_is es none), rw (← c.self.view_is) refl)

pub returns-in-Some-clause-step : goal.returns-in-Some-clause-step
returns-in-Some-clause-step g c =
    let b = c.self.inside in
    let first = take_first (g.T.Tree.shape b.tree.now) b.budget b.slots.items (order_of b.slots.items) b.waiting.items
    c.pop.new.self.items b.front.len b.front.count b.front.is_ended b.is_short
    b.history.items (vec_capacity b.history) c.self.invariant.0 c.in-Some.task c.in-Some.ensures.items in
    let entries = take_entries (g.T.Tree.shape b.tree.now) b.budget b.slots.items (order_of b.slots.items)
    b.waiting.items c.pop.new.self.items b.front.len b.front.count b.front.is_ended b.is_short
    b.history.items (vec_capacity b.history) c.self.invariant.0 c.in-Some.task c.in-Some.ensures.items in
    let slots = c.put_state.ensures.items ∙ ap (λ n. with_slot b.slots.items n Out) c.number.ensures in (
      sym c.if-is_over.ensures,
      rw (← c.self.view_is) first,
      rw (← c.self.view_is) (ap (λ ss. stored_state ss (order_of ss) b.is_short) slots
          ∙ (ap (λ ns. stored_state (with_slot b.slots.items c.in-Some.task.number Out) ns b.is_short)
          (order_stays b.slots.items c.in-Some.task.number Out)
          ∙ ap (λ es. record { entries = es; is_short = b.is_short }) entries)),
    )

pub returns-in-Some-clause-path : goal.returns-in-Some-clause-path
returns-in-Some-clause-path g c =
    let b = c.self.inside in
    rw (← c.self.view_is) (take_path (g.T.Tree.shape b.tree.now) b.budget b.slots.items (order_of b.slots.items)
    b.waiting.items c.pop.new.self.items b.front.len b.front.count b.front.is_ended b.is_short
    b.history.items (vec_capacity b.history) c.self.invariant.0 c.in-Some.task c.in-Some.ensures.items)

pub returns-in-Some-clause-out : goal.returns-in-Some-clause-out
returns-in-Some-clause-out g c =
    let b = c.self.inside in
    let out = take_out (g.T.Tree.shape b.tree.now) b.budget b.slots.items (order_of b.slots.items) b.waiting.items
    c.pop.new.self.items b.front.len b.front.count b.front.is_ended b.is_short
    b.history.items (vec_capacity b.history) c.self.invariant.0 c.in-Some.task c.in-Some.ensures.items in
    let slots = c.put_state.ensures.items ∙ ap (λ n. with_slot b.slots.items n Out) c.number.ensures in
    let order = order_stays b.slots.items c.in-Some.task.number Out in
    subst (λ ss. out_path c.in-Some.task.number (entries_of ss (order_of ss)) ≡ Some c.in-Some.task.path) (sym slots)
    (subst (λ ns. out_path c.in-Some.task.number (entries_of (with_slot b.slots.items c.in-Some.task.number Out) ns)
    ≡ Some c.in-Some.task.path) (sym order) out)
