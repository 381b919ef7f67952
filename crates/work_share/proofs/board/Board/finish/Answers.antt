use Rattle.std.proofs.Common.{rules, arith, ◌≡◌, ◌++◌, ◌∷◌, [], ◌∙◌, sym, ap, ap₂, subst, length, vec_len, vec_capacity}
use Rattle.std.proofs.Common.{Some, IfSome}
use Rattle.tree_terms.specs.Paths.{outcome_at}
use Rattle.work_share.specs.declared.Event.TheVariants as event
use Rattle.work_share.specs.Board.{out_path}
use Rattle.work_share.specs.Steps.{Finishes}
use Rattle.work_share.specs.Kept.{AreBelow, IsOutcomeOf}
use Rattle.work_share.specs.Outcomes.{plain_outcome}
use Rattle.work_share.specs.declared.slot.SlotState.TheVariants as stored
use Rattle.work_share.specs.Tasks.{is_past}
use Rattle.work_share.specs.Slots.{entries_of, with_slot}
use Rattle.work_share.specs.Fronts.{IsFront, HasFrontTo}
use Rattle.work_share.specs.Boards.{PlainBoard, stored_state}
use Rattle.work_share.specs.Links.{order_of}
use Rattle.work_share.proofs.Stored.{length_with_slot}
use Rattle.work_share.proofs.Links.{order_stays, linked_stays}
use Rattle.work_share.proofs.Kept.{kept_ordered}
use Rattle.work_share.proofs.Finishing.{out_inside, out_room, finish_below, finish_known, finish_step, finish_kept}
use Rattle.work_share.proofs.board.Board.finish.Goals as goal

pub put_state-requires : goal.put_state-requires
put_state-requires g c =
    let b = c.self.inside in
    let out = subst (λ (v : PlainBoard g.row.T.Denot). out_path c.args.task.number v.state.entries
    ≡ Some c.args.task.path) (sym c.self.view_is) c.requires.out in
    let inside = out_inside (g.T.Tree.shape b.tree.now) b.budget b.slots.items (order_of b.slots.items) b.waiting.items
    b.front.len b.front.count b.front.is_ended b.is_short
    b.history.items (vec_capacity b.history) c.self.invariant.0 c.args.task.number c.args.task.path out in
    let size : vec_len b.slots ≡ length b.slots.items = search rules in
    let number = c.number.ensures in
    omega (arith, inside, size, number)

pub advance-self-inside-requires-clause-below : goal.advance-self-inside-requires-clause-below
advance-self-inside-requires-clause-below g c =
    let b = c.self.inside in
    let n = c.args.task.number in
    let done = stored.Done c.args.outcome in
    let out = subst (λ (v : PlainBoard g.row.T.Denot). out_path n v.state.entries ≡ Some c.args.task.path)
    (sym c.self.view_is) c.requires.out in
    let slots = c.deref.ensures.value ∙ (c.put_state.ensures.items
    ∙ ap (λ k. with_slot b.slots.items k done) c.number.ensures) in
    let order = order_stays b.slots.items n done in
    let below = finish_below (g.T.Tree.shape b.tree.now) b.budget b.slots.items (order_of b.slots.items)
    b.waiting.items b.front.len b.front.count b.front.is_ended b.is_short
    b.history.items (vec_capacity b.history) c.self.invariant.0 n c.args.task.path out c.args.outcome in
    rw slots (subst (λ ns. AreBelow (length (with_slot b.slots.items n done)) ns) (sym order) below)

pub advance-self-inside-requires-clause-size : goal.advance-self-inside-requires-clause-size
advance-self-inside-requires-clause-size g c =
    let b = c.self.inside in
    let n = c.args.task.number in
    let done = stored.Done c.args.outcome in
    let out = subst (λ (v : PlainBoard g.row.T.Denot). out_path n v.state.entries ≡ Some c.args.task.path)
    (sym c.self.view_is) c.requires.out in
    let slots = c.deref.ensures.value ∙ (c.put_state.ensures.items
    ∙ ap (λ k. with_slot b.slots.items k done) c.number.ensures) in
    let order = order_stays b.slots.items n done in
    rw slots (length_with_slot b.slots.items n done ∙ (c.self.invariant.0.size ∙ ap length (sym order)))

pub advance-self-inside-requires-clause-linked : goal.advance-self-inside-requires-clause-linked
advance-self-inside-requires-clause-linked g c =
    let b = c.self.inside in
    let n = c.args.task.number in
    let done = stored.Done c.args.outcome in
    let out = subst (λ (v : PlainBoard g.row.T.Denot). out_path n v.state.entries ≡ Some c.args.task.path)
    (sym c.self.view_is) c.requires.out in
    let slots = c.deref.ensures.value ∙ (c.put_state.ensures.items
    ∙ ap (λ k. with_slot b.slots.items k done) c.number.ensures) in
    let order = order_stays b.slots.items n done in
    rw slots (linked_stays b.slots.items n done b.front.len b.front.behind c.self.invariant.1)

pub advance-self-inside-requires-clause-known : goal.advance-self-inside-requires-clause-known
advance-self-inside-requires-clause-known g c =
    let b = c.self.inside in
    let n = c.args.task.number in
    let done = stored.Done c.args.outcome in
    let out = subst (λ (v : PlainBoard g.row.T.Denot). out_path n v.state.entries ≡ Some c.args.task.path)
    (sym c.self.view_is) c.requires.out in
    let slots = c.deref.ensures.value ∙ (c.put_state.ensures.items
    ∙ ap (λ k. with_slot b.slots.items k done) c.number.ensures) in
    let order = order_stays b.slots.items n done in
    let known = finish_known (g.T.Tree.shape b.tree.now) b.budget b.slots.items (order_of b.slots.items)
    b.waiting.items b.front.len b.front.count b.front.is_ended b.is_short
    b.history.items (vec_capacity b.history) c.self.invariant.0 n c.args.task.path out c.args.outcome in
    rw slots (subst (λ ns. HasFrontTo b.budget (entries_of (with_slot b.slots.items n done) ns) b.front.len
    b.front.count b.front.is_ended) (sym order) known)

pub push_reserved-requires : goal.push_reserved-requires
push_reserved-requires g c =
    let b = c.self.inside in
    let out = subst (λ (v : PlainBoard g.row.T.Denot). out_path c.args.task.number v.state.entries
    ≡ Some c.args.task.path) (sym c.self.view_is) c.requires.out in
    let room = out_room (g.T.Tree.shape b.tree.now) b.budget b.slots.items (order_of b.slots.items) b.waiting.items
    b.front.len b.front.count b.front.is_ended b.is_short
    b.history.items (vec_capacity b.history) c.self.invariant.0 c.args.task.number c.args.task.path out in
    let size : vec_len b.history ≡ length b.history.items = search rules in
    omega (arith, room, size)

pub invariant_of-self : goal.invariant_of-self
invariant_of-self g c =
    let b = c.self.inside in
    let out = subst (λ (v : PlainBoard g.row.T.Denot). out_path c.args.task.number v.state.entries
    ≡ Some c.args.task.path) (sym c.self.view_is) c.requires.out in
    let right = subst (λ (v : PlainBoard g.row.T.Denot). IfSome (outcome_at (g.T.Tree.shape v.tree) c.args.task.path)
    (λ verdict. IsOutcomeOf v.budget verdict (plain_outcome c.args.outcome)))
    (sym c.self.view_is) c.requires.right in
    let slots = c.put_state.ensures.items ∙ ap (λ n. with_slot b.slots.items n (stored.Done c.args.outcome))
    c.number.ensures in
    let n = c.args.task.number in
    let done = stored.Done c.args.outcome in
    let order = order_stays b.slots.items n done in
    let now = with_slot b.slots.items n done in
    let linked = rw (c.deref.ensures.value, slots) at c.advance-self-inside.ensures.linked in
    let front = rw (c.deref.ensures.value, slots) at c.advance-self-inside.ensures.front in
    let front_here = subst (λ ns. IsFront b.budget (entries_of now ns) c.advance-self-inside.result.len
    c.advance-self-inside.result.count c.advance-self-inside.result.is_ended) order front in
    let past = is_past (plain_outcome c.args.outcome) in
    let kept = finish_kept (g.T.Tree.shape b.tree.now) b.budget b.slots.items (order_of b.slots.items) b.waiting.items
    b.front.len b.front.count b.front.is_ended b.is_short
    b.history.items (vec_capacity b.history) c.self.invariant.0 n c.args.task.path out c.args.outcome right
    c.advance-self-inside.result.len c.advance-self-inside.result.count c.advance-self-inside.result.is_ended
    front_here in
    let ordered = kept_ordered (g.T.Tree.shape b.tree.now) b.budget now (order_of b.slots.items) (order_of now)
    b.waiting.items
    c.advance-self-inside.result.len c.advance-self-inside.result.count c.advance-self-inside.result.is_ended b.is_short
    (b.history.items ++ event.Finish n past ∷ []) (vec_capacity b.history) kept order in
    let history = c.push_reserved.ensures.items
    ∙ ap₂ (λ k past. b.history.items ++ event.Finish k past ∷ []) c.number-2.ensures c.is_past-past.ensures in
    rw (slots, history, c.push_reserved.ensures.capacity) (ordered, linked)

pub returns-clause-step : goal.returns-clause-step
returns-clause-step g c =
    let b = c.self.inside in
    let out = subst (λ (v : PlainBoard g.row.T.Denot). out_path c.args.task.number v.state.entries
    ≡ Some c.args.task.path) (sym c.self.view_is) c.requires.out in
    let right = subst (λ (v : PlainBoard g.row.T.Denot). IfSome (outcome_at (g.T.Tree.shape v.tree) c.args.task.path)
    (λ verdict. IsOutcomeOf v.budget verdict (plain_outcome c.args.outcome)))
    (sym c.self.view_is) c.requires.right in
    let step = finish_step (g.T.Tree.shape b.tree.now) b.budget b.slots.items (order_of b.slots.items) b.waiting.items
    b.front.len b.front.count b.front.is_ended b.is_short
    b.history.items (vec_capacity b.history) c.self.invariant.0 c.args.task.number c.args.task.path out c.args.outcome
    right in
    let slots = c.put_state.ensures.items ∙ ap (λ n. with_slot b.slots.items n (stored.Done c.args.outcome))
    c.number.ensures in
    let order = order_stays b.slots.items c.args.task.number (stored.Done c.args.outcome) in
    let now = with_slot b.slots.items c.args.task.number (stored.Done c.args.outcome) in
    let past = is_past (plain_outcome c.args.outcome) in
    rw (slots, ← c.self.view_is)
    (subst (λ ns. Finishes (g.T.Tree.shape b.tree.now) b.budget
    (stored_state b.slots.items (order_of b.slots.items) b.is_short) c.args.task.number past
    (stored_state now ns b.is_short)) (sym order) step)
