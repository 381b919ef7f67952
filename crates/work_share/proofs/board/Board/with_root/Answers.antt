use Rattle.std.proofs.Common.{arith, ◌≡◌, ◌≤◌, ◌++◌, ◌∷◌, [], ◌∙◌, ap, refl, None, vec_capacity}
use Rattle.work_share.specs.Board.{PlainTask}
use Rattle.work_share.specs.declared.slot.Slot.{Slot}
use Rattle.work_share.specs.declared.slot.SlotState.TheVariants.{Waits}
use Rattle.work_share.proofs.Starting.{start_kept, start_linked}
use Rattle.work_share.proofs.board.Board.with_root.Goals as goal

pub invariant_of-result : goal.invariant_of-result
invariant_of-result g c =
    let root : Slot = record { path = c.new.result; state = Waits; behind = None } in
    let task : PlainTask = record { path = []; number = 0 } in
    let slots : c.push.new.self.items ≡ root ∷ [] =
    c.in_ok-push.ensures.items ∙ ap (λ ss. ss ++ root ∷ []) c.new-slots.ensures.items in
    let named : c.new-3.result ≡ task =
    c.new-3.ensures ∙ ap (λ p. record { path = p; number = 0 }) c.new-2.ensures.items in
    let stack : c.push-2.new.self.items ≡ task ∷ [] =
    c.in_ok-push-2.ensures.items ∙ (ap (λ ts. ts ++ c.new-3.result ∷ []) c.new-waiting.ensures.items
    ∙ ap (λ (t : PlainTask). t ∷ []) named) in
    let history : c.reserve.new.self.items ≡ [] = c.in_ok-reserve.ensures.items ∙ c.new-history.ensures.items in
    let ok = c.in_ok-reserve.ensures.ok in
    let room : 3 ≤ vec_capacity c.reserve.new.self = omega (arith, ok) in
    rw (slots, stack, history, c.new-4.ensures) (
      start_kept (g.T.Tree.shape c.args.tree.now) c.args.budget root (vec_capacity c.reserve.new.self)
          c.new.ensures.items refl room,
      start_linked root refl,
    )
