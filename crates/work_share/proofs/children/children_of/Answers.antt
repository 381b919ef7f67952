use Rattle.std.proofs.Common.{arith, ◌≡◌, ◌+◌, ◌-◌, ◌++◌, ◌∷◌, [], ◌∙◌, ap, ap₂, length}
use Rattle.std.proofs.lemmas.List.{length_push}
use Rattle.work_share.specs.Board.{TaskEntry, Waits, children_from, PlainTask}
use Rattle.work_share.specs.declared.slot.Slot.{Slot}
use Rattle.work_share.specs.declared.slot.SlotState.TheVariants as stored
use Rattle.work_share.specs.Slots.{entries_from}
use Rattle.work_share.specs.Links.{link_to, links_from, links_of}
use Rattle.work_share.specs.Boards.{waiting_tasks}
use Rattle.work_share.proofs.Making.{entries_push, children_next, links_push, links_next, moved_over}
use Rattle.work_share.proofs.children.children_of.Goals as goal

pub loop-k-preserved : goal.loop-k-preserved
loop-k-preserved c =
    let k = c.loop-k.k in
    let path = c.args.path.now in
    let next = children_next path k c.args.children c.args.first c.loop-k-test.true in
    let slot : Slot = record { path = c.in_ok-child_path.field-0; state = stored.Waits; behind = c.link_to.result } in
    let made : entries_from c.args.first c.push.new.self.items ≡ entries_from c.args.first c.loop-k.slots.items
    ++ TaskEntry (c.args.first + k) (path ++ k ∷ []) Waits ∷ [] =
    ap (entries_from c.args.first) c.in_ok-push.ensures.items
    ∙ (entries_push c.args.first c.loop-k.slots.items slot
    ∙ ap₂ (λ n p. entries_from c.args.first c.loop-k.slots.items ++ TaskEntry n p Waits ∷ [])
    (ap (λ n. c.args.first + n) c.loop-k.invariant.size) c.in_ok-child_path.ensures) in
    let task : PlainTask = record { path = path ++ k ∷ []; number = c.args.first + k } in
    let handed : c.push-in-loop-k.new.self.items ≡ c.loop-k.tasks.items ++ task ∷ [] =
    c.in_ok-push-2.ensures.items ∙ ap (λ (t : PlainTask). c.loop-k.tasks.items ++ t ∷ [])
    (c.new.ensures ∙ ap (λ p. record { path = p; number = c.args.first + k }) c.in_ok-child_path-2.ensures) in
    let left : c.args.children - k - 1 ≡ c.args.children - (k + 1) = omega arith in
    let links : links_of c.push.new.self.items
    ≡ links_of c.loop-k.slots.items ++ link_to (c.args.first + k + 1) (c.args.children - (k + 1))
    c.args.behind ∷ [] =
    ap links_of c.in_ok-push.ensures.items
    ∙ (links_push c.loop-k.slots.items slot
    ∙ ap (λ x. links_of c.loop-k.slots.items ++ x ∷ [])
    (c.link_to.ensures ∙ ap (λ m. link_to (c.args.first + k + 1) m c.args.behind) left)) in
    record {
      made = ap (λ es. es ++ children_from path (k + 1) (c.args.children - (k + 1)) (c.args.first + (k + 1))) made
          ∙ moved_over (entries_from c.args.first c.loop-k.slots.items)
          (TaskEntry (c.args.first + k) (path ++ k ∷ []) Waits) _ _ _ next c.loop-k.invariant.made;
      linked = ap (λ ls. ls ++ links_from (c.args.first + (k + 1)) (c.args.children - (k + 1)) c.args.behind) links
          ∙ moved_over (links_of c.loop-k.slots.items)
          (link_to (c.args.first + k + 1) (c.args.children - (k + 1)) c.args.behind) _ _ _
          (links_next k c.args.children c.args.first c.args.behind c.loop-k-test.true) c.loop-k.invariant.linked;
      waiting = ap (λ ts. ts ++ waiting_tasks
          (children_from path (k + 1) (c.args.children - (k + 1)) (c.args.first + (k + 1)))) handed
          ∙ moved_over c.loop-k.tasks.items task _ _ _ (ap waiting_tasks next) c.loop-k.invariant.waiting;
      size = ap length c.in_ok-push.ensures.items
          ∙ (length_push c.loop-k.slots.items slot ∙ ap (λ n. n + 1) c.loop-k.invariant.size);
    }
