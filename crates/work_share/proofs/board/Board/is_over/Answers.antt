use Rattle.std.proofs.Common.{rules, sym, ap, ◌∙◌, eqb, ◌≡◌, length}
use Rattle.std.proofs.lemmas.Bool.{true≢false}
use Rattle.std.proofs.lemmas.List.{length-map}
use Rattle.work_share.specs.Slots.{entries_of, entry_at}
use Rattle.work_share.specs.Links.{order_of}
use Rattle.work_share.proofs.Fronts.{over_short, over_ended, over_len}
use Rattle.work_share.proofs.board.Board.is_over.Goals as goal
use Rattle.work_share.proofs.board.Board.is_over.Goals.{then-self, else-self}

pub returns-then-self-2 : goal.returns-then-self-2
returns-then-self-2 g c =
    let b = c.self.inside in
    let es = entries_of b.slots.items (order_of b.slots.items) in
    rw (← c.self.view_is) (c.if-self-2.true ∙ elim c.if-self.branch [
      | then-self w ↦ over_short b.budget es b.is_short w.if-self.true
      | else-self w ↦ over_ended b.budget b.front.len b.front.count es b.is_short b.front.is_ended
          c.self.invariant.0.front (sym w.value-is ∙ c.if-self-2.true)
    ])

pub returns-else-self-2 : goal.returns-else-self-2
returns-else-self-2 g c =
    let b = c.self.inside in
    let es = entries_of b.slots.items (order_of b.slots.items) in
    let len : c.len.result ≡ length b.slots.items = search rules in
    let size : eqb b.front.len c.len.result ≡ eqb b.front.len (length es) =
    ap (eqb b.front.len) (len ∙ (c.self.invariant.0.size
    ∙ sym (length-map (order_of b.slots.items) (entry_at b.slots.items)))) in
    rw (← c.self.view_is) (size ∙ elim c.if-self.branch [
      | then-self w ↦ absurd (true≢false (sym w.if-self.true ∙ (sym w.value-is ∙ c.if-self-2.false)))
      | else-self w ↦ over_len b.budget b.front.len b.front.count es b.is_short b.front.is_ended
          c.self.invariant.0.front (sym w.value-is ∙ c.if-self-2.false) w.if-self.false
    ])
