use Rattle.std.proofs.Common.{arith}
use Rattle.work_share.specs.Slots.{entries_of}
use Rattle.work_share.specs.Links.{order_of}
use Rattle.work_share.specs.declared.slot.Piece.TheVariants.{Open, Found, Refuted, Spent}
use Rattle.work_share.proofs.Advance.{no_entry, front_more, front_open, front_ends, linked_inside, linked_below}
use Rattle.work_share.proofs.Advance.{linked_piece, linked_more}
use Rattle.work_share.proofs.front.advance.Goals as goal

pub piece_at-requires : goal.piece_at-requires
piece_at-requires c = linked_below c.args.slots.now c.loop-len.len c.in-Some.number c.loop-len.behind
    c.loop-len.invariant.linked c.in-Some.is c.requires.below

pub returns-in-Open-clause-front : goal.returns-in-Open-clause-front
returns-in-Open-clause-front c =
    let es = entries_of c.args.slots.now (order_of c.args.slots.now) in
    rw c.new.ensures (front_open c.args.budget es no_entry c.loop-len.len c.loop-len.count c.loop-len.invariant.known
    (linked_inside c.args.slots.now c.loop-len.len c.in-Some.number c.loop-len.behind c.loop-len.invariant.linked
    c.in-Some.is)
    (linked_piece c.args.slots.now c.loop-len.len c.in-Some.number c.loop-len.behind c.loop-len.invariant.linked
    c.in-Some.is Open c.in-Open.ensures))

pub returns-in-Found-clause-front : goal.returns-in-Found-clause-front
returns-in-Found-clause-front c =
    let es = entries_of c.args.slots.now (order_of c.args.slots.now) in
    rw c.new-in-Found.ensures (front_ends c.args.budget es no_entry c.loop-len.len c.loop-len.count Found
    c.loop-len.invariant.known
    (linked_inside c.args.slots.now c.loop-len.len c.in-Some.number c.loop-len.behind c.loop-len.invariant.linked
    c.in-Some.is)
    (linked_piece c.args.slots.now c.loop-len.len c.in-Some.number c.loop-len.behind c.loop-len.invariant.linked
    c.in-Some.is Found c.in-Found.ensures) tt)

pub returns-in-Spent-clause-front : goal.returns-in-Spent-clause-front
returns-in-Spent-clause-front c =
    let es = entries_of c.args.slots.now (order_of c.args.slots.now) in
    rw c.new-in-Spent.ensures (front_ends c.args.budget es no_entry c.loop-len.len c.loop-len.count Spent
    c.loop-len.invariant.known
    (linked_inside c.args.slots.now c.loop-len.len c.in-Some.number c.loop-len.behind c.loop-len.invariant.linked
    c.in-Some.is)
    (linked_piece c.args.slots.now c.loop-len.len c.in-Some.number c.loop-len.behind c.loop-len.invariant.linked
    c.in-Some.is Spent c.in-Spent.ensures) tt)

pub returns-then-more-budget-clause-front : goal.returns-then-more-budget-clause-front
returns-then-more-budget-clause-front c =
    let es = entries_of c.args.slots.now (order_of c.args.slots.now) in
    let above = c.if-more-budget.true in
    rw c.new-then-more-budget.ensures (front_ends c.args.budget es no_entry c.loop-len.len c.loop-len.count
    (Refuted c.in-Refuted.more) c.loop-len.invariant.known
    (linked_inside c.args.slots.now c.loop-len.len c.in-Some.number c.loop-len.behind c.loop-len.invariant.linked
    c.in-Some.is)
    (linked_piece c.args.slots.now c.loop-len.len c.in-Some.number c.loop-len.behind c.loop-len.invariant.linked
    c.in-Some.is (Refuted c.in-Refuted.more) c.in-Refuted.ensures)
    (omega (arith, above)))

pub next_of-behind-requires : goal.next_of-behind-requires
next_of-behind-requires c = linked_below c.args.slots.now c.loop-len.len c.in-Some.number c.loop-len.behind
    c.loop-len.invariant.linked c.in-Some.is c.requires.below

pub loop-len-preserved : goal.loop-len-preserved
loop-len-preserved c =
    let es = entries_of c.args.slots.now (order_of c.args.slots.now) in
    record {
      known = front_more c.args.budget es no_entry c.loop-len.len c.loop-len.count c.in-Refuted.more
          c.loop-len.invariant.known
          (linked_inside c.args.slots.now c.loop-len.len c.in-Some.number c.loop-len.behind c.loop-len.invariant.linked
          c.in-Some.is)
          (linked_piece c.args.slots.now c.loop-len.len c.in-Some.number c.loop-len.behind c.loop-len.invariant.linked
          c.in-Some.is (Refuted c.in-Refuted.more) c.in-Refuted.ensures)
          c.if-more-budget.false;
      linked = linked_more c.args.slots.now c.loop-len.len c.in-Some.number c.loop-len.behind
          c.loop-len.invariant.linked c.in-Some.is c.next_of-behind.result c.next_of-behind.ensures;
    }
