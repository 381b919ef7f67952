use Rattle.std.proofs.Common.{arith, ap, ◌∙◌, length, length-set}
use Rattle.conservative_scales.proofs.FastestRows.{filling_room, filling_left}
use Rattle.conservative_scales.proofs.rows.put_all.Goals as goal

pub put-requires-clause-few : goal.put-requires-clause-few
put-requires-clause-few c =
    let h = rw c.in-Some.is at c.loop-next.invariant.filling in
    let free = filling_room c.args.instance.now _ _ _ c.in-Some.f (length c.args.functions.now) (length c.args.made.now)
    h c.requires.room in
    omega (arith, free, c.loop-next.invariant.room)

pub loop-next-preserved : goal.loop-next-preserved
loop-next-preserved c =
    let h = rw c.in-Some.is at c.loop-next.invariant.filling in
    let free = filling_room c.args.instance.now _ _ _ c.in-Some.f (length c.args.functions.now) (length c.args.made.now)
    h c.requires.room in
    record {
      filling = filling_left c.args.instance.now c.loop-next.row c.loop-next.functions _ c.loop-next.made c.put.new.made
          c.in-Some.f _ h (omega (arith, free, c.loop-next.invariant.room)) c.put.ensures.functions
          c.put.ensures.kept c.put.ensures.images c.next_function-next.ensures.next c.next_function-next.ensures.legal;
      room = ap length c.put.ensures.functions ∙ length-set c.loop-next.functions c.loop-next.row c.in-Some.f
          ∙ c.loop-next.invariant.room;
      places = c.put.ensures.length ∙ c.loop-next.invariant.places;
    }
