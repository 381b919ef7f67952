use Rattle.std.proofs.Common.{◌∙◌, sym, ap, arith, length, ◌++◌, [], ◌∷◌}
use Rattle.std.proofs.lemmas.List.FromFn.{length-range_with_len}
use Rattle.packing_terms.proofs.Ranges.{numbers_more}
use Rattle.box_instances.proofs.sets.numbers_below.Goals as goal

pub push_reserved-requires : goal.push_reserved-requires
push_reserved-requires c =
    let count = ap length c.loop-v.invariant.items ∙ length-range_with_len 0 c.loop-v.v in
    omega (arith, count, c.loop-v.invariant.room, c.loop-v-test.true)

pub loop-v-preserved : goal.loop-v-preserved
loop-v-preserved c = record {
  items = c.push_reserved.ensures.items
      ∙ (ap (λ l. l ++ c.loop-v.v ∷ []) c.loop-v.invariant.items ∙ sym (numbers_more c.loop-v.v));
  room = rw c.push_reserved.ensures.capacity c.loop-v.invariant.room;
}
