use Rattle.std.proofs.Common.{arith, ◌+◌, ◌<◌, ℕ, List, ap, sym, length, map, get_or, ◌∙◌}
use Rattle.std.proofs.lemmas.List.{length-map, length-set}
use Rattle.packing_terms.specs.Packing.{PlainBox, no_box}
use Rattle.box_instances.specs.declared.instance.BoxItem.{BoxItem}
use Rattle.box_instances.specs.Plain.{plain_box}
use Rattle.box_instances.proofs.Boxes.{box_at, box_within}
use Rattle.box_instances.proofs.Rows.{rows_next}
use Rattle.box_instances.proofs.working.working_sides.Goals as goal

pub working_row-requires-clause-same : goal.working_row-requires-clause-same
working_row-requires-clause-same c =
    let there : c.loop-v.v < length (map plain_box c.args.boxes.now) =
    omega (arith, c.loop-v-test.true, length-map c.args.boxes.now plain_box) in
    let item = box_within _ c.args.kerf.now c.args.boxes.now c.loop-v.v c.index-boxes-v.result
    (λ u l. c.requires.each u (omega (arith, l, length-map c.args.boxes.now plain_box))) there c.index-boxes-v.is in
    ap length (c.as_slice.ensures ∙ ap (λ (b : BoxItem). b.sides.items) (sym c.index-boxes-v.is)) ∙ item.count

pub working_row-requires-clause-small : goal.working_row-requires-clause-small
working_row-requires-clause-small c = λ i l.
    let there : c.loop-v.v < length (map plain_box c.args.boxes.now) =
    omega (arith, c.loop-v-test.true, length-map c.args.boxes.now plain_box) in
    let item = box_within _ c.args.kerf.now c.args.boxes.now c.loop-v.v c.index-boxes-v.result
    (λ u l. c.requires.each u (omega (arith, l, length-map c.args.boxes.now plain_box))) there c.index-boxes-v.is in
    let e = item.count in
    let s = (item.sides i (omega (arith, e, l))).1 in
    rw (c.as_slice.ensures ∙ ap (λ (b : BoxItem). b.sides.items) (sym c.index-boxes-v.is)) (omega (arith, s))

pub loop-v-preserved : goal.loop-v-preserved
loop-v-preserved c = (
  length-set c.loop-v.rows c.loop-v.v _ ∙ c.loop-v.invariant.0,
  rows_next c.loop-v.rows c.working_row.result c.args.kerf.now (map plain_box c.args.boxes.now) no_box c.loop-v.v
      (length c.args.kerf.now)
      (omega (arith, c.loop-v-test.true, c.requires.count, c.loop-v.invariant.0))
      (λ i l. c.working_row.ensures i l
      ∙ (ap (λ (s : List ℕ). get_or s i 0 + get_or c.args.kerf.now i 0)
      (c.as_slice.ensures ∙ ap (λ (b : BoxItem). b.sides.items) (sym c.index-boxes-v.is))
      ∙ sym (ap (λ (b : PlainBox). get_or b.sides i 0 + get_or c.args.kerf.now i 0)
      (box_at c.args.boxes.now c.loop-v.v c.index-boxes-v.result c.loop-v-test.true
      ∙ ap plain_box (sym c.index-boxes-v.is)))))
      c.loop-v.invariant.1,
)
