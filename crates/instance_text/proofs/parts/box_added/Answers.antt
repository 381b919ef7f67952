use Rattle.std.proofs.Common.{arith, ◌≡◌, length, sym, ◌∙◌}
use Rattle.std.proofs.lemmas.Bool.{ne_eqb, eqb-false}
use Rattle.std.proofs.lemmas.List.{length-map}
use Rattle.box_instances.specs.Plain.{plain_box}
use Rattle.instance_text.specs.Reading.{parts_of, plain_ending}
use Rattle.instance_text.proofs.Lines.{sides_fault, ending_fault, boxes_read, same_ending}
use Rattle.instance_text.proofs.parts.box_added.Goals as goal

pub returns-in-Ok-ending_from : goal.returns-in-Ok-ending_from
returns-in-Ok-ending_from c has_kerf =
    let some : length c.args.container.now ≡ 0 → ⊥ =
    eqb-false (length c.args.container.now) 0 (sym c.is_empty.ensures ∙ c.if-is_empty.false) in
    boxes_read (parts_of c.args.format c.args.container.now has_kerf c.args.kerf.now c.args.boxes.now)
    c.args.line.now.held.words
    (ne_eqb c.args.format 0 c.if-format-eq0.false) (omega arith) (omega (arith, length-map c.args.boxes.now plain_box))
    c.requires.count c.requires.some
    (same_ending c.args.format (length c.args.container.now) c.word_count-count.result
    (length c.args.line.now.held.words) c.if-not-may_have_words.ensures (omega arith) (omega arith) (omega arith))
    _ _ (omega (arith, length-map c.args.boxes.now plain_box)) (omega arith) c.in-Ok.sides.items
    (plain_ending c.in-Ok-ending_from.ending)
    (rw (c.as_slice.ensures, c.limits_of_sides-side_limits.ensures) at c.in-Ok.ensures) c.in-Ok-ending_from.ensures

pub returns-in-Ok : goal.returns-in-Ok
returns-in-Ok c has_kerf =
    let some : length c.args.container.now ≡ 0 → ⊥ =
    eqb-false (length c.args.container.now) 0 (sym c.is_empty.ensures ∙ c.if-is_empty.false) in
    ending_fault (parts_of c.args.format c.args.container.now has_kerf c.args.kerf.now c.args.boxes.now)
    c.args.line.now.held.words
    (ne_eqb c.args.format 0 c.if-format-eq0.false) (omega arith) (omega (arith, length-map c.args.boxes.now plain_box))
    c.requires.count c.requires.some
    (same_ending c.args.format (length c.args.container.now) c.word_count-count.result
    (length c.args.line.now.held.words) c.if-not-may_have_words.ensures (omega arith) (omega arith) (omega arith))
    _ _ (omega (arith, length-map c.args.boxes.now plain_box)) (omega arith) c.in-Ok.sides.items
    c.in-Err-ending_from.code
    (rw (c.as_slice.ensures, c.limits_of_sides-side_limits.ensures) at c.in-Ok.ensures) c.in-Err-ending_from.ensures

pub returns : goal.returns
returns c has_kerf =
    let some : length c.args.container.now ≡ 0 → ⊥ =
    eqb-false (length c.args.container.now) 0 (sym c.is_empty.ensures ∙ c.if-is_empty.false) in
    sides_fault (parts_of c.args.format c.args.container.now has_kerf c.args.kerf.now c.args.boxes.now)
    c.args.line.now.held.words
    (ne_eqb c.args.format 0 c.if-format-eq0.false) (omega arith) (omega (arith, length-map c.args.boxes.now plain_box))
    c.requires.count c.requires.some
    (same_ending c.args.format (length c.args.container.now) c.word_count-count.result
    (length c.args.line.now.held.words) c.if-not-may_have_words.ensures (omega arith) (omega arith) (omega arith))
    c.in-Err.code
    (rw (c.as_slice.ensures, c.limits_of_sides-side_limits.ensures) at c.in-Err.ensures)
