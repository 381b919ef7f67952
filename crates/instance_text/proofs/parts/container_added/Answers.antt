use Rattle.std.proofs.Common.{arith, ◌≡◌, ◌-◌, length, drop, sym, ◌∙◌}
use Rattle.std.proofs.lemmas.List.{length-drop}
use Rattle.std.proofs.lemmas.Bool.{ne_eqb, eqb-true}
use Rattle.instance_text.specs.Reading.{parts_of}
use Rattle.instance_text.proofs.Lines.{container_read}
use Rattle.instance_text.proofs.parts.container_added.Goals as goal

pub returns-in-Ok : goal.returns-in-Ok
returns-in-Ok c has_kerf kerf boxes =
    let none : length c.args.container.now ≡ 0 =
    eqb-true (length c.args.container.now) 0 (sym c.is_empty.ensures ∙ c.if-not-is_empty.false) in
    let n : c.word_count-count.result - 1 ≡ length (drop 1 c.args.line.now.held.words) =
    omega (arith, length-drop 1 c.args.line.now.held.words) in
    container_read (parts_of c.args.format c.args.container.now has_kerf kerf boxes) c.args.line.now.held.words
    (c.word_count-count.result - 1) c.in-Ok.sides.items c.repeated.result.items
    (ne_eqb c.args.format 0 c.if-format-eq0.false) none n (omega arith) (omega arith)
    (rw (c.as_slice.ensures, c.repeated-limits.ensures) at c.in-Ok.ensures) c.repeated.ensures
