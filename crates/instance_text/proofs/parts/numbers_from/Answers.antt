use Rattle.std.proofs.Common.{arith, get_or, ℕ, drop, List, ap, ◌∙◌, sym}
use Rattle.std.proofs.lemmas.List.{length-drop}
use Rattle.text_terms.specs.Texts.{ranged_number}
use Rattle.text_terms.proofs.Listed.{numbers_more, numbers_fault, numbers_done}
use Rattle.instance_text.proofs.WordViews.{next_word}
use Rattle.instance_text.proofs.parts.numbers_from.Goals as goal

pub returns-in-Err : goal.returns-in-Err
returns-in-Err c =
    let words : List (List ℕ) = c.args.line.now.held.words in
    numbers_fault c.args.low c.args.limits.now (drop 1 words) c.loop-k.numbers.items c.loop-k.k c.in-Err.code
    (omega (arith, length-drop 1 words)) (omega arith) c.loop-k.invariant.0
    (ap (ranged_number c.args.low (get_or c.args.limits.now c.loop-k.k 0))
    (next_word words c.loop-k.k ∙ sym c.word.ensures) ∙ sym c.in-Err.ensures)

pub loop-k-preserved : goal.loop-k-preserved
loop-k-preserved c =
    let words : List (List ℕ) = c.args.line.now.held.words in (
      rw c.push_reserved.ensures.items
          (numbers_more c.args.low c.args.limits.now (drop 1 words) c.loop-k.numbers.items c.loop-k.k c.in-Ok.number
          (omega (arith, length-drop 1 words)) (omega arith)
          c.loop-k.invariant.0
          (ap (ranged_number c.args.low (get_or c.args.limits.now c.loop-k.k 0))
          (next_word words c.loop-k.k ∙ sym c.word.ensures) ∙ sym c.in-Ok.ensures)),
      omega arith,
    )

pub returns : goal.returns
returns c = numbers_done c.args.low c.args.limits.now (drop 1 c.args.line.now.held.words) c.loop-k.numbers.items
    c.loop-k.k (omega arith) c.loop-k.invariant.0
