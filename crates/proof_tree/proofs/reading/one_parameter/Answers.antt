use Rattle.std.proofs.Common.{arith, drop}
use Rattle.std.proofs.lemmas.List.{length-drop}
use Rattle.proof_tree.proofs.TokenWords.{only_else}
use Rattle.proof_tree.proofs.reading.one_parameter.Goals as goal

pub returns-then-word_count-ne2 : goal.returns-then-word_count-ne2
returns-then-word_count-ne2 c =
    let n = c.word_count.ensures.count in
    let l = c.word_count.ensures.limits.held in
    let m = length-drop 1 c.args.line.now.held.words in
    let o = c.if-word_count-ne2.true in
    only_else (drop 1 c.args.line.now.held.words) (λ e. omega (arith, e, l, m, n, o))
