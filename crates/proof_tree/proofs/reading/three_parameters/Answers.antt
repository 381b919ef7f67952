use Rattle.std.proofs.Common.{arith, drop}
use Rattle.std.proofs.lemmas.List.{length-drop}
use Rattle.proof_tree.proofs.TokenWords.{three_else}
use Rattle.proof_tree.proofs.reading.three_parameters.Goals as goal

pub returns-then-word_count-ne4 : goal.returns-then-word_count-ne4
returns-then-word_count-ne4 c =
    let n = c.word_count.ensures.count in
    let l = c.word_count.ensures.limits.held in
    let m = length-drop 1 c.args.line.now.held.words in
    let o = c.if-word_count-ne4.true in
    three_else (drop 1 c.args.line.now.held.words) (λ e. omega (arith, e, l, m, n, o))
