use Rattle.std.proofs.Common.{drop, arith}
use Rattle.proof_tree.proofs.TokenWords.{set_else, some_behind}
use Rattle.proof_tree.proofs.reading.set_refuted.Goals as goal

pub returns-in-None : goal.returns-in-None
returns-in-None c =
    let n = c.word_count.ensures.count in
    let o = c.if-word_count-eq1.false in
    set_else (drop 1 c.args.line.now.held.words)
    (some_behind c.args.line.now.held.words c.args.line.now.held.count c.requires.word c.word_count.ensures.limits.held
    (λ e. omega (arith, n, o, e))) c.in-None.ensures
