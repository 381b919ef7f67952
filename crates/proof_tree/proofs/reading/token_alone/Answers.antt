use Rattle.std.proofs.Common.{drop, arith}
use Rattle.proof_tree.specs.Plain.{plain_token}
use Rattle.proof_tree.proofs.TokenWords.{none_else, some_behind}
use Rattle.proof_tree.proofs.reading.token_alone.Goals as goal

pub returns-else-word_count-eq1 : goal.returns-else-word_count-eq1
returns-else-word_count-eq1 c =
    let n = c.word_count.ensures.count in
    let o = c.if-word_count-eq1.false in
    none_else (plain_token c.args.token) (drop 1 c.args.line.now.held.words)
    (some_behind c.args.line.now.held.words c.args.line.now.held.count c.requires.word c.word_count.ensures.limits.held
    (λ e. omega (arith, n, o, e)))
