use Rattle.std.proofs.Common.{arith, sym, ◌∙◌, Some, None}
use Rattle.text_terms.specs.Feeding.{ended_line}
use Rattle.proof_tree.proofs.TokenWords.{empty_line, line_by_kind}
use Rattle.proof_tree.proofs.reading.read_token.Goals as goal

pub returns-then-word_count-eq0 : goal.returns-then-word_count-eq0
returns-then-word_count-eq0 c =
    let n = c.word_count.ensures.count in
    let l = c.word_count.ensures.limits.held in
    let o = c.if-word_count-eq0.true in
    empty_line c.args.dims (ended_line c.args.line.now.held) (sym c.bad_byte.ensures ∙ c.if-bad_byte.false)
    (omega (arith, n, l, o))

pub returns-in-None : goal.returns-in-None
returns-in-None c =
    let n = c.word_count.ensures.count in
    let l = c.word_count.ensures.limits.held in
    let o = c.if-word_count-eq0.false in
    line_by_kind c.args.dims (ended_line c.args.line.now.held) None (sym c.bad_byte.ensures ∙ c.if-bad_byte.false)
    (omega (arith, n, l, o)) (rw c.word.ensures at c.in-None.ensures)

pub returns-in-Some : goal.returns-in-Some
returns-in-Some c =
    let n = c.word_count.ensures.count in
    let l = c.word_count.ensures.limits.held in
    let o = c.if-word_count-eq0.false in
    c.token_of.ensures
    ∙ line_by_kind c.args.dims (ended_line c.args.line.now.held) (Some c.in-Some.kind)
    (sym c.bad_byte.ensures ∙ c.if-bad_byte.false) (omega (arith, n, l, o))
    (rw c.word.ensures at c.in-Some.ensures)
