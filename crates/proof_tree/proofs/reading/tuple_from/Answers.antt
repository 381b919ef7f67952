use Rattle.std.proofs.Common.{◌∷◌, [], arith, length-append, ◌∙◌}
use Rattle.proof_tree.proofs.TokenWords.{read_more, read_long}
use Rattle.proof_tree.proofs.reading.tuple_from.Goals as goal

pub loop-preserved : goal.loop-preserved
loop-preserved c =
    let n = c.in_ok-named.ensures in
    let before = c.loop.tuple.items in
    let more = length-append before (c.in_ok-named.named.function ∷ []) in
    let count = c.loop.invariant.1 in
    rw c.push_reserved.ensures.items (
      read_more c.args.line.now.held.words c.args.first c.loop.k c.in_ok-named.named.next before c.in_ok-named.named.function n.front
          n.within n.few c.loop.invariant.0,
      omega (arith, more, count),
      c.push_reserved.ensures.capacity ∙ c.loop.invariant.2,
    )

pub returns-else-k-count-2 : goal.returns-else-k-count-2
returns-else-k-count-2 c =
    let read = c.loop.invariant.0 in
    let within = read.within in
    let few = read.few in
    let read_all = c.loop.invariant.1 in
    let held = c.word_count-count.ensures.limits.held in
    let same = c.word_count-count.ensures.count in
    let end = c.loop.auto.counter-end in
    let most = c.requires.dims in
    let start = c.requires.few in
    read_long c.args.dims c.args.first c.loop.k c.args.line.now.held.words c.loop.tuple.items read
    (omega (arith, within, few, read_all, held, same, end, most, start, c.if-k-count-2.false, c.loop-test.false))
    (omega (arith, read_all, end, c.loop-test.false))
