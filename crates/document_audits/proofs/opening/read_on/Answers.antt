use Rattle.std.proofs.Common.{take, length, arith, length-append, length-take}
use Rattle.std.specs.Prelude.{is_ok, vec_len}
use Rattle.document_audits.proofs.Rest.{more_read, at_most}
use Rattle.document_audits.proofs.opening.read_on.Goals as goal

pub returns-then-is_err-clause-moves : goal.returns-then-is_err-clause-moves
returns-then-is_err-clause-moves g c =
    let m = c.in-Got.ensures.moves.1 in
    let t = length-take c.in-Got.count c.read.new.into in
    let r = c.read.auto.into in
    let read = more_read _ _ _ _ _ c.args.limit c.args.held.items c.loop-count.bytes.items
    (take c.in-Got.count c.read.new.into) c.loop-count.invariant c.in-Got.ensures.moves.2 (omega (arith, m, t, r)) in
    (read.0, read.1, read.4)

pub returns-then-len-limit-clause-moves : goal.returns-then-len-limit-clause-moves
returns-then-len-limit-clause-moves g c =
    let m = c.in-Got.ensures.moves.1 in
    let t = length-take c.in-Got.count c.read.new.into in
    let r = c.read.auto.into in
    let read = more_read _ _ _ _ _ c.args.limit c.args.held.items c.loop-count.bytes.items
    (take c.in-Got.count c.read.new.into) c.loop-count.invariant c.in-Got.ensures.moves.2 (omega (arith, m, t, r)) in
    let past = c.if-len-limit.true in
    let same = read.3 in
    let n = at_most (is_ok c.extend_from_slice.result) (vec_len c.extend_from_slice.new.self)
    (vec_len c.loop-count.bytes) (length (take c.in-Got.count c.read.new.into)) c.extend_from_slice.ensures.len in
    let v = c.len.ensures in
    let a = length-append c.loop-count.bytes.items (take c.in-Got.count c.read.new.into) in
    (read.0, read.1, omega (arith, past, v, n, a, same), read.4)
