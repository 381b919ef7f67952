use Rattle.std.proofs.Common.{◌≡◌, ◌∷◌, [], ◌++◌, sym, ap, ◌∙◌, refl, arith, length, length-append, get_or}
use Rattle.document_audits.proofs.Openings.{unopened_start, unopened_with, opened_with, byte_refused, byte_past}
use Rattle.document_audits.proofs.Openings.{broken_off, ended_here, pushed}
use Rattle.document_audits.proofs.opening.read_opening.Goals as goal

pub loop-bytes-init : goal.loop-bytes-init
loop-bytes-init g c = unopened_start _ _ _ _ _ _ c.new-lexer.ensures c.new-bytes.ensures.items refl

pub returns-in-Failed-clause-moves : goal.returns-in-Failed-clause-moves
returns-in-Failed-clause-moves g c = broken_off _ _ _ _ _ _ _ _ c.loop-bytes.invariant _ c.in-Failed.ensures.moves

pub returns-in-End-clause-moves : goal.returns-in-End-clause-moves
returns-in-End-clause-moves g c = ended_here _ _ _ _ _ _ _ _ c.loop-bytes.invariant _ c.read.new.into c.in-End.ensures.moves

pub returns-then-is_err-clause-moves : goal.returns-then-is_err-clause-moves
returns-then-is_err-clause-moves g c =
    byte_refused _ _ _ _ _ _ _ _ c.loop-bytes.invariant _ _ c.in-Got.field-0 c.read.new.into
    (c.read.auto.into ∙ c.loop-bytes.invariant.one) c.in-Got.ensures.moves c.in-Got.ensures.count

pub returns-then-len-limit-clause-moves : goal.returns-then-len-limit-clause-moves
returns-then-len-limit-clause-moves g c =
    byte_past _ _ _ _ _ _ _ _ c.loop-bytes.invariant _ _ c.in-Got.field-0 c.read.new.into
    (c.read.auto.into ∙ c.loop-bytes.invariant.one) c.in-Got.ensures.moves c.in-Got.ensures.count
    (let w = c.loop-bytes.invariant.within in let past = c.if-len-limit.true in let l = c.len.ensures in
    let i : c.push.new.self.items ≡ c.loop-bytes.bytes.items ++ get_or c.read.new.into 0 0 ∷ [] =
    pushed c.push.result c.push.new.self.items c.loop-bytes.bytes.items
    (get_or c.read.new.into 0 0 ∷ []) c.push.ensures.items (sym c.is_err.ensures.value ∙ c.if-is_err.false) in
    let m = ap length i in
    let n = length-append c.loop-bytes.bytes.items (get_or c.read.new.into 0 0 ∷ []) in
    omega (arith, w, past, l, m, n))

pub returns-then-is_filled_at-clause-moves : goal.returns-then-is_filled_at-clause-moves
returns-then-is_filled_at-clause-moves g c =
    opened_with _ _ _ _ _ _ _ _ c.loop-bytes.invariant _ _ c.in-Got.field-0 c.read.new.into
    (c.read.auto.into ∙ c.loop-bytes.invariant.one) c.in-Got.ensures.moves c.in-Got.ensures.count
    c.is_filled_at.new.lexer c.push.new.self.items c.is_filled_at.ensures.step
    (pushed c.push.result c.push.new.self.items c.loop-bytes.bytes.items
    (get_or c.read.new.into 0 0 ∷ []) c.push.ensures.items (sym c.is_err.ensures.value ∙ c.if-is_err.false))
    (let past = c.if-len-limit.false in let l = c.len.ensures in
    let i : c.push.new.self.items ≡ c.loop-bytes.bytes.items ++ get_or c.read.new.into 0 0 ∷ [] =
    pushed c.push.result c.push.new.self.items c.loop-bytes.bytes.items
    (get_or c.read.new.into 0 0 ∷ []) c.push.ensures.items (sym c.is_err.ensures.value ∙ c.if-is_err.false) in
    let m = ap length i in
    let n = length-append c.loop-bytes.bytes.items (get_or c.read.new.into 0 0 ∷ []) in
    omega (arith, past, l, m, n)) c.kind_of_line.result
    (sym c.is_filled_at.ensures.filled ∙ c.if-is_filled_at.true) c.kind_of_line.ensures

pub loop-bytes-preserved : goal.loop-bytes-preserved
loop-bytes-preserved g c =
    unopened_with _ _ _ _ _ _ _ _ c.loop-bytes.invariant _ _ c.in-Got.field-0 c.read.new.into
    (c.read.auto.into ∙ c.loop-bytes.invariant.one) c.in-Got.ensures.moves c.in-Got.ensures.count
    c.is_filled_at.new.lexer c.push.new.self.items c.is_filled_at.ensures.step
    (pushed c.push.result c.push.new.self.items c.loop-bytes.bytes.items
    (get_or c.read.new.into 0 0 ∷ []) c.push.ensures.items (sym c.is_err.ensures.value ∙ c.if-is_err.false))
    (let past = c.if-len-limit.false in let l = c.len.ensures in
    let i : c.push.new.self.items ≡ c.loop-bytes.bytes.items ++ get_or c.read.new.into 0 0 ∷ [] =
    pushed c.push.result c.push.new.self.items c.loop-bytes.bytes.items
    (get_or c.read.new.into 0 0 ∷ []) c.push.ensures.items (sym c.is_err.ensures.value ∙ c.if-is_err.false) in
    let m = ap length i in
    let n = length-append c.loop-bytes.bytes.items (get_or c.read.new.into 0 0 ∷ []) in
    omega (arith, past, l, m, n))
    (sym c.is_filled_at.ensures.filled ∙ c.if-is_filled_at.false)
