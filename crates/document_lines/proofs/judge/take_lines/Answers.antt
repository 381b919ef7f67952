use Rattle.std.proofs.Common.{◌≡◌, ◌<◌, ◌≤◌, ◌∙◌, ◌+◌, get_or, refl, sym, subst, arith, length}
use Rattle.pack_streams.proofs.Faults.{stays_on, fails_then}
use Rattle.text_terms.specs.Feeding.{Lexer}
use Rattle.verdict_terms.specs.declared.reason.Reason.{Reason}
use Rattle.document_lines.specs.declared.judge.ReadEnd.TheVariants.{Refused}
use Rattle.document_lines.specs.Reading.{IsRead}
use Rattle.document_lines.proofs.Steps.{ends_here, fails_here, refused_at, no_memory_at, long_here, taking_more}
use Rattle.document_lines.proofs.Steps.{paused_at, number_rises, still_takes}
use Rattle.document_lines.proofs.judge.take_lines.Goals as goal

pub returns-in-Failed-clause-read : goal.returns-in-Failed-clause-read
returns-in-Failed-clause-read g c = λ heading front first taking.
    fails_here heading front 1099511627776 c.loop-count.count first _ _ _ _ _ _ c.loop-count.count
    (c.loop-count.invariant.0.taking heading front first taking)
    (fails_then _ _ _ c.loop-count.invariant.0.stays c.in-Failed.ensures.count)
    (let t = c.loop-count-test.true in omega (arith, t)) c.in-Failed.ensures.moves

pub returns-in-End-clause-read : goal.returns-in-End-clause-read
returns-in-End-clause-read g c = λ heading front first taking.
    ends_here heading front 1099511627776 c.loop-count.count first _ _ _ _ _ _ c.loop-count.count
    (c.loop-count.invariant.0.taking heading front first taking)
    (stays_on _ _ _ c.loop-count.invariant.0.stays c.in-End.ensures.count)
    c.read.new.into _ _ c.take_end.result (let t = c.loop-count-test.true in omega (arith, t)) c.in-End.ensures.moves
    c.take_end.ensures.end

pub returns-in-Err-Refused-clause-read : goal.returns-in-Err-Refused-clause-read
returns-in-Err-Refused-clause-read g c = λ heading front first taking.
    subst
    (λ (r : Reason). IsRead heading front 1099511627776 first (g.S.Source.left c.read.new.self)
    (g.S.Source.faults c.args.input.now) (g.S.Source.faults c.read.new.self) c.take_byte.new.lexer
    (g.J.LineJudge.stage c.take_byte.new.judge) c.loop-count.count (Refused r))
    (sym c.in-Err-Refused.reason-is)
    (refused_at heading front 1099511627776 c.loop-count.count first _ _ _ _ _ _ c.loop-count.count
    (c.loop-count.invariant.0.taking heading front first taking)
    (stays_on _ _ _ c.loop-count.invariant.0.stays c.in-Got.ensures.count)
    c.in-Got.field-0 c.read.new.into _ _ (let t = c.loop-count-test.true in omega (arith, t))
    (c.read.auto.into ∙ c.loop-count.invariant.0.one) c.in-Got.ensures.moves
    c.in-Err-Refused.field-0 c.in-Err-Refused.reason c.in-Err-Refused.field-0-is c.in-Err-Refused.ensures.byte)

pub returns-in-Err-NoMemory-clause-read : goal.returns-in-Err-NoMemory-clause-read
returns-in-Err-NoMemory-clause-read g c = λ heading front first taking.
    no_memory_at heading front 1099511627776 c.loop-count.count first _ _ _ _ _ _ c.loop-count.count
    (c.loop-count.invariant.0.taking heading front first taking)
    (stays_on _ _ _ c.loop-count.invariant.0.stays c.in-Got.ensures.count)
    c.in-Got.field-0 c.read.new.into _ _ (let t = c.loop-count-test.true in omega (arith, t))
    (c.read.auto.into ∙ c.loop-count.invariant.0.one) c.in-Got.ensures.moves

pub returns-then-is_paused-clause-read : goal.returns-then-is_paused-clause-read
returns-then-is_paused-clause-read g c = λ heading front first taking.
    paused_at heading front 1099511627776 (c.loop-count.count + 1) first _ _ _ _ _ _ c.loop-count.count
    (c.loop-count.invariant.0.taking heading front first taking)
    (stays_on _ _ _ c.loop-count.invariant.0.stays c.in-Got.ensures.count)
    c.in-Got.field-0 c.read.new.into _ _ (c.read.auto.into ∙ c.loop-count.invariant.0.one) c.in-Got.ensures.moves
    c.in-Ok.ensures.byte refl

pub loop-count-preserved : goal.loop-count-preserved
loop-count-preserved g c =
    let length_is : length c.read.new.into ≡ 1 = c.read.auto.into ∙ c.loop-count.invariant.0.one in
    let room : c.loop-count.count < 1099511627776 = let t = c.loop-count-test.true in omega (arith, t) in
    let stays = stays_on _ _ _ c.loop-count.invariant.0.stays c.in-Got.ensures.count in
    let rises = number_rises c.loop-count.lexer (get_or c.read.new.into 0 0) in (
      record {
        taking = λ heading front first taking.
            taking_more heading front 1099511627776 c.loop-count.count first _ _ _ _ _ _ c.loop-count.count
            (c.loop-count.invariant.0.taking heading front first taking) stays c.in-Got.field-0 c.read.new.into _ _
            length_is c.in-Got.ensures.moves c.in-Ok.ensures.byte;
        one = length_is;
        number = (let n = c.loop-count.invariant.0.number in
            let e : c.take_byte.new.lexer.number ≤ c.loop-count.lexer.number + 1 =
            subst (λ (x : Lexer). x.number ≤ c.loop-count.lexer.number + 1) (sym c.in-Ok.ensures.byte.0) rises in
            omega (arith, n, e));
        few = omega (arith, room);
        stays = stays;
        ready = still_takes _ (sym c.if-is_paused.false ∙ c.is_paused.ensures.paused);
      },
      c.take_byte.ensures.behind ∙ c.loop-count.invariant.1,
    )

pub returns-in-Failed-read-clause-read : goal.returns-in-Failed-read-clause-read
returns-in-Failed-read-clause-read g c = λ heading front first taking.
    fails_here heading front 1099511627776 c.loop-count.count first _ _ _ _ _ _ c.loop-count.count
    (c.loop-count.invariant.0.taking heading front first taking)
    (fails_then _ _ _ c.loop-count.invariant.0.stays c.in-Failed-read.ensures.count)
    c.loop-count.invariant.0.few c.in-Failed-read.ensures.moves

pub returns-in-End-read-clause-read : goal.returns-in-End-read-clause-read
returns-in-End-read-clause-read g c = λ heading front first taking.
    ends_here heading front 1099511627776 c.loop-count.count first _ _ _ _ _ _ c.loop-count.count
    (c.loop-count.invariant.0.taking heading front first taking)
    (stays_on _ _ _ c.loop-count.invariant.0.stays c.in-End-read.ensures.count)
    c.read-2.new.into _ _ c.take_end-in-End-read.result c.loop-count.invariant.0.few c.in-End-read.ensures.moves
    c.take_end-in-End-read.ensures.end

pub returns-in-Got-read-clause-read : goal.returns-in-Got-read-clause-read
returns-in-Got-read-clause-read g c = λ heading front first taking.
    long_here heading front 1099511627776 c.loop-count.count first _ _ _ _ _ _ c.loop-count.count
    (c.loop-count.invariant.0.taking heading front first taking)
    (stays_on _ _ _ c.loop-count.invariant.0.stays c.in-Got-read.ensures.count)
    c.in-Got-read.field-0 c.read-2.new.into
    (let f = c.loop-count-test.false in let l = c.loop-count.invariant.0.few in omega (arith, f, l))
    (c.read-2.auto.into ∙ c.loop-count.invariant.0.one) c.in-Got-read.ensures.moves
