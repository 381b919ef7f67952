use Rattle.std.proofs.Common.{◌∙◌, map, sym, arith}
use Rattle.std.proofs.lemmas.List.{length-map}
use Rattle.verdict_terms.proofs.FrontJudged.{good_lines_are_true}
use Rattle.front_check.specs.Plain.{plain_line}
use Rattle.front_check.proofs.Audited.{audited_good}
use Rattle.front_check.proofs.audit.audit_front.Goals as goal

pub returns-then-is_whole-clause-right : goal.returns-then-is_whole-clause-right
returns-then-is_whole-clause-right c = λ good.
    good_lines_are_true c.args.instance.now c.args.complete c.args.points (map plain_line c.args.lines.now)
    c.len-limits.ensures.limits c.requires.plane
    (audited_good c.args.instance.now c.args.complete c.args.points (map plain_line c.args.lines.now) c.loop-index.index
    c.loop-index.stage c.loop-index.invariant
    (let k = length-map c.args.lines.now plain_line in let f = c.loop-index-test.false in omega (arith, k, f))
    (sym c.is_whole.ensures ∙ c.if-is_whole.true))
