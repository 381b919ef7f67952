use Rattle.std.proofs.Common.{◌∙◌, sym, ap}
use Rattle.text_terms.specs.Feeding.{ended_line}
use Rattle.document_lines.specs.Reading.{PlainJudge}
use Rattle.document_lines.proofs.Exceeds.{exceeding_after}
use Rattle.document_lines.proofs.exceeding.OversizeReaderLineJudge.line.Goals as goal

pub returns-in-Ok-clause-judges : goal.returns-in-Ok-clause-judges
returns-in-Ok-clause-judges c =
    exceeding_after c.self.inside.instance.now c.self.inside.claim c.self.inside.dim_count c.self.inside.is_whole
    c.args.self.now.stage (ap (λ (j : PlainJudge). j.stage) (sym c.self.view_is))
    (ap (λ (j : PlainJudge). j.takes) c.self.view_is ∙ c.requires) (ended_line c.args.line.now.held)
    (sym c.is_blank.ensures ∙ c.if-is_blank.false) (sym c.bad_byte.ensures ∙ c.if-bad_byte.false) _
    (c.in-Ok.ensures c.self.inside.claim)

pub returns-in-Err-clause-judges : goal.returns-in-Err-clause-judges
returns-in-Err-clause-judges c =
    exceeding_after c.self.inside.instance.now c.self.inside.claim c.self.inside.dim_count c.self.inside.is_whole
    c.args.self.now.stage (ap (λ (j : PlainJudge). j.stage) (sym c.self.view_is))
    (ap (λ (j : PlainJudge). j.takes) c.self.view_is ∙ c.requires) (ended_line c.args.line.now.held)
    (sym c.is_blank.ensures ∙ c.if-is_blank.false) (sym c.bad_byte.ensures ∙ c.if-bad_byte.false) _
    (c.in-Err.ensures c.self.inside.claim)
