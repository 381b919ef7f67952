use Rattle.std.proofs.Common.{◌∙◌, sym, ap, Some, Err}
use Rattle.text_terms.specs.Feeding.{ended_line}
use Rattle.proof_tree.specs.Plain.{plain_token}
use Rattle.document_audits.specs.declared.front_lines.NamedLine.{NamedLine}
use Rattle.document_audits.specs.FrontNames.{plain_named}
use Rattle.document_audits.proofs.FrontOpened.{token_taken}
use Rattle.document_audits.proofs.front_opening.open_part.Goals as goal

pub returns-in-Some-Tree : goal.returns-in-Some-Tree
returns-in-Some-Tree c = λ points.
    token_taken c.args.instance.now c.args.complete c.args.stage (ended_line c.args.line.now.held)
    (sym c.bad_byte.ensures ∙ c.if-bad_byte.false) (sym c.is_word.ensures ∙ c.if-is_word.false)
    (plain_token c.in-Some-Tree.field-0-0) c.token_reason.result
    (sym (ap (λ (l : NamedLine). Some (plain_named l)) c.in-Some-Tree.field-0-is) ∙ c.in-Some-Tree.ensures)
    (c.token_reason.ensures c.args.instance.now c.args.complete c.args.stage.left
    (plain_token c.in-Some-Tree.field-0-0)) points
    ∙ ap Err (sym c.told_code.ensures)
