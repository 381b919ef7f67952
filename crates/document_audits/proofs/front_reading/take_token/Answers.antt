use Rattle.std.proofs.Common.{◌∙◌, sym, ap, Some}
use Rattle.text_terms.specs.Feeding.{ended_line}
use Rattle.proof_tree.specs.Plain.{plain_token}
use Rattle.document_audits.specs.declared.front_lines.NamedLine.{NamedLine}
use Rattle.document_audits.specs.FrontNames.{plain_named}
use Rattle.document_audits.proofs.FrontRead.{fed_more, fed_done, fed_refused}
use Rattle.document_audits.proofs.front_reading.take_token.Goals as goal

pub returns-in-More : goal.returns-in-More
returns-in-More c =
    fed_more c.args.refuter.now c.feed.new.self (plain_token c.in-Some-Tree.token) c.feed.result c.requires
    c.feed.ensures.step c.feed.ensures.answer (ended_line c.args.line.now.held)
    (sym c.bad_byte.ensures ∙ c.if-bad_byte.false) (sym c.is_word.ensures ∙ c.if-is_word.false)
    (sym (ap (λ (l : NamedLine). Some (plain_named l)) c.in-Some-Tree.field-0-is) ∙ c.in-Some-Tree.ensures)
    c.in-More.is

pub returns-in-Done : goal.returns-in-Done
returns-in-Done c =
    fed_done c.args.refuter.now c.feed.new.self (plain_token c.in-Some-Tree.token) c.feed.result c.requires
    c.feed.ensures.step c.feed.ensures.answer (ended_line c.args.line.now.held)
    (sym c.bad_byte.ensures ∙ c.if-bad_byte.false) (sym c.is_word.ensures ∙ c.if-is_word.false)
    (sym (ap (λ (l : NamedLine). Some (plain_named l)) c.in-Some-Tree.field-0-is) ∙ c.in-Some-Tree.ensures)
    c.in-Done.is

pub returns : goal.returns
returns c =
    fed_refused c.args.refuter.now c.feed.new.self (plain_token c.in-Some-Tree.token) c.feed.result c.requires
    c.feed.ensures.step c.feed.ensures.answer (ended_line c.args.line.now.held)
    (sym c.bad_byte.ensures ∙ c.if-bad_byte.false) (sym c.is_word.ensures ∙ c.if-is_word.false)
    (sym (ap (λ (l : NamedLine). Some (plain_named l)) c.in-Some-Tree.field-0-is) ∙ c.in-Some-Tree.ensures)
    c.in-Refused.code c.in-Refused.is
