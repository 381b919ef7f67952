use Rattle.std.proofs.Common.{◌∙◌, ◌+◌, ℕ, Bool, sym, ap, subst, Ok, Err}
use Rattle.text_terms.specs.Feeding.{ended_line}
use Rattle.verdict_terms.specs.declared.reason.Reason.TheVariants.{TooShort}
use Rattle.document_audits.specs.declared.front_audit.FrontAudit.TheVariants.{Refused}
use Rattle.document_audits.specs.FrontParts.{IsGrown}
use Rattle.document_audits.proofs.FrontRead.{tree_begun, tree_more, tree_done, tree_refused, tree_short}
use Rattle.document_audits.proofs.front_tree.read_tree.Goals as goal

pub returns-then-not-there-clause-read : goal.returns-then-not-there-clause-read
returns-then-not-there-clause-read c =
    tree_short c.args.bytes.now c.args.at.now c.loop-alloc.at c.next_taken-there.new.at c.args.instance.now c.args.width
    c.args.height c.loop-alloc.refuter c.loop-alloc.invariant.1 c.if-not-there.ensures.line c.short.result
    (c.short.ensures ∙ ap (λ (n : ℕ). Refused (n + 1) TooShort) c.line_number-line.ensures)

pub returns-in-Ok-true-clause-read : goal.returns-in-Ok-true-clause-read
returns-in-Ok-true-clause-read c =
    tree_done c.args.bytes.now c.args.at.now c.loop-alloc.at c.next_taken-there.new.at c.args.instance.now c.args.width
    c.args.height c.loop-alloc.refuter c.take_token.new.refuter c.loop-alloc.invariant.1 c.if-not-there.ensures.line
    (subst (λ (b : Bool). IsGrown c.loop-alloc.refuter c.take_token.new.refuter
    (ended_line c.next_taken-there.new.at.line.held) (Ok b)) c.in-Ok-true.field-0-test c.in-Ok-true.ensures)

pub loop-alloc-preserved : goal.loop-alloc-preserved
loop-alloc-preserved c = (
  c.next_taken-there.ensures.at,
  tree_more c.args.bytes.now c.args.at.now c.loop-alloc.at c.next_taken-there.new.at c.args.instance.now c.args.width
      c.args.height c.loop-alloc.refuter c.take_token.new.refuter c.loop-alloc.invariant.1 c.if-not-there.ensures.line
      (subst (λ (b : Bool). IsGrown c.loop-alloc.refuter c.take_token.new.refuter
      (ended_line c.next_taken-there.new.at.line.held) (Ok b)) c.in-Ok-false.field-0-test c.in-Ok-false.ensures)
      (c.next_taken-there.ensures.fewer c.if-not-there.false),
)

pub returns-in-Err-clause-read : goal.returns-in-Err-clause-read
returns-in-Err-clause-read c = λ complete points left.
    tree_refused c.args.bytes.now c.args.at.now c.loop-alloc.at c.next_taken-there.new.at c.args.instance.now
    c.args.width c.args.height c.loop-alloc.refuter c.take_token.new.refuter c.loop-alloc.invariant.1
    c.if-not-there.ensures.line c.in-Err.reason c.in-Err.ensures complete points left
    ∙ ap (λ (n : ℕ). Err (record { line = n; reason = c.in-Err.reason })) (sym c.line_number-line.ensures)

pub loop-alloc-init : goal.loop-alloc-init
loop-alloc-init c = (
  c.requires.at,
  tree_begun c.args.bytes.now c.args.at.now c.args.instance.now c.args.width
      c.args.height _ c.in-Ok-new.refuter c.in-Ok-new.ensures c.in-Ok.ensures,
)
