-- How many bytes an audit reads, by the way in which it reads the document.
use Rattle.std.proofs.Common.{◌≡◌, ℕ, inl, inr, sym, ap, subst, arith, List, length}
use Rattle.std.proofs.Common.{Option, Some}
use Rattle.verdict_terms.specs.declared.heading.Heading.TheVariants.{Bounded}
use Rattle.verdict_terms.specs.Documents.{bounded_verdict}
use Rattle.document_audits.proofs.Telling.{one_way, lines_go_on, lines_come_back}
use Rattle.pack_command.specs.Inputs.{max_audit_bytes}
use Rattle.pack_command.specs.ByLines.{AreByLines, IsUnaudited}
use Rattle.pack_command.specs.ByLines.{AreAuditable, AreTooMany}
use Rattle.pack_command.specs.Readings.{IsDocumentTaken, Audits}
use Rattle.pack_command.specs.declared.stop.Stop.TheVariants.{TooLong}
use Rattle.pack_command.proofs.Checked.{told_rest, found_under}
use Rattle.pack_command.proofs.Written.{taken_all, taken_within}

module _ (old new : Option (List ℕ)) (bytes : List ℕ) (is : old ≡ Some bytes) where
  -- a document that isn't too long isn't refused as such
  pub never_long : AreAuditable bytes → IsUnaudited old new TooLong → ⊥
  never_long (inl few) (inl (taken, gives, past, most, held)) =
      let l = taken_within old new taken bytes is gives in
      omega (arith, l, past, few)
  never_long (inl few) (inr (p, lines)) =
      let l = taken_within old new p.taken bytes is p.gives in
      let past = p.past in
      omega (arith, l, past, few)
  never_long (inr (lines, few)) (inl (taken, gives, past, most, held)) =
      let rest = told_rest old new taken bytes is gives in
      (one_way max_audit_bytes taken).1
      (lines_come_back max_audit_bytes taken rest.0 (omega (arith, past)) (subst AreByLines rest.1 lines)) held
  never_long (inr (lines, few)) (inr (p, also)) =
      let l = taken_within old new p.taken bytes is p.gives in
      let past = p.past in
      omega (arith, l, past, few)

  -- one that is too long has no verdict
  pub none_taken : AreTooMany bytes → (taken : List ℕ) → IsDocumentTaken Audits old new taken → ⊥
  none_taken (inl (past, held)) taken (inl (also, whole)) =
      let same = taken_all old new taken bytes is whole.taken whole.ended in
      let few = whole.within in
      omega (arith, ap length same, past, few)
  none_taken (inl (past, held)) taken (inr some) =
      let rest = told_rest old new taken bytes is some.taken in
      (one_way max_audit_bytes bytes).1
      (subst AreByLines (sym rest.1) (lines_go_on max_audit_bytes taken rest.0 some.lines)) held
  none_taken (inr (past, none)) taken (inl (held, whole)) =
      let same = taken_all old new taken bytes is whole.taken whole.ended in
      let few = whole.within in
      omega (arith, ap length same, past, few)
  none_taken (inr (past, none)) taken (inr some) =
      found_under Bounded old new bytes is past none taken some.taken (bounded_verdict taken) some.enough
