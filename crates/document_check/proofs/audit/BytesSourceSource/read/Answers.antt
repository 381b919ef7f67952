use Rattle.std.proofs.Common.{◌<◌, length, arith, ap, sym, Some}
use Rattle.std.proofs.Math.ListN.{length-set}
use Rattle.document_check.proofs.Audits.{one_given}
use Rattle.document_check.proofs.audit.BytesSourceSource.read.Goals as goal

pub returns-clause-moves : goal.returns-clause-moves
returns-clause-moves c =
    let kept = c.self.invariant in
    let low : c.self.inside.given < length c.self.inside.bytes.now = omega (arith, c.if-self.false, kept) in (
      omega arith,
      simp length-set (omega arith),
      ap Some (one_given c.self.inside.bytes.now c.args.into.now c.self.inside.given c.args.self.now
          (sym c.self.view_is) low c.requires),
    )
