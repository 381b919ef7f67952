use Rattle.relation_table.proofs.Tables.{has_bit}
use Rattle.relation_table.proofs.mask.Mask.has.Goals as goal

pub returns : goal.returns
returns c = rw (c.bit_of.ensures, ← c.self.view_is) (has_bit _ c.self.invariant _)
