use Rattle.std.proofs.Common.{◌∙◌, sym}
use Rattle.document_lines.proofs.Shares.{tested, sides_fit}
use Rattle.document_lines.proofs.bin_places.test_shares.Goals as goal

pub returns-in-Ok-None : goal.returns-in-Ok-None
returns-in-Ok-None c = (
  tested c.args.instance.now c.args.bin_count c.args.bins.now c.args.places.now
      (c.if-bins-len.false ∙ c.len.ensures.value) (sym c.in-Ok-None.ensures ∙ c.in-Ok-None.field-0-is),
  sides_fit c.args.instance.now c.args.bin_count c.args.bins.now c.args.places.now
      (c.if-bins-len.false ∙ c.len.ensures.value) c.requires (sym c.in-Ok-None.ensures ∙ c.in-Ok-None.field-0-is),
)
