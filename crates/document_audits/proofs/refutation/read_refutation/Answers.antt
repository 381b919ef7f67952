use Rattle.std.proofs.Common.{◌∙◌, sym, ap}
use Rattle.document_audits.specs.Rereading.{plain_reading}
use Rattle.document_audits.proofs.Held.{not_unheaded, not_described, not_broken, refutation_is}
use Rattle.document_audits.proofs.refutation.read_refutation.Goals as goal

pub returns : goal.returns
returns c = refutation_is c.args.bytes.now c.requires c.in-Proving.instance _
    (ap plain_reading (sym c.in-Proving.is) ∙ c.in_ok-instance.ensures)

pub unreachable-requires : goal.unreachable-requires
unreachable-requires c = not_unheaded c.args.bytes.now c.requires
    (ap plain_reading (sym c.in-Heading.is) ∙ c.in_ok-instance.ensures)

pub unreachable-requires-in-Describing : goal.unreachable-requires-in-Describing
unreachable-requires-in-Describing c =
    not_described c.args.bytes.now c.requires _ (ap plain_reading (sym c.in-Describing.is) ∙ c.in_ok-instance.ensures)

pub unreachable-requires-in-Broken : goal.unreachable-requires-in-Broken
unreachable-requires-in-Broken c =
    not_broken c.args.bytes.now c.requires (ap plain_reading (sym c.in-Broken.is) ∙ c.in_ok-instance.ensures)
