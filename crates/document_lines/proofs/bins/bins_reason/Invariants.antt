use Rattle.std.proofs.Common.{◌≡◌, None}
use Rattle.verdict_terms.specs.Stages.{first_outside, first_overlap}
use Rattle.document_lines.specs.Sharings.{bin_groups}
use Rattle.document_lines.proofs.bins.bins_reason.Given as goal

abbrev pub invariant-loop-bin : goal.invariant-loop-bin
invariant-loop-bin l =
    (first_outside (bin_groups l.instance l.bins l.places l.bin) ≡ None)
    × (l.overlap ≡ first_overlap (bin_groups l.instance l.bins l.places l.bin))
