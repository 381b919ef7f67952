-- The excess law, which the soundness of refutations takes as its premise.
use Rattle.packing_terms.specs.ExcessLaw.{ExcessLaw}
use Rattle.packing_terms.proofs.Packings.{none_fits, none_shared}
use Rattle.packing_terms.proofs.ScaleInBins.{bins_share}

pub excess_law : ExcessLaw
excess_law = record {
  one = none_fits;
  bins = λ instance fs k x p. none_shared instance fs k x (bins_share instance k p);
}
