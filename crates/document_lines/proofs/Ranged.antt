-- A claim that is read is within the ends of its numbers.
use Rattle.std.proofs.Common.{◌≡◌, ℕ, List, Ok}
use Rattle.packing_terms.specs.Packing.{PlainInstance}
use Rattle.text_terms.specs.declared.claim.Claim.{Claim}
use Rattle.text_terms.specs.declared.claim.Claim.TheVariants.{Fitting, NotFitting, LeastHeight, HeightBetween}
use Rattle.text_terms.specs.declared.claim.Claim.TheVariants.{NoHeight, LeastBins, BinsBetween, NoBins}
use Rattle.text_terms.specs.declared.claim.Claim.TheVariants.{GreatestValue, ValueBetween}
use Rattle.text_terms.specs.declared.claim.SolvingJob.{SolvingJob}
use Rattle.verdict_terms.specs.Form.{IsResult}
use Rattle.verdict_terms.specs.Results.{claim_of}
use Rattle.verdict_terms.proofs.ResultsTold.{result_told}
use Rattle.document_lines.specs.Ranges.{IsRanged}

by_result : (instance : PlainInstance) (claim : Claim) (words : List (List ℕ)) → IsResult instance claim words
    → IsRanged instance claim
by_result instance Fitting words r = tt
by_result instance NotFitting words r = tt
by_result instance (LeastHeight h) words r = (r.is_number.least, r.is_number.most)
by_result instance (HeightBetween a b) words r = (r.rising, r.most)
by_result instance NoHeight words r = tt
by_result instance (LeastBins k) words r = (r.is_number.least, r.is_number.most)
by_result instance (BinsBetween a b) words r = (r.rising, r.most)
by_result instance NoBins words r = tt
by_result instance (GreatestValue v) words r = r.is_number.most
by_result instance (ValueBetween a b) words r = (r.rising, r.most)

pub claim_ranged : (job : SolvingJob) (instance : PlainInstance) (words : List (List ℕ)) (claim : Claim)
    → claim_of job instance words ≡ Ok claim → IsRanged instance claim
claim_ranged job instance words claim e = by_result instance claim words (result_told instance claim job words e).is
