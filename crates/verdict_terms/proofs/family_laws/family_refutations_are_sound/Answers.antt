use Rattle.packing_terms.proofs.Excess.{excess_law}
use Rattle.verdict_terms.proofs.FamilySound.{families_sound, none_fits_families, plain_refutes}
use Rattle.verdict_terms.proofs.family_laws.family_refutations_are_sound.Goals as goal

pub returns-clause-respecting : goal.returns-clause-respecting
returns-clause-respecting c instance es tokens places sides h packing =
    families_sound excess_law instance sides places packing h tt

pub returns-clause-fits : goal.returns-clause-fits
returns-clause-fits c instance tokens sides h = none_fits_families excess_law instance sides tokens h

pub returns-clause-plain : goal.returns-clause-plain
returns-clause-plain c instance es tokens h = plain_refutes instance h
