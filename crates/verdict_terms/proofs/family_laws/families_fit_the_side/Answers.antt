use Rattle.verdict_terms.proofs.Aside.{family_fits}
use Rattle.verdict_terms.proofs.family_laws.families_fit_the_side.Goals as goal

pub returns : goal.returns
returns c instance places es i vs sides packing respects family =
    family_fits instance places es i sides packing respects vs family
