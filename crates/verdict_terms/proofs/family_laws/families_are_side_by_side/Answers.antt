use Rattle.verdict_terms.proofs.Pairs.{aside_pairs, pairs_aside}
use Rattle.verdict_terms.proofs.family_laws.families_are_side_by_side.Goals as goal

pub returns : goal.returns
returns c instance es i vs = (aside_pairs instance es i vs, pairs_aside instance es i vs)
