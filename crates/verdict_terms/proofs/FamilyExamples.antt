-- Whole refutations by one family: four boxes 6 2 don't fit into 10 7, though their closure has no
-- conflict.
use Rattle.std.proofs.Common.{refl, [], ◌∷◌, Some}
use Rattle.std.specs.Prelude.{◌≡◌}
use Rattle.packing_terms.specs.Tokens.PlainToken.{Rules}
use Rattle.verdict_terms.specs.declared.check_answers.RefuseCode.TheVariants.{Conflict}
use Rattle.verdict_terms.specs.Judging.{refusal}
use Rattle.verdict_terms.specs.FamilyRefutation.{Family, Free, RefutesFamilies}
use Rattle.verdict_terms.proofs.FamilyJudged.{families_refute}
use Rattle.verdict_terms.proofs.FamilyRows.{four}

no_conflict : refusal (four 7) [] Rules ≡ Some Conflict
no_conflict = refl

by_one_line : RefutesFamilies (four 7) (Free []) (Family 2 (1 ∷ 2 ∷ 3 ∷ 4 ∷ []) ∷ [])
by_one_line = (families_refute (four 7) (Free []) _).0 refl

by_two_lines : RefutesFamilies (four 7) (Free []) (Family 2 (4 ∷ 2 ∷ []) ∷ Family 2 (1 ∷ 3 ∷ []) ∷ [])
by_two_lines = (families_refute (four 7) (Free []) _).0 refl
