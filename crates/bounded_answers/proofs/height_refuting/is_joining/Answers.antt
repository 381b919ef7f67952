use Rattle.std.proofs.Common.{◌≤◌, sym, subst, ℕ, List, [], ◌∷◌, length}
use Rattle.verdict_terms.specs.FamilyLines.{most_joining}
use Rattle.bounded_tokens.specs.declared.family_token.FamilyToken.{FamilyToken}
use Rattle.bounded_tokens.specs.FamilyPlain.{plain_family}
use Rattle.answer_terms.specs.HeightAnswers.{AreJoining}
use Rattle.bounded_answers.proofs.height_refuting.is_joining.Goals as goal

pub returns-in-Family : goal.returns-in-Family
returns-in-Family c = λ some.
    let line = subst (λ (vs : List ℕ). (1 ≤ length vs) × (length vs ≤ most_joining)) c.as_slice.ensures.value
    (c.is_line.ensures some) in
    subst (λ (t : FamilyToken). AreJoining (plain_family t ∷ [])) (sym c.in-Family.is) (line.0, line.1, tt)
