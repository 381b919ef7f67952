use Rattle.std.proofs.Common.{◌∙◌, sym, ap, codes, ◌++◌, List}
use Rattle.pack_streams.proofs.Writers.{more, same}
use Rattle.verdict_terms.specs.FamilyLines.{family_token_text}
use Rattle.bounded_tokens.specs.declared.family_token.FamilyToken.{FamilyToken}
use Rattle.bounded_tokens.specs.FamilyPlain.{plain_family_tokens}
use Rattle.bounded_answers.specs.declared.height_levels.HeightProof.{HeightProof}
use Rattle.bounded_answers.specs.Heights.{plain_proof}
use Rattle.answer_streams.proofs.BoundedStripTexts.{plain_text}
use Rattle.answer_streams.proofs.bounded_strips.write_height_proof.Goals as goal

pub returns-in-Plain : goal.returns-in-Plain
returns-in-Plain g c =
    same _ _ _ _ _ _ _ _
    (ap (λ text. codes "proof\n" ++ text) (plain_text c.in-Plain.tokens)
    ∙ ap (λ (p : HeightProof). codes "proof\n" ++ family_token_text (plain_proof p)) (sym c.in-Plain.is))
    c.write_proof.ensures

pub returns-in-Families : goal.returns-in-Families
returns-in-Families g c =
    same _ _ _ _ _ _ _ _
    (ap (λ (ts : List FamilyToken). codes "proof\n" ++ family_token_text (plain_family_tokens ts))
    c.deref.ensures.value
    ∙ ap (λ (p : HeightProof). codes "proof\n" ++ family_token_text (plain_proof p)) (sym c.in-Families.is))
    (more _ _ _ _ _ _ _ _ _ _ _ c.write_on-split.ensures.goes_on c.write_family_tokens.ensures)
