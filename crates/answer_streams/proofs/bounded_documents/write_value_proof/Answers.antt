use Rattle.std.proofs.Common.{◌∙◌, sym, ap, codes, ◌++◌, List}
use Rattle.pack_streams.proofs.Writers.{more, same}
use Rattle.verdict_terms.specs.BoundedLines.{bounded_token_text}
use Rattle.bounded_tokens.specs.declared.token.BoundedToken.{BoundedToken}
use Rattle.bounded_tokens.specs.Plain.{plain_bounded_tokens}
use Rattle.bounded_answers.specs.declared.value_levels.ValueProof.{ValueProof}
use Rattle.bounded_answers.specs.ValueLevels.{plain_proof}
use Rattle.answer_streams.proofs.BoundedTexts.{plain_text}
use Rattle.answer_streams.proofs.bounded_documents.write_value_proof.Goals as goal

pub returns-in-Plain : goal.returns-in-Plain
returns-in-Plain g c =
    same _ _ _ _ _ _ _ _
    (ap (λ text. codes "proof\n" ++ text) (plain_text c.in-Plain.tokens)
    ∙ ap (λ (p : ValueProof). codes "proof\n" ++ bounded_token_text (plain_proof p)) (sym c.in-Plain.is))
    c.write_proof.ensures

pub returns-in-Priced : goal.returns-in-Priced
returns-in-Priced g c =
    same _ _ _ _ _ _ _ _
    (ap (λ (ts : List BoundedToken). codes "proof\n" ++ bounded_token_text (plain_bounded_tokens ts))
    c.deref.ensures.value
    ∙ ap (λ (p : ValueProof). codes "proof\n" ++ bounded_token_text (plain_proof p)) (sym c.in-Priced.is))
    (more _ _ _ _ _ _ _ _ _ _ _ c.write_on-split.ensures.goes_on c.write_priced_tokens.ensures)
