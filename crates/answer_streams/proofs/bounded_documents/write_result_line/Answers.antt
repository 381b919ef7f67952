use Rattle.std.proofs.Common.{◌∙◌, sym, ap, codes, List, ℕ, [], ◌∷◌}
use Rattle.pack_streams.proofs.Writers.{same}
use Rattle.text_terms.specs.Spelling.{lines_text}
use Rattle.bounded_answers.specs.ValueLevels.{plain_levels}
use Rattle.answer_streams.proofs.BoundedTexts.{closed_words, apart_words}
use Rattle.answer_streams.proofs.bounded_documents.write_result_line.Goals as goal

pub returns-then-are_closed : goal.returns-then-are_closed
returns-then-are_closed g c =
    same _ _ _ _ _ _ _ _
    (ap (λ (words : List (List ℕ)). lines_text ((codes "result" ∷ words) ∷ []))
    (closed_words (plain_levels c.args.levels.now) (sym c.are_closed.ensures ∙ c.if-are_closed.true)))
    c.write_greatest_line.ensures

pub returns-else-are_closed : goal.returns-else-are_closed
returns-else-are_closed g c =
    same _ _ _ _ _ _ _ _
    (ap (λ (words : List (List ℕ)). lines_text ((codes "result" ∷ words) ∷ []))
    (apart_words (plain_levels c.args.levels.now) (sym c.are_closed.ensures ∙ c.if-are_closed.false)))
    c.write_between_line.ensures
