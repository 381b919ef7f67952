-- The document of a front in its pieces.
use Rattle.std.proofs.Common.{◌≡◌, ℕ, sym, ap, ◌∙◌, Bool, true, false, List, [], ◌∷◌, ◌++◌, map, length, codes}
use Rattle.std.proofs.Common.{append-nil}
use Rattle.std.specs.Fmt.{decimal}
use Rattle.std.proofs.lemmas.List.{length-map}
use Rattle.packing_terms.specs.Packing.{PlainInstance}
use Rattle.text_terms.specs.Spelling.{lines_text, instance_words, instance_text}
use Rattle.answer_streams.proofs.Joined.{parts}
use Rattle.size_front.specs.declared.front.Front.{Front}
use Rattle.size_front.specs.Plain.{plain_front, plain_point}
use Rattle.answer_terms.specs.WalkLines.{front_lines}
use Rattle.answer_terms.specs.FrontTexts.{line_words, front_result, front_text}
use Rattle.answer_streams.specs.FrontTexts.{text_of, result_key}

last_word : (word : List ℕ) → ((word ++ []) ++ 10 ∷ []) ++ [] ≡ word ++ 10 ∷ []
last_word word = append-nil ((word ++ []) ++ 10 ∷ []) ∙ ap (λ t. t ++ 10 ∷ []) (append-nil word)

pub result_line : (key : List ℕ) (complete : Bool) (n m : ℕ) → key ≡ result_key complete → m ≡ n
    → key ++ (decimal m ++ codes "\n") ≡ lines_text ((codes "result" ∷ front_result complete n) ∷ [])
result_line key true n m e f =
    ap (λ k. k ++ (decimal m ++ codes "\n")) e
    ∙ (ap (λ i. codes "result front " ++ (decimal i ++ codes "\n")) f
    ∙ ap (λ t. codes "result front " ++ t) (sym (last_word (decimal n))))
result_line key false n m e f =
    ap (λ k. k ++ (decimal m ++ codes "\n")) e
    ∙ (ap (λ i. codes "result partial " ++ (decimal i ++ codes "\n")) f
    ∙ ap (λ t. codes "result partial " ++ t) (sym (last_word (decimal n))))

pub front_pieces : (instance : PlainInstance) (front : Front)
    → codes "front\n" ++ (instance_text instance
    ++ (lines_text ((codes "result" ∷ front_result front.complete (length front.points.items)) ∷ [])
    ++ (text_of (front_lines (plain_front front)) ++ codes "end\n"))) ≡ front_text instance (plain_front front)
unfolding instance_text
front_pieces instance front =
    let count = length-map front.points.items plain_point in
    sym (parts instance (codes "front" ∷ []) (front_result front.complete (length (map plain_point front.points.items)))
    (map line_words (front_lines (plain_front front)))
    ∙ ap (λ n. codes "front\n" ++ (lines_text (instance_words instance)
    ++ (lines_text ((codes "result" ∷ front_result front.complete n) ∷ [])
    ++ (text_of (front_lines (plain_front front)) ++ codes "end\n")))) count)
