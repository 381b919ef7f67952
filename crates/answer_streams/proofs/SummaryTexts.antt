-- The summary of `make`, written piece by piece.
use Rattle.std.proofs.Common.{◌≡◌, ℕ, List, [], ◌∷◌, ◌++◌, sym, ap, ◌∙◌, append_assoc, append-nil, codes}
use Rattle.std.specs.Fmt.{decimal}
use Rattle.std.proofs.lemmas.List.Concat.{flat_map-append}
use Rattle.packing_terms.specs.Packing.{PlainInstance, box_count}
use Rattle.packing_terms.specs.Rank.{total_volume}
use Rattle.tree_terms.specs.Trees.{PlainOutcome}
use Rattle.text_terms.specs.Spelling.{spaced, lines_text}
use Rattle.answer_terms.specs.Made.{made_words, fit_word, branching_words, made_text}

-- three words in a line, between pieces that are written as they are
ends : (a b c : List ℕ)
    → ((a ++ (codes " boxes " ++ (b ++ (codes " volume " ++ (c ++ []))))) ++ 10 ∷ []) ++ [] ≡ a
    ++ (codes " boxes " ++ (b ++ (codes " volume " ++ (c ++ 10 ∷ []))))
ends a b c =
    append-nil _
    ∙ (append_assoc a (codes " boxes " ++ (b ++ (codes " volume " ++ (c ++ [])))) (10 ∷ [])
    ∙ ap (λ t. a ++ (codes " boxes " ++ t)) (append_assoc b (codes " volume " ++ (c ++ [])) (10 ∷ [])
    ∙ ap (λ t. b ++ (codes " volume " ++ (t ++ 10 ∷ []))) (append-nil c)))

pub made_line : (number : ℕ) (instance : PlainInstance) (n b : ℕ) (v : List ℕ) → n ≡ number → b ≡ box_count instance
    → v ≡ decimal (total_volume instance)
    → codes "made " ++ (decimal n ++ (codes " boxes " ++ (decimal b ++ (codes " volume " ++ (v ++ codes "\n")))))
    ≡ lines_text (made_words number instance ∷ [])
made_line number instance n b v e f h =
    ap (λ t. codes "made " ++ t) (rw (e, f, h)
    (sym (ends (decimal number) (decimal (box_count instance)) (decimal (total_volume instance)))))

-- the three lines together
pub three_lines : (number : ℕ) (instance : PlainInstance) (budget : ℕ) (o : PlainOutcome)
    → (lines_text (made_words number instance ∷ []) ++ lines_text ((codes "fit" ∷ fit_word o ∷ []) ∷ []))
    ++ lines_text ((codes "branchings" ∷ branching_words budget o) ∷ [])
    ≡ made_text number instance budget o
unfolding made_text
three_lines number instance budget o =
    let line : List (List ℕ) → List ℕ = λ words. spaced words ++ 10 ∷ [] in
    let a : List (List ℕ) = made_words number instance in
    let b : List (List ℕ) = codes "fit" ∷ fit_word o ∷ [] in
    let c : List (List ℕ) = codes "branchings" ∷ branching_words budget o in
    sym (flat_map-append line (a ∷ b ∷ []) (c ∷ [])
    ∙ ap (λ t. t ++ lines_text (c ∷ [])) (flat_map-append line (a ∷ []) (b ∷ [])))
