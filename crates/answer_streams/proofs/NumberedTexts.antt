-- Lines of a number and coordinates, written piece by piece.
use Rattle.std.proofs.Common.{◌≡◌, ℕ, ◌+◌, List, [], ◌∷◌, ◌++◌, map, arith, sym, ap, ◌∙◌, append_assoc, append-nil}
use Rattle.std.proofs.Common.{get_or}
use Rattle.std.specs.Fmt.{decimal}
use Rattle.std.proofs.lemmas.List.{flat_map_more}
use Rattle.std.proofs.lemmas.List.Concat.{flat_map-append}
use Rattle.std.proofs.lemmas.List.FromFn.{map-range_with_len_more}
use Rattle.packing_terms.specs.Sums.{below}
use Rattle.text_terms.specs.Spelling.{spaced, lines_text}
use Rattle.instance_text.specs.Writing.{after_spaces}
use Rattle.answer_terms.specs.Answers.{numbered_words}

-- one coordinate more
pub behind_more : (numbers : List ℕ) (start i x : ℕ) → x ≡ get_or numbers (start + (1 + i)) 0
    → after_spaces (map (λ j. decimal (get_or numbers (start + (1 + j)) 0)) (below i)) ++ (32 ∷ decimal x)
    ≡ after_spaces (map (λ j. decimal (get_or numbers (start + (1 + j)) 0)) (below (i + 1)))
behind_more numbers start i x e =
    ap (λ y. after_spaces (map (λ j. decimal (get_or numbers (start + (1 + j)) 0)) (below i)) ++ (32 ∷ decimal y)) e
    ∙ flat_map_more (λ next. 32 ∷ next) [] (map (λ j. decimal (get_or numbers (start + (1 + j)) 0)) (below i))
    (decimal (get_or numbers (start + (1 + i)) 0))
    ∙ sym (ap after_spaces (map-range_with_len_more (λ j. decimal (get_or numbers (start + (1 + j)) 0)) 0 i i
    (omega arith)))

-- a whole line
pub numbered_line : (key number tail : List ℕ)
    → key ++ (32 ∷ (number ++ (tail ++ 10 ∷ []))) ≡ ((key ++ (32 ∷ (number ++ tail))) ++ 10 ∷ []) ++ []
numbered_line key number tail =
    sym (append-nil ((key ++ (32 ∷ (number ++ tail))) ++ 10 ∷ [])
    ∙ (append_assoc key (32 ∷ (number ++ tail)) (10 ∷ [])
    ∙ ap (λ t. key ++ (32 ∷ t)) (append_assoc number tail (10 ∷ []))))

-- one line more
pub numbered_more : (key : List ℕ) (d : ℕ) (numbers : List ℕ) (k : ℕ)
    → lines_text (map (numbered_words key d numbers) (below k)) ++ lines_text (numbered_words key d numbers k ∷ [])
    ≡ lines_text (map (numbered_words key d numbers) (below (k + 1)))
numbered_more key d numbers k =
    sym (flat_map-append (λ words. spaced words ++ 10 ∷ []) (map (numbered_words key d numbers) (below k))
    (numbered_words key d numbers k ∷ []))
    ∙ sym (ap lines_text (map-range_with_len_more (numbered_words key d numbers) 0 k k (omega arith)))
