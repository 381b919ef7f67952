-- The documents of a level, written piece by piece.
use Rattle.std.proofs.Common.{◌≡◌, ℕ, suc, ◌+◌, List, [], ◌∷◌, ◌++◌, arith, sym, ap, ap₂, ◌∙◌, append_assoc, append-nil}
use Rattle.std.proofs.Common.{codes}
use Rattle.std.specs.Fmt.{decimal}
use Rattle.std.proofs.lemmas.List.Concat.{flat_map-append}
use Rattle.packing_terms.specs.Packing.{PlainInstance}
use Rattle.packing_terms.specs.Tokens.{PlainToken}
use Rattle.packing_terms.specs.Tokens.PlainToken.{TooLarge}
use Rattle.text_terms.specs.Spelling.{spaced, lines_text, instance_words, instance_text}
use Rattle.proof_tree.specs.Lines.{token_line, token_text}
use Rattle.answer_terms.specs.Answers.{Lines, token_lines, proved_lines}
use Rattle.answer_streams.proofs.Joined.{parts}

-- the last word of a line, and the end of the line
pub last_word : (word : List ℕ) → ((word ++ []) ++ 10 ∷ []) ++ [] ≡ word ++ 10 ∷ []
last_word word = append-nil ((word ++ []) ++ 10 ∷ []) ∙ ap (λ t. t ++ 10 ∷ []) (append-nil word)

pub least_line : (level : ℕ)
    → codes "result least " ++ (decimal level ++ codes "\n")
    ≡ lines_text ((codes "result" ∷ codes "least" ∷ decimal level ∷ []) ∷ [])
least_line level = ap (λ t. codes "result least " ++ t) (sym (last_word (decimal level)))

pub greatest_line : (value : ℕ)
    → codes "result greatest " ++ (decimal value ++ codes "\n")
    ≡ lines_text ((codes "result" ∷ codes "greatest" ∷ decimal value ∷ []) ∷ [])
greatest_line value = ap (λ t. codes "result greatest " ++ t) (sym (last_word (decimal value)))

-- the last two words of a line
last_words : (a b : List ℕ) → ((a ++ (32 ∷ (b ++ []))) ++ 10 ∷ []) ++ [] ≡ a ++ (32 ∷ (b ++ 10 ∷ []))
last_words a b =
    append-nil ((a ++ (32 ∷ (b ++ []))) ++ 10 ∷ [])
    ∙ (append_assoc a (32 ∷ (b ++ [])) (10 ∷ []) ∙ ap (λ t. a ++ (32 ∷ (t ++ 10 ∷ []))) (append-nil b))

pub between_line : (low high : ℕ)
    → codes "result between " ++ (decimal low ++ (codes " " ++ (decimal high ++ codes "\n")))
    ≡ lines_text ((codes "result" ∷ codes "between" ∷ decimal low ∷ decimal high ∷ []) ∷ [])
between_line low high = ap (λ t. codes "result between " ++ t) (sym (last_words (decimal low) (decimal high)))

-- what is placed, and what refutes
pub certificates : (front : Lines) (tokens : List PlainToken)
    → lines_text front ++ (codes "proof\n" ++ token_text tokens) ≡ lines_text (proved_lines front tokens)
certificates front tokens = sym
    (flat_map-append (λ words. spaced words ++ 10 ∷ []) front ((codes "proof" ∷ []) ∷ token_lines tokens))

-- the whole document, by the words of its first line
pub whole : (first : List (List ℕ)) (instance : PlainInstance) (result : List (List ℕ)) (backing : Lines)
    → ((spaced first ++ 10 ∷ []) ++ instance_text instance)
    ++ (lines_text ((codes "result" ∷ result) ∷ []) ++ (lines_text backing ++ codes "end\n"))
    ≡ lines_text (first ∷ (instance_words instance ++ (codes "result" ∷ result) ∷ (backing ++ (codes "end" ∷ []) ∷ [])))
unfolding instance_text
whole first instance result backing =
    append_assoc (spaced first ++ 10 ∷ []) (instance_text instance)
    (lines_text ((codes "result" ∷ result) ∷ []) ++ (lines_text backing ++ codes "end\n"))
    ∙ sym (parts instance first result backing)

-- that of no level
pub none_whole : (first : List (List ℕ)) (instance : PlainInstance) (v i : ℕ)
    → ((spaced first ++ 10 ∷ []) ++ instance_text instance)
    ++ ((codes "result none\n" ++ token_line (TooLarge (v + 1) (i + 1))) ++ codes "end\n")
    ≡ lines_text (first ∷ (instance_words instance
    ++ (codes "result" ∷ codes "none" ∷ []) ∷ (token_lines (TooLarge (suc v) (suc i) ∷ []) ++ (codes "end" ∷ []) ∷ [])))
none_whole first instance v i =
    let a : v + 1 ≡ suc v = omega arith in
    let b : i + 1 ≡ suc i = omega arith in
    let t : PlainToken = TooLarge (suc v) (suc i) in
    ap₂ (λ (x : ℕ) (y : ℕ). ((spaced first ++ 10 ∷ []) ++ instance_text instance)
    ++ ((codes "result none\n" ++ token_line (TooLarge x y)) ++ codes "end\n")) a b
    ∙ (ap (λ text. ((spaced first ++ 10 ∷ []) ++ instance_text instance) ++ text)
    (append_assoc (codes "result none\n") (token_line t) (codes "end\n"))
    ∙ (ap (λ text. ((spaced first ++ 10 ∷ []) ++ instance_text instance)
    ++ (codes "result none\n" ++ (text ++ codes "end\n"))) (sym (append-nil (token_line t)))
    ∙ whole first instance (codes "none" ∷ []) (token_lines (t ∷ []))))
