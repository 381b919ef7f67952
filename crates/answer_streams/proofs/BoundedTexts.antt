-- The documents `bounded knapsack`, written piece by piece.
use Rattle.std.proofs.Common.{◌≡◌, ◌∙◌, ℕ, suc, ◌+◌, ◌<◌, ◌≤◌, refl, sym, ap, append_assoc, codes, List, [], ◌∷◌, ◌++◌}
use Rattle.std.proofs.Common.{take, length, get_or, map, true, false}
use Rattle.std.specs.Prelude.{◌==◌}
use Rattle.std.specs.Fmt.{decimal}
use Rattle.std.proofs.lemmas.Bool.{eqb-true, eqb-false}
use Rattle.std.proofs.lemmas.List.{take_more, take_all, map_push, flat_map_more}
use Rattle.std.proofs.lemmas.List.Concat.{flat_map-append}
use Rattle.packing_terms.specs.Packing.{PlainInstance}
use Rattle.packing_terms.specs.Tokens.{PlainToken}
use Rattle.text_terms.specs.Spelling.{spaced, lines_text, instance_text}
use Rattle.text_terms.specs.Claims.{result_words}
use Rattle.verdict_terms.specs.BoundedRefutation.{BoundedToken as PlainBounded, Plain}
use Rattle.verdict_terms.specs.BoundedLines.{bounded_token_words, bounded_token_line, bounded_token_text}
use Rattle.bounded_tokens.specs.declared.token.BoundedToken.{BoundedToken}
use Rattle.bounded_tokens.specs.Plain.{plain_bounded, plain_bounded_tokens}
use Rattle.proof_tree.specs.Lines.{token_line, token_text}
use Rattle.answer_terms.specs.Answers.{Lines, take_lines, claim_status}
use Rattle.answer_terms.specs.BoundedAnswers.{BoundedAnswer, bounded_claim, bounded_status, bounded_backing, bounded_text}
use Rattle.answer_terms.proofs.BoundedOwn.{bounded_claims_told}
use Rattle.answer_streams.proofs.ResultTexts.{whole}

-- ---- tokens

-- one token more
pub priced_more : (tokens : List BoundedToken) (k : ℕ) (t : BoundedToken) → k < length tokens → t ≡ get_or tokens k t
    → bounded_token_text (plain_bounded_tokens (take k tokens)) ++ bounded_token_line (plain_bounded t)
    ≡ bounded_token_text (plain_bounded_tokens (take (k + 1) tokens))
priced_more tokens k t l is =
    flat_map_more (λ words. spaced words ++ 10 ∷ []) []
    (map bounded_token_words (plain_bounded_tokens (take k tokens))) (bounded_token_words (plain_bounded t))
    ∙ ap lines_text (sym (map_push bounded_token_words (plain_bounded_tokens (take k tokens)) (plain_bounded t)))
    ∙ ap (λ (ts : List PlainBounded). bounded_token_text ts)
    (sym (map_push plain_bounded (take k tokens) t)
    ∙ ap (map plain_bounded) (ap (λ (x : BoundedToken). take k tokens ++ x ∷ []) is ∙ sym (take_more tokens k t l)))

pub priced_all : (tokens : List BoundedToken) (k : ℕ) → length tokens ≤ k
    → bounded_token_text (plain_bounded_tokens (take k tokens)) ≡ bounded_token_text (plain_bounded_tokens tokens)
priced_all tokens k l =
    ap (λ (ts : List BoundedToken). bounded_token_text (plain_bounded_tokens ts)) (take_all k tokens l)

-- plain tokens have the lines that they have without priced leaves
pub plain_text : (ts : List PlainToken) → token_text ts ≡ bounded_token_text (map (λ t. Plain t) ts)
plain_text [] = refl
plain_text (t ∷ ts) = ap (λ text. token_line t ++ text) (plain_text ts)

-- ---- the claim

pub closed_words : (answer : BoundedAnswer) → (suc answer.placed == answer.refuted) ≡ true
    → codes "greatest" ∷ decimal answer.placed ∷ [] ≡ result_words (bounded_claim answer)
closed_words answer e =
    sym (ap result_words ((bounded_claims_told answer).0 (eqb-true (suc answer.placed) answer.refuted e)))

pub apart_words : (answer : BoundedAnswer) → (suc answer.placed == answer.refuted) ≡ false
    → codes "between" ∷ decimal answer.placed ∷ decimal answer.refuted ∷ [] ≡ result_words (bounded_claim answer)
apart_words answer e =
    sym (ap result_words ((bounded_claims_told answer).1 (eqb-false (suc answer.placed) answer.refuted e)))

pub closed_status : (answer : BoundedAnswer) → (suc answer.placed == answer.refuted) ≡ true
    → 0 ≡ bounded_status answer
closed_status answer e =
    sym (ap claim_status ((bounded_claims_told answer).0 (eqb-true (suc answer.placed) answer.refuted e)))

pub apart_status : (answer : BoundedAnswer) → (suc answer.placed == answer.refuted) ≡ false
    → 3 ≡ bounded_status answer
apart_status answer e =
    sym (ap claim_status ((bounded_claims_told answer).1 (eqb-false (suc answer.placed) answer.refuted e)))

-- ---- the whole

certificates : (front : Lines) (tokens : List PlainBounded)
    → lines_text front ++ (codes "proof\n" ++ bounded_token_text tokens)
    ≡ lines_text (front ++ (codes "proof" ∷ []) ∷ map bounded_token_words tokens)
certificates front tokens = sym
    (flat_map-append (λ words. spaced words ++ 10 ∷ []) front ((codes "proof" ∷ []) ∷ map bounded_token_words tokens))

-- `numbers` are those of the answer, in whatever form they are given
pub bounded_parts : (instance : PlainInstance) (answer : BoundedAnswer) (numbers : List ℕ) → numbers ≡ answer.numbers
    → (codes "bounded knapsack\n" ++ instance_text instance)
    ++ (lines_text ((codes "result" ∷ result_words (bounded_claim answer)) ∷ [])
    ++ (lines_text (take_lines instance numbers)
    ++ ((codes "proof\n" ++ bounded_token_text answer.tokens) ++ codes "end\n")))
    ≡ bounded_text instance answer
unfolding bounded_text
bounded_parts instance answer numbers e =
    ap (λ text. (codes "bounded knapsack\n" ++ instance_text instance)
    ++ (lines_text ((codes "result" ∷ result_words (bounded_claim answer)) ∷ []) ++ text))
    (ap (λ ns. lines_text (take_lines instance ns)
    ++ ((codes "proof\n" ++ bounded_token_text answer.tokens) ++ codes "end\n")) e
    ∙ (sym (append_assoc (lines_text (take_lines instance answer.numbers))
    (codes "proof\n" ++ bounded_token_text answer.tokens) (codes "end\n"))
    ∙ ap (λ text. text ++ codes "end\n") (certificates (take_lines instance answer.numbers) answer.tokens)))
    ∙ whole (codes "bounded" ∷ codes "knapsack" ∷ []) instance (result_words (bounded_claim answer))
    (bounded_backing instance answer.numbers answer.tokens)
