-- The documents `bounded strip`, written piece by piece.
use Rattle.std.proofs.Common.{◌≡◌, ◌∙◌, ℕ, suc, ◌+◌, ◌<◌, ◌≤◌, refl, sym, ap, append_assoc, codes, List, [], ◌∷◌, ◌++◌}
use Rattle.std.proofs.Common.{take, length, get_or, map, true, false}
use Rattle.std.specs.Prelude.{◌==◌}
use Rattle.std.specs.Fmt.{decimal}
use Rattle.std.proofs.lemmas.Bool.{eqb-true, eqb-false}
use Rattle.std.proofs.lemmas.List.{take_more, take_all, map_push, flat_map_more}
use Rattle.std.proofs.lemmas.List.Concat.{flat_map-append}
use Rattle.packing_terms.specs.Packing.{PlainInstance}
use Rattle.packing_terms.specs.Tokens.{PlainToken}
use Rattle.packing_terms.specs.Tokens.PlainToken.{TooLarge}
use Rattle.text_terms.specs.Spelling.{spaced, lines_text, instance_text}
use Rattle.text_terms.specs.Claims.{result_words}
use Rattle.verdict_terms.specs.FamilyRefutation.{FamilyToken as PlainFamily, Plain}
use Rattle.verdict_terms.specs.FamilyLines.{family_token_words, family_token_line, family_token_text}
use Rattle.bounded_tokens.specs.declared.family_token.FamilyToken.{FamilyToken}
use Rattle.bounded_tokens.specs.FamilyPlain.{plain_family, plain_family_tokens}
use Rattle.proof_tree.specs.Lines.{token_line, token_text}
use Rattle.answer_terms.specs.Answers.{Lines, place_lines, claim_status}
use Rattle.answer_terms.specs.HeightAnswers.{BoundedHeights, Heights, NoneFits, strip_claim, strip_status, heights_backing}
use Rattle.answer_terms.specs.HeightAnswers.{bounded_strip_text}
use Rattle.answer_terms.proofs.HeightTrue.{bounded_heights_told}
use Rattle.answer_streams.proofs.ResultTexts.{whole, none_whole}

-- ---- tokens

-- one token more
pub family_more : (tokens : List FamilyToken) (k : ℕ) (t : FamilyToken) → k < length tokens → t ≡ get_or tokens k t
    → family_token_text (plain_family_tokens (take k tokens)) ++ family_token_line (plain_family t)
    ≡ family_token_text (plain_family_tokens (take (k + 1) tokens))
family_more tokens k t l is =
    flat_map_more (λ words. spaced words ++ 10 ∷ []) []
    (map family_token_words (plain_family_tokens (take k tokens))) (family_token_words (plain_family t))
    ∙ ap lines_text (sym (map_push family_token_words (plain_family_tokens (take k tokens)) (plain_family t)))
    ∙ ap (λ (ts : List PlainFamily). family_token_text ts)
    (sym (map_push plain_family (take k tokens) t)
    ∙ ap (map plain_family) (ap (λ (x : FamilyToken). take k tokens ++ x ∷ []) is ∙ sym (take_more tokens k t l)))

pub family_all : (tokens : List FamilyToken) (k : ℕ) → length tokens ≤ k
    → family_token_text (plain_family_tokens (take k tokens)) ≡ family_token_text (plain_family_tokens tokens)
family_all tokens k l =
    ap (λ (ts : List FamilyToken). family_token_text (plain_family_tokens ts)) (take_all k tokens l)

-- plain tokens have the lines that they have without families
pub plain_text : (ts : List PlainToken) → token_text ts ≡ family_token_text (map (λ t. Plain t) ts)
plain_text [] = refl
plain_text (t ∷ ts) = ap (λ text. token_line t ++ text) (plain_text ts)

-- ---- the claim

pub closed_words : (heights : BoundedHeights) → (suc heights.refuted == heights.placed) ≡ true
    → codes "least" ∷ decimal heights.placed ∷ [] ≡ result_words (strip_claim (Heights heights))
closed_words heights e =
    sym (ap result_words ((bounded_heights_told heights).0 (eqb-true (suc heights.refuted) heights.placed e)))

pub apart_words : (heights : BoundedHeights) → (suc heights.refuted == heights.placed) ≡ false
    → codes "between" ∷ decimal heights.refuted ∷ decimal heights.placed ∷ []
    ≡ result_words (strip_claim (Heights heights))
apart_words heights e =
    sym (ap result_words ((bounded_heights_told heights).1 (eqb-false (suc heights.refuted) heights.placed e)))

pub closed_status : (heights : BoundedHeights) → (suc heights.refuted == heights.placed) ≡ true
    → 0 ≡ strip_status (Heights heights)
closed_status heights e =
    sym (ap claim_status ((bounded_heights_told heights).0 (eqb-true (suc heights.refuted) heights.placed e)))

pub apart_status : (heights : BoundedHeights) → (suc heights.refuted == heights.placed) ≡ false
    → 3 ≡ strip_status (Heights heights)
apart_status heights e =
    sym (ap claim_status ((bounded_heights_told heights).1 (eqb-false (suc heights.refuted) heights.placed e)))

-- ---- the whole

certificates : (front : Lines) (tokens : List PlainFamily)
    → lines_text front ++ (codes "proof\n" ++ family_token_text tokens)
    ≡ lines_text (front ++ (codes "proof" ∷ []) ∷ map family_token_words tokens)
certificates front tokens = sym
    (flat_map-append (λ words. spaced words ++ 10 ∷ []) front ((codes "proof" ∷ []) ∷ map family_token_words tokens))

-- `first` is the first line and `places` are those of the answer, in whatever form they are given
pub heights_parts : (instance : PlainInstance) (heights : BoundedHeights) (first places : List ℕ)
    → first ≡ codes "bounded strip\n" → places ≡ heights.places
    → (first ++ instance_text instance)
    ++ (lines_text ((codes "result" ∷ result_words (strip_claim (Heights heights))) ∷ [])
    ++ (lines_text (place_lines instance places)
    ++ ((codes "proof\n" ++ family_token_text heights.tokens) ++ codes "end\n")))
    ≡ bounded_strip_text instance (Heights heights)
unfolding bounded_strip_text
heights_parts instance heights first places is e =
    ap (λ line. (line ++ instance_text instance)
    ++ (lines_text ((codes "result" ∷ result_words (strip_claim (Heights heights))) ∷ [])
    ++ (lines_text (place_lines instance places)
    ++ ((codes "proof\n" ++ family_token_text heights.tokens) ++ codes "end\n")))) is
    ∙ (ap (λ text. (codes "bounded strip\n" ++ instance_text instance)
    ++ (lines_text ((codes "result" ∷ result_words (strip_claim (Heights heights))) ∷ []) ++ text))
    (ap (λ ns. lines_text (place_lines instance ns)
    ++ ((codes "proof\n" ++ family_token_text heights.tokens) ++ codes "end\n")) e
    ∙ (sym (append_assoc (lines_text (place_lines instance heights.places))
    (codes "proof\n" ++ family_token_text heights.tokens) (codes "end\n"))
    ∙ ap (λ text. text ++ codes "end\n") (certificates (place_lines instance heights.places) heights.tokens)))
    ∙ whole (codes "bounded" ∷ codes "strip" ∷ []) instance (result_words (strip_claim (Heights heights)))
    (heights_backing instance heights.places heights.tokens))

pub none_parts : (instance : PlainInstance) (v i : ℕ) (first : List ℕ) → first ≡ codes "bounded strip\n"
    → (first ++ instance_text instance)
    ++ ((codes "result none\n" ++ token_line (TooLarge (v + 1) (i + 1))) ++ codes "end\n")
    ≡ bounded_strip_text instance (NoneFits v i)
unfolding bounded_strip_text
none_parts instance v i first is =
    ap (λ line. (line ++ instance_text instance)
    ++ ((codes "result none\n" ++ token_line (TooLarge (v + 1) (i + 1))) ++ codes "end\n")) is
    ∙ none_whole (codes "bounded" ∷ codes "strip" ∷ []) instance v i
