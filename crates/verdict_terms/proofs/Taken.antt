-- What passes the tests is taken: the other direction of what it says that tests were passed.
use Rattle.std.proofs.Common.{◌≡◌, ℕ, ◌+◌, refl, ap, ap₂, ◌∙◌, Bool, true, false, cond, List, [], ◌∷◌, length, Some}
use Rattle.std.proofs.Common.{Result, Ok, Err}
use Rattle.std.specs.List.{list_any}
use Rattle.std.proofs.lemmas.Bool.{and_from, le-leb, eq-eqb}
use Rattle.text_terms.specs.Lines.{line_of, content, is_bad, words_of, number_of, same_bytes}
use Rattle.packing_terms.specs.Results.{◌>>=◌}
use Rattle.text_terms.specs.Form.{AreClean, filled_lines}
use Rattle.text_terms.proofs.Keys.{same_bytes_Decides}
use Rattle.text_terms.proofs.FormRead.{filled_with, clean_parts}
use Rattle.text_terms.proofs.Good.{bind_ok}
use Rattle.text_terms.specs.declared.claim.Claim.{Claim}
use Rattle.verdict_terms.specs.declared.reason.Reason.{Reason}
use Rattle.verdict_terms.specs.Reasons.{form, range}
use Rattle.verdict_terms.specs.Form.{AreCoordinates}
use Rattle.verdict_terms.specs.Numbers.{max_coordinate, require, wanted_by, wanted, all_wanted, numbers_line}
use Rattle.verdict_terms.specs.Numbers.{are_coordinates, coordinates}
use Rattle.verdict_terms.specs.Stages.{Stage, words_line, filled_line, stage_after}
use Rattle.verdict_terms.specs.Stages.Stage.{Beginning, Reading, Placing, Sharing, Taking, Proving, Refuting, Exceeding}
use Rattle.verdict_terms.specs.Stages.Stage.{ProvingFamilies, Bounding, Gathering}
use Rattle.verdict_terms.specs.Stages.Stage.{Ending, Ended}
use Rattle.verdict_terms.specs.Documents.{document_at_line, document_at_end, read_document_lines}
use Rattle.verdict_terms.proofs.Walk.{IsLater, claim_read, read_words, words_later}

pub is_same : (word : List ℕ) → same_bytes word word ≡ true
is_same word = (same_bytes_Decides word word).1 refl

pub required : {A : Type 0} (test : Bool) (reason : Reason) (rest : Result A Reason) → test ≡ true
    → require test reason rest ≡ rest
required test reason rest e = ap (λ b. require b reason rest) e

pub bound : {A B E : Type 0} (r : Result A E) (x : A) (f : A → Result B E) → r ≡ Ok x → (r >>= f) ≡ f x
bound r x f e = ap (λ y. y >>= f) e

pub wanted_is : (word : List ℕ) (n : ℕ) → number_of word ≡ Some n → wanted word ≡ Ok n
wanted_is word n e = ap wanted_by e

pub all_wanted_is : (words : List (List ℕ)) (ns : List ℕ) → AreCoordinates words ns → all_wanted words ≡ Ok ns
all_wanted_is [] [] are = refl
all_wanted_is [] (n ∷ ns) are = absurd are
all_wanted_is (word ∷ words) [] are = absurd are
all_wanted_is (word ∷ words) (n ∷ ns) are =
    bound (wanted word) n (λ n. all_wanted words >>= λ ms. Ok (n ∷ ms)) (wanted_is word n are.0.number)
    ∙ bound (all_wanted words) ns (λ ms. Ok (n ∷ ms)) (all_wanted_is words ns are.1)

pub are_small : (words : List (List ℕ)) (ns : List ℕ) → AreCoordinates words ns → are_coordinates ns ≡ true
are_small [] [] are = refl
are_small [] (n ∷ ns) are = absurd are
are_small (word ∷ words) [] are = absurd are
are_small (word ∷ words) (n ∷ ns) are = and_from _ _ (le-leb n max_coordinate are.0.most) (are_small words ns are.1)

pub coordinates_are : (words : List (List ℕ)) (ns : List ℕ) → AreCoordinates words ns → coordinates ns ≡ Ok ns
coordinates_are words ns are = ap (λ b. cond b (Ok ns) (Err range)) (are_small words ns are)

pub numbers_line_is : (key : List ℕ) (count : ℕ) (numbers : List (List ℕ)) (ns : List ℕ) → length numbers ≡ count
    → all_wanted numbers ≡ Ok ns
    → numbers_line key count (key ∷ numbers) ≡ Ok ns
numbers_line_is key count numbers ns e f =
    ap (λ b. cond b (all_wanted numbers) (Err form)) (and_from _ _ (is_same key) (eq-eqb (length numbers) count e)) ∙ f

-- ---- lines

at_end_is : (stage : Stage) (n : ℕ) (claim : Claim) → claim_read stage ≡ Ok claim → document_at_end stage n ≡ Ok claim
at_end_is (Ended c) n claim e = let same : c ≡ claim = cc (e) in ap Ok same
at_end_is (Beginning h) n claim e = absurd (cc (e))
at_end_is (Reading h j p) n claim e = absurd (cc (e))
at_end_is (Placing h i c r p) n claim e = absurd (cc (e))
at_end_is (Sharing i c k b p) n claim e = absurd (cc (e))
at_end_is (Taking h i c v t p) n claim e = absurd (cc (e))
at_end_is (Proving c r) n claim e = absurd (cc (e))
at_end_is (ProvingFamilies i c) n claim e = absurd (cc (e))
at_end_is (Refuting c t) n claim e = absurd (cc (e))
at_end_is (Bounding i c y ns) n claim e = absurd (cc (e))
at_end_is (Gathering i c ns) n claim e = absurd (cc (e))
at_end_is (Exceeding i c m) n claim e = absurd (cc (e))
at_end_is (Ending c b) n claim e = absurd (cc (e))

-- a line of a later stage without a bad byte that isn't blank is taken by its words
filled_is : (stage next : Stage) (c : ℕ) (words : List (List ℕ)) → IsLater stage → words_line stage words ≡ Ok next
    → filled_line stage (record { bad = false; count = c; words = words }) ≡ Ok next
filled_is (Beginning h) next c words later e = absurd later
filled_is (Reading h j p) next c words later e = absurd later
filled_is (Ended x) next c words later e = absurd (cc (e))
filled_is (Placing h i x r p) next c words later e = e
filled_is (Sharing i x k s p) next c words later e = e
filled_is (Taking h i x v t p) next c words later e = e
filled_is (Proving x r) next c words later e = e
filled_is (ProvingFamilies i x) next c words later e = e
filled_is (Refuting x t) next c words later e = e
filled_is (Bounding i x y ns) next c words later e = e
filled_is (Gathering i x ns) next c words later e = e
filled_is (Exceeding i x m) next c words later e = e
filled_is (Ending x s) next c words later e = e

pub line_taken : (stage next : Stage) (n : ℕ) (line : List ℕ) (lines : List (List ℕ))
    → stage_after stage (line_of line) ≡ Ok next
    → read_document_lines stage n (line ∷ lines) ≡ read_document_lines next (n + 1) lines
line_taken stage next n line lines e =
    ap (λ r. document_at_line (n + 1) r >>= λ s. read_document_lines s (n + 1) lines) e

-- from a later stage on, the words of the lines that aren't blank give the claim
pub words_taken : (stage : Stage) (n : ℕ) (lines : List (List ℕ)) (claim : Claim) → IsLater stage → AreClean lines
    → read_words stage (filled_lines lines) ≡ Ok claim
    → read_document_lines stage n lines ≡ Ok claim
words_taken stage n [] claim later clean e = at_end_is stage n claim e
words_taken stage n (line ∷ lines) claim later clean e =
    let c = clean_parts line lines clean in
    by_words (words_of (content line)) refl c.0 e (λ next l r. words_taken next (n + 1) lines claim l c.1 r)
  where
    by_words : (words : List (List ℕ)) → words_of (content line) ≡ words → list_any is_bad (content line) ≡ false
        → read_words stage (filled_with words lines) ≡ Ok claim
        → ((next : Stage) → IsLater next → read_words next (filled_lines lines) ≡ Ok claim
        → read_document_lines next (n + 1) lines ≡ Ok claim) → read_document_lines stage n (line ∷ lines) ≡ Ok claim
    by_words [] is bad e go =
        line_taken stage stage n line lines
        (ap₂ (λ b ws. stage_after stage (record { bad = b; count = length ws; words = ws })) bad is)
        ∙ go stage later e
    by_words (w ∷ ws) is bad e go =
        let b = bind_ok (words_line stage (w ∷ ws)) (λ next. read_words next (filled_lines lines)) claim e in
        line_taken stage b.0 n line lines
        (ap₂ (λ b ws. stage_after stage (record { bad = b; count = length ws; words = ws })) bad is
        ∙ filled_is stage b.0 (length (w ∷ ws)) (w ∷ ws) later b.1)
        ∙ go b.0 (words_later stage (w ∷ ws) later b.0 b.1) b.2
