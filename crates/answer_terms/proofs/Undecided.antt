-- The document that says undecided is verified with no claim.
use Rattle.std.proofs.Common.{◌≡◌, ℕ, refl, ap, sym, ◌∙◌, arith, List, [], ◌∷◌, ◌++◌, length, codes, Option, Some, None}
use Rattle.std.proofs.Common.{Result, Ok, Err}
use Rattle.packing_terms.specs.Packing.{PlainInstance, PlainBox}
use Rattle.packing_terms.specs.Limits.{IsInstance}
use Rattle.text_terms.specs.Lines.{text_lines}
use Rattle.text_terms.specs.Spelling.{instance_words, lines_text}
use Rattle.text_terms.specs.Form.{HasForm, AreBoxLines, IsKerfPart}
use Rattle.text_terms.specs.declared.claim.Claim.{Claim}
use Rattle.text_terms.specs.declared.claim.SolvingJob.TheVariants.{Fit, Strip, Bins, Knapsack}
use Rattle.text_terms.specs.declared.claim.Claim.TheVariants.{Fitting, NotFitting, LeastHeight, HeightBetween}
use Rattle.text_terms.specs.declared.claim.Claim.TheVariants.{NoHeight, LeastBins, BinsBetween, NoBins}
use Rattle.text_terms.specs.declared.claim.Claim.TheVariants.{GreatestValue, ValueBetween}
use Rattle.verdict_terms.specs.declared.heading.Heading.TheVariants.{Answer, Reduced}
use Rattle.verdict_terms.specs.Documents.{Refusal, reduced_verdict}
use Rattle.verdict_terms.specs.Form.{IsReducedDocument, IsDocument, IsResult}
use Rattle.verdict_terms.proofs.FormGiven.{documents_have_form}
use Rattle.answer_terms.specs.Answers.{Lines, answer_text, answer_lines}
use Rattle.answer_terms.specs.Answers.Answer.{Undecided}
use Rattle.answer_terms.specs.Solved.{solved, strip_answer, bins_answer}
use Rattle.tree_terms.specs.ClassTree.{first_too_large_box, first_too_wide}
use Rattle.tree_terms.specs.Levels.{height_run, bin_run}
use Rattle.tree_terms.specs.Heights.{reduced_height_run}
use Rattle.answer_terms.specs.Own.{OnlyFitIsUndecided, OnlyReducedFitIsUndecided, UndecidedIsRefused}
use Rattle.answer_terms.specs.Own.{ReducedUndecidedIsRefused, IsReducedRefused}
use Rattle.answer_terms.specs.declared.job.ReducedJob.TheVariants.{Fit as ReducesFit, Strip as ReducesStrip}
use Rattle.answer_terms.specs.Reduced.{reduced_solved, reduced_text, reduced_answer_lines}
use Rattle.verdict_terms.specs.declared.kind.DocumentKind.TheVariants.{Reduced as ReducedKind}
use Rattle.verdict_terms.specs.Kinds.{document_kind}
use Rattle.verdict_terms.proofs.KindOf.{filled_kind, job_kind}
use Rattle.answer_terms.proofs.Filled.{AreFilled, clean_text, filled_text, instance_form}
use Rattle.answer_terms.proofs.OwnAccepted.{filled_document}

-- the first byte of the first word
abbrev first_byte : List (List ℕ) → ℕ
first_byte ((b ∷ word) ∷ words) = b
first_byte _ = 0

-- no line begins with `result`
abbrev HaveNoResult : Lines → Type 0
HaveNoResult [] = Unit {0}
HaveNoResult (words ∷ lines) = ((ws : List (List ℕ)) → ¬ (words ≡ codes "result" ∷ ws)) × HaveNoResult lines

no_result_after : (xs ys : Lines) → HaveNoResult xs → HaveNoResult ys → HaveNoResult (xs ++ ys)
no_result_after [] ys h k = k
no_result_after (words ∷ xs) ys h k = (h.0, no_result_after xs ys h.1 k)

boxes_no_result : (format : ℕ) (kerfs : List ℕ) (lines : List (List (List ℕ))) (boxes : List PlainBox)
    → AreBoxLines format kerfs lines boxes → HaveNoResult lines
boxes_no_result format kerfs [] boxes h = tt
boxes_no_result format kerfs (words ∷ lines) boxes (item, times, more, line, e, rest) = (
  (λ ws f. absurd (let g : codes "box" ∷ (line.numbers ++ line.ending) ≡ codes "result" ∷ ws = sym line.are
      ∙ f in cc (g))),
  boxes_no_result format kerfs lines more rest,
)

kerf_no_result : (format : ℕ) (container : List ℕ) (lines : List (List (List ℕ))) (kerfs : List ℕ)
    → IsKerfPart format container lines kerfs → HaveNoResult lines
kerf_no_result format container [] kerfs h = tt
kerf_no_result format container (words ∷ []) kerfs h =
    ((λ ws f. absurd (let g : codes "kerf" ∷ h.1.numbers ≡ codes "result" ∷ ws = sym h.1.are ∙ f in cc (g))), tt)
kerf_no_result format container (words ∷ other ∷ lines) kerfs h = absurd h

form_no_result : (lines : Lines) (instance : PlainInstance) → HasForm lines instance → HaveNoResult lines
form_no_result lines instance h =
    let boxes : HaveNoResult h.boxes = boxes_no_result h.number instance.kerfs h.boxes instance.boxes h.are_boxes in
    let kerf : HaveNoResult h.kerf = kerf_no_result h.number instance.container h.kerf instance.kerfs h.is_kerf in
    rw h.are (
      (λ ws e. absurd (let f : codes "format" ∷ h.is_format.number ∷ [] ≡ codes "result" ∷ ws = sym h.is_format.are
          ∙ e in let n : 102 ≡ 114 = ap first_byte f in omega (arith, n))),
      (
        (λ ws e. absurd (let f : codes "container" ∷ h.is_container.numbers ≡ codes "result"
            ∷ ws = sym h.is_container.are ∙ e in let n : 99 ≡ 114 = ap first_byte f in omega (arith, n))),
        no_result_after h.kerf h.boxes kerf boxes,
      ),
    )

-- so the first that does is the same in both
same_result : (xs ys : Lines) (a b : List (List ℕ)) (p q : Lines) → HaveNoResult xs → HaveNoResult ys
    → xs ++ (codes "result" ∷ a) ∷ p ≡ ys ++ (codes "result" ∷ b) ∷ q → a ≡ b
same_result [] [] a b p q h k e = cc (e)
same_result [] (y ∷ ys) a b p q h k e = absurd (k.0 a (let f : codes "result" ∷ a ≡ y = cc (e) in sym f))
same_result (x ∷ xs) [] a b p q h k e = absurd (h.0 b (cc (e)))
same_result (x ∷ xs) (y ∷ ys) a b p q h k e =
    same_result xs ys a b p q h.1 k.1
    (let f : xs ++ (codes "result" ∷ a) ∷ p ≡ ys ++ (codes "result" ∷ b) ∷ q = cc (e) in f)

-- no claim says undecided
no_claim : (instance : PlainInstance) (claim : Claim) (words : List (List ℕ)) → codes "undecided" ∷ [] ≡ words
    → ¬ IsResult instance claim words
no_claim instance Fitting words e h = absurd (let f : codes "undecided" ∷ [] ≡ codes "yes" ∷ [] = e ∙ h in cc (f))
no_claim instance NotFitting words e h = absurd (let f : codes "undecided" ∷ [] ≡ codes "no" ∷ [] = e ∙ h in cc (f))
no_claim instance (LeastHeight n) words e h = absurd (let f : 1 ≡ 2 = ap length (e ∙ h.are) in omega (arith, f))
no_claim instance (HeightBetween a b) words e h = absurd (let f : 1 ≡ 3 = ap length (e ∙ h.are) in omega (arith, f))
no_claim instance NoHeight words e h = absurd (let f : codes "undecided" ∷ [] ≡ codes "none" ∷ [] = e ∙ h in cc (f))
no_claim instance (LeastBins n) words e h = absurd (let f : 1 ≡ 2 = ap length (e ∙ h.are) in omega (arith, f))
no_claim instance (BinsBetween a b) words e h = absurd (let f : 1 ≡ 3 = ap length (e ∙ h.are) in omega (arith, f))
no_claim instance NoBins words e h = absurd (let f : codes "undecided" ∷ [] ≡ codes "none" ∷ [] = e ∙ h in cc (f))
no_claim instance (GreatestValue n) words e h = absurd (let f : 1 ≡ 2 = ap length (e ∙ h.are) in omega (arith, f))
no_claim instance (ValueBetween a b) words e h = absurd (let f : 1 ≡ 3 = ap length (e ∙ h.are) in omega (arith, f))

pub undecided_refused : UndecidedIsRefused
unfolding answer_text
undecided_refused instance claim limits e =
    let d : IsDocument (lines_text (answer_lines instance Undecided)) claim =
    (documents_have_form Answer (lines_text (answer_lines instance Undecided)) claim).0 e in
    let lines = sym (filled_text (answer_lines instance Undecided)
    (filled_document Answer instance Fit (codes "undecided" ∷ []) [] limits (omega arith, refl, tt) tt)) ∙ d.are in
    let rest : instance_words instance ++ (codes "result" ∷ codes "undecided" ∷ []) ∷ (codes "end" ∷ []) ∷ []
    ≡ d.written ++ (codes "result" ∷ d.result) ∷ (d.backing ++ (codes "end" ∷ []) ∷ []) = cc (lines) in
    let same : codes "undecided" ∷ [] ≡ d.result =
    same_result (instance_words instance) d.written (codes "undecided" ∷ []) d.result ((codes "end" ∷ []) ∷ [])
    (d.backing ++ (codes "end" ∷ []) ∷ [])
    (form_no_result (instance_words instance) instance (instance_form instance limits))
    (form_no_result d.written d.instance d.is_instance) rest in
    no_claim d.instance claim d.result same d.is_result

-- an answer that isn't undecided
pub only_fit : OnlyFitIsUndecided
unfolding solved
only_fit Fit budget scales instance e = refl
only_fit Strip budget scales instance e = absurd (by_wide (first_too_wide instance) e)
  where
    by_wide : (p : Option (ℕ × ℕ)) → ¬ (strip_answer p (height_run instance budget scales) ≡ Undecided)
    by_wide (Some p) f = absurd (cc (f))
    by_wide None f = absurd (cc (f))
only_fit Bins budget scales instance e = absurd (by_large (first_too_large_box instance) e)
  where
    by_large : (p : Option (ℕ × ℕ)) → ¬ (bins_answer p (bin_run instance budget scales) ≡ Undecided)
    by_large (Some p) f = absurd (cc (f))
    by_large None f = absurd (cc (f))
only_fit Knapsack budget scales instance e = absurd (cc (e))

pub only_reduced_fit : OnlyReducedFitIsUndecided
unfolding reduced_solved
only_reduced_fit ReducesFit budget scales instance e = refl
only_reduced_fit ReducesStrip budget scales instance e = absurd (by_wide (first_too_wide instance) e)
  where
    by_wide : (p : Option (ℕ × ℕ)) → ¬ (strip_answer p (reduced_height_run instance budget scales) ≡ Undecided)
    by_wide (Some p) f = absurd (cc (f))
    by_wide None f = absurd (cc (f))

reduced_unverified : (instance : PlainInstance) (claim : Claim) → IsInstance instance
    → ¬ (reduced_verdict (lines_text (reduced_answer_lines instance Undecided)) ≡ Ok claim)
reduced_unverified instance claim limits e =
    let d : IsReducedDocument (lines_text (reduced_answer_lines instance Undecided)) claim =
    (documents_have_form Reduced (lines_text (reduced_answer_lines instance Undecided)) claim).0 e in
    let lines = sym (filled_text (reduced_answer_lines instance Undecided)
    (filled_document Reduced instance Fit (codes "undecided" ∷ []) [] limits (omega arith, refl, tt) tt)) ∙ d.are in
    let rest : instance_words instance ++ (codes "result" ∷ codes "undecided" ∷ []) ∷ (codes "end" ∷ []) ∷ []
    ≡ d.written ++ (codes "result" ∷ d.result) ∷ (d.backing ++ (codes "end" ∷ []) ∷ []) = cc (lines) in
    let same : codes "undecided" ∷ [] ≡ d.result =
    same_result (instance_words instance) d.written (codes "undecided" ∷ []) d.result ((codes "end" ∷ []) ∷ [])
    (d.backing ++ (codes "end" ∷ []) ∷ [])
    (form_no_result (instance_words instance) instance (instance_form instance limits))
    (form_no_result d.written d.instance d.is_instance) rest in
    no_claim d.instance claim d.result same d.is_result

pub reduced_undecided_refused : ReducedUndecidedIsRefused
unfolding reduced_text
reduced_undecided_refused instance limits =
    go (reduced_verdict (lines_text (reduced_answer_lines instance Undecided))) refl
  where
    filled : AreFilled (reduced_answer_lines instance Undecided)
    filled = filled_document Reduced instance Fit (codes "undecided" ∷ []) [] limits (omega arith, refl, tt) tt

    kind : document_kind (lines_text (reduced_answer_lines instance Undecided)) ≡ ReducedKind
    kind = filled_kind (text_lines (lines_text (reduced_answer_lines instance Undecided)))
        (codes "reduced" ∷ codes "fit" ∷ [])
        (instance_words instance ++ (codes "result" ∷ codes "undecided" ∷ []) ∷ (codes "end" ∷ []) ∷ [])
        (clean_text (reduced_answer_lines instance Undecided) filled)
        (filled_text (reduced_answer_lines instance Undecided) filled)
        ∙ job_kind Fit

    go : (verdict : Result Claim Refusal)
        → reduced_verdict (lines_text (reduced_answer_lines instance Undecided)) ≡ verdict
        → IsReducedRefused (lines_text (reduced_answer_lines instance Undecided))
    go (Ok claim) is = absurd (reduced_unverified instance claim limits is)
    go (Err refusal) is = record { kind = kind; refusal = refusal; refused = is }
