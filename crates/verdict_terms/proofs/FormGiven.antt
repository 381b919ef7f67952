-- A text that has the form of a document is verified.
use Rattle.std.proofs.Common.{◌≡◌, ℕ, ◌+◌, refl, sym, ap, ap₂, subst, ◌∙◌, arith, Bool, true, false, cond, List, []}
use Rattle.std.proofs.Common.{◌∷◌, ◌++◌, length, Result, Ok, Err, codes}
use Rattle.std.specs.List.{list_any}
use Rattle.std.specs.Prelude.{◌==◌}
use Rattle.std.proofs.lemmas.Bool.{or_parts, and_right}
use Rattle.std.proofs.lemmas.List.Folds.{list_any-append}
use Rattle.packing_terms.specs.Packing.{PlainInstance}
use Rattle.packing_terms.specs.Limits.{IsInstance}
use Rattle.text_terms.specs.Lines.{text_lines, line_of, content, is_bad, words_of, same_bytes}
use Rattle.text_terms.specs.Codes.{unknown_word}
use Rattle.packing_terms.specs.Results.{◌>>=◌}
use Rattle.text_terms.specs.Texts.{kerf_line, Parts, no_parts, add_line, by_words, at_end as end_of, at_line as on_line}
use Rattle.text_terms.specs.Texts.{refuse, read_lines as read_instance_lines}
use Rattle.text_terms.specs.Form.{AreClean, filled_lines, HasForm}
use Rattle.text_terms.proofs.FormRead.{filled_with, heads}
use Rattle.text_terms.proofs.FormTold.{lines_have_form}
use Rattle.text_terms.proofs.Good.{good_start, lines_limits, bind_ok}
use Rattle.text_terms.proofs.FormNumbers.{word_is}
use Rattle.text_terms.specs.declared.claim.SolvingJob.{SolvingJob}
use Rattle.text_terms.specs.declared.claim.Claim.{Claim}
use Rattle.text_terms.specs.Claims.{job_of, job_word}
use Rattle.text_terms.specs.declared.claim.SolvingJob.TheVariants.{Fit, Strip, Bins, Knapsack}
use Rattle.verdict_terms.specs.declared.heading.Heading.{Heading}
use Rattle.verdict_terms.specs.declared.heading.Heading.TheVariants.{Answer, Reduced, Bounded}
use Rattle.verdict_terms.specs.Results.{claim_of}
use Rattle.verdict_terms.specs.Stages.{Stage, claimed, heading_word, heading_line, text_fault, end_of_parts}
use Rattle.verdict_terms.specs.Stages.{reading_line, stage_after}
use Rattle.verdict_terms.specs.Stages.Stage.{Beginning, Reading}
use Rattle.verdict_terms.specs.Documents.{read_document_lines, headed_verdict}
use Rattle.verdict_terms.specs.Form.{MayName, IsHeadedDocument, DocumentsHaveForm}
use Rattle.verdict_terms.proofs.Passed.{ok_is}
use Rattle.verdict_terms.proofs.Walk.{read_words}
use Rattle.verdict_terms.proofs.Taken.{is_same, bound, line_taken, words_taken}
use Rattle.verdict_terms.proofs.FormTold.{any_end, claimed_later, form_told}
use Rattle.verdict_terms.proofs.BackedGiven.{result_given, backed_given}

-- where a line stands among those that aren't blank
pub record SplitAt (lines : List (List ℕ)) (front : List (List (List ℕ))) (words : List (List ℕ))
    (back : List (List (List ℕ))) : Type 0 where
  pub before : List (List ℕ)
  pub line : List ℕ
  pub after : List (List ℕ)
  pub are : lines ≡ before ++ line ∷ after
  pub front_is : filled_lines before ≡ front
  pub words_are : words_of (content line) ≡ words
  pub back_is : filled_lines after ≡ back

pub split_at : (lines : List (List ℕ)) (front : List (List (List ℕ))) (words : List (List ℕ))
    (back : List (List (List ℕ))) → filled_lines lines ≡ front ++ words ∷ back → SplitAt lines front words back
split_at [] [] words back e = absurd (cc (e))
split_at [] (f ∷ front) words back e = absurd (cc (e))
split_at (line ∷ lines) front words back e =
    by_words_of (words_of (content line)) refl front e (λ fs f. split_at lines fs words back f)
  where
    by_words_of : (ws : List (List ℕ)) → words_of (content line) ≡ ws → (fs : List (List (List ℕ)))
        → filled_with ws lines ≡ fs ++ words ∷ back
        → ((gs : List (List (List ℕ))) → filled_lines lines ≡ gs ++ words ∷ back → SplitAt lines gs words back)
        → SplitAt (line ∷ lines) fs words back
    by_words_of [] is fs e later =
        let s = later fs e in record {
          before = line ∷ s.before;
          line = s.line;
          after = s.after;
          are = ap (λ ls. line ∷ ls) s.are;
          front_is = ap (λ ws. filled_with ws s.before) is ∙ s.front_is;
          words_are = s.words_are;
          back_is = s.back_is;
        }
    by_words_of (w ∷ ws) is [] e later =
        let h = heads e in record {
          before = [];
          line = line;
          after = lines;
          are = refl;
          front_is = refl;
          words_are = is ∙ h.0;
          back_is = h.1;
        }
    by_words_of (w ∷ ws) is (f ∷ fs) e later =
        let h = heads e in
        let s = later fs h.1 in record {
          before = line ∷ s.before;
          line = s.line;
          after = s.after;
          are = ap (λ ls. line ∷ ls) s.are;
          front_is = ap (λ ws. filled_with ws s.before) is ∙ ap₂ (λ x xs. x ∷ xs) h.0 s.front_is;
          words_are = s.words_are;
          back_is = s.back_is;
        }

-- the parts of clean lines are clean
pub clean_split : (xs ys : List (List ℕ)) → AreClean (xs ++ ys) → AreClean xs × AreClean ys
clean_split xs ys c = or_parts _ _ (sym (list_any-append (λ line. list_any is_bad (content line)) xs ys) ∙ c)

-- the stage behind a line without a bad byte, by its words
stage_by : (stage : Stage) (line : List ℕ) (words : List (List ℕ)) → list_any is_bad (content line) ≡ false
    → words_of (content line) ≡ words
    → stage_after stage (line_of line) ≡ stage_after stage (record { bad = false; count = length words; words = words })
stage_by stage line words bad is =
    ap₂ (λ b ws. stage_after stage (record { bad = b; count = length ws; words = ws })) bad is

-- ---- the first line

blanks_taken : (stage : Stage) (n : ℕ) (before rest : List (List ℕ)) → AreClean before → filled_lines before ≡ []
    → (m : ℕ) × (read_document_lines stage n (before ++ rest) ≡ read_document_lines stage m rest)
blanks_taken stage n [] rest clean none = (n, refl)
blanks_taken stage n (line ∷ before) rest clean none =
    by_words_of (words_of (content line)) refl none
    (λ f. blanks_taken stage (n + 1) before rest (or_parts _ _ clean).1 f)
  where
    by_words_of : (ws : List (List ℕ)) → words_of (content line) ≡ ws → filled_with ws before ≡ []
        → (filled_lines before ≡ [] → (m : ℕ)
        × (read_document_lines stage (n + 1) (before ++ rest) ≡ read_document_lines stage m rest))
        → (m : ℕ) × (read_document_lines stage n (line ∷ (before ++ rest)) ≡ read_document_lines stage m rest)
    by_words_of [] is none later =
        let l = later none in
        (l.0, line_taken stage stage n line (before ++ rest) (stage_by stage line [] (or_parts _ _ clean).0 is) ∙ l.1)
    by_words_of (w ∷ ws) is none later = absurd (cc (none))

heading_is : (heading : Heading) (job : SolvingJob) → MayName heading job
    → heading_line heading (heading_word heading ∷ job_word job ∷ []) ≡ Ok (Reading heading job no_parts)
unfolding same_bytes
heading_is Answer Fit h = refl
heading_is Answer Strip h = refl
heading_is Answer Bins h = refl
heading_is Answer Knapsack h = refl
heading_is Reduced Fit h = refl
heading_is Reduced Strip h = refl
heading_is Reduced Bins h = absurd h
heading_is Reduced Knapsack h = absurd h
heading_is Bounded Fit h = absurd h
heading_is Bounded Strip h = refl
heading_is Bounded Bins h = absurd h
heading_is Bounded Knapsack h = refl

-- ---- the lines of the instance

-- no instance line begins with `result`
result_refused : (parts : Parts) (ws : List (List ℕ)) → by_words parts (codes "result" ∷ ws) ≡ Err 1
unfolding same_bytes
result_refused parts ws =
    ap (λ b. cond b (kerf_line parts ws) (Err unknown_word)) (and_right (parts.format == 2) false refl)

pub no_result : (parts : Parts) (c : ℕ) (w : List ℕ) (ws : List (List ℕ)) (more : Parts)
    → add_line parts (record { bad = false; count = c; words = w ∷ ws }) ≡ Ok more → same_bytes w (codes "result") ≡ false
no_result parts c w ws more e = go (same_bytes w (codes "result")) refl
  where
    go : (b : Bool) → same_bytes w (codes "result") ≡ b → same_bytes w (codes "result") ≡ false
    go false f = f
    go true f =
        let g : by_words parts (codes "result" ∷ ws) ≡ Ok more =
        ap (λ x. by_words parts (x ∷ ws)) (sym (word_is w (codes "result") f)) ∙ e in
        absurd (let h : ◌≡◌ {A = Result Parts ℕ} (Err 1) (Ok more) = sym (result_refused parts ws) ∙ g in cc (h))

-- the instance lines and the result line are taken
reading_given : (heading : Heading) (job : SolvingJob) (parts : Parts) (n k : ℕ) (before : List (List ℕ))
    (line : List ℕ) (after : List (List ℕ)) (words : List (List ℕ)) (instance : PlainInstance) (claim : Claim)
    → read_instance_lines parts k before ≡ Ok instance → list_any is_bad (content line) ≡ false
    → words_of (content line) ≡ codes "result" ∷ words
    → claim_of job instance words ≡ Ok claim
    → (m : ℕ) × (read_document_lines (Reading heading job parts) n (before ++ line ∷ after)
    ≡ read_document_lines (claimed heading instance claim) m after)
reading_given heading job parts n k [] line after words instance claim reads bad is says = (
  n + 1,
  line_taken (Reading heading job parts) (claimed heading instance claim) n line after
      (stage_by (Reading heading job parts) line (codes "result" ∷ words) bad is ∙ result_is),
)
  where
    result_is : stage_after (Reading heading job parts)
        (record { bad = false; count = length (codes "result" ∷ words); words = codes "result" ∷ words })
        ≡ Ok (claimed heading instance claim)
    result_is =
        ap (λ b. reading_line b heading job parts
        (record { bad = false; count = length (codes "result" ∷ words); words = codes "result" ∷ words }))
        (is_same (codes "result"))
        ∙ bound (end_of_parts (end_of parts 0)) instance
        (λ instance. claim_of job instance words >>= λ claim. Ok (claimed heading instance claim))
        (ap end_of_parts (any_end parts k 0 instance reads))
        ∙ bound (claim_of job instance words) claim (λ claim. Ok (claimed heading instance claim)) says
reading_given heading job parts n k (first ∷ before) line after words instance claim reads bad is says =
    let b = bind_ok (on_line (k + 1) (add_line parts (line_of first))) (λ more. read_instance_lines more (k + 1) before)
    instance reads in
    by_parts b.0 (adds_ok (add_line parts (line_of first)) b.0 b.1) b.2 (list_any is_bad (content first))
    (words_of (content first)) refl refl
    (λ more r. reading_given heading job more (n + 1) (k + 1) before line after words instance claim r bad is says)
  where
    adds_ok : (r : Result Parts ℕ) (more : Parts) → on_line (k + 1) r ≡ Ok more → r ≡ Ok more
    adds_ok (Ok x) more e = ap Ok (ok_is x more e)
    adds_ok (Err code) more e = absurd (cc (e))

    by_parts : (more : Parts) → add_line parts (line_of first) ≡ Ok more
        → read_instance_lines more (k + 1) before ≡ Ok instance → (b : Bool) (ws : List (List ℕ))
        → list_any is_bad (content first) ≡ b → words_of (content first) ≡ ws
        → ((next : Parts) → read_instance_lines next (k + 1) before ≡ Ok instance
        → (m : ℕ) × (read_document_lines (Reading heading job next) (n + 1) (before ++ line ∷ after)
        ≡ read_document_lines (claimed heading instance claim) m after))
        → (m : ℕ) × (read_document_lines (Reading heading job parts) n (first ∷ (before ++ line ∷ after))
        ≡ read_document_lines (claimed heading instance claim) m after)
    by_parts more adds rest true ws f g go =
        absurd (let h : ◌≡◌ {A = Result Parts ℕ} (Err 8) (Ok more) = ap
        (λ b. refuse b 8 (by_words parts (words_of (content first)))) (sym f) ∙ adds in cc (h))
    by_parts more adds rest false [] f g go =
        let same : parts ≡ more = ok_is parts more
        (ap₂ (λ b ws. add_line parts (record { bad = b; count = length ws; words = ws })) (sym f) (sym g) ∙ adds) in
        let l = go parts (subst (λ p. read_instance_lines p (k + 1) before ≡ Ok instance) (sym same) rest) in (
          l.0,
          line_taken (Reading heading job parts) (Reading heading job parts) n first (before ++ line ∷ after)
              (stage_by (Reading heading job parts) first [] f g) ∙ l.1,
        )
    by_parts more adds rest false (w ∷ ws) f g go =
        let a : add_line parts (record { bad = false; count = length (w ∷ ws); words = w ∷ ws }) ≡ Ok more =
        ap₂ (λ b us. add_line parts (record { bad = b; count = length us; words = us })) (sym f) (sym g) ∙ adds in
        let l = go more rest in (
          l.0,
          line_taken (Reading heading job parts) (Reading heading job more) n first (before ++ line ∷ after)
              (stage_by (Reading heading job parts) first (w ∷ ws) f g
              ∙ ap (λ b. reading_line b heading job parts
              (record { bad = false; count = length (w ∷ ws); words = w ∷ ws }))
              (no_result parts (length (w ∷ ws)) w ws more a)
              ∙ bound (text_fault (add_line parts (record { bad = false; count = length (w ∷ ws); words = w ∷ ws })))
              more (λ next. Ok (Reading heading job next)) (ap text_fault a))
              ∙ l.1,
        )

-- ---- the whole

pub form_given : (heading : Heading) (text : List ℕ) (claim : Claim) → IsHeadedDocument heading text claim
    → headed_verdict heading text ≡ Ok claim
unfolding headed_verdict
form_given heading text claim d =
    let s = split_at (text_lines text) [] (heading_word heading ∷ job_word (job_of claim) ∷ [])
    (d.written ++ (codes "result" ∷ d.result) ∷ (d.backing ++ (codes "end" ∷ []) ∷ [])) d.are in
    let r = split_at s.after d.written (codes "result" ∷ d.result) (d.backing ++ (codes "end" ∷ []) ∷ []) s.back_is in
    let c = clean_split s.before (s.line ∷ s.after) (subst AreClean s.are d.clean) in
    let c_after = or_parts _ _ c.1 in
    let e = clean_split r.before (r.line ∷ r.after) (subst AreClean r.are c_after.1) in
    let e_after = or_parts _ _ e.1 in
    let b = blanks_taken (Beginning heading) 0 s.before (s.line ∷ s.after) c.0 s.front_is in
    let first : read_document_lines (Beginning heading) b.0 (s.line ∷ s.after)
    ≡ read_document_lines (Reading heading (job_of claim) no_parts) (b.0 + 1) s.after =
    line_taken (Beginning heading) (Reading heading (job_of claim) no_parts) b.0 s.line s.after
    (stage_by (Beginning heading) s.line (heading_word heading ∷ job_word (job_of claim) ∷ []) c_after.0 s.words_are
    ∙ stage_filled heading (job_of claim) (heading_is heading (job_of claim) d.headed)) in
    let reads = (lines_have_form r.before 0 d.instance).1
    (e.0, subst (λ ls. HasForm ls d.instance) (sym r.front_is) d.is_instance) in
    let w = reading_given heading (job_of claim) no_parts (b.0 + 1) 0 r.before r.line r.after d.result d.instance claim
    reads e_after.0 r.words_are (result_given d.instance claim d.result d.is_result) in
    let two = d.is_instance.is_container.count in
    let some = d.is_instance.count in
    ap (read_document_lines (Beginning heading) 0) s.are ∙ b.1 ∙ first
    ∙ ap (read_document_lines (Reading heading (job_of claim) no_parts) (b.0 + 1)) r.are ∙ w.1
    ∙ words_taken (claimed heading d.instance claim) w.0 r.after claim
    (claimed_later heading d.instance claim) e_after.1
    (ap (read_words (claimed heading d.instance claim)) r.back_is
    ∙ backed_given d.instance (omega (arith, two)) (omega (arith, some)) heading claim d.backing d.backed)
  where
    stage_filled : (heading : Heading) (job : SolvingJob)
        → heading_line heading (heading_word heading ∷ job_word job ∷ []) ≡ Ok (Reading heading job no_parts)
        → stage_after (Beginning heading)
        (record {
          bad = false;
          count = length (heading_word heading ∷ job_word job ∷ []);
          words = heading_word heading
              ∷ job_word job ∷ [];
        }) ≡ Ok (Reading heading job no_parts)
    stage_filled heading job e = e

-- the instance of a document is within the limits of instances
pub document_limits : (heading : Heading) (text : List ℕ) (claim : Claim) (d : IsHeadedDocument heading text claim)
    → IsInstance d.instance
document_limits heading text claim d =
    let s = split_at (text_lines text) [] (heading_word heading ∷ job_word (job_of claim) ∷ [])
    (d.written ++ (codes "result" ∷ d.result) ∷ (d.backing ++ (codes "end" ∷ []) ∷ [])) d.are in
    let r = split_at s.after d.written (codes "result" ∷ d.result) (d.backing ++ (codes "end" ∷ []) ∷ []) s.back_is in
    let c = clean_split s.before (s.line ∷ s.after) (subst AreClean s.are d.clean) in
    let e = clean_split r.before (r.line ∷ r.after) (subst AreClean r.are (or_parts _ _ c.1).1) in
    lines_limits r.before no_parts d.instance 0 good_start
    ((lines_have_form r.before 0 d.instance).1
    (e.0, subst (λ ls. HasForm ls d.instance) (sym r.front_is) d.is_instance))

pub documents_have_form : DocumentsHaveForm
documents_have_form heading text claim = (form_told heading text claim, form_given heading text claim)
