-- A verified text has the form of a document.
use Rattle.std.proofs.Common.{◌≡◌, ℕ, ◌+◌, refl, sym, ap, ap₂, subst, ◌∙◌, Bool, true, false, cond, not, ◌||◌, List, []}
use Rattle.std.proofs.Common.{◌∷◌, ◌++◌, length, map, Result, Ok, Err, codes}
use Rattle.std.specs.Prelude.{◌==◌}
use Rattle.std.specs.List.{list_any, filter}
use Rattle.std.proofs.lemmas.Bool.{or_from}
use Rattle.std.proofs.lemmas.List.{map-append}
use Rattle.std.proofs.lemmas.List.Elements.{filter-append}
use Rattle.std.proofs.lemmas.List.Folds.{list_any-append}
use Rattle.packing_terms.specs.Packing.{PlainInstance}
use Rattle.text_terms.specs.declared.fault.TextFault.{TextFault}
use Rattle.text_terms.specs.Lines.{text_lines, line_of, content, is_bad, words_of, same_bytes}
use Rattle.text_terms.specs.Codes.{missing_line, no_box_line}
use Rattle.packing_terms.specs.Results.{◌>>=◌}
use Rattle.text_terms.specs.Texts.{Parts, no_parts, add_line, at_end as end_of, at_line as on_line, refuse, is_none}
use Rattle.text_terms.specs.Texts.{read_lines as read_instance_lines}
use Rattle.text_terms.specs.Form.{AreClean, filled_lines}
use Rattle.text_terms.proofs.FormRead.{filled_with}
use Rattle.text_terms.proofs.FormTold.{lines_have_form}
use Rattle.text_terms.proofs.Good.{bind_ok}
use Rattle.text_terms.proofs.FormNumbers.{word_is}
use Rattle.text_terms.proofs.FormLines.{clean_from}
use Rattle.text_terms.specs.declared.claim.SolvingJob.{SolvingJob}
use Rattle.text_terms.specs.declared.claim.Claim.{Claim}
use Rattle.text_terms.specs.Claims.{job_word}
use Rattle.text_terms.specs.declared.claim.SolvingJob.TheVariants.{Fit, Strip, Bins, Knapsack}
use Rattle.text_terms.specs.declared.claim.Claim.TheVariants.{Fitting, NotFitting, LeastHeight, HeightBetween}
use Rattle.text_terms.specs.declared.claim.Claim.TheVariants.{NoHeight, LeastBins, BinsBetween, NoBins}
use Rattle.text_terms.specs.declared.claim.Claim.TheVariants.{GreatestValue, ValueBetween}
use Rattle.verdict_terms.specs.declared.heading.Heading.{Heading}
use Rattle.verdict_terms.specs.declared.heading.Heading.TheVariants.{Answer, Reduced, Bounded}
use Rattle.verdict_terms.specs.declared.reason.Reason.{Reason}
use Rattle.verdict_terms.specs.Reasons.{form}
use Rattle.verdict_terms.specs.Results.{claim_of}
use Rattle.verdict_terms.specs.Stages.{Stage, claimed, job_named, heading_word, job_headed, heading_line, text_fault}
use Rattle.verdict_terms.specs.Stages.{end_of_parts, result_line, reading_line, stage_after}
use Rattle.verdict_terms.specs.Stages.Stage.{Beginning, Reading}
use Rattle.verdict_terms.specs.Documents.{read_document_lines, headed_verdict}
use Rattle.verdict_terms.specs.Form.{MayName, IsHeadedDocument}
use Rattle.verdict_terms.proofs.Passed.{cond_ok, ok_is}
use Rattle.verdict_terms.proofs.Walk.{IsLater, stepped, words_read}
use Rattle.verdict_terms.proofs.ResultsTold.{result_told}
use Rattle.verdict_terms.proofs.Backed.{backed_told}

-- ---- the first line

job_ok : (word : List ℕ) (job : SolvingJob) → job_named word ≡ Ok job → word ≡ job_word job
job_ok word job e =
    go (same_bytes word (codes "fit")) (same_bytes word (codes "strip")) (same_bytes word (codes "bins"))
    (same_bytes word (codes "knapsack")) refl refl refl refl e
  where
    go : (a b c d : Bool) → same_bytes word (codes "fit") ≡ a → same_bytes word (codes "strip") ≡ b
        → same_bytes word (codes "bins") ≡ c → same_bytes word (codes "knapsack") ≡ d
        → ◌≡◌ {A = Result SolvingJob Reason}
        (cond a (Ok Fit) (cond b (Ok Strip) (cond c (Ok Bins) (cond d (Ok Knapsack) (Err form))))) (Ok job)
        → word ≡ job_word job
    go true b c d p q r s f = let same : Fit ≡ job = cc (f) in word_is word (codes "fit") p ∙ ap job_word same
    go false true c d p q r s f = let same : Strip ≡ job = cc (f) in word_is word (codes "strip") q ∙ ap job_word same
    go false false true d p q r s f = let same : Bins ≡ job = cc (f) in word_is word (codes "bins") r ∙ ap job_word same
    go false false false true p q r s f = let same : Knapsack ≡ job = cc (f) in
        word_is word (codes "knapsack") s ∙ ap job_word same
    go false false false false p q r s f = absurd (cc (f))

headed_ok : (heading : Heading) (word : List ℕ) (job : SolvingJob) → job_headed heading word ≡ Ok job
    → (word ≡ job_word job) × MayName heading job
headed_ok Answer word job e = (job_ok word job e, tt)
headed_ok Reduced word job e = go (same_bytes word (codes "fit")) (same_bytes word (codes "strip")) refl refl e
  where
    go : (a b : Bool) → same_bytes word (codes "fit") ≡ a → same_bytes word (codes "strip") ≡ b
        → ◌≡◌ {A = Result SolvingJob Reason} (cond a (Ok Fit) (cond b (Ok Strip) (Err form))) (Ok job)
        → (word ≡ job_word job) × MayName Reduced job
    go true b p q f = let same : Fit ≡ job = cc (f) in
        (word_is word (codes "fit") p ∙ ap job_word same, subst (MayName Reduced) same tt)
    go false true p q f = let same : Strip ≡ job = cc (f) in
        (word_is word (codes "strip") q ∙ ap job_word same, subst (MayName Reduced) same tt)
    go false false p q f = absurd (cc (f))
headed_ok Bounded word job e = go (same_bytes word (codes "knapsack")) (same_bytes word (codes "strip")) refl refl e
  where
    go : (a b : Bool) → same_bytes word (codes "knapsack") ≡ a → same_bytes word (codes "strip") ≡ b
        → ◌≡◌ {A = Result SolvingJob Reason} (cond a (Ok Knapsack) (cond b (Ok Strip) (Err form))) (Ok job)
        → (word ≡ job_word job) × MayName Bounded job
    go true b p q f = let same : Knapsack ≡ job = cc (f) in
        (word_is word (codes "knapsack") p ∙ ap job_word same, subst (MayName Bounded) same tt)
    go false true p q f = let same : Strip ≡ job = cc (f) in
        (word_is word (codes "strip") q ∙ ap job_word same, subst (MayName Bounded) same tt)
    go false false p q f = absurd (cc (f))

pub record HeadingRead (heading : Heading) (words : List (List ℕ)) (next : Stage) : Type 0 where
  pub job : SolvingJob
  pub headed : MayName heading job
  pub are : words ≡ heading_word heading ∷ job_word job ∷ []
  pub next_is : Reading heading job no_parts ≡ next

key_ok : (heading : Heading) (key : List ℕ) → same_bytes key (heading_word heading) ≡ true → key ≡ heading_word heading
key_ok Answer key e = word_is key (codes "answer") e
key_ok Reduced key e = word_is key (codes "reduced") e
key_ok Bounded key e = word_is key (codes "bounded") e

pub heading_ok : (heading : Heading) (words : List (List ℕ)) (next : Stage) → heading_line heading words ≡ Ok next
    → HeadingRead heading words next
heading_ok heading [] next e = absurd (cc (e))
heading_ok heading (key ∷ []) next e = absurd (cc (e))
heading_ok heading (key ∷ word ∷ other ∷ words) next e = absurd (cc (e))
heading_ok heading (key ∷ word ∷ []) next e =
    let c = cond_ok (same_bytes key (heading_word heading))
    (job_headed heading word >>= λ job. Ok (Reading heading job no_parts)) form next e in
    let j = bind_ok (job_headed heading word) (λ job. Ok (Reading heading job no_parts)) next c.1 in
    let h = headed_ok heading word j.0 j.1 in
    record {
      job = j.0;
      headed = h.1;
      are = ap₂ (λ k w. k ∷ w ∷ []) (key_ok heading key c.0) h.0;
      next_is = ok_is (Reading heading j.0 no_parts) next j.2;
    }

-- the lines behind the first
pub record HeadingTold (heading : Heading) (filled : List (List (List ℕ))) (lines : List (List ℕ)) (claim : Claim) :
    Type 0 where
  pub job : SolvingJob
  pub headed : MayName heading job
  pub rest : List (List ℕ)
  pub number : ℕ
  pub are : filled ≡ (heading_word heading ∷ job_word job ∷ []) ∷ filled_lines rest
  pub clean : AreClean rest → AreClean lines
  pub reads : read_document_lines (Reading heading job no_parts) number rest ≡ Ok claim

heading_told : (heading : Heading) (n : ℕ) (lines : List (List ℕ)) (claim : Claim)
    → read_document_lines (Beginning heading) n lines ≡ Ok claim → HeadingTold heading (filled_lines lines) lines claim
heading_told heading n [] claim e = absurd (cc (e))
heading_told heading n (line ∷ lines) claim e =
    let s = stepped (Beginning heading) n line lines claim e in
    by_parts s.next s.rest (list_any is_bad (content line)) (words_of (content line)) refl s.step
    (λ r. heading_told heading (n + 1) lines claim r)
  where
    by_parts : (next : Stage) → read_document_lines next (n + 1) lines ≡ Ok claim → (b : Bool) (words : List (List ℕ))
        → list_any is_bad (content line) ≡ b
        → stage_after (Beginning heading) (record { bad = b; count = length words; words = words }) ≡ Ok next
        → (read_document_lines (Beginning heading) (n + 1) lines ≡ Ok claim
        → HeadingTold heading (filled_lines lines) lines claim)
        → HeadingTold heading (filled_with words lines) (line ∷ lines) claim
    by_parts next rest true [] bad step go = absurd (cc (step))
    by_parts next rest true (w ∷ ws) bad step go = absurd (cc (step))
    by_parts next rest false [] bad step go =
        let t = go (subst (λ s. read_document_lines s (n + 1) lines ≡ Ok claim)
        (sym (ok_is (Beginning heading) next step)) rest) in
        record {
          job = t.job;
          headed = t.headed;
          rest = t.rest;
          number = t.number;
          are = t.are;
          clean = λ c. clean_from line lines bad (t.clean c);
          reads = t.reads;
        }
    by_parts next rest false (w ∷ ws) bad step go =
        let a = heading_ok heading (w ∷ ws) next step in record {
          job = a.job;
          headed = a.headed;
          rest = lines;
          number = n + 1;
          are = ap (λ ls. ls ∷ filled_lines lines) a.are;
          clean = λ c. clean_from line lines bad c;
          reads = subst (λ s. read_document_lines s (n + 1) lines ≡ Ok claim) (sym a.next_is) rest;
        }

-- ---- the lines of the instance

-- the number of a text's last line doesn't matter where it has no fault
pub any_end : (parts : Parts) (m n : ℕ) (instance : PlainInstance) → end_of parts m ≡ Ok instance
    → end_of parts n ≡ Ok instance
any_end parts m n instance e = go ((parts.format == 0) || is_none parts.container) (is_none parts.boxes) e
  where
    go : (a b : Bool) → on_line (m + 1)
        (refuse {A = PlainInstance} a missing_line
        (refuse b no_box_line (Ok (record
        { container = parts.container; kerfs = parts.kerfs; boxes = parts.boxes })))) ≡ Ok instance
        → on_line (n + 1) (refuse {A = PlainInstance} a missing_line
        (refuse b no_box_line (Ok (record
        { container = parts.container; kerfs = parts.kerfs; boxes = parts.boxes })))) ≡ Ok instance
    go true b e = absurd (cc (e))
    go false true e = absurd (cc (e))
    go false false e = ap Ok (ok_is _ instance e)

pub end_ok : (r : Result PlainInstance TextFault) (instance : PlainInstance) → end_of_parts r ≡ Ok instance
    → r ≡ Ok instance
end_ok (Ok x) instance e = ap Ok (ok_is x instance e)
end_ok (Err fault) instance e = absurd (cc (e))

pub fault_ok : {A : Type 0} (r : Result A ℕ) (x : A) → text_fault r ≡ Ok x → r ≡ Ok x
fault_ok (Ok y) x e = ap Ok (ok_is y x e)
fault_ok (Err code) x e = absurd (cc (e))

-- the lines of the instance, the result line, and the lines behind it
pub record ReadingTold (heading : Heading) (job : SolvingJob) (parts : Parts) (lines : List (List ℕ)) (told : Claim) :
    Type 0 where
  pub before : List (List ℕ)
  pub line : List ℕ
  pub after : List (List ℕ)
  pub words : List (List ℕ)
  pub instance : PlainInstance
  pub claim : Claim
  pub number : ℕ
  pub are : lines ≡ before ++ line ∷ after
  pub reads : (n : ℕ) → read_instance_lines parts n before ≡ Ok instance
  pub clean_line : list_any is_bad (content line) ≡ false
  pub words_are : words_of (content line) ≡ codes "result" ∷ words
  pub says : claim_of job instance words ≡ Ok claim
  pub rest : read_document_lines (claimed heading instance claim) number after ≡ Ok told

reading_told : (heading : Heading) (job : SolvingJob) (parts : Parts) (n : ℕ) (lines : List (List ℕ)) (told : Claim)
    → read_document_lines (Reading heading job parts) n lines ≡ Ok told → ReadingTold heading job parts lines told
reading_told heading job parts n [] told e = absurd (cc (e))
reading_told heading job parts n (line ∷ lines) told e =
    let s = stepped (Reading heading job parts) n line lines told e in
    by_parts s.next s.rest (list_any is_bad (content line)) (words_of (content line)) refl refl s.step
    (λ more r. reading_told heading job more (n + 1) lines told r)
  where
    -- an instance line
    another : (more : Parts) → add_line parts (line_of line) ≡ Ok more → ReadingTold heading job more lines told
        → ReadingTold heading job parts (line ∷ lines) told
    another more adds t = record {
      before = line ∷ t.before;
      line = t.line;
      after = t.after;
      words = t.words;
      instance = t.instance;
      claim = t.claim;
      number = t.number;
      are = ap (λ ls. line ∷ ls) t.are;
      reads = λ k. ap (λ r. on_line (k + 1) r >>= λ m. read_instance_lines m (k + 1) t.before) adds ∙ t.reads (k + 1);
      clean_line = t.clean_line;
      words_are = t.words_are;
      says = t.says;
      rest = t.rest;
    }

    result : (w : List ℕ) (ws : List (List ℕ)) → list_any is_bad (content line) ≡ false
        → words_of (content line) ≡ w ∷ ws → same_bytes w (codes "result") ≡ true → (next : Stage)
        → result_line heading job parts ws ≡ Ok next → read_document_lines next (n + 1) lines ≡ Ok told
        → ReadingTold heading job parts (line ∷ lines) told
    result w ws bad is key next e rest =
        let i = bind_ok (end_of_parts (end_of parts 0))
        (λ instance. claim_of job instance ws >>= λ claim. Ok (claimed heading instance claim)) next e in
        let c = bind_ok (claim_of job i.0 ws) (λ claim. Ok (claimed heading i.0 claim)) next i.2 in record {
          before = [];
          line = line;
          after = lines;
          words = ws;
          instance = i.0;
          claim = c.0;
          number = n + 1;
          are = refl;
          reads = λ k. any_end parts 0 k i.0 (end_ok (end_of parts 0) i.0 i.1);
          clean_line = bad;
          words_are = is ∙ ap (λ x. x ∷ ws) (word_is w (codes "result") key);
          says = c.1;
          rest = subst (λ s. read_document_lines s (n + 1) lines ≡ Ok told)
              (sym (ok_is (claimed heading i.0 c.0) next c.2)) rest;
        }

    by_parts : (next : Stage) → read_document_lines next (n + 1) lines ≡ Ok told → (b : Bool) (words : List (List ℕ))
        → list_any is_bad (content line) ≡ b → words_of (content line) ≡ words
        → stage_after (Reading heading job parts) (record { bad = b; count = length words; words = words }) ≡ Ok next
        → ((more : Parts) → read_document_lines (Reading heading job more) (n + 1) lines ≡ Ok told
        → ReadingTold heading job more lines told) → ReadingTold heading job parts (line ∷ lines) told
    by_parts next rest true [] bad is step go = absurd (cc (step))
    by_parts next rest true (w ∷ ws) bad is step go = absurd (cc (step))
    by_parts next rest false [] bad is step go =
        another parts (ap₂ (λ b ws. add_line parts (record { bad = b; count = length ws; words = ws })) bad is)
        (go parts (subst (λ s. read_document_lines s (n + 1) lines ≡ Ok told)
        (sym (ok_is (Reading heading job parts) next step)) rest))
    by_parts next rest false (w ∷ ws) bad is step go = by_key (same_bytes w (codes "result")) refl step
      where
        by_key : (k : Bool) → same_bytes w (codes "result") ≡ k
            → reading_line k heading job parts
            (record { bad = false; count = length (w ∷ ws); words = w ∷ ws }) ≡ Ok next
            → ReadingTold heading job parts (line ∷ lines) told
        by_key true key f = result w ws bad is key next f rest
        by_key false key f =
            let m = bind_ok (text_fault (add_line parts
            (record { bad = false; count = length (w ∷ ws); words = w ∷ ws })))
            (λ more. Ok (Reading heading job more)) next f in
            another m.0 (ap₂ (λ b ws. add_line parts (record { bad = b; count = length ws; words = ws })) bad is
            ∙ fault_ok _ m.0 m.1)
            (go m.0 (subst (λ s. read_document_lines s (n + 1) lines ≡ Ok told)
            (sym (ok_is (Reading heading job m.0) next m.2)) rest))

-- ---- the whole

pub filled_append : (xs ys : List (List ℕ)) → filled_lines (xs ++ ys) ≡ filled_lines xs ++ filled_lines ys
filled_append xs ys =
    ap (filter (λ words. not (is_none words))) (map-append (λ line. words_of (content line)) xs ys)
    ∙ filter-append (λ words. not (is_none words)) (map (λ line. words_of (content line)) xs)
    (map (λ line. words_of (content line)) ys)

pub clean_append : (xs ys : List (List ℕ)) → AreClean xs → AreClean ys → AreClean (xs ++ ys)
clean_append xs ys c d = list_any-append (λ line. list_any is_bad (content line)) xs ys ∙ or_from _ _ c d

filled_line_is : (line : List ℕ) (lines : List (List ℕ)) (words : List (List ℕ))
    → words_of (content line) ≡ codes "result" ∷ words
    → filled_lines (line ∷ lines) ≡ (codes "result" ∷ words) ∷ filled_lines lines
filled_line_is line lines words is = ap (λ ws. filled_with ws lines) is

pub claimed_later : (heading : Heading) (instance : PlainInstance) (claim : Claim)
    → IsLater (claimed heading instance claim)
claimed_later heading instance Fitting = tt
claimed_later heading instance NotFitting = tt
claimed_later heading instance (LeastHeight h) = tt
claimed_later heading instance (HeightBetween a b) = tt
claimed_later heading instance NoHeight = tt
claimed_later heading instance (LeastBins k) = tt
claimed_later heading instance (BinsBetween a b) = tt
claimed_later heading instance NoBins = tt
claimed_later heading instance (GreatestValue v) = tt
claimed_later heading instance (ValueBetween a b) = tt

-- a document of a claim is one of an equal claim
same_document : (heading : Heading) (text : List ℕ) (claim told : Claim) → claim ≡ told
    → IsHeadedDocument heading text claim → IsHeadedDocument heading text told
same_document heading text claim told e d = subst (λ c. IsHeadedDocument heading text c) e d

pub form_told : (heading : Heading) (text : List ℕ) (claim : Claim) → headed_verdict heading text ≡ Ok claim
    → IsHeadedDocument heading text claim
unfolding headed_verdict
form_told heading text claim e =
    let a = heading_told heading 0 (text_lines text) claim e in
    let r = reading_told heading a.job no_parts a.number a.rest claim a.reads in
    let later = claimed_later heading r.instance r.claim in
    let w = words_read (claimed heading r.instance r.claim) r.number r.after claim later r.rest in
    let l = result_told r.instance r.claim a.job r.words r.says in
    let b = backed_told heading r.instance r.claim claim (filled_lines r.after) w.1 in
    let i = (lines_have_form r.before 0 r.instance).0 (r.reads 0) in
    let clean_rest : AreClean a.rest =
    subst (λ ls. AreClean ls) (sym r.are)
    (clean_append r.before (r.line ∷ r.after) i.0 (clean_from r.line r.after r.clean_line w.0)) in
    let filled_rest : filled_lines a.rest ≡ filled_lines r.before ++ (codes "result" ∷ r.words)
    ∷ (b.backing ++ (codes "end" ∷ []) ∷ []) =
    ap filled_lines r.are ∙ filled_append r.before (r.line ∷ r.after)
    ∙ ap (λ ls. filled_lines r.before ++ ls)
    (filled_line_is r.line r.after r.words r.words_are ∙ ap (λ ls. (codes "result" ∷ r.words) ∷ ls) b.are) in
    same_document heading text r.claim claim b.same (record {
      instance = r.instance;
      written = filled_lines r.before;
      result = r.words;
      backing = b.backing;
      headed = subst (λ j. MayName heading j) (sym l.job_is) a.headed;
      clean = a.clean clean_rest;
      are = a.are ∙ ap₂ (λ j ls. (heading_word heading ∷ job_word j ∷ []) ∷ ls) (sym l.job_is) filled_rest;
      is_instance = i.1;
      is_result = l.is;
      backed = b.backs;
    })
