-- The refusal of a line that a line feed ends is that of every text which begins so.
use Rattle.std.proofs.Common.{◌≡◌, ℕ, ◌+◌, ◌≤◌, refl, sym, ap, ◌∙◌, arith, Bool, true, false, cond, List, [], ◌∷◌, ◌++◌}
use Rattle.std.proofs.Common.{length, append_assoc, append-nil, Result, Ok, Err}
use Rattle.std.specs.List.{slice_split, onto_first}
use Rattle.std.proofs.lemmas.List.Splits.{length-slice_split}
use Rattle.text_terms.specs.Lines.{text_lines, line_of, is_line_feed, drop_empty_end}
use Rattle.packing_terms.specs.Results.{◌>>=◌}
use Rattle.text_terms.specs.declared.claim.Claim.{Claim}
use Rattle.verdict_terms.specs.declared.reason.Reason.{Reason}
use Rattle.verdict_terms.specs.declared.reason.Reason.TheVariants.{TooShort}
use Rattle.verdict_terms.specs.Stages.{Stage, stage_after}
use Rattle.verdict_terms.specs.Stages.Stage.{Beginning, Reading, Placing, Sharing, Taking, Proving, Refuting, Exceeding}
use Rattle.verdict_terms.specs.Stages.Stage.{ProvingFamilies, Bounding, Gathering}
use Rattle.verdict_terms.specs.Stages.Stage.{Ending, Ended}
use Rattle.verdict_terms.specs.Documents.{Refusal, document_at_line, document_at_end, read_document_lines}
use Rattle.verdict_terms.specs.Documents.{headed_verdict}
use Rattle.verdict_terms.specs.Fed.{RefusalsStay}

-- ---- lines

onto_append : (b : ℕ) (xs ys : List (List ℕ)) → 1 ≤ length xs → onto_first b (xs ++ ys) ≡ onto_first b xs ++ ys
onto_append b [] ys some = absurd (omega arith)
onto_append b (x ∷ xs) ys some = refl

pub split_feed : (front more : List ℕ) → slice_split is_line_feed (front ++ 10 ∷ more) ≡ slice_split is_line_feed front
    ++ slice_split is_line_feed more
split_feed [] more = refl
split_feed (b ∷ front) more = go (is_line_feed b) (split_feed front more)
  where
    go : (t : Bool) → slice_split is_line_feed (front ++ 10 ∷ more) ≡ slice_split is_line_feed front
        ++ slice_split is_line_feed more
        → cond t ([] ∷ slice_split is_line_feed (front ++ 10 ∷ more))
        (onto_first b (slice_split is_line_feed (front ++ 10 ∷ more)))
        ≡ cond t ([] ∷ slice_split is_line_feed front) (onto_first b (slice_split is_line_feed front))
        ++ slice_split is_line_feed more
    go true e = ap (λ ls. [] ∷ ls) e
    go false e =
        ap (onto_first b) e
        ∙ onto_append b (slice_split is_line_feed front) (slice_split is_line_feed more)
        (let l = length-slice_split is_line_feed front in omega (arith, l))

pub end_append : (xs ys : List (List ℕ)) → 1 ≤ length ys → drop_empty_end (xs ++ ys) ≡ xs ++ drop_empty_end ys
end_append [] ys some = refl
end_append (x ∷ []) [] some = absurd (omega arith)
end_append (x ∷ []) (y ∷ ys) some = refl
end_append (x ∷ z ∷ xs) ys some = ap (λ ls. x ∷ ls) (end_append (z ∷ xs) ys some)

lines_more : (front more : List ℕ) → text_lines (front ++ 10 ∷ more) ≡ text_lines (front ++ 10 ∷ []) ++ text_lines more
lines_more front more =
    ap drop_empty_end (split_feed front more)
    ∙ end_append (slice_split is_line_feed front) (slice_split is_line_feed more)
    (let l = length-slice_split is_line_feed more in omega (arith, l))
    ∙ ap (λ ls. ls ++ text_lines more)
    (sym (append-nil (slice_split is_line_feed front))
    ∙ sym (end_append (slice_split is_line_feed front) ([] ∷ []) (omega arith))
    ∙ ap drop_empty_end (sym (split_feed front [])))

-- ---- refusals

pub end_line : (stage : Stage) (n : ℕ) (r : Refusal) → document_at_end stage n ≡ Err r → r.line ≡ n + 1
end_line (Ended c) n r e = absurd (cc (e))
end_line (Beginning h) n r e = let same : record { line = n + 1; reason = TooShort } ≡ r = cc (e) in
    ap (λ x. x.line) (sym same)
end_line (Reading h j p) n r e = let same : record { line = n + 1; reason = TooShort } ≡ r = cc (e) in
    ap (λ x. x.line) (sym same)
end_line (Placing h i c f p) n r e = let same : record { line = n + 1; reason = TooShort } ≡ r = cc (e) in
    ap (λ x. x.line) (sym same)
end_line (Sharing i c k b p) n r e = let same : record { line = n + 1; reason = TooShort } ≡ r = cc (e) in
    ap (λ x. x.line) (sym same)
end_line (Taking h i c v t p) n r e = let same : record { line = n + 1; reason = TooShort } ≡ r = cc (e) in
    ap (λ x. x.line) (sym same)
end_line (Proving c f) n r e = let same : record { line = n + 1; reason = TooShort } ≡ r = cc (e) in
    ap (λ x. x.line) (sym same)
end_line (ProvingFamilies i c) n r e = let same : record { line = n + 1; reason = TooShort } ≡ r = cc (e) in
    ap (λ x. x.line) (sym same)
end_line (Refuting c t) n r e = let same : record { line = n + 1; reason = TooShort } ≡ r = cc (e) in
    ap (λ x. x.line) (sym same)
end_line (Bounding i c y ns) n r e = let same : record { line = n + 1; reason = TooShort } ≡ r = cc (e) in
    ap (λ x. x.line) (sym same)
end_line (Gathering i c ns) n r e = let same : record { line = n + 1; reason = TooShort } ≡ r = cc (e) in
    ap (λ x. x.line) (sym same)
end_line (Exceeding i c m) n r e = let same : record { line = n + 1; reason = TooShort } ≡ r = cc (e) in
    ap (λ x. x.line) (sym same)
end_line (Ending c b) n r e = let same : record { line = n + 1; reason = TooShort } ≡ r = cc (e) in
    ap (λ x. x.line) (sym same)

stays : (stage : Stage) (n : ℕ) (xs ys : List (List ℕ)) (r : Refusal) → read_document_lines stage n xs ≡ Err r
    → r.line ≤ n + length xs → read_document_lines stage n (xs ++ ys) ≡ Err r
stays stage n [] ys r e l = absurd (let h = end_line stage n r e in omega (arith, h, l))
stays stage n (x ∷ xs) ys r e l =
    go (stage_after stage (line_of x)) e (λ next f. stays next (n + 1) xs ys r f (omega (arith, l)))
  where
    go : (s : Result Stage Reason)
        → ◌≡◌ {A = Result Claim Refusal}
        (document_at_line (n + 1) s >>= λ next. read_document_lines next (n + 1) xs) (Err r)
        → ((next : Stage) → read_document_lines next (n + 1) xs ≡ Err r
        → read_document_lines next (n + 1) (xs ++ ys) ≡ Err r)
        → ◌≡◌ {A = Result Claim Refusal}
        (document_at_line (n + 1) s >>= λ next. read_document_lines next (n + 1) (xs ++ ys)) (Err r)
    go (Ok next) e later = later next e
    go (Err reason) e later = e

pub refusals_stay : RefusalsStay
unfolding headed_verdict
refusals_stay heading bytes more refusal e ends =
    let here : read_document_lines (Beginning heading) 0 (text_lines (ends.front ++ 10 ∷ [])) ≡ Err refusal =
    ap (λ b. read_document_lines (Beginning heading) 0 (text_lines b)) (sym ends.are) ∙ e in
    let last : refusal.line ≡ length (text_lines (ends.front ++ 10 ∷ [])) =
    ends.is_last ∙ ap (λ b. length (text_lines b)) ends.are in
    ap (λ b. read_document_lines (Beginning heading) 0 (text_lines (b ++ more))) ends.are
    ∙ ap (λ b. read_document_lines (Beginning heading) 0 (text_lines b)) (append_assoc ends.front (10 ∷ []) more)
    ∙ ap (read_document_lines (Beginning heading) 0) (lines_more ends.front more)
    ∙ stays (Beginning heading) 0 (text_lines (ends.front ++ 10 ∷ [])) (text_lines more) refusal here
    (omega (arith, last))
