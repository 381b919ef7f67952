-- The kind of a document depends on its first line that isn't blank alone.
use Rattle.std.proofs.Common.{◌≡◌, ◌≢◌, ℕ, ◌+◌, ◌-◌, ◌≤◌, ◌∙◌, ◌⊎◌, inl, inr, refl, sym, ap, subst, arith, Bool, true}
use Rattle.std.proofs.Common.{false, not, ◌||◌, List, [], ◌∷◌, ◌++◌, length, take, drop, append_assoc, append-nil}
use Rattle.std.proofs.Math.Seq.{take-append-add}
use Rattle.std.specs.List.{slice_split}
use Rattle.std.proofs.lemmas.Bool.{true≢false, or_left}
use Rattle.std.proofs.lemmas.List.{take-append-drop, take-append-le, length-take}
use Rattle.std.proofs.lemmas.List.Folds.{list_any-append}
use Rattle.std.proofs.lemmas.List.Splits.{length-slice_split}
use Rattle.text_terms.specs.Lines.{is_line_feed, line_of, drop_empty_end}
use Rattle.verdict_terms.specs.Stages.{is_blank}
use Rattle.verdict_terms.proofs.Stays.{end_append}
use Rattle.verdict_terms.specs.declared.kind.DocumentKind.{DocumentKind}
use Rattle.verdict_terms.specs.declared.kind.DocumentKind.TheVariants.{Explained, Front, Bounded, Reduced}
use Rattle.verdict_terms.specs.Kinds.{kind_of_line, kind_of_lines, document_kind}
use Rattle.document_audits.specs.Openings.{all_but_last, ended_lines, is_one_filled, tells_kind, KindsStay, TellingStays}
use Rattle.document_audits.specs.Openings.{IsReadByLines, IsReadWhole, DocumentsAreReadOneWay}
use Rattle.document_audits.proofs.Parts.{last_part, but_last, joined, parts_on}

-- ---- lines

pub filled_front : (lines more : List (List ℕ)) → is_one_filled lines ≡ true → is_one_filled (lines ++ more) ≡ true
filled_front lines more e =
    list_any-append (λ line. not (is_blank (line_of line))) lines more ∙ or_left _ _ e

-- the first line that isn't blank is among the front ones
kind_front : (lines more : List (List ℕ)) → is_one_filled lines ≡ true → kind_of_lines (lines ++ more) ≡ kind_of_lines lines
kind_front [] more e = absurd (true≢false (sym e))
kind_front (line ∷ lines) more e = go (is_blank (line_of line)) e (λ f. kind_front lines more f)
  where
    go : (b : Bool) → (not b || is_one_filled lines) ≡ true
        → (is_one_filled lines ≡ true → kind_of_lines (lines ++ more) ≡ kind_of_lines lines)
        → ◌≡◌ {A = DocumentKind} (elim b [ true ↦ kind_of_lines (lines ++ more) | false ↦ kind_of_line (line_of line) ])
        (elim b [ true ↦ kind_of_lines lines | false ↦ kind_of_line (line_of line) ])
    go true f later = later f
    go false f later = refl

-- ---- texts

-- the parts of bytes
parts_of : (bytes : List ℕ) → (part : List ℕ) × (slice_split is_line_feed bytes ≡ ended_lines bytes ++ part ∷ [])
parts_of bytes = last_part (slice_split is_line_feed bytes)
    (let l = length-slice_split is_line_feed bytes in omega (arith, l))

some_joined : (part : List ℕ) (parts : List (List ℕ)) → 1 ≤ length (joined part parts)
some_joined part [] = omega arith
some_joined part (first ∷ more) = omega arith

-- the kind of a text by the lines that were ended in front of it
kind_on : (bytes more : List ℕ) → tells_kind bytes ≡ true → document_kind (bytes ++ more) ≡ kind_of_lines (ended_lines bytes)
kind_on bytes more e =
    let last = parts_of bytes in
    let rest : List (List ℕ) = joined last.0 (slice_split is_line_feed more) in
    ap (λ ps. kind_of_lines (drop_empty_end ps)) (parts_on bytes more (ended_lines bytes) last.0 last.1)
    ∙ ap kind_of_lines (end_append (ended_lines bytes) rest (some_joined last.0 (slice_split is_line_feed more)))
    ∙ kind_front (ended_lines bytes) (drop_empty_end rest) e

pub kinds_stay : KindsStay
kinds_stay bytes more e =
    kind_on bytes more e ∙ sym (kind_on bytes [] e)
    ∙ ap document_kind (append-nil bytes)

-- the lines that were ended are those of a longer text too
ended_front : (bytes more : List ℕ) → (rest : List (List ℕ)) × (ended_lines (bytes ++ more) ≡ ended_lines bytes ++ rest)
ended_front bytes more =
    let last = parts_of bytes in
    let joins : List (List ℕ) = joined last.0 (slice_split is_line_feed more) in
    let end = last_part joins (some_joined last.0 (slice_split is_line_feed more)) in (
      all_but_last joins,
      ap all_but_last (parts_on bytes more (ended_lines bytes) last.0 last.1
          ∙ ap (λ ps. ended_lines bytes ++ ps) end.1
          ∙ sym (append_assoc (ended_lines bytes) (all_but_last joins) (end.0 ∷ [])))
          ∙ but_last (ended_lines bytes ++ all_but_last joins) end.0,
    )

pub telling_stays : TellingStays
telling_stays bytes more e =
    let front = ended_front bytes more in
    ap is_one_filled front.1 ∙ filled_front (ended_lines bytes) front.0 e

-- ---- how a document is read

is_bounded : (kind : DocumentKind) → (kind ≡ Bounded) ⊎ (kind ≢ Bounded)
is_bounded Explained = inr (λ e. absurd (cc (e)))
is_bounded Front = inr (λ e. absurd (cc (e)))
is_bounded Bounded = inl refl
is_bounded Reduced = inr (λ e. absurd (cc (e)))

pub one_way : DocumentsAreReadOneWay
one_way limit bytes = (by_kind (is_bounded (document_kind bytes)), both)
  where
    by_kind : (document_kind bytes ≡ Bounded) ⊎ (document_kind bytes ≢ Bounded)
        → IsReadByLines limit bytes ⊎ IsReadWhole limit bytes
    by_kind (inr other) = inr (inl other)
    by_kind (inl kind) = by_telling (tells_kind (take limit bytes)) refl
      where
        by_telling : (t : Bool) → tells_kind (take limit bytes) ≡ t → IsReadByLines limit bytes ⊎ IsReadWhole limit bytes
        by_telling true told = inl (record { kind = kind; told = told })
        by_telling false none = inr (inr none)

    both : IsReadByLines limit bytes → IsReadWhole limit bytes → ⊥
    both lines (inl other) = other lines.kind
    both lines (inr none) = true≢false (sym lines.told ∙ none)

take_append : (limit : ℕ) (opening more : List ℕ) → length opening ≤ limit
    → take limit (opening ++ more) ≡ opening ++ take (limit - length opening) more
take_append limit opening more few =
    let split : limit ≡ length opening + (limit - length opening) = omega (arith, few) in
    ap (λ n. take n (opening ++ more)) split ∙ take-append-add opening more (limit - length opening)

-- a document that begins with an opening within the limit
pub begun_by_lines : (limit : ℕ) (opening more : List ℕ) → length opening ≤ limit → tells_kind opening ≡ true
    → document_kind opening ≡ Bounded → IsReadByLines limit (opening ++ more)
begun_by_lines limit opening more few told kind = record {
  kind = kinds_stay opening more told ∙ kind;
  told = subst (λ bytes. tells_kind bytes ≡ true)
      (sym (take_append limit opening more few))
      (telling_stays opening (take (limit - length opening) more) told);
}

-- a document that goes on
pub lines_go_on : (limit : ℕ) (bytes more : List ℕ) → IsReadByLines limit bytes → IsReadByLines limit (bytes ++ more)
lines_go_on limit bytes more lines =
    subst (IsReadByLines limit)
    (sym (append_assoc (take limit bytes) (drop limit bytes) more) ∙ ap (λ xs. xs ++ more) (take-append-drop limit bytes))
    (begun_by_lines limit (take limit bytes) (drop limit bytes ++ more)
    (let l = length-take limit bytes in omega (arith, l)) lines.told
    (sym (kinds_stay (take limit bytes) (drop limit bytes) lines.told)
    ∙ ap document_kind (take-append-drop limit bytes) ∙ lines.kind))

-- bytes up to the limit show how the document is read
pub lines_come_back : (limit : ℕ) (bytes more : List ℕ) → limit ≤ length bytes → IsReadByLines limit (bytes ++ more)
    → IsReadByLines limit bytes
lines_come_back limit bytes more full lines =
    let front : tells_kind (take limit bytes) ≡ true =
    subst (λ xs. tells_kind xs ≡ true) (take-append-le limit bytes more full) lines.told in
    record {
      kind = sym (ap document_kind (take-append-drop limit bytes))
          ∙ kinds_stay (take limit bytes) (drop limit bytes) front
          ∙ sym (kinds_stay (take limit bytes) (drop limit bytes ++ more) front)
          ∙ ap document_kind (sym (append_assoc (take limit bytes) (drop limit bytes) more)
          ∙ ap (λ xs. xs ++ more) (take-append-drop limit bytes)) ∙ lines.kind;
      told = front;
    }
