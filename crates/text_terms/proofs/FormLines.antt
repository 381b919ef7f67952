-- What a line without a fault adds to the parts, and which kind of line it is.
use Rattle.std.proofs.Common.{◌≡◌, ℕ, ◌+◌, Bool, true, false, cond, not, ◌||◌, ◌&&◌, List, [], ◌∷◌, replicate, length}
use Rattle.std.proofs.Common.{refl, sym, ap, ap₂, subst, ◌∙◌, Result, Ok, Err, codes}
use Rattle.std.specs.Prelude.{nat_le, ◌==◌}
use Rattle.std.specs.List.{list_any}
use Rattle.std.proofs.lemmas.Bool.{eqb-true, and_parts, or_parts, true≢false}
use Rattle.packing_terms.specs.Packing.{PlainInstance}
use Rattle.text_terms.specs.declared.fault.TextFault.{TextFault}
use Rattle.text_terms.specs.Lines.{line_of, content, is_bad, words_of, same_bytes}
use Rattle.packing_terms.specs.Results.{◌>>=◌}
use Rattle.text_terms.specs.Texts.{Parts, add_line, by_words, format_line, container_line, kerf_line, box_line}
use Rattle.text_terms.specs.Texts.{first_word, numbers_of, container_limits, kerf_limits, ranged_number, refuse}
use Rattle.text_terms.specs.Texts.{is_none, at_line, read_lines}
use Rattle.text_terms.specs.Form.{AreClean}
use Rattle.text_terms.proofs.Good.{refuse_ok}
use Rattle.text_terms.proofs.FormNumbers.{word_is}

-- ---- what a line without a fault adds

pub at_line_ok : (n : ℕ) (r : Result PlainInstance ℕ) (i : PlainInstance) → at_line n r ≡ Ok i → r ≡ Ok i
at_line_ok n (Ok j) i e = let same : j ≡ i = cc (e) in ap Ok same
at_line_ok n (Err code) i e = absurd (cc (e))

line_ok : (n : ℕ) (r : Result Parts ℕ) (f : Parts → Result PlainInstance TextFault) (i : PlainInstance)
    → (at_line n r >>= f) ≡ Ok i
    → (more : Parts) × (r ≡ Ok more) × (f more ≡ Ok i)
line_ok n (Ok more) f i e = (more, refl, e)
line_ok n (Err code) f i e = absurd (cc (e))

-- a line that adds to the parts, and the lines behind it
pub record Adds (line : List ℕ) (lines : List (List ℕ)) (parts more : Parts) (n : ℕ) (i : PlainInstance) : Type 0 where
  pub clean : list_any is_bad (content line) ≡ false
  pub adds : by_words parts (words_of (content line)) ≡ Ok more
  pub rest : read_lines more (n + 1) lines ≡ Ok i

pub line_adds : (line : List ℕ) (lines : List (List ℕ)) (parts : Parts) (n : ℕ) (i : PlainInstance)
    → read_lines parts n (line ∷ lines) ≡ Ok i
    → (more : Parts) × Adds line lines parts more n i
line_adds line lines parts n i e =
    let l = line_ok (n + 1) (add_line parts (line_of line)) (λ more. read_lines more (n + 1) lines) i e in
    let a = refuse_ok (line_of line).bad 8 (by_words parts (line_of line).words) l.0 l.1 in
    (l.0, record { clean = a.0; adds = a.1; rest = l.2 })

pub clean_from : (line : List ℕ) (lines : List (List ℕ)) → list_any is_bad (content line) ≡ false → AreClean lines
    → AreClean (line ∷ lines)
clean_from line lines a b = ap₂ (λ x y. x || y) a b

pub same_parts : (parts more : Parts) (lines : List (List ℕ)) (n : ℕ) (i : PlainInstance) → by_words parts [] ≡ Ok more
    → read_lines more n lines ≡ Ok i → read_lines parts n lines ≡ Ok i
same_parts parts more lines n i e rest = let same : more ≡ parts = cc (e) in
    subst (λ p. read_lines p n lines ≡ Ok i) same rest

-- ---- the kinds of line

-- which of the four kinds a line is that adds to the parts
pub data IsKind (parts : Parts) (word : List ℕ) (words : List (List ℕ)) (more : Parts) : Type 0 where
  by_format : word ≡ codes "format" → format_line parts words ≡ Ok more → IsKind parts word words more
  by_container : word ≡ codes "container" → container_line parts words ≡ Ok more → IsKind parts word words more
  by_kerf : parts.format ≡ 2 → word ≡ codes "kerf" → kerf_line parts words ≡ Ok more → IsKind parts word words more
  by_box : word ≡ codes "box" → box_line parts words ≡ Ok more → IsKind parts word words more

pub kind_of : (parts : Parts) (word : List ℕ) (words : List (List ℕ)) (more : Parts)
    → by_words parts (word ∷ words) ≡ Ok more → IsKind parts word words more
kind_of parts word words more e =
    by_key (same_bytes word (codes "format")) (same_bytes word (codes "container")) (same_bytes word (codes "box"))
    ((parts.format == 2) && same_bytes word (codes "kerf")) refl refl refl refl e
  where
    by_key : (f c b k : Bool) → same_bytes word (codes "format") ≡ f → same_bytes word (codes "container") ≡ c
        → same_bytes word (codes "box") ≡ b
        → ((parts.format == 2) && same_bytes word (codes "kerf")) ≡ k
        → cond f (format_line parts words)
        (cond c (container_line parts words)
        (cond b (box_line parts words) (cond k (kerf_line parts words) (Err 1)))) ≡ Ok more
        → IsKind parts word words more
    by_key true c b k p q r t e = by_format (word_is word (codes "format") p) e
    by_key false true b k p q r t e = by_container (word_is word (codes "container") q) e
    by_key false false true k p q r t e = by_box (word_is word (codes "box") r) e
    by_key false false false true p q r t e =
        let h = and_parts (parts.format == 2) (same_bytes word (codes "kerf")) t in
        by_kerf (eqb-true parts.format 2 h.0) (word_is word (codes "kerf") h.1) e
    by_key false false false false p q r t e = absurd (cc (e))

pub format_refused : (parts more : Parts) (words : List (List ℕ)) → (parts.format == 0) ≡ false
    → format_line parts words ≡ Ok more → ⊥
format_refused parts more words is_format e =
    let a = refuse_ok (not (parts.format == 0)) 6
    (refuse (not (length words == 1)) 2
    (ranged_number 1 2 (first_word words) >>= λ n. Ok (record parts { format = n }))) more e in
    let h : not false ≡ false = subst (λ t. not t ≡ false) is_format a.0 in
    absurd (cc (h))

pub container_refused : (parts more : Parts) (words : List (List ℕ)) → is_none parts.container ≡ false
    → container_line parts words ≡ Ok more → ⊥
container_refused parts more words some e =
    let r = refuse (not (nat_le 2 (length words) && nat_le (length words) 4)) 2
    (numbers_of 1 (container_limits (length words)) words >>= λ sides.
    Ok (record parts { container = sides; kerfs = replicate (length sides) 0 })) in
    let a = refuse_ok (parts.format == 0) 5 (refuse (not (is_none parts.container)) 6 r) more e in
    let b = refuse_ok (not (is_none parts.container)) 6 r more a.1 in
    let h : not false ≡ false = subst (λ t. not t ≡ false) some b.0 in
    absurd (cc (h))

-- no `kerf` line stands behind a box or a `kerf` line
pub kerf_refused : (parts more : Parts) (words : List (List ℕ)) → (parts.has_kerf || not (is_none parts.boxes)) ≡ true
    → kerf_line parts words ≡ Ok more → ⊥
kerf_refused parts more words later e =
    let r = refuse (not (length words == length parts.container)) 2
    (numbers_of 0 (kerf_limits parts.container) words
    >>= λ kerfs. Ok (record parts { has_kerf = true; kerfs = kerfs })) in
    let a = refuse_ok (is_none parts.container || not (is_none parts.boxes)) 5 (refuse parts.has_kerf 6 r) more e in
    let b = refuse_ok parts.has_kerf 6 r more a.1 in
    let boxes : not (is_none parts.boxes) ≡ false =
    (or_parts (is_none parts.container) (not (is_none parts.boxes)) a.0).1 in
    let none : (parts.has_kerf || not (is_none parts.boxes)) ≡ false = ap₂ (λ x y. x || y) b.0 boxes in
    true≢false (sym later ∙ none)
