-- Lines of words, as they are written, are read as these words.
use Rattle.std.proofs.Common.{◌≡◌, ℕ, zero, suc, ◌+◌, ◌<◌, ◌≤◌, refl, ap, sym, subst, ◌∙◌, arith, Bool, true, false}
use Rattle.std.proofs.Common.{cond, codes, List, [], ◌∷◌, ◌++◌, map, append-nil, length, get_or}
use Rattle.std.specs.List.{list_any, range_with_len}
use Rattle.std.specs.Fmt.{decimal}
use Rattle.packing_terms.specs.Packing.{PlainBox, PlainInstance, no_box, dims}
use Rattle.packing_terms.specs.Limits.{IsInstance, IsBox}
use Rattle.text_terms.specs.Lines.{content, is_bad, words_of, text_lines}
use Rattle.text_terms.specs.Texts.{is_none}
use Rattle.text_terms.specs.Form.{AreClean, filled_lines, HasForm, IsInstanceText}
use Rattle.text_terms.specs.Spelling.{spaced, lines_text, has_gap, instance_words, instance_text, box_words}
use Rattle.text_terms.proofs.Spelled.{AreWords, AreLines, line_spaced, lines_spaced}
use Rattle.text_terms.proofs.Back.{read_back, AreSmall, word_decimal, words_decimal, words_box}
use Rattle.text_terms.proofs.FormTold.{texts_have_form}
use Rattle.answer_terms.specs.Answers.{Lines}

-- each line has words, and they are plain
abbrev pub AreFilled : Lines → Type 0
AreFilled [] = Unit {0}
AreFilled (words ∷ lines) = AreWords words × (is_none words ≡ false) × AreFilled lines

pub filled_append : (xs ys : Lines) → AreFilled xs → AreFilled ys → AreFilled (xs ++ ys)
filled_append [] ys h k = k
filled_append (words ∷ xs) ys h k = (h.0, h.1, filled_append xs ys h.2 k)

-- a line for each number of a range
pub filled_range : (f : ℕ → List (List ℕ)) (a n : ℕ)
    → ((v : ℕ) → a ≤ v → v < a + n → AreWords (f v) × (is_none (f v) ≡ false))
    → AreFilled (map f (range_with_len a n))
filled_range f a zero h = tt
filled_range f a (suc n) h =
    let first = h a (omega arith) (omega arith) in
    (first.0, first.1, filled_range f (a + 1) n (λ v p q. h v (omega arith) (omega arith)))

filled_lines_are : (lines : Lines) → AreFilled lines → AreLines lines
filled_lines_are [] h = tt
filled_lines_are (words ∷ lines) h = (h.0, filled_lines_are lines h.2)

clean_spaced : (lines : Lines) → AreFilled lines → AreClean (map spaced lines)
clean_spaced [] h = refl
clean_spaced (words ∷ lines) h =
    let good : list_any is_bad (content (spaced words)) ≡ false = ap (λ l. l.bad) (line_spaced words h.0) in
    rw (good, clean_spaced lines h.2) refl

filled_spaced : (lines : Lines) → AreFilled lines → filled_lines (map spaced lines) ≡ lines
filled_spaced [] h = refl
filled_spaced (words ∷ lines) h =
    let same : words_of (content (spaced words)) ≡ words = ap (λ l. l.words) (line_spaced words h.0) in
    rw (same, h.1) (ap (λ t. words ∷ t) (filled_spaced lines h.2))

pub clean_text : (lines : Lines) → AreFilled lines → AreClean (text_lines (lines_text lines))
clean_text lines h = subst AreClean (sym (lines_spaced lines (filled_lines_are lines h))) (clean_spaced lines h)

pub filled_text : (lines : Lines) → AreFilled lines → filled_lines (text_lines (lines_text lines)) ≡ lines
filled_text lines h = ap filled_lines (lines_spaced lines (filled_lines_are lines h)) ∙ filled_spaced lines h

-- ---- words of numbers

numbers_plain : (ns : List ℕ) → AreSmall ns → AreWords (map decimal ns)
numbers_plain ns small = subst AreWords (append-nil (map decimal ns)) (words_decimal ns [] small tt)

-- ---- the lines of an instance

boxes_filled : (d : ℕ) (kerfs : List ℕ) (boxes : List PlainBox)
    → ((v : ℕ) → v < length boxes → IsBox d kerfs (get_or boxes v no_box)) → AreFilled (map box_words boxes)
boxes_filled d kerfs [] good = tt
boxes_filled d kerfs (item ∷ boxes) good = (
  words_box d kerfs item (good zero (omega arith)),
  refl,
  boxes_filled d kerfs boxes (λ v h. good (suc v) (omega (arith, h))),
)

pub filled_instance : (instance : PlainInstance) → IsInstance instance → AreFilled (instance_words instance)
filled_instance instance limits = go (has_gap instance.kerfs)
  where
    container_small : AreSmall instance.container
    container_small i l = let s = limits.container i l in omega (arith, s)

    kerfs_small : AreSmall instance.kerfs
    kerfs_small i l = let c = limits.kerf.count in let k = limits.kerf.each i (omega (arith, l, c)) in omega (arith, k)

    boxes : AreFilled (map box_words instance.boxes)
    boxes = boxes_filled (dims instance) instance.kerfs instance.boxes limits.boxes.each

    go : (g : Bool) → AreFilled ((codes "format" ∷ decimal (cond g 2 1) ∷ [])
        ∷ (codes "container" ∷ map decimal instance.container)
        ∷ (cond g ((codes "kerf" ∷ map decimal instance.kerfs) ∷ []) [] ++ map box_words instance.boxes))
    go true = (
      (omega arith, refl, word_decimal 2 (omega arith) [] tt),
      refl,
      (
        (omega arith, refl, numbers_plain instance.container container_small),
        refl,
        ((omega arith, refl, numbers_plain instance.kerfs kerfs_small), refl, boxes),
      ),
    )
    go false = (
      (omega arith, refl, word_decimal 1 (omega arith) [] tt),
      refl,
      ((omega arith, refl, numbers_plain instance.container container_small), refl, boxes),
    )

pub instance_form : (instance : PlainInstance) → IsInstance instance → HasForm (instance_words instance) instance
unfolding instance_text
instance_form instance limits =
    let text : IsInstanceText (lines_text (instance_words instance)) instance =
    (texts_have_form (lines_text (instance_words instance)) instance).0 (read_back instance limits) in
    subst (λ lines. HasForm lines instance)
    (filled_text (instance_words instance) (filled_instance instance limits)) text.form
