-- A text that has the form of an instance text is read as the instance.
use Rattle.std.proofs.Common.{◌≡◌, ℕ, ◌+◌, ◌-◌, min, ◌≤◌, Bool, true, false, not, List, [], ◌∷◌, ◌++◌, take, drop, map}
use Rattle.std.proofs.Common.{replicate, length, arith, refl, sym, ap, subst, ◌∙◌, append_assoc, append-nil, Ok, ◌⊎◌}
use Rattle.std.proofs.Common.{inl, inr}
use Rattle.std.specs.Prelude.{nat_le, ◌==◌}
use Rattle.std.specs.List.{list_any, filter}
use Rattle.std.proofs.lemmas.Bool.{le-leb, lt-leb, eq-eqb, ne_eqb, or_parts, or_left, or_right, and_from}
use Rattle.std.proofs.lemmas.List.{take_at, drop_at, length-append, length-map, length-replicate}
use Rattle.packing_terms.specs.Packing.{PlainBox, PlainInstance}
use Rattle.packing_terms.specs.Limits.{max_boxes, max_side, IsBoxCount}
use Rattle.text_terms.specs.Lines.{text_lines, content, is_bad, words_of, same_bytes}
use Rattle.packing_terms.specs.Results.{◌>>=◌}
use Rattle.text_terms.specs.Texts.{Parts, no_parts, by_words, container_line, kerf_line, box_line, is_box_length}
use Rattle.text_terms.specs.Texts.{numbers_of, container_limits, kerf_limits, side_limits, ending_of, refuse, is_none}
use Rattle.text_terms.specs.Texts.{at_line, read_lines, text_instance}
use Rattle.text_terms.specs.Form.{AreClean, filled_lines, IsFormatLine, IsContainerLine, IsKerfLine, IsKerfPart}
use Rattle.text_terms.specs.Form.{IsBoxLine, AreBoxLines, IsInstanceText}
use Rattle.text_terms.proofs.FormNumbers.{is_range, are_numbers, numbers_count, is_ending, ending_length, times_some}

-- ---- what lines of the form add

-- the parts once a box may stand
abbrev pub with_boxes : ℕ → Bool → List ℕ → List ℕ → List PlainBox → Parts
with_boxes format has_kerf container kerfs boxes =
    record { format = format; container = container; has_kerf = has_kerf; kerfs = kerfs; boxes = boxes }

abbrev pub formatted : ℕ → Parts
formatted n = record no_parts { format = n }

pub limits_count : (kerfs : List ℕ) → length (side_limits kerfs) ≡ length kerfs
limits_count kerfs = length-map kerfs (λ k. max_side - k)

module _ (format : ℕ) (has_kerf : Bool) (container kerfs : List ℕ) (is_format : (format == 0) ≡ false)
    (same_count : length kerfs ≡ length container)
    (some : is_none container ≡ false) where
  box_line_is : (boxes : List PlainBox) (words : List (List ℕ)) (item : PlainBox) (times : ℕ)
      → length boxes + times ≤ max_boxes → 1 ≤ times
      → IsBoxLine format kerfs words item times
      → by_words (with_boxes format has_kerf container kerfs boxes) words
      ≡ Ok (with_boxes format has_kerf container kerfs (boxes ++ replicate times item))
  unfolding same_bytes
  box_line_is boxes words item times room one is =
      let c = numbers_count 1 (side_limits kerfs) is.numbers item.sides is.are_sides in
      let d : length is.numbers ≡ length kerfs = c.words_count ∙ limits_count kerfs in
      let n : length (is.numbers ++ is.ending) ≡ length container + length is.ending =
      omega (arith, length-append is.numbers is.ending, d, same_count) in
      let counts : is_box_length format (length container) (length (is.numbers ++ is.ending)) ≡ true =
      counted (length (is.numbers ++ is.ending)) (length is.ending) n
      (ending_length format is.ending item.value times is.is_ending) in
      let few : nat_le max_boxes (length boxes) ≡ false =
      lt-leb max_boxes (length boxes) (omega (arith, room, one)) in
      let s : numbers_of 1 (side_limits kerfs) (take (length kerfs) (is.numbers ++ is.ending)) ≡ Ok item.sides =
      ap (numbers_of 1 (side_limits kerfs)) (take_at is.numbers is.ending (length kerfs) d)
      ∙ are_numbers 1 (side_limits kerfs) is.numbers item.sides is.are_sides in
      let e : ending_of format (max_boxes - length boxes) (drop (length kerfs) (is.numbers ++ is.ending))
      ≡ Ok (record { value = item.value; times = times }) =
      ap (ending_of format (max_boxes - length boxes)) (drop_at is.numbers is.ending (length kerfs) d)
      ∙ is_ending format (max_boxes - length boxes) is.ending item.value times (omega (arith, room)) is.is_ending in
      let added : box_line (with_boxes format has_kerf container kerfs boxes) (is.numbers ++ is.ending)
      ≡ Ok (with_boxes format has_kerf container kerfs (boxes ++ replicate times item)) =
      rw (is_format, some, few, counts, s, e) refl in
      ap (by_words (with_boxes format has_kerf container kerfs boxes)) is.are ∙ added
    where
      counted : (n m : ℕ) → n ≡ length container + m → (m ≡ 0) ⊎ ((m ≡ 2) ⊎ ((format ≡ 2) × (m ≡ 4)))
          → is_box_length format (length container) n ≡ true
      counted n m e (inl h) = or_left _ _ (eq-eqb n (length container) (omega (arith, e, h)))
      counted n m e (inr (inl h)) = or_right (n == length container) _
          (or_left _ _ (eq-eqb n (length container + 2) (omega (arith, e, h))))
      counted n m e (inr (inr h)) = or_right (n == length container) _ (or_right (n == length container + 2) _
          (and_from (format == 2) (n == length container + 4) (eq-eqb format 2 h.0)
          (eq-eqb n (length container + 4) (omega (arith, e, h.1)))))

kerf_line_is : (container kerfs : List ℕ) (words : List (List ℕ)) → is_none container ≡ false
    → IsKerfLine container words kerfs
    → by_words (with_boxes 2 false container (replicate (length container) 0) []) words
    ≡ Ok (with_boxes 2 true container kerfs [])
unfolding same_bytes
kerf_line_is container kerfs words some is =
    let c = numbers_count 0 (kerf_limits container) is.numbers kerfs is.are_kerfs in
    let n : length is.numbers ≡ length container =
    c.words_count ∙ length-map container (λ side. min 100000 (max_side - side)) in
    let added : kerf_line (with_boxes 2 false container (replicate (length container) 0) []) is.numbers
    ≡ Ok (with_boxes 2 true container kerfs []) =
    rw (
      some,
      eq-eqb (length is.numbers) (length container) n,
      are_numbers 0 (kerf_limits container) is.numbers kerfs is.are_kerfs,
    ) refl in
    ap (by_words (with_boxes 2 false container (replicate (length container) 0) [])) is.are ∙ added

container_line_is : (format : ℕ) (words : List (List ℕ)) (sides : List ℕ) → (format == 0) ≡ false
    → IsContainerLine words sides
    → by_words (formatted format) words ≡ Ok (with_boxes format false sides (replicate (length sides) 0) [])
unfolding same_bytes
container_line_is format words sides is_format is =
    let c = numbers_count 1 (container_limits (length sides)) is.numbers sides is.are_sides in
    let n : length is.numbers ≡ length sides = c.words_count ∙ length-replicate (length sides) max_side in
    let added : container_line (formatted format) is.numbers
    ≡ Ok (with_boxes format false sides (replicate (length sides) 0) []) =
    rw (
      is_format,
      n,
      le-leb 2 (length sides) is.count.0,
      le-leb (length sides) 4 is.count.1,
      are_numbers 1 (container_limits (length sides)) is.numbers sides is.are_sides,
    ) refl in
    ap (by_words (formatted format)) is.are ∙ added

format_line_is : (words : List (List ℕ)) (n : ℕ) → IsFormatLine words n → by_words no_parts words ≡ Ok (formatted n)
unfolding same_bytes
format_line_is words n is =
    ap (by_words no_parts) is.are ∙ ap (λ r. r >>= λ n. Ok (formatted n)) (is_range 1 2 n is.number is.is_format)

-- ---- a text of the form is read

pub clean_parts : (line : List ℕ) (lines : List (List ℕ)) → AreClean (line ∷ lines)
    → (list_any is_bad (content line) ≡ false) × AreClean lines
clean_parts line lines e = or_parts (list_any is_bad (content line))
    (list_any (λ line. list_any is_bad (content line)) lines) e

-- a line that adds to the parts
line_read : (line : List ℕ) (lines : List (List ℕ)) (parts more : Parts) (n : ℕ) (words : List (List ℕ))
    → list_any is_bad (content line) ≡ false
    → words_of (content line) ≡ words → by_words parts words ≡ Ok more
    → read_lines parts n (line ∷ lines) ≡ read_lines more (n + 1) lines
line_read line lines parts more n words clean e adds =
    ap (λ r. at_line (n + 1) r >>= λ more. read_lines more (n + 1) lines)
    (ap (λ b. refuse b 8 (by_words parts (words_of (content line)))) clean ∙ ap (by_words parts) e ∙ adds)

some_boxes : (boxes : List PlainBox) → 1 ≤ length boxes → is_none boxes ≡ false
some_boxes [] h = absurd (omega arith)
some_boxes (item ∷ boxes) h = refl

pub some_sides : (sides : List ℕ) → 2 ≤ length sides → is_none sides ≡ false
some_sides [] h = absurd (omega arith)
some_sides (x ∷ sides) h = refl

-- the words of a line before the words of others
abbrev pub filled_with : List (List ℕ) → List (List ℕ) → List (List (List ℕ))
filled_with words lines = filter (λ words. not (is_none words)) (words ∷ map (λ line. words_of (content line)) lines)

module _ (format : ℕ) (has_kerf : Bool) (container kerfs : List ℕ) (is_format : (format == 0) ≡ false)
    (same_count : length kerfs ≡ length container)
    (some : is_none container ≡ false) where
  abbrev behind : List PlainBox → Parts
  behind boxes = with_boxes format has_kerf container kerfs boxes

  boxes_read : (lines : List (List ℕ)) (before boxes : List PlainBox) (n : ℕ) → AreClean lines
      → AreBoxLines format kerfs (filled_lines lines) boxes → length before + length boxes ≤ max_boxes
      → 1 ≤ length before + length boxes
      → read_lines (behind before) n lines
      ≡ Ok (record { container = container; kerfs = kerfs; boxes = before ++ boxes })
  boxes_read [] before boxes n clean are few enough =
      let e : before ++ boxes ≡ before = ap (λ bs. before ++ bs) are ∙ append-nil before in
      let l = ap length are in
      rw (is_format, some, some_boxes before (omega (arith, enough, l)), e) refl
  boxes_read (line ∷ lines) before boxes n clean are few enough =
      by_words_of (words_of (content line)) refl (boxes_read lines) are
    where
      by_words_of : (words : List (List ℕ)) → words_of (content line) ≡ words
          → ((before boxes : List PlainBox) (n : ℕ) → AreClean lines
          → AreBoxLines format kerfs (filled_lines lines) boxes → length before + length boxes ≤ max_boxes
          → 1 ≤ length before + length boxes
          → read_lines (behind before) n lines
          ≡ Ok (record { container = container; kerfs = kerfs; boxes = before ++ boxes }))
          → AreBoxLines format kerfs (filled_with words lines) boxes
          → read_lines (behind before) n (line ∷ lines)
          ≡ Ok (record { container = container; kerfs = kerfs; boxes = before ++ boxes })
      by_words_of [] e later are =
          let c = clean_parts line lines clean in
          line_read line lines (behind before) (behind before) n [] c.0 e refl
          ∙ later before boxes (n + 1) c.1 are few enough
      by_words_of (word ∷ words) e later (item, times, more, is, split, are) =
          let c = clean_parts line lines clean in
          let count : length boxes ≡ times + length more =
          (let a = ap length split in let b = length-append (replicate times item) more in
          let d = length-replicate times item in omega (arith, a, b, d)) in
          let one : 1 ≤ times = times_some format is.ending item.value times is.is_ending in
          let now : length (before ++ replicate times item) ≡ length before + times =
          (let b = length-append before (replicate times item) in
          let d = length-replicate times item in omega (arith, b, d)) in
          line_read line lines (behind before) (behind (before ++ replicate times item)) n (word ∷ words) c.0 e
          (box_line_is format has_kerf container kerfs is_format same_count some before (word ∷ words) item times
          (omega (arith, few, count)) one is)
          ∙ later (before ++ replicate times item) more (n + 1) c.1 are (omega (arith, few, count, now))
          (omega (arith, one, now))
          ∙ ap (λ bs. Ok (record { container = container; kerfs = kerfs; boxes = bs }))
          (append_assoc before (replicate times item) more ∙ ap (λ bs. before ++ bs) (sym split))

-- the first of some words, and the others
pub heads : {A : Type 0} {x y : A} {xs ys : List A} → x ∷ xs ≡ y ∷ ys → (x ≡ y) × (xs ≡ ys)
heads e = (cc, cc)

-- what stands behind the `container` line
abbrev IsBehind : ℕ → PlainInstance → List (List (List ℕ)) → List (List (List ℕ)) → Type 0
IsBehind format instance kerf boxes =
    IsKerfPart format instance.container kerf instance.kerfs × AreBoxLines format instance.kerfs boxes instance.boxes
    × IsBoxCount (length instance.boxes)

kerf_read : (format : ℕ) (instance : PlainInstance) → (format == 0) ≡ false → is_none instance.container ≡ false
    → (lines : List (List ℕ)) (n : ℕ) (kerf boxes : List (List (List ℕ)))
    → AreClean lines → filled_lines lines ≡ kerf ++ boxes → IsBehind format instance kerf boxes
    → read_lines (with_boxes format false instance.container (replicate (length instance.container) 0) []) n lines
    ≡ Ok instance
kerf_read format instance is_format some lines n [] boxes clean are is =
    let e : replicate (length instance.container) 0 ≡ instance.kerfs = sym is.0 in
    let count : length instance.kerfs ≡ length instance.container =
    ap length is.0 ∙ length-replicate (length instance.container) 0 in
    ap (λ ks. read_lines (with_boxes format false instance.container ks []) n lines) e
    ∙ boxes_read format false instance.container instance.kerfs is_format count some lines [] instance.boxes n clean
    (subst (λ ls. AreBoxLines format instance.kerfs ls instance.boxes) (sym are) is.1)
    (let m = is.2 in omega (arith, m)) (let m = is.2 in omega (arith, m))
kerf_read format instance is_format some [] n (words ∷ kerf) boxes clean are is = absurd (cc (are))
kerf_read format instance is_format some lines n (words ∷ other ∷ kerf) boxes clean are is = absurd is.0
kerf_read format instance is_format some (line ∷ lines) n (first ∷ []) boxes clean are is =
    by_words_of (words_of (content line)) refl
    (kerf_read format instance is_format some lines (n + 1) (first ∷ []) boxes) are
  where
    by_words_of : (words : List (List ℕ)) → words_of (content line) ≡ words
        → (AreClean lines → filled_lines lines ≡ first ∷ boxes → IsBehind format instance (first ∷ []) boxes
        → read_lines (with_boxes format false instance.container (replicate (length instance.container) 0) []) (n + 1)
        lines ≡ Ok instance)
        → filled_with words lines ≡ first ∷ boxes
        → read_lines (with_boxes format false instance.container (replicate (length instance.container) 0) []) n
        (line ∷ lines) ≡ Ok instance
    by_words_of [] e later are =
        let c = clean_parts line lines clean in
        line_read line lines _ _ n [] c.0 e refl ∙ later c.1 are is
    by_words_of (word ∷ words) e later are =
        let c = clean_parts line lines clean in
        let h = heads are in
        let k = numbers_count 0 (kerf_limits instance.container) is.0.1.numbers instance.kerfs is.0.1.are_kerfs in
        let count : length instance.kerfs ≡ length instance.container =
        k.count ∙ length-map instance.container (λ side. min 100000 (max_side - side)) in
        let adds : by_words (with_boxes format false instance.container (replicate (length instance.container) 0) [])
        (word ∷ words) ≡ Ok (with_boxes format true instance.container instance.kerfs []) =
        subst (λ (f : ℕ). by_words (with_boxes f false instance.container (replicate (length instance.container) 0) [])
        (word ∷ words) ≡ Ok (with_boxes f true instance.container instance.kerfs [])) (sym is.0.0)
        (ap (by_words (with_boxes 2 false instance.container (replicate (length instance.container) 0) [])) h.0
        ∙ kerf_line_is instance.container instance.kerfs first some is.0.1) in
        line_read line lines (with_boxes format false instance.container (replicate (length instance.container) 0) [])
        (with_boxes format true instance.container instance.kerfs []) n (word ∷ words) c.0 e adds
        ∙ boxes_read format true instance.container instance.kerfs is_format count some lines []
        instance.boxes (n + 1) c.1
        (subst (λ ls. AreBoxLines format instance.kerfs ls instance.boxes) (sym h.1) is.1)
        (let m = is.2 in omega (arith, m)) (let m = is.2 in omega (arith, m))

container_read : (format : ℕ) (instance : PlainInstance) → (format == 0) ≡ false
    → (lines : List (List ℕ)) (n : ℕ) (first : List (List ℕ)) (kerf boxes : List (List (List ℕ)))
    → AreClean lines → filled_lines lines ≡ first ∷ (kerf ++ boxes) → IsContainerLine first instance.container
    → IsBehind format instance kerf boxes
    → read_lines (formatted format) n lines ≡ Ok instance
container_read format instance is_format [] n first kerf boxes clean are is behind = absurd (cc (are))
container_read format instance is_format (line ∷ lines) n first kerf boxes clean are is behind =
    by_words_of (words_of (content line)) refl
    (container_read format instance is_format lines (n + 1) first kerf boxes) are
  where
    by_words_of : (words : List (List ℕ)) → words_of (content line) ≡ words
        → (AreClean lines → filled_lines lines ≡ first ∷ (kerf ++ boxes) → IsContainerLine first instance.container
        → IsBehind format instance kerf boxes
        → read_lines (formatted format) (n + 1) lines ≡ Ok instance)
        → filled_with words lines ≡ first ∷ (kerf ++ boxes)
        → read_lines (formatted format) n (line ∷ lines) ≡ Ok instance
    by_words_of [] e later are =
        let c = clean_parts line lines clean in
        line_read line lines (formatted format) (formatted format) n [] c.0 e refl ∙ later c.1 are is behind
    by_words_of (word ∷ words) e later are =
        let c = clean_parts line lines clean in
        let h = heads are in
        line_read line lines (formatted format)
        (with_boxes format false instance.container (replicate (length instance.container) 0) []) n
        (word ∷ words) c.0 e
        (ap (by_words (formatted format)) h.0 ∙ container_line_is format first instance.container is_format is)
        ∙ kerf_read format instance is_format (some_sides instance.container is.count.0) lines (n + 1) kerf boxes
        c.1 h.1 behind

pub format_read : (instance : PlainInstance) (lines : List (List ℕ)) (n format : ℕ) (first second : List (List ℕ))
    (kerf boxes : List (List (List ℕ)))
    → AreClean lines → filled_lines lines ≡ first ∷ second ∷ (kerf ++ boxes) → IsFormatLine first format
    → IsContainerLine second instance.container
    → IsBehind format instance kerf boxes → read_lines no_parts n lines ≡ Ok instance
format_read instance [] n format first second kerf boxes clean are form is behind = absurd (cc (are))
format_read instance (line ∷ lines) n format first second kerf boxes clean are form is behind =
    by_words_of (words_of (content line)) refl (format_read instance lines (n + 1) format first second kerf boxes) are
  where
    by_words_of : (words : List (List ℕ)) → words_of (content line) ≡ words
        → (AreClean lines → filled_lines lines ≡ first ∷ second ∷ (kerf ++ boxes) → IsFormatLine first format
        → IsContainerLine second instance.container
        → IsBehind format instance kerf boxes → read_lines no_parts (n + 1) lines ≡ Ok instance)
        → filled_with words lines ≡ first ∷ second ∷ (kerf ++ boxes)
        → read_lines no_parts n (line ∷ lines) ≡ Ok instance
    by_words_of [] e later are =
        let c = clean_parts line lines clean in
        line_read line lines no_parts no_parts n [] c.0 e refl ∙ later c.1 are form is behind
    by_words_of (word ∷ words) e later are =
        let c = clean_parts line lines clean in
        let h = heads are in
        let some : (format == 0) ≡ false =
        ne_eqb format 0 (λ z. (let l = form.is_format.least in omega (arith, l, z))) in
        line_read line lines no_parts (formatted format) n (word ∷ words) c.0 e
        (ap (by_words no_parts) h.0 ∙ format_line_is first format form)
        ∙ container_read format instance some lines (n + 1) second kerf boxes c.1 h.1 is behind

pub form_read : (text : List ℕ) (instance : PlainInstance) → IsInstanceText text instance
    → text_instance text ≡ Ok instance
unfolding text_instance
form_read text instance is =
    format_read instance (text_lines text) 0 is.form.number is.form.format is.form.container is.form.kerf is.form.boxes
    is.clean is.form.are is.form.is_format is.form.is_container
    (is.form.is_kerf, is.form.are_boxes, is.form.count)
