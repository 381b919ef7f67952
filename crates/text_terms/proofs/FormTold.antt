-- A text that is read as an instance has the form of an instance text.
use Rattle.std.proofs.Common.{◌≡◌, ℕ, ◌+◌, ◌-◌, min, ◌≤◌, Bool, true, false, not, ◌||◌, ◌&&◌, List, [], ◌∷◌, ◌++◌, take}
use Rattle.std.proofs.Common.{drop, replicate, length, arith, refl, sym, ap, subst, ◌∙◌, append_assoc, append-nil, Ok}
use Rattle.std.proofs.Common.{◌⊎◌, inl, inr, codes}
use Rattle.std.specs.Prelude.{nat_le, ◌==◌}
use Rattle.std.proofs.lemmas.Bool.{not-false, eqb-true, ne_eqb, or_right, true≢false}
use Rattle.std.proofs.lemmas.List.{length-take-le, length-drop, length-map, length-append, length-replicate}
use Rattle.std.proofs.lemmas.List.{take-append-drop}
use Rattle.packing_terms.specs.Packing.{PlainBox, PlainInstance}
use Rattle.packing_terms.specs.Limits.{max_boxes, max_side, IsBoxCount}
use Rattle.text_terms.specs.Lines.{text_lines, content, words_of}
use Rattle.packing_terms.specs.Results.{◌>>=◌}
use Rattle.text_terms.specs.Texts.{Parts, no_parts, by_words, format_line, container_line, kerf_line, box_line}
use Rattle.text_terms.specs.Texts.{is_box_length, first_word, numbers_of, container_limits, kerf_limits, side_limits}
use Rattle.text_terms.specs.Texts.{ending_of, boxes_of_words, ranged_number, refuse, is_none, read_lines, text_instance}
use Rattle.text_terms.specs.Form.{LinesHaveForm, AreClean, filled_lines, AreNumbers, IsFormatLine, IsContainerLine}
use Rattle.text_terms.specs.Form.{IsKerfLine, IsKerfPart, IsBoxLine, AreBoxLines, HasForm, IsInstanceText}
use Rattle.text_terms.specs.Form.{TextsHaveForm}
use Rattle.text_terms.proofs.Cut.{at_most_four, box_length}
use Rattle.text_terms.proofs.Good.{refuse_ok, bind_ok, good_start, lines_limits, texts_are_instances}
use Rattle.text_terms.proofs.FormRead.{limits_count, with_boxes, formatted, filled_with, some_sides, format_read}
use Rattle.text_terms.proofs.FormRead.{form_read}
use Rattle.text_terms.proofs.FormNumbers.{range_is, numbers_are, numbers_count, HasLength, ending_is, times_some}
use Rattle.text_terms.proofs.FormLines.{at_line_ok, line_adds, clean_from, same_parts, IsKind, kind_of, format_refused}
use Rattle.text_terms.proofs.FormLines.{container_refused, kerf_refused, by_format, by_container, by_kerf, by_box}

module _ (format : ℕ) (has_kerf : Bool) (container kerfs : List ℕ) (is_format : (format == 0) ≡ false)
    (same_count : length kerfs ≡ length container)
    (some : is_none container ≡ false) where
  abbrev behind : List PlainBox → Parts
  behind boxes = with_boxes format has_kerf container kerfs boxes

  -- what a `box` line adds
  record BoxTold (before : List PlainBox) (words : List (List ℕ)) (more : Parts) : Type 0 where
    item : PlainBox
    times : ℕ
    is : IsBoxLine format kerfs (codes "box" ∷ words) item times
    adds : more ≡ behind (before ++ replicate times item)

  box_told : (before : List PlainBox) (words : List (List ℕ)) (more : Parts) → box_line (behind before) words ≡ Ok more
      → BoxTold before words more
  box_told before words more e =
      let room : ℕ = max_boxes - length before in
      let r = boxes_of_words format (max_boxes - length before) kerfs words
      >>= λ boxes. Ok (behind (before ++ boxes)) in
      let a = refuse_ok ((format == 0) || is_none container) 5 (refuse (nat_le max_boxes (length before)) 9
      (refuse (not (is_box_length format (length container) (length words))) 2 r)) more e in
      let b = refuse_ok (nat_le max_boxes (length before)) 9
      (refuse (not (is_box_length format (length container) (length words))) 2 r) more a.1 in
      let c = refuse_ok (not (is_box_length format (length container) (length words))) 2 r more b.1 in
      let s = bind_ok (boxes_of_words format (max_boxes - length before) kerfs words)
      (λ boxes. Ok (behind (before ++ boxes))) more c.1 in
      let n = box_length format (length container) (length words) c.0 in
      let enough : length kerfs ≤ length words = (let l = n.least in omega (arith, l, same_count)) in
      let sides = bind_ok (numbers_of 1 (side_limits kerfs) (take (length kerfs) words))
      (λ sides. ending_of format (max_boxes - length before) (drop (length kerfs) words) >>= λ ending.
      Ok (replicate ending.times (record { sides = sides; value = ending.value }))) s.0 s.1 in
      let ending = bind_ok (ending_of format (max_boxes - length before) (drop (length kerfs) words))
      (λ ending. Ok (replicate ending.times (record { sides = sides.0; value = ending.value }))) s.0 sides.2 in
      let items : replicate ending.0.times (record { sides = sides.0; value = ending.0.value }) ≡ s.0 = cc (ending.2) in
      let same : behind (before ++ s.0) ≡ more = cc (s.2) in
      let front : length (take (length kerfs) words) ≡ length (side_limits kerfs) =
      length-take-le (length kerfs) words enough ∙ sym (limits_count kerfs) in
      record {
        item = record { sides = sides.0; value = ending.0.value };
        times = ending.0.times;
        is = record {
          numbers = take (length kerfs) words;
          ending = drop (length kerfs) words;
          are = ap (λ ws. codes "box" ∷ ws) (sym (take-append-drop (length kerfs) words));
          are_sides = numbers_are 1 (side_limits kerfs) (take (length kerfs) words) sides.0 front sides.1;
          is_ending = ending_is format (max_boxes - length before) (drop (length kerfs) words) ending.0
              (left words n.more) ending.1;
        };
        adds = sym same ∙ ap (λ bs. behind (before ++ bs)) (sym items);
      }
    where
      left : (words : List (List ℕ)) → (length words ≡ length container)
          ⊎ ((length words ≡ length container + 2) ⊎ ((format ≡ 2) × (length words ≡ length container + 4)))
          → HasLength format (drop (length kerfs) words)
      left words (inl h) = let l = length-drop (length kerfs) words in inl (omega (arith, l, h, same_count))
      left words (inr (inl h)) = let l = length-drop (length kerfs) words in inr (inl (omega (arith, l, h, same_count)))
      left words (inr (inr h)) = let l = length-drop (length kerfs) words in let m = h.1 in
          inr (inr (h.0, omega (arith, l, m, same_count)))

  -- a line behind a `kerf` line or a box
  line_told : (before : List PlainBox) (word : List ℕ) (words : List (List ℕ)) (more : Parts)
      → (has_kerf || not (is_none before)) ≡ true
      → by_words (behind before) (word ∷ words) ≡ Ok more → (word ≡ codes "box") × BoxTold before words more
  line_told before word words more later e = go (kind_of (behind before) word words more e)
    where
      go : IsKind (behind before) word words more → (word ≡ codes "box") × BoxTold before words more
      go (by_format k h) = absurd (format_refused (behind before) more words is_format h)
      go (by_container k h) = absurd (container_refused (behind before) more words some h)
      go (by_kerf two k h) = absurd (kerf_refused (behind before) more words later h)
      go (by_box k h) = (k, box_told before words more h)

  some_later : (before : List PlainBox) (item : PlainBox) (times : ℕ) → 1 ≤ times
      → (has_kerf || not (is_none (before ++ replicate times item))) ≡ true
  some_later before item times one = or_right has_kerf _ (ap not (nonempty_boxes (before ++ replicate times item)
      (let a = length-append before (replicate times item) in let b = length-replicate times item in
      omega (arith, a, b, one))))
    where
      nonempty_boxes : (bs : List PlainBox) → 1 ≤ length bs → is_none bs ≡ false
      nonempty_boxes [] h = absurd (omega (arith, h))
      nonempty_boxes (b ∷ bs) h = refl

  -- the lines of boxes behind these boxes
  record BoxesTold (filled : List (List (List ℕ))) (before : List PlainBox) (i : PlainInstance) : Type 0 where
    boxes : List PlainBox
    is : record { container = container; kerfs = kerfs; boxes = before ++ boxes } ≡ i
    are : AreBoxLines format kerfs filled boxes

  boxes_told : (lines : List (List ℕ)) (before : List PlainBox) (n : ℕ) (i : PlainInstance)
      → (has_kerf || not (is_none before)) ≡ true
      → read_lines (behind before) n lines ≡ Ok i → AreClean lines × BoxesTold (filled_lines lines) before i
  boxes_told [] before n i later e =
      let whole : PlainInstance = record { container = container; kerfs = kerfs; boxes = before } in
      let a = refuse_ok ((format == 0) || is_none container) 7 (refuse (is_none before) 10 (Ok whole)) i
      (at_line_ok (n + 1) _ i e) in
      let b = refuse_ok (is_none before) 10 (Ok whole) i a.1 in
      let same : whole ≡ i = cc (b.1) in (
        refl,
        record {
          boxes = [];
          is = ap (λ bs. record { container = container; kerfs = kerfs; boxes = bs })
              (append-nil before) ∙ same;
          are = refl;
        },
      )
  boxes_told (line ∷ lines) before n i later e =
      let l = line_adds line lines (behind before) n i e in
      let t = by_words_of (words_of (content line)) l.0 l.1.adds l.1.rest
      (λ more k h. boxes_told lines more (n + 1) i k h) in
      (clean_from line lines l.1.clean t.0, t.1)
    where
      by_words_of : (words : List (List ℕ)) (more : Parts) → by_words (behind before) words ≡ Ok more
          → read_lines more (n + 1) lines ≡ Ok i
          → ((more : List PlainBox) → (has_kerf || not (is_none more)) ≡ true
          → read_lines (behind more) (n + 1) lines ≡ Ok i → AreClean lines × BoxesTold (filled_lines lines) more i)
          → AreClean lines × BoxesTold (filled_with words lines) before i
      by_words_of [] more adds rest next = next before later (same_parts (behind before) more lines (n + 1) i adds rest)
      by_words_of (word ∷ words) more adds rest next =
          let k = line_told before word words more later adds in
          let b = k.1 in
          let one : 1 ≤ b.times = times_some format b.is.ending b.item.value b.times b.is.is_ending in
          let t = next (before ++ replicate b.times b.item) (some_later before b.item b.times one)
          (subst (λ p. read_lines p (n + 1) lines ≡ Ok i) b.adds rest) in (
            t.0,
            record {
              boxes = replicate b.times b.item ++ t.1.boxes;
              is = ap (λ bs. record { container = container; kerfs = kerfs; boxes = bs })
                  (sym (append_assoc before (replicate b.times b.item) t.1.boxes)) ∙ t.1.is;
              are = (
                b.item,
                b.times,
                t.1.boxes,
                subst (λ w. IsBoxLine format kerfs (w ∷ words) b.item b.times) (sym k.0) b.is,
                refl,
                t.1.are,
              );
            },
          )

-- the lines behind a `container` line
record KerfTold (format : ℕ) (filled : List (List (List ℕ))) (container : List ℕ) (i : PlainInstance) : Type 0 where
  kerf : List (List (List ℕ))
  boxes : List (List (List ℕ))
  are : filled ≡ kerf ++ boxes
  same : i.container ≡ container
  is_kerf : IsKerfPart format i.container kerf i.kerfs
  are_boxes : AreBoxLines format i.kerfs boxes i.boxes

module _ (format : ℕ) (container : List ℕ) (is_format : (format == 0) ≡ false) (some : is_none container ≡ false) where
  abbrev before_kerf : Parts
  before_kerf = with_boxes format false container (replicate (length container) 0) []

  -- what a `kerf` line adds
  kerf_told : (words : List (List ℕ)) (more : Parts) → kerf_line before_kerf words ≡ Ok more
      → (kerfs : List ℕ) × IsKerfLine container (codes "kerf" ∷ words) kerfs × (length kerfs ≡ length container)
      × (more ≡ with_boxes format true container kerfs [])
  kerf_told words more e =
      let r = numbers_of 0 (kerf_limits container) words >>= λ kerfs. Ok (with_boxes format true container kerfs []) in
      let a = refuse_ok (is_none container || not true) 5
      (refuse false 6 (refuse (not (length words == length container)) 2 r)) more e in
      let b = refuse_ok (not (length words == length container)) 2 r more a.1 in
      let s = bind_ok (numbers_of 0 (kerf_limits container) words)
      (λ kerfs. Ok (with_boxes format true container kerfs [])) more b.1 in
      let n : length words ≡ length container =
      eqb-true (length words) (length container) (not-false (length words == length container) b.0) in
      let m : length (kerf_limits container) ≡ length container =
      length-map container (λ side. min 100000 (max_side - side)) in
      let are = numbers_are 0 (kerf_limits container) words s.0 (n ∙ sym m) s.1 in
      let c = numbers_count 0 (kerf_limits container) words s.0 are in
      let same : with_boxes format true container s.0 [] ≡ more = cc (s.2) in
      (s.0, record { numbers = words; are = refl; are_kerfs = are }, c.count ∙ m, sym same)

  kerf_lines_told : (lines : List (List ℕ)) (n : ℕ) (i : PlainInstance) → read_lines before_kerf n lines ≡ Ok i
      → AreClean lines × KerfTold format (filled_lines lines) container i
  kerf_lines_told [] n i e =
      let whole : PlainInstance = record {
        container = container;
        kerfs = replicate (length container) 0;
        boxes = [];
      } in
      let a = refuse_ok ((format == 0) || is_none container) 7 (refuse true 10 (Ok whole)) i
      (at_line_ok (n + 1) _ i e) in
      absurd (cc (a.1))
  kerf_lines_told (line ∷ lines) n i e =
      let l = line_adds line lines before_kerf n i e in
      let t = by_words_of (words_of (content line)) l.0 l.1.adds l.1.rest (kerf_lines_told lines (n + 1) i) in
      (clean_from line lines l.1.clean t.0, t.1)
    where
      by_words_of : (words : List (List ℕ)) (more : Parts) → by_words before_kerf words ≡ Ok more
          → read_lines more (n + 1) lines ≡ Ok i
          → (read_lines before_kerf (n + 1) lines ≡ Ok i
          → AreClean lines × KerfTold format (filled_lines lines) container i)
          → AreClean lines × KerfTold format (filled_with words lines) container i
      by_words_of [] more adds rest next = next (same_parts before_kerf more lines (n + 1) i adds rest)
      by_words_of (word ∷ words) more adds rest next = go (kind_of before_kerf word words more adds)
        where
          go : IsKind before_kerf word words more
              → AreClean lines × KerfTold format ((word ∷ words) ∷ filled_lines lines) container i
          go (by_format k h) = absurd (format_refused before_kerf more words is_format h)
          go (by_container k h) = absurd (container_refused before_kerf more words some h)
          go (by_kerf two k h) =
              let q = kerf_told words more h in
              let t = boxes_told format true container q.0 is_format q.2 some lines [] (n + 1) i refl
              (subst (λ p. read_lines p (n + 1) lines ≡ Ok i) q.3 rest) in
              let told : KerfTold format ((word ∷ words) ∷ filled_lines lines) container
              (record { container = container; kerfs = q.0; boxes = t.1.boxes }) = record {
                kerf = (word ∷ words) ∷ [];
                boxes = filled_lines lines;
                are = refl;
                same = refl;
                is_kerf = (two, subst (λ w. IsKerfLine container (w ∷ words) q.0) (sym k) q.1);
                are_boxes = t.1.are;
              } in
              (t.0, subst (λ j. KerfTold format ((word ∷ words) ∷ filled_lines lines) container j) t.1.is told)
          go (by_box k h) =
              let zeros : length (replicate (length container) 0) ≡ length container =
              length-replicate (length container) 0 in
              let b = box_told format false container (replicate (length container) 0) is_format zeros some []
              words more h in
              let one : 1 ≤ b.times = times_some format b.is.ending b.item.value b.times b.is.is_ending in
              let t = boxes_told format false container (replicate (length container) 0) is_format zeros some lines
              (replicate b.times b.item) (n + 1) i
              (some_later format false container (replicate (length container) 0) is_format zeros some [] b.item b.times
              one) (subst (λ p. read_lines p (n + 1) lines ≡ Ok i) b.adds rest) in
              let told : KerfTold format ((word ∷ words) ∷ filled_lines lines) container
              (record {
                container = container;
                kerfs = replicate (length container) 0;
                boxes = replicate b.times b.item
                    ++ t.1.boxes;
              }) = record {
                kerf = [];
                boxes = (word ∷ words) ∷ filled_lines lines;
                are = refl;
                same = refl;
                is_kerf = refl;
                are_boxes = (
                  b.item,
                  b.times,
                  t.1.boxes,
                  subst (λ w. IsBoxLine format (replicate (length container) 0) (w ∷ words) b.item b.times) (sym k)
                      b.is,
                  refl,
                  t.1.are,
                );
              } in
              (t.0, subst (λ j. KerfTold format ((word ∷ words) ∷ filled_lines lines) container j) t.1.is told)

-- what a `container` line adds
container_told : (format : ℕ) (words : List (List ℕ)) (more : Parts) → container_line (formatted format) words ≡ Ok more
    → (sides : List ℕ) × IsContainerLine (codes "container" ∷ words) sides
    × (more ≡ with_boxes format false sides (replicate (length sides) 0) [])
container_told format words more e =
    let r = numbers_of 1 (container_limits (length words)) words
    >>= λ sides. Ok (with_boxes format false sides (replicate (length sides) 0) []) in
    let a = refuse_ok (format == 0) 5
    (refuse false 6 (refuse (not (nat_le 2 (length words) && nat_le (length words) 4)) 2 r)) more e in
    let c = refuse_ok (not (nat_le 2 (length words) && nat_le (length words) 4)) 2 r more a.1 in
    let s = bind_ok (numbers_of 1 (container_limits (length words)) words)
    (λ sides. Ok (with_boxes format false sides (replicate (length sides) 0) [])) more c.1 in
    let n = at_most_four (length words) c.0 in
    let m : length (container_limits (length words)) ≡ length words = length-replicate (length words) max_side in
    let are = numbers_are 1 (container_limits (length words)) words s.0 (sym m) s.1 in
    let count : length s.0 ≡ length words =
    (numbers_count 1 (container_limits (length words)) words s.0 are).count ∙ m in
    let same : with_boxes format false s.0 (replicate (length s.0) 0) [] ≡ more = cc (s.2) in (
      s.0,
      record {
        numbers = words;
        are = refl;
        are_sides = subst (λ (k : ℕ). AreNumbers 1 (container_limits k) words s.0) (sym count) are;
        count = (omega (arith, count, n.0), omega (arith, count, n.1));
      },
      sym same,
    )

-- the lines behind a `format` line
record ContainerTold (format : ℕ) (filled : List (List (List ℕ))) (i : PlainInstance) : Type 0 where
  container : List (List ℕ)
  kerf : List (List (List ℕ))
  boxes : List (List (List ℕ))
  are : filled ≡ container ∷ (kerf ++ boxes)
  is_container : IsContainerLine container i.container
  is_kerf : IsKerfPart format i.container kerf i.kerfs
  are_boxes : AreBoxLines format i.kerfs boxes i.boxes

container_lines : (format : ℕ) → (format == 0) ≡ false → (lines : List (List ℕ)) (n : ℕ) (i : PlainInstance)
    → read_lines (formatted format) n lines ≡ Ok i
    → AreClean lines × ContainerTold format (filled_lines lines) i
container_lines format is_format [] n i e =
    let whole : PlainInstance = record { container = []; kerfs = []; boxes = [] } in
    let a = refuse_ok ((format == 0) || true) 7 (refuse true 10 (Ok whole)) i (at_line_ok (n + 1) _ i e) in
    absurd (cc (a.1))
container_lines format is_format (line ∷ lines) n i e =
    let l = line_adds line lines (formatted format) n i e in
    let t = by_words_of (words_of (content line)) l.0 l.1.adds l.1.rest
    (container_lines format is_format lines (n + 1) i) in
    (clean_from line lines l.1.clean t.0, t.1)
  where
    by_words_of : (words : List (List ℕ)) (more : Parts) → by_words (formatted format) words ≡ Ok more
        → read_lines more (n + 1) lines ≡ Ok i
        → (read_lines (formatted format) (n + 1) lines ≡ Ok i
        → AreClean lines × ContainerTold format (filled_lines lines) i)
        → AreClean lines × ContainerTold format (filled_with words lines) i
    by_words_of [] more adds rest later = later (same_parts (formatted format) more lines (n + 1) i adds rest)
    by_words_of (word ∷ words) more adds rest later = go (kind_of (formatted format) word words more adds)
      where
        go : IsKind (formatted format) word words more
            → AreClean lines × ContainerTold format ((word ∷ words) ∷ filled_lines lines) i
        go (by_format k h) = absurd (format_refused (formatted format) more words is_format h)
        go (by_kerf two k h) = absurd (cc (h))
        go (by_box k h) =
            let a = refuse_ok ((format == 0) || true) 5 _ more h in
            absurd (true≢false (sym (or_right (format == 0) true refl) ∙ a.0))
        go (by_container k h) =
            let c = container_told format words more h in
            let t = kerf_lines_told format c.0 is_format (some_sides c.0 c.1.count.0) lines (n + 1) i
            (subst (λ p. read_lines p (n + 1) lines ≡ Ok i) c.2 rest) in (
              t.0,
              record {
                container = word ∷ words;
                kerf = t.1.kerf;
                boxes = t.1.boxes;
                are = ap (λ ls. (word ∷ words) ∷ ls) t.1.are;
                is_container = subst (λ w. IsContainerLine (w ∷ words) i.container) (sym k)
                    (subst (λ sides. IsContainerLine (codes "container" ∷ words) sides) (sym t.1.same) c.1);
                is_kerf = t.1.is_kerf;
                are_boxes = t.1.are_boxes;
              },
            )

-- the one word behind `format`
one_word : (words : List (List ℕ)) → (length words == 1) ≡ true → (word : List ℕ) × (words ≡ word ∷ [])
one_word [] e = let h : 0 ≡ 1 = eqb-true 0 1 e in absurd (omega (arith, h))
one_word (word ∷ []) e = (word, refl)
one_word (word ∷ other ∷ words) e = let h : length (word ∷ other ∷ words) ≡ 1 =
    eqb-true (length (word ∷ other ∷ words)) 1 e in absurd (omega (arith, h))

format_told : (words : List (List ℕ)) (more : Parts) → format_line no_parts words ≡ Ok more
    → (n : ℕ) × IsFormatLine (codes "format" ∷ words) n × (more ≡ formatted n)
format_told words more e =
    let b = refuse_ok (not (length words == 1)) 2
    (ranged_number 1 2 (first_word words) >>= λ n. Ok (formatted n)) more e in
    let one = one_word words (not-false (length words == 1) b.0) in
    let n = bind_ok (ranged_number 1 2 (first_word words)) (λ n. Ok (formatted n)) more b.1 in
    let same : formatted n.0 ≡ more = cc (n.2) in
    let first : ranged_number 1 2 one.0 ≡ Ok n.0 = ap (λ ws. ranged_number 1 2 (first_word ws)) (sym one.1) ∙ n.1 in (
      n.0,
      record {
        number = one.0;
        are = ap (λ ws. codes "format" ∷ ws) one.1;
        is_format = range_is 1 2 n.0 one.0 first;
      },
      sym same,
    )

format_lines : (lines : List (List ℕ)) (n : ℕ) (i : PlainInstance) → IsBoxCount (length i.boxes)
    → read_lines no_parts n lines ≡ Ok i
    → AreClean lines × HasForm (filled_lines lines) i
format_lines [] n i count e = absurd (cc (e))
format_lines (line ∷ lines) n i count e =
    let l = line_adds line lines no_parts n i e in
    let t = by_words_of (words_of (content line)) l.0 l.1.adds l.1.rest (format_lines lines (n + 1) i count) in
    (clean_from line lines l.1.clean t.0, t.1)
  where
    by_words_of : (words : List (List ℕ)) (more : Parts) → by_words no_parts words ≡ Ok more
        → read_lines more (n + 1) lines ≡ Ok i
        → (read_lines no_parts (n + 1) lines ≡ Ok i → AreClean lines × HasForm (filled_lines lines) i)
        → AreClean lines × HasForm (filled_with words lines) i
    by_words_of [] more adds rest later = later (same_parts no_parts more lines (n + 1) i adds rest)
    by_words_of (word ∷ words) more adds rest later = go (kind_of no_parts word words more adds)
      where
        go : IsKind no_parts word words more → AreClean lines × HasForm ((word ∷ words) ∷ filled_lines lines) i
        go (by_container k h) = absurd (cc (h))
        go (by_kerf two k h) = absurd (cc (h))
        go (by_box k h) = absurd (cc (h))
        go (by_format k h) =
            let f = format_told words more h in
            let some : (f.0 == 0) ≡ false = ne_eqb f.0 0 (λ z. (let l = f.1.is_format.least in omega (arith, l, z))) in
            let t = container_lines f.0 some lines (n + 1) i
            (subst (λ p. read_lines p (n + 1) lines ≡ Ok i) f.2 rest) in (
              t.0,
              record {
                format = word ∷ words;
                number = f.0;
                container = t.1.container;
                kerf = t.1.kerf;
                boxes = t.1.boxes;
                are = ap (λ ls. (word ∷ words) ∷ ls) t.1.are;
                is_format = subst (λ w. IsFormatLine (w ∷ words) f.0) (sym k) f.1;
                is_container = t.1.is_container;
                is_kerf = t.1.is_kerf;
                are_boxes = t.1.are_boxes;
                count = count;
              },
            )

form_told : (text : List ℕ) (instance : PlainInstance) → text_instance text ≡ Ok instance → IsInstanceText text instance
unfolding text_instance
form_told text instance e =
    let limits = texts_are_instances text instance e in
    let t = format_lines (text_lines text) 0 instance limits.boxes.count e in
    record { clean = t.0; form = t.1 }

pub lines_have_form : LinesHaveForm
lines_have_form lines n instance = (
  λ e. format_lines lines n instance (lines_limits lines no_parts instance n good_start e).boxes.count e,
  λ h. format_read instance lines n h.1.number h.1.format h.1.container h.1.kerf h.1.boxes h.0 h.1.are h.1.is_format
      h.1.is_container
      (h.1.is_kerf, h.1.are_boxes, h.1.count),
)

pub texts_have_form : TextsHaveForm
texts_have_form text instance = (form_told text instance, form_read text instance)
