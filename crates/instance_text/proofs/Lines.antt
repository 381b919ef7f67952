-- What lines add.
use Rattle.std.proofs.Common.{◌≡◌, ℕ, ◌+◌, ◌-◌, min, ◌<◌, ◌≤◌, Bool, true, false, List, [], ◌∷◌, ◌++◌, take, drop, map}
use Rattle.std.proofs.Common.{replicate, length, arith, refl, sym, ap, subst, ◌∙◌, Option, Some, None, Result, Ok, Err}
use Rattle.std.proofs.Common.{inl, inr}
use Rattle.std.specs.Prelude.{Vec, nat_le, ◌==◌}
use Rattle.std.specs.declared.alloc.Global.{Global}
use Rattle.std.proofs.lemmas.Bool.{eq-eqb, or_left, or_right, and_from, lt-leb, le-leb}
use Rattle.std.proofs.lemmas.List.{drop-drop, length-drop, length-map, length-replicate}
use Rattle.smallvec.specs.SmallVec.{SmallVec}
use Rattle.packing_terms.specs.Packing.{PlainBox}
use Rattle.packing_terms.specs.Limits.{max_boxes, max_side}
use Rattle.box_instances.specs.declared.instance.BoxItem.{BoxItem}
use Rattle.box_instances.specs.Plain.{plain_box}
use Rattle.text_terms.specs.Lines.{Line}
use Rattle.text_terms.specs.Texts.{Parts, Ending, container_line, box_line, is_box_length, numbers_of, container_limits}
use Rattle.text_terms.specs.Texts.{side_limits, value_of, times_of, has_times_alone, ending_of, is_none, add_line}
use Rattle.text_terms.specs.Texts.{IsWithinLimits}
use Rattle.text_terms.proofs.Good.{line_good, numbers_ok}
use Rattle.text_terms.proofs.Listed.{numbers_cut}
use Rattle.instance_text.specs.declared.reader.ReadTextError.{ReadTextError}
use Rattle.instance_text.specs.Reading.{reader_view, IsReaderWithinLimits, parts_of, HasEnding}

some_is : (xs : List ℕ) → (xs ≡ [] → ⊥) → is_none xs ≡ false
some_is [] h = absurd (h refl)
some_is (x ∷ xs) h = refl

length_fits : (format d n : ℕ) → HasEnding format (d + 1) (n + 1) → is_box_length format d n ≡ true
length_fits format d n (inl h) = or_left _ _ (eq-eqb n d (omega (arith, h)))
length_fits format d n (inr (inl h)) = or_right (n == d) _ (or_left _ _ (eq-eqb n (d + 2) (omega (arith, h))))
length_fits format d n (inr (inr h)) =
    let e = h.1 in
    or_right (n == d) _ (or_right (n == d + 2) _
    (and_from (format == 2) (n == d + 4) (eq-eqb format 2 h.0) (eq-eqb n (d + 4) (omega (arith, e)))))

-- the count of a cut line is the number of words, where that is at most 12
pub same_ending : (format d count n : ℕ) → HasEnding format (d + 1) count → d ≤ 4 → 1 ≤ n → n ≡ min 12 count
    → HasEnding format (d + 1) n
same_ending format d count n (inl h) few some e = inl (omega (arith, h, few, e))
same_ending format d count n (inr (inl h)) few some e = inr (inl (omega (arith, h, few, e)))
same_ending format d count n (inr (inr h)) few some e = let k = h.1 in inr (inr (h.0, omega (arith, k, few, e)))

-- a box line behind which there is room: its sides, and then its ending
module _ (parts : Parts) (words : List (List ℕ)) (format : (parts.format == 0) ≡ false)
    (some : 0 < length parts.container) (room : length parts.boxes < max_boxes)
    (count : length parts.kerfs ≡ length parts.container) (one : 0 < length words)
    (which : HasEnding parts.format (length parts.container + 1) (length words)) where
  box_counts : is_box_length parts.format (length parts.container) (length (drop 1 words)) ≡ true
  box_counts = length_fits parts.format (length parts.container) (length (drop 1 words))
      (let e : length words ≡ length (drop 1 words) + 1 = (let l = length-drop 1 words in omega (arith, l, one)) in
      subst (λ (n : ℕ). HasEnding parts.format (length parts.container + 1) n) e which)

  box_some : is_none parts.container ≡ false
  box_some = some_is parts.container (λ e. (let l = ap length e in omega (arith, l, some)))

  box_few : nat_le max_boxes (length parts.boxes) ≡ false
  box_few = lt-leb max_boxes (length parts.boxes) room

  box_sides : (read : Result (List ℕ) ℕ) → numbers_of 1 (side_limits parts.kerfs) (drop 1 words) ≡ read
      → numbers_of 1 (side_limits parts.kerfs) (take (length parts.kerfs) (drop 1 words)) ≡ read
  box_sides read h =
      let l : length parts.kerfs ≡ length (side_limits parts.kerfs) =
      sym (length-map parts.kerfs (λ k. max_side - k)) in
      ap (λ n. numbers_of 1 (side_limits parts.kerfs) (take n (drop 1 words))) l
      ∙ numbers_cut 1 (side_limits parts.kerfs) (drop 1 words) ∙ h

  box_ending : (left from : ℕ) → left ≡ max_boxes - length parts.boxes → from ≡ length parts.container + 1
      → (read : Result Ending ℕ)
      → ending_of parts.format left (drop from words) ≡ read
      → ending_of parts.format (max_boxes - length parts.boxes) (drop (length parts.kerfs) (drop 1 words)) ≡ read
  box_ending left from is_left is_from read h =
      let e : 1 + length parts.kerfs ≡ from = omega (arith, count, is_from) in
      ap (ending_of parts.format (max_boxes - length parts.boxes))
      (drop-drop (length parts.kerfs) 1 words ∙ ap (λ n. drop n words) e)
      ∙ ap (λ n. ending_of parts.format n (drop from words)) (sym is_left) ∙ h

  pub sides_fault : (code : ℕ) → numbers_of 1 (side_limits parts.kerfs) (drop 1 words) ≡ Err code
      → box_line parts (drop 1 words) ≡ Err code
  sides_fault code h = rw (format, box_some, box_few, box_counts, box_sides (Err code) h) refl

  module _ (left from : ℕ) (is_left : left ≡ max_boxes - length parts.boxes)
      (is_from : from ≡ length parts.container + 1) where
    pub ending_fault : (sides : List ℕ) (code : ℕ) → numbers_of 1 (side_limits parts.kerfs) (drop 1 words) ≡ Ok sides
        → ending_of parts.format left (drop from words) ≡ Err code → box_line parts (drop 1 words) ≡ Err code
    ending_fault sides code h e = rw (
      format,
      box_some,
      box_few,
      box_counts,
      box_sides (Ok sides) h,
      box_ending left from is_left is_from (Err code) e,
    ) refl

    pub boxes_read : (sides : List ℕ) (ending : Ending)
        → numbers_of 1 (side_limits parts.kerfs) (drop 1 words) ≡ Ok sides
        → ending_of parts.format left (drop from words) ≡ Ok ending
        → box_line parts (drop 1 words)
        ≡ Ok (record parts {
          boxes = parts.boxes
              ++ replicate ending.times (record { sides = sides; value = ending.value });
        })
    boxes_read sides ending h e = rw (
      format,
      box_some,
      box_few,
      box_counts,
      box_sides (Ok sides) h,
      box_ending left from is_left is_from (Ok ending) e,
    ) refl

-- a container line: its sides, with kerfs of 0
pub none_is : (xs : List ℕ) → length xs ≡ 0 → is_none xs ≡ true
none_is [] e = refl
none_is (x ∷ xs) e = absurd (omega (arith, e))

pub container_read : (parts : Parts) (words : List (List ℕ)) (n : ℕ) (sides kerf : List ℕ) → (parts.format == 0) ≡ false
    → length parts.container ≡ 0
    → n ≡ length (drop 1 words) → 2 ≤ n → n ≤ 4 → numbers_of 1 (replicate n max_side) (drop 1 words) ≡ Ok sides
    → kerf ≡ replicate n 0
    → container_line parts (drop 1 words) ≡ Ok (record parts { container = sides; kerfs = kerf })
container_read parts words n sides kerf format none is low high read zeros =
    let two : nat_le 2 (length (drop 1 words)) ≡ true = le-leb 2 (length (drop 1 words)) (omega (arith, is, low)) in
    let four : nat_le (length (drop 1 words)) 4 ≡ true = le-leb (length (drop 1 words)) 4 (omega (arith, is, high)) in
    let r : numbers_of 1 (container_limits (length (drop 1 words))) (drop 1 words) ≡ Ok sides =
    ap (λ k. numbers_of 1 (replicate k max_side) (drop 1 words)) (sym is) ∙ read in
    let m : length (replicate n max_side) ≡ n = length-replicate n max_side in
    let count : length sides ≡ n =
    (numbers_ok 1 (replicate n max_side) (drop 1 words) sides (omega (arith, is, m)) read).0 ∙ sym is in
    let k : replicate (length sides) 0 ≡ kerf = ap (λ x. replicate x 0) count ∙ sym zeros in
    rw (format, none_is parts.container none, two, four, r, k) refl

-- the words after the sides, read one part after another
module _ (format room from : ℕ) (words : List (List ℕ)) where
  later : (read : Result ℕ ℕ) → times_of room (drop (from + 2) words) ≡ read
      → times_of room (drop 2 (drop from words)) ≡ read
  later read h = ap (times_of room) (drop-drop 2 from words) ∙ h

  pub times_fault : (value code : ℕ) → false ≡ has_times_alone format (drop from words)
      → value_of (drop from words) ≡ Ok value
      → times_of room (drop (from + 2) words) ≡ Err code → ending_of format room (drop from words) ≡ Err code
  times_fault value code a v t = rw (sym a, v, later (Err code) t) refl

  pub ending_read : (value times : ℕ) → false ≡ has_times_alone format (drop from words)
      → value_of (drop from words) ≡ Ok value
      → times_of room (drop (from + 2) words) ≡ Ok times
      → ending_of format room (drop from words) ≡ Ok (record { value = value; times = times })
  ending_read value times a v t = rw (sym a, v, later (Ok times) t) refl

-- the parts of a reader without an error stay within the limits
pub keeps_good : (error : Option ReadTextError) (format : ℕ) (container : SmallVec ℕ) (has_kerf : Bool)
    (kerf : SmallVec ℕ) (boxes : Vec BoxItem Global) (line : Line) (more : Parts)
    → IsReaderWithinLimits (reader_view format container has_kerf kerf boxes error) → error ≡ None
    → add_line (parts_of format container.items has_kerf kerf.items boxes.items) line ≡ Ok more → IsWithinLimits more
keeps_good None format container has_kerf kerf boxes line more good e added =
    line_good (parts_of format container.items has_kerf kerf.items boxes.items) more line good added
keeps_good (Some f) format container has_kerf kerf boxes line more good e added = absurd (cc)

pub is_good : (error : Option ReadTextError) (format : ℕ) (container : SmallVec ℕ) (has_kerf : Bool) (kerf : SmallVec ℕ)
    (boxes : Vec BoxItem Global)
    → error ≡ None → IsWithinLimits (parts_of format container.items has_kerf kerf.items boxes.items)
    → IsReaderWithinLimits (reader_view format container has_kerf kerf boxes error)
is_good error format container has_kerf kerf boxes e good = rw e good

pub good_push : (error : Option ReadTextError) (format : ℕ) (container : SmallVec ℕ) (has_kerf : Bool)
    (kerf : SmallVec ℕ) (boxes new : Vec BoxItem Global)
    (item : BoxItem) (times : ℕ) (line : Line)
    → IsReaderWithinLimits (reader_view format container has_kerf kerf boxes error) → error ≡ None
    → add_line (parts_of format container.items has_kerf kerf.items boxes.items) line
    ≡ Ok (record (parts_of format container.items has_kerf kerf.items boxes.items)
    { boxes = map plain_box boxes.items ++ replicate times (plain_box item) })
    → map plain_box new.items ≡ map plain_box boxes.items ++ replicate times (plain_box item)
    → IsReaderWithinLimits (reader_view format container has_kerf kerf new error)
good_push error format container has_kerf kerf boxes new item times line good none added pushed =
    let kept = keeps_good error format container has_kerf kerf boxes line
    (record (parts_of format container.items has_kerf kerf.items boxes.items)
    { boxes = map plain_box boxes.items ++ replicate times (plain_box item) }) good none added in
    let P : List PlainBox → Type 0 =
    λ bs. IsWithinLimits (record {
      format = format;
      container = container.items;
      has_kerf = has_kerf;
      kerfs = kerf.items;
      boxes = bs;
    }) in
    is_good error format container has_kerf kerf new none (subst P (sym pushed) kept)
