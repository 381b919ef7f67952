-- Lines of places that are taken are those of packings.
use Rattle.std.proofs.Common.{◌≡◌, ℕ, zero, suc, ◌+◌, ◌*◌, ◌<◌, ◌≤◌, ◌⊎◌, inl, inr, refl, sym, ap, subst, ◌∙◌, arith}
use Rattle.std.proofs.Common.{Bool, true, false, ◌&&◌, ◌==◌, List, [], ◌∷◌, ◌++◌, length, append_assoc, append-nil}
use Rattle.std.proofs.Common.{get_or, Option, Some, None, Result, Ok, codes}
use Rattle.std.specs.Prelude.{nat_le, nat_lt}
use Rattle.std.specs.List.{All, list_all, range_with_len}
use Rattle.std.specs.List.Sorted.{IsStrictlyIncreasing}
use Rattle.std.proofs.lemmas.Bool.{and_parts, leb-true, ltb-true, eqb-true, cases_lt}
use Rattle.std.proofs.lemmas.List.{length-append, get_or_append_left, get_or_push}
use Rattle.std.proofs.lemmas.List.Elements.{All-append}
use Rattle.packing_terms.specs.Packing.{PlainInstance, dims, box_count, IsPacking}
use Rattle.packing_terms.specs.Goals.{IsBoxSet}
use Rattle.packing_terms.proofs.Members.{IsIn, all_at, index_in}
use Rattle.packing_terms.specs.Results.{◌>>=◌}
use Rattle.text_terms.proofs.Good.{bind_ok}
use Rattle.verdict_terms.specs.declared.check_answers.PlaceVerdict.{PlaceVerdict}
use Rattle.verdict_terms.specs.declared.check_answers.PlaceVerdict.TheVariants.{Good, Outside, Overlap}
use Rattle.verdict_terms.specs.Placing.{place_verdict}
use Rattle.verdict_terms.specs.Judging.{names_box}
use Rattle.verdict_terms.proofs.Places.{places_tested}
use Rattle.text_terms.specs.declared.claim.Claim.{Claim}
use Rattle.verdict_terms.specs.declared.heading.Heading.{Heading}
use Rattle.verdict_terms.specs.declared.heading.Heading.TheVariants.{Answer}
use Rattle.verdict_terms.specs.declared.reason.Reason.{Reason}
use Rattle.verdict_terms.specs.Reasons.{range}
use Rattle.verdict_terms.specs.Numbers.{wanted, all_wanted, numbers_line, coordinates}
use Rattle.verdict_terms.specs.Trees.{Refuted}
use Rattle.verdict_terms.specs.Stages.{Stage, first_outside, first_overlap, first_reason, groups_reason, places_reason}
use Rattle.verdict_terms.specs.Stages.{bins_reason, taken_reason, refused_by, refutation_goal, placed, place_line, share_line}
use Rattle.verdict_terms.specs.Stages.{take_box_line, words_line, is_word, value_stage}
use Rattle.verdict_terms.specs.Stages.Stage.{Placing, Sharing, Taking}
use Rattle.verdict_terms.specs.Form.{AreCoordinates, IsPlaceLine, IsNumberedLine, ArePlaceLines, AreNumberedLines}
use Rattle.verdict_terms.proofs.Passed.{require_ok, refused_ok, wanted_ok, numbers_are, NumbersLine, numbers_line_ok}
use Rattle.verdict_terms.proofs.Passed.{coordinates_ok, is_word_ok, ok_is}
use Rattle.verdict_terms.proofs.Walk.{read_words}

-- ---- no reason is a packing

pub no_first : (a b : Option Reason) → first_reason a b ≡ None → (a ≡ None) × (b ≡ None)
no_first None b e = (refl, e)
no_first (Some r) b e = absurd (cc (e))

groups_good : (groups : List (List ℕ × PlaceVerdict)) → first_outside groups ≡ None → first_overlap groups ≡ None
    → (g : List ℕ × PlaceVerdict) → IsIn g groups → g.1 ≡ Good
groups_good [] a b g i = absurd i
groups_good ((keep, Good) ∷ groups) a b g (inl s) = ap (λ x. x.1) s
groups_good ((keep, Good) ∷ groups) a b g (inr i) = groups_good groups a b g i
groups_good ((keep, Outside v j) ∷ groups) a b g i = absurd (cc (a))
groups_good ((keep, Overlap u v) ∷ groups) a b g i = absurd (cc (b))

pub group_good : (groups : List (List ℕ × PlaceVerdict)) → groups_reason groups ≡ None → (g : List ℕ × PlaceVerdict)
    → IsIn g groups → g.1 ≡ Good
group_good groups e g i = let n = no_first (first_outside groups) (first_overlap groups) e in
    groups_good groups n.0 n.1 g i

pub places_good : (instance : PlainInstance) (places : List ℕ) → length places ≡ box_count instance * dims instance
    → places_reason instance places ≡ None → IsPacking instance places
places_good instance places count e =
    (places_tested instance places Good count).0
    (group_good ((range_with_len 0 (box_count instance), place_verdict instance places) ∷ []) e
    (range_with_len 0 (box_count instance), place_verdict instance places) (inl refl))

-- ---- coordinates

numbers_count : (words : List (List ℕ)) (ns : List ℕ) → AreCoordinates words ns → length words ≡ length ns
numbers_count [] [] are = refl
numbers_count [] (n ∷ ns) are = absurd are
numbers_count (word ∷ words) [] are = absurd are
numbers_count (word ∷ words) (n ∷ ns) are = ap suc (numbers_count words ns are.1)

place_line_is : (d : ℕ) (words : List (List ℕ)) (ns xs : List ℕ) → numbers_line (codes "place") d words ≡ Ok ns
    → coordinates ns ≡ Ok xs → IsPlaceLine d words xs
place_line_is d words ns xs e f =
    let l = numbers_line_ok (codes "place") d words ns e in
    let c = coordinates_ok ns xs f in
    record {
      numbers = l.numbers;
      are = l.are;
      count = l.counted;
      are_coordinates = subst (λ ys. AreCoordinates l.numbers ys) c.1 (numbers_are l.numbers ns l.read c.0);
    }

pub place_line_count : (d : ℕ) (words : List (List ℕ)) (xs : List ℕ) → IsPlaceLine d words xs → length xs ≡ d
place_line_count d words xs l = sym (numbers_count l.numbers xs l.are_coordinates) ∙ l.count

pub numbered_count : (key : List ℕ) (most d n : ℕ) (words : List (List ℕ)) (xs : List ℕ)
    → IsNumberedLine key most d words n xs → length xs ≡ d
numbered_count key most d n words xs l = sym (numbers_count l.numbers xs l.are_coordinates) ∙ l.count

-- ---- places of all boxes

pub record PlacesTold (heading : Heading) (instance : PlainInstance) (claim told : Claim) (refuted : Refuted) (places : List ℕ)
    (lines : List (List (List ℕ))) : Type 0 where
  pub front : List (List (List ℕ))
  pub back : List (List (List ℕ))
  pub more : List ℕ
  pub are : lines ≡ front ++ back
  pub are_lines : ArePlaceLines (dims instance) front more
  pub count : length (places ++ more) ≡ box_count instance * dims instance
  pub good : places_reason instance (places ++ more) ≡ None
  pub rest : read_words (placed heading claim refuted) back ≡ Ok told

pub places_told : (heading : Heading) (instance : PlainInstance) (claim told : Claim) (refuted : Refuted) (places : List ℕ)
    (lines : List (List (List ℕ))) → read_words (Placing heading instance claim refuted places) lines ≡ Ok told
    → PlacesTold heading instance claim told refuted places lines
places_told heading instance claim told refuted places [] e = absurd (cc (e))
places_told heading instance claim told refuted places (words ∷ lines) e =
    let b = bind_ok (place_line heading instance claim refuted places words) (λ next. read_words next lines) told e in
    let n = bind_ok (numbers_line (codes "place") (dims instance) words) _ b.0 b.1 in
    let c = bind_ok (coordinates n.0) _ b.0 n.2 in
    go c.0 (place_line_is (dims instance) words n.0 c.0 n.1 c.1)
    (length (places ++ c.0) == box_count instance * dims instance) refl b.0 c.2 b.2
    (λ r. places_told heading instance claim told refuted (places ++ c.0) lines r)
  where
    go : (xs : List ℕ) → IsPlaceLine (dims instance) words xs → (t : Bool)
        → (length (places ++ xs) == box_count instance * dims instance) ≡ t → (next : Stage)
        → ◌≡◌ {A = Result Stage Reason}
        (elim t [
          | true ↦ refused_by (places_reason instance (places ++ xs)) (Ok (placed heading claim refuted))
          | false ↦
              Ok (Placing heading instance claim refuted (places ++ xs))
        ]) (Ok next)
        → read_words next lines ≡ Ok told
        → (read_words (Placing heading instance claim refuted (places ++ xs)) lines ≡ Ok told
        → PlacesTold heading instance claim told refuted (places ++ xs) lines)
        → PlacesTold heading instance claim told refuted places (words ∷ lines)
    go xs line true t next f r later =
        let g = refused_ok (places_reason instance (places ++ xs)) (Ok (placed heading claim refuted)) next f in record {
          front = words ∷ [];
          back = lines;
          more = xs;
          are = refl;
          are_lines = (xs, [], sym (append-nil xs), line, refl);
          count = eqb-true (length (places ++ xs)) (box_count instance * dims instance) t;
          good = g.0;
          rest = subst (λ s. read_words s lines ≡ Ok told) (sym (ok_is (placed heading claim refuted) next g.1)) r;
        }
    go xs line false t next f r later =
        let d = later (subst (λ s. read_words s lines ≡ Ok told)
        (sym (ok_is (Placing heading instance claim refuted (places ++ xs)) next f)) r) in
        let joined : (places ++ xs) ++ d.more ≡ places ++ (xs ++ d.more) = append_assoc places xs d.more in record {
          front = words ∷ d.front;
          back = d.back;
          more = xs ++ d.more;
          are = ap (λ ls. words ∷ ls) d.are;
          are_lines = (xs, d.more, refl, line, d.are_lines);
          count = ap length (sym joined) ∙ d.count;
          good = subst (λ ps. places_reason instance ps ≡ None) joined d.good;
          rest = d.rest;
        }

-- ---- lines with a number in front

-- the number, and the coordinates behind it
pub record NumberedRead (key : List ℕ) (d : ℕ) (words : List (List ℕ)) (n : ℕ) (ns : List ℕ) : Type 0 where
  pub number : List ℕ
  pub numbers : List (List ℕ)
  pub are : words ≡ key ∷ number ∷ numbers
  pub counted : length numbers ≡ d
  pub is_number : Rattle.text_terms.specs.Lines.number_of number ≡ Some n
  pub read : all_wanted numbers ≡ Ok ns

numbered_read : (key : List ℕ) (d : ℕ) (words : List (List ℕ)) (n : ℕ) (ns : List ℕ)
    → numbers_line key (suc d) words ≡ Ok (n ∷ ns) → NumberedRead key d words n ns
numbered_read key d words n ns e = go l.numbers l.are l.counted l.read
  where
    l : NumbersLine key (suc d) words (n ∷ ns)
    l = numbers_line_ok key (suc d) words (n ∷ ns) e

    go : (numbers : List (List ℕ)) → words ≡ key ∷ numbers → length numbers ≡ suc d → all_wanted numbers ≡ Ok (n ∷ ns)
        → NumberedRead key d words n ns
    go [] are count r = absurd (cc (r))
    go (word ∷ numbers) are count r =
        let a = bind_ok (wanted word) (λ n. all_wanted numbers >>= λ ms. Ok (n ∷ ms)) (n ∷ ns) r in
        let b = bind_ok (all_wanted numbers) (λ ms. Ok (a.0 ∷ ms)) (n ∷ ns) a.2 in
        let first : a.0 ≡ n = cc (b.2) in
        let others : b.0 ≡ ns = cc (b.2) in record {
          number = word;
          numbers = numbers;
          are = are;
          counted = omega (arith, count);
          is_number = wanted_ok word a.0 a.1 ∙ ap Some first;
          read = b.1 ∙ ap Ok others;
        }

numbered_is : (key : List ℕ) (most d : ℕ) (words : List (List ℕ)) (n : ℕ) (ns xs : List ℕ)
    → NumberedRead key d words (suc n) ns → suc n ≤ most → coordinates ns ≡ Ok xs
    → IsNumberedLine key most d words n xs
numbered_is key most d words n ns xs r m f =
    let c = coordinates_ok ns xs f in record {
      number = r.number;
      numbers = r.numbers;
      are = r.are;
      count = r.counted;
      is_number = record { number = r.is_number; least = omega arith; most = m };
      are_coordinates = subst (λ ys. AreCoordinates r.numbers ys) c.1 (numbers_are r.numbers ns r.read c.0);
    }

-- ---- places in bins

pub record SharesTold (instance : PlainInstance) (claim told : Claim) (k : ℕ) (bins places : List ℕ)
    (lines : List (List (List ℕ))) : Type 0 where
  pub front : List (List (List ℕ))
  pub back : List (List (List ℕ))
  pub more_bins : List ℕ
  pub more : List ℕ
  pub are : lines ≡ front ++ back
  pub are_lines : AreNumberedLines (codes "place") k (dims instance) front more_bins more
  pub below : All (λ b. b < k) more_bins
  pub count : length (bins ++ more_bins) ≡ box_count instance
  pub good : bins_reason instance k (bins ++ more_bins) (places ++ more) ≡ None
  pub rest : read_words (placed Answer claim (refutation_goal Answer instance claim)) back ≡ Ok told

all_cons : (P : ℕ → Type 0) (x : ℕ) (xs : List ℕ) → P x → All P xs → All P (x ∷ xs)
all_cons P x xs p ps zero d h = p
all_cons P x xs p ps (suc i) d h = ps i d (omega arith)

-- a line of a bin number and coordinates, by whether it is the last one
share_told : (instance : PlainInstance) (claim told : Claim) (k : ℕ) (bins places : List ℕ) (words : List (List ℕ))
    (lines : List (List (List ℕ))) (n : ℕ) (xs : List ℕ)
    → IsNumberedLine (codes "place") k (dims instance) words n xs → n < k → (t : Bool)
    → (length (bins ++ n ∷ []) == box_count instance) ≡ t → (next : Stage)
    → ◌≡◌ {A = Result Stage Reason} (elim t [
      | true ↦ refused_by (bins_reason instance k (bins ++ n ∷ []) (places ++ xs))
          (Ok (placed Answer claim (refutation_goal Answer instance claim)))
      | false ↦ Ok (Sharing instance claim k (bins ++ n ∷ []) (places ++ xs))
    ]) (Ok next)
    → read_words next lines ≡ Ok told
    → ((c ps : List ℕ) → read_words (Sharing instance claim k c ps) lines ≡ Ok told
    → SharesTold instance claim told k c ps lines)
    → SharesTold instance claim told k bins places (words ∷ lines)
share_told instance claim told k bins places words lines n xs line small true t next f r later =
    let g = refused_ok (bins_reason instance k (bins ++ n ∷ []) (places ++ xs))
    (Ok (placed Answer claim (refutation_goal Answer instance claim))) next f in record {
      front = words ∷ [];
      back = lines;
      more_bins = n ∷ [];
      more = xs;
      are = refl;
      are_lines = (xs, [], sym (append-nil xs), line, refl);
      below = all_cons (λ b. b < k) n [] small (λ i d h. absurd (omega arith));
      count = eqb-true (length (bins ++ n ∷ [])) (box_count instance) t;
      good = g.0;
      rest = subst (λ s. read_words s lines ≡ Ok told)
          (sym (ok_is (placed Answer claim (refutation_goal Answer instance claim)) next g.1)) r;
    }
share_told instance claim told k bins places words lines n xs line small false t next f r later =
    let d = later (bins ++ n ∷ []) (places ++ xs)
    (subst (λ s. read_words s lines ≡ Ok told)
    (sym (ok_is (Sharing instance claim k (bins ++ n ∷ []) (places ++ xs)) next f)) r) in
    let joined : (places ++ xs) ++ d.more ≡ places ++ (xs ++ d.more) = append_assoc places xs d.more in
    let shared : (bins ++ n ∷ []) ++ d.more_bins ≡ bins ++ (n ∷ d.more_bins) =
    append_assoc bins (n ∷ []) d.more_bins in record {
      front = words ∷ d.front;
      back = d.back;
      more_bins = n ∷ d.more_bins;
      more = xs ++ d.more;
      are = ap (λ ls. words ∷ ls) d.are;
      are_lines = (xs, d.more, refl, line, d.are_lines);
      below = all_cons (λ b. b < k) n d.more_bins small d.below;
      count = ap length (sym shared) ∙ d.count;
      good = subst (λ ps. bins_reason instance k (bins ++ (n ∷ d.more_bins)) ps ≡ None) joined
          (subst (λ bs. bins_reason instance k bs ((places ++ xs) ++ d.more) ≡ None) shared d.good);
      rest = d.rest;
    }

share_numbers : (instance : PlainInstance) (claim told : Claim) (k : ℕ) (bins places : List ℕ) (words : List (List ℕ))
    (lines : List (List (List ℕ))) (ns : List ℕ)
    → numbers_line (codes "place") (suc (dims instance)) words ≡ Ok ns → (next : Stage)
    → share_line instance claim k bins places ns ≡ Ok next
    → read_words next lines ≡ Ok told
    → ((c ps : List ℕ) → read_words (Sharing instance claim k c ps) lines ≡ Ok told
    → SharesTold instance claim told k c ps lines)
    → SharesTold instance claim told k bins places (words ∷ lines)
share_numbers instance claim told k bins places words lines [] line next f r later = absurd (cc (f))
share_numbers instance claim told k bins places words lines (zero ∷ ns) line next f r later = absurd (cc (f))
share_numbers instance claim told k bins places words lines (suc n ∷ ns) line next f r later =
    let q = require_ok (nat_le 1 (suc n) && nat_le (suc n) k) range _ next f in
    let p = and_parts (nat_le 1 (suc n)) (nat_le (suc n) k) q.0 in
    let small : suc n ≤ k = leb-true (suc n) k p.1 in
    let c = bind_ok (coordinates ns) _ next q.1 in
    share_told instance claim told k bins places words lines n c.0
    (numbered_is (codes "place") k (dims instance) words n ns c.0
    (numbered_read (codes "place") (dims instance) words (suc n) ns line) small c.1)
    (omega (arith, small)) (length (bins ++ n ∷ []) == box_count instance) refl next c.2 r later

pub shares_told : (instance : PlainInstance) (claim told : Claim) (k : ℕ) (bins places : List ℕ)
    (lines : List (List (List ℕ)))
    → read_words (Sharing instance claim k bins places) lines ≡ Ok told
    → SharesTold instance claim told k bins places lines
shares_told instance claim told k bins places [] e = absurd (cc (e))
shares_told instance claim told k bins places (words ∷ lines) e =
    let b = bind_ok (words_line (Sharing instance claim k bins places) words) (λ next. read_words next lines) told e in
    let n = bind_ok (numbers_line (codes "place") (suc (dims instance)) words)
    (λ ns. share_line instance claim k bins places ns) b.0 b.1 in
    share_numbers instance claim told k bins places words lines n.0 n.1 b.0 n.2 b.2
    (λ c ps r. shares_told instance claim told k c ps lines r)

-- ---- taken boxes

-- the boxes rise from those before on, and are there
pub record TakesTold (heading : Heading) (instance : PlainInstance) (claim told : Claim) (value : ℕ) (taken places : List ℕ)
    (lines : List (List (List ℕ))) : Type 0 where
  pub front : List (List (List ℕ))
  pub back : List (List (List ℕ))
  pub more_taken : List ℕ
  pub more : List ℕ
  pub are : lines ≡ front ++ (codes "proof" ∷ []) ∷ back
  pub are_lines : AreNumberedLines (codes "take") (box_count instance) (dims instance) front more_taken more
  pub set : IsBoxSet instance (taken ++ more_taken)
  pub good : taken_reason instance value (taken ++ more_taken) (places ++ more) ≡ None
  pub rest : read_words (value_stage heading instance claim) back ≡ Ok told

rising_push : (us : List ℕ) (v : ℕ) → IsStrictlyIncreasing us → list_all (λ u. nat_lt u v) us ≡ true
    → IsStrictlyIncreasing (us ++ v ∷ [])
rising_push us v rising below k h = go (cases_lt (k + 1) (length us))
  where
    e : length (us ++ v ∷ []) ≡ length us + 1
    e = length-append us (v ∷ [])

    go : (k + 1 < length us) ⊎ (length us ≤ k + 1) → get_or (us ++ v ∷ []) k 0 < get_or (us ++ v ∷ []) (k + 1) 0
    go (inl l) =
        let a = get_or_append_left us (v ∷ []) 0 k (omega (arith, l)) in
        let b = get_or_append_left us (v ∷ []) 0 (k + 1) l in
        let r = rising k l in
        omega (arith, a, b, r)
    go (inr l) =
        let n : length us ≡ k + 1 = omega (arith, l, h, e) in
        let a = get_or_append_left us (v ∷ []) 0 k (omega (arith, n)) in
        let b = get_or_push us v 0 (k + 1) n in
        let small = ltb-true (get_or us k 0) v
        (all_at (λ u. nat_lt u v) (get_or us k 0) us below (index_in 0 us k (omega (arith, n)))) in
        omega (arith, a, b, small)

pub set_push : (instance : PlainInstance) (taken : List ℕ) (v : ℕ) → IsBoxSet instance taken → v < box_count instance
    → list_all (λ u. nat_lt u v) taken ≡ true
    → IsBoxSet instance (taken ++ v ∷ [])
set_push instance taken v set there below = record {
  there = All-append (λ v. v < box_count instance) taken (v ∷ []) set.there
      (all_cons (λ v. v < box_count instance) v [] there (λ i d h. absurd (omega arith)));
  rising = rising_push taken v set.rising below;
}

-- a line of a taken box and coordinates
take_told : (heading : Heading) (instance : PlainInstance) (claim told : Claim) (value : ℕ) (taken places : List ℕ) (words : List (List ℕ))
    (lines : List (List (List ℕ))) (ns : List ℕ) → IsBoxSet instance taken
    → numbers_line (codes "take") (suc (dims instance)) words ≡ Ok ns → (next : Stage)
    → take_box_line heading instance claim value taken places ns ≡ Ok next
    → read_words next lines ≡ Ok told
    → ((c ps : List ℕ) → IsBoxSet instance c → read_words (Taking heading instance claim value c ps) lines ≡ Ok told
    → TakesTold heading instance claim told value c ps lines)
    → TakesTold heading instance claim told value taken places (words ∷ lines)
take_told heading instance claim told value taken places words lines [] set line next f r later = absurd (cc (f))
take_told heading instance claim told value taken places words lines (zero ∷ ns) set line next f r later = absurd (cc (f))
take_told heading instance claim told value taken places words lines (suc v ∷ ns) set line next f r later =
    let q = require_ok (names_box instance (suc v) && list_all (λ u. nat_lt u v) taken) range _ next f in
    let p = and_parts (names_box instance (suc v)) (list_all (λ u. nat_lt u v) taken) q.0 in
    let o = and_parts (nat_le 1 (suc v)) (nat_le (suc v) (box_count instance)) p.0 in
    let there : suc v ≤ box_count instance = leb-true (suc v) (box_count instance) o.1 in
    let c = bind_ok (coordinates ns) _ next q.1 in
    let line_is = numbered_is (codes "take") (box_count instance) (dims instance) words v ns c.0
    (numbered_read (codes "take") (dims instance) words (suc v) ns line) there c.1 in
    let d = later (taken ++ v ∷ []) (places ++ c.0) (set_push instance taken v set (omega (arith, there)) p.1)
    (subst (λ s. read_words s lines ≡ Ok told)
    (sym (ok_is (Taking heading instance claim value (taken ++ v ∷ []) (places ++ c.0)) next c.2)) r) in
    let joined : (places ++ c.0) ++ d.more ≡ places ++ (c.0 ++ d.more) = append_assoc places c.0 d.more in
    let grown : (taken ++ v ∷ []) ++ d.more_taken ≡ taken ++ (v ∷ d.more_taken) =
    append_assoc taken (v ∷ []) d.more_taken in record {
      front = words ∷ d.front;
      back = d.back;
      more_taken = v ∷ d.more_taken;
      more = c.0 ++ d.more;
      are = ap (λ ls. words ∷ ls) d.are;
      are_lines = (c.0, d.more, refl, line_is, d.are_lines);
      set = subst (λ us. IsBoxSet instance us) grown d.set;
      good = subst (λ ps. taken_reason instance value (taken ++ (v ∷ d.more_taken)) ps ≡ None) joined
          (subst (λ us. taken_reason instance value us ((places ++ c.0) ++ d.more) ≡ None) grown d.good);
      rest = d.rest;
    }

pub takes_told : (heading : Heading) (instance : PlainInstance) (claim told : Claim) (value : ℕ) (taken places : List ℕ)
    (lines : List (List (List ℕ))) → IsBoxSet instance taken
    → read_words (Taking heading instance claim value taken places) lines ≡ Ok told
    → TakesTold heading instance claim told value taken places lines
takes_told heading instance claim told value taken places [] set e = absurd (cc (e))
takes_told heading instance claim told value taken places (words ∷ lines) set e =
    let b = bind_ok (words_line (Taking heading instance claim value taken places) words)
    (λ next. read_words next lines) told e in
    go (is_word (codes "proof") words) refl b.0 b.1 b.2
    (λ c ps s r. takes_told heading instance claim told value c ps lines s r)
  where
    go : (t : Bool) → is_word (codes "proof") words ≡ t → (next : Stage)
        → ◌≡◌ {A = Result Stage Reason} (elim t [
          | true ↦ refused_by (taken_reason instance value taken places)
              (Ok (value_stage heading instance claim))
          | false ↦ numbers_line (codes "take") (suc (dims instance)) words
              >>= λ ns. take_box_line heading instance claim value taken places ns
        ]) (Ok next)
        → read_words next lines ≡ Ok told
        → ((c ps : List ℕ) → IsBoxSet instance c → read_words (Taking heading instance claim value c ps) lines ≡ Ok told
        → TakesTold heading instance claim told value c ps lines)
        → TakesTold heading instance claim told value taken places (words ∷ lines)
    go true t next f r later =
        let g = refused_ok (taken_reason instance value taken places)
        (Ok (value_stage heading instance claim)) next f in record {
          front = [];
          back = lines;
          more_taken = [];
          more = [];
          are = ap (λ w. w ∷ lines) (is_word_ok (codes "proof") words t);
          are_lines = refl;
          set = subst (λ us. IsBoxSet instance us) (sym (append-nil taken)) set;
          good = subst (λ us. taken_reason instance value us (places ++ []) ≡ None) (sym (append-nil taken))
              (subst (λ ps. taken_reason instance value taken ps ≡ None) (sym (append-nil places)) g.0);
          rest = subst (λ s. read_words s lines ≡ Ok told)
              (sym (ok_is (value_stage heading instance claim) next g.1)) r;
        }
    go false t next f r later =
        let n = bind_ok (numbers_line (codes "take") (suc (dims instance)) words)
        (λ ns. take_box_line heading instance claim value taken places ns) next f in
        take_told heading instance claim told value taken places words lines n.0 set n.1 next n.2 r later
