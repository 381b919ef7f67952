-- The lines of packings are taken.
use Rattle.std.proofs.Common.{◌≡◌, ℕ, suc, ◌+◌, ◌*◌, ◌<◌, ◌≤◌, ◌⊎◌, inl, inr, refl, sym, ap, ap₂, subst, ◌∙◌, arith}
use Rattle.std.proofs.Common.{Bool, true, false, cond, ◌&&◌, ◌==◌, List, [], ◌∷◌, ◌++◌, length, map, append_assoc}
use Rattle.std.proofs.Common.{append-nil, Some, None, Result, Ok, codes}
use Rattle.std.specs.Prelude.{nat_le, nat_lt}
use Rattle.std.specs.List.{list_all, range_with_len}
use Rattle.std.specs.List.Sorted.{IsStrictlyIncreasing}
use Rattle.std.proofs.lemmas.Bool.{and_from, le-leb, lt-ltb, eqb-true, eqb-false, cases_lt}
use Rattle.std.proofs.lemmas.List.{length-append}
use Rattle.packing_terms.specs.Packing.{PlainInstance, dims, box_count, IsPacking}
use Rattle.packing_terms.specs.Goals.{subset, in_bin, places_of, worth, IsBinPacking}
use Rattle.packing_terms.proofs.Members.{IsIn, map_in, range_in}
use Rattle.packing_terms.proofs.Agreeing.{rising_later}
use Rattle.packing_terms.specs.Results.{◌>>=◌}
use Rattle.verdict_terms.specs.declared.check_answers.PlaceVerdict.{PlaceVerdict}
use Rattle.verdict_terms.specs.declared.check_answers.PlaceVerdict.TheVariants.{Good, Outside, Overlap}
use Rattle.verdict_terms.specs.Placing.{place_verdict}
use Rattle.verdict_terms.specs.Judging.{names_box}
use Rattle.verdict_terms.proofs.Places.{places_tested}
use Rattle.text_terms.specs.declared.claim.Claim.{Claim}
use Rattle.verdict_terms.specs.declared.heading.Heading.{Heading}
use Rattle.verdict_terms.specs.declared.heading.Heading.TheVariants.{Answer}
use Rattle.verdict_terms.specs.declared.reason.Reason.{Reason}
use Rattle.verdict_terms.specs.Reasons.{range}
use Rattle.verdict_terms.specs.declared.reason.Reason.TheVariants.{TooLittle}
use Rattle.verdict_terms.specs.Numbers.{wanted, all_wanted, numbers_line, coordinates}
use Rattle.verdict_terms.specs.Trees.{Refuted}
use Rattle.verdict_terms.specs.Stages.{Stage, first_outside, first_overlap, first_reason, groups_reason, places_reason}
use Rattle.verdict_terms.specs.Stages.{bins_reason, taken_reason, refused_by, refutation_goal, placed, place_line, share_line}
use Rattle.verdict_terms.specs.Stages.{take_box_line, words_line, is_word, value_stage}
use Rattle.verdict_terms.specs.Stages.Stage.{Placing, Sharing, Taking}
use Rattle.verdict_terms.specs.Form.{IsPlaceLine, IsNumberedLine, ArePlaceLines, AreNumberedLines}
use Rattle.verdict_terms.proofs.Walk.{read_words}
use Rattle.verdict_terms.proofs.PlacesTold.{place_line_count}
use Rattle.verdict_terms.proofs.Taken.{is_same, required, bound, wanted_is, all_wanted_is, coordinates_are}
use Rattle.verdict_terms.proofs.Taken.{numbers_line_is}

-- ---- a packing gives no reason

all_good : (groups : List (List ℕ × PlaceVerdict)) → ((g : List ℕ × PlaceVerdict) → IsIn g groups → g.1 ≡ Good)
    → (first_outside groups ≡ None) × (first_overlap groups ≡ None)
all_good [] h = (refl, refl)
all_good ((keep, Good) ∷ groups) h = all_good groups (λ g i. h g (inr i))
all_good ((keep, Outside v i) ∷ groups) h =
    absurd (let e : Outside v i ≡ Good = h (keep, Outside v i) (inl refl) in cc (e))
all_good ((keep, Overlap u v) ∷ groups) h =
    absurd (let e : Overlap u v ≡ Good = h (keep, Overlap u v) (inl refl) in cc (e))

no_groups_reason : (groups : List (List ℕ × PlaceVerdict)) → ((g : List ℕ × PlaceVerdict) → IsIn g groups → g.1 ≡ Good)
    → groups_reason groups ≡ None
no_groups_reason groups h = let a = all_good groups h in ap₂ (λ x y. first_reason x y) a.0 a.1

one_group : (keep : List ℕ) (verdict : PlaceVerdict) → verdict ≡ Good → groups_reason ((keep, verdict) ∷ []) ≡ None
one_group keep verdict e = no_groups_reason ((keep, verdict) ∷ []) only
  where
    only : (g : List ℕ × PlaceVerdict) → IsIn g ((keep, verdict) ∷ []) → g.1 ≡ Good
    only g (inl s) = ap (λ x. x.1) s ∙ e
    only g (inr i) = absurd i

pub no_places_reason : (instance : PlainInstance) (places : List ℕ) → IsPacking instance places
    → places_reason instance places ≡ None
no_places_reason instance places p =
    one_group (range_with_len 0 (box_count instance)) (place_verdict instance places)
    ((places_tested instance places Good p.count).1 p)

pub no_bins_reason : (instance : PlainInstance) (k : ℕ) (bins places : List ℕ) → IsBinPacking instance k bins places
    → bins_reason instance k bins places ≡ None
no_bins_reason instance k bins places p =
    no_groups_reason (map (λ b. (
      in_bin bins b,
      place_verdict (subset instance (in_bin bins b)) (places_of instance places (in_bin bins b)),
    ))
    (range_with_len 0 k)) each
  where
    each : (g : List ℕ × PlaceVerdict)
        → IsIn g (map (λ b. (
          in_bin bins b,
          place_verdict (subset instance (in_bin bins b)) (places_of instance places (in_bin bins b)),
        ))
        (range_with_len 0 k)) → g.1 ≡ Good
    each g i =
        let m = map_in (λ b. (
          in_bin bins b,
          place_verdict (subset instance (in_bin bins b)) (places_of instance places (in_bin bins b)),
        )) g
        (range_with_len 0 k) i in
        let r = range_in 0 k m.0 m.1 in
        let h = r.1 in
        let q = p.packed m.0 (omega (arith, h)) in
        ap (λ x. x.1) m.2 ∙ (places_tested (subset instance (in_bin bins m.0))
        (places_of instance places (in_bin bins m.0)) Good q.count).1 q

pub no_taken_reason : (instance : PlainInstance) (value : ℕ) (taken places : List ℕ)
    → IsPacking (subset instance taken) places → value ≤ worth instance taken
    → taken_reason instance value taken places ≡ None
no_taken_reason instance value taken places p w =
    ap₂ (λ x b. first_reason x (cond b None (Some TooLittle)))
    (one_group taken (place_verdict (subset instance taken) places)
    ((places_tested (subset instance taken) places Good p.count).1 p)) (le-leb value (worth instance taken) w)

-- ---- places of all boxes

-- behind the last line of coordinates no coordinate is left
none_left : (d : ℕ) (lines : List (List (List ℕ))) (rest : List ℕ) (total : ℕ) → 1 ≤ d → ArePlaceLines d lines rest
    → total + length rest ≡ total → (lines ≡ []) × (rest ≡ [])
none_left d [] rest total some are full = (refl, are)
none_left d (w ∷ ws) rest total some (ys, zs, f, l, others) full =
    absurd (let b : length rest ≡ length (ys ++ zs) = ap length f in let c = length-append ys zs in
    let e = place_line_count d w ys l in omega (arith, b, c, e, full, some))

less : (a b : ℕ) → a ≤ b → (a == b) ≡ false → a < b
less a b l e = go (cases_lt a b)
  where
    go : (a < b) ⊎ (b ≤ a) → a < b
    go (inl h) = h
    go (inr h) = absurd (eqb-false a b e (omega (arith, l, h)))

-- the stage behind a line of coordinates, by whether it is the last one
abbrev behind_place : Heading → PlainInstance → Claim → Refuted → List ℕ → Bool → Result Stage Reason
behind_place heading instance claim refuted places t =
    elim t as (λ x. Result Stage Reason) [
      | true ↦ refused_by (places_reason instance places) (Ok (placed heading claim refuted))
      | false ↦
          Ok (Placing heading instance claim refuted places)
    ]

place_taken : (heading : Heading) (instance : PlainInstance) (claim : Claim) (refuted : Refuted) (places xs : List ℕ)
    (words : List (List ℕ)) (t : Bool) → IsPlaceLine (dims instance) words xs
    → (length (places ++ xs) == box_count instance * dims instance) ≡ t
    → place_line heading instance claim refuted places words ≡ behind_place heading instance claim refuted (places ++ xs) t
place_taken heading instance claim refuted places xs words t line e =
    ap (λ ws. place_line heading instance claim refuted places ws) line.are
    ∙ bound (numbers_line (codes "place") (dims instance) (codes "place" ∷ line.numbers)) xs
    (λ ns. coordinates ns >>= λ ys. behind_place heading instance claim refuted (places ++ ys)
    (length (places ++ ys) == box_count instance * dims instance))
    (numbers_line_is (codes "place") (dims instance) line.numbers xs line.count
    (all_wanted_is line.numbers xs line.are_coordinates))
    ∙ bound (coordinates xs) xs (λ ys. behind_place heading instance claim refuted (places ++ ys)
    (length (places ++ ys) == box_count instance * dims instance))
    (coordinates_are line.numbers xs line.are_coordinates)
    ∙ ap (behind_place heading instance claim refuted (places ++ xs)) e

after_place : (heading : Heading) (instance : PlainInstance) (claim : Claim) (refuted : Refuted) (places xs rest : List ℕ)
    (words : List (List ℕ)) (front back : List (List (List ℕ))) → 1 ≤ dims instance
    → IsPlaceLine (dims instance) words xs → ArePlaceLines (dims instance) front rest
    → length ((places ++ xs) ++ rest) ≡ box_count instance * dims instance
    → places_reason instance ((places ++ xs) ++ rest) ≡ None → (t : Bool)
    → (length (places ++ xs) == box_count instance * dims instance) ≡ t
    → (length (places ++ xs) < box_count instance * dims instance
    → read_words (Placing heading instance claim refuted (places ++ xs)) (front ++ back)
    ≡ read_words (placed heading claim refuted) back)
    → read_words (Placing heading instance claim refuted places) (words ∷ (front ++ back))
    ≡ read_words (placed heading claim refuted) back
after_place heading instance claim refuted places xs rest words front back some line are total good true t go_on =
    let full : length (places ++ xs) ≡ box_count instance * dims instance = eqb-true _ _ t in
    let n = none_left (dims instance) front rest (length (places ++ xs)) some are
    (let a = length-append (places ++ xs) rest in omega (arith, a, total, full)) in
    let calm : places_reason instance (places ++ xs) ≡ None =
    ap (places_reason instance) (sym (append-nil (places ++ xs)) ∙ ap (λ r. (places ++ xs) ++ r) (sym n.1)) ∙ good in
    bound (place_line heading instance claim refuted places words) (placed heading claim refuted)
    (λ next. read_words next (front ++ back))
    (place_taken heading instance claim refuted places xs words true line t
    ∙ ap (λ o. refused_by o (Ok (placed heading claim refuted))) calm)
    ∙ ap (λ ls. read_words (placed heading claim refuted) (ls ++ back)) n.0
after_place heading instance claim refuted places xs rest words front back some line are total good false t go_on =
    bound (place_line heading instance claim refuted places words) (Placing heading instance claim refuted (places ++ xs))
    (λ next. read_words next (front ++ back)) (place_taken heading instance claim refuted places xs words false line t)
    ∙ go_on (less (length (places ++ xs)) (box_count instance * dims instance)
    (let a = length-append (places ++ xs) rest in omega (arith, a, total)) t)

pub places_given : (heading : Heading) (instance : PlainInstance) (claim : Claim) (refuted : Refuted) (places more : List ℕ)
    (front back : List (List (List ℕ))) → 1 ≤ dims instance
    → ArePlaceLines (dims instance) front more → length (places ++ more) ≡ box_count instance * dims instance
    → length places < box_count instance * dims instance
    → places_reason instance (places ++ more) ≡ None
    → read_words (Placing heading instance claim refuted places) (front ++ back) ≡ read_words (placed heading claim refuted) back
places_given heading instance claim refuted places more [] back some are count low good =
    absurd (let a = length-append places more in let b : length more ≡ length {A = ℕ} [] = ap length are in
    omega (arith, a, b, count, low))
places_given heading instance claim refuted places more (words ∷ front) back some (xs, rest, e, line, later) count low good =
    let joined : places ++ more ≡ (places ++ xs) ++ rest =
    ap (λ m. places ++ m) e ∙ sym (append_assoc places xs rest) in
    let total : length ((places ++ xs) ++ rest) ≡ box_count instance * dims instance = ap length (sym joined) ∙ count in
    let calm : places_reason instance ((places ++ xs) ++ rest) ≡ None =
    ap (places_reason instance) (sym joined) ∙ good in
    after_place heading instance claim refuted places xs rest words front back some line later total calm
    (length (places ++ xs) == box_count instance * dims instance) refl
    (λ low. places_given heading instance claim refuted (places ++ xs) rest front back some later total low calm)

-- ---- places in bins

abbrev behind_share : PlainInstance → Claim → ℕ → List ℕ → List ℕ → Bool → Result Stage Reason
behind_share instance claim k bins places t =
    elim t as (λ x. Result Stage Reason) [
      | true ↦ refused_by (bins_reason instance k bins places) (Ok (placed Answer claim (refutation_goal Answer instance claim)))
      | false ↦ Ok (Sharing instance claim k bins places)
    ]

-- the numbers of a line with a number in front
numbered_taken : (key : List ℕ) (most d n : ℕ) (words : List (List ℕ)) (xs : List ℕ)
    → IsNumberedLine key most d words n xs → numbers_line key (suc d) words ≡ Ok (suc n ∷ xs)
numbered_taken key most d n words xs line =
    ap (numbers_line key (suc d)) line.are
    ∙ numbers_line_is key (suc d) (line.number ∷ line.numbers) (suc n ∷ xs) (ap suc line.count)
    (bound (wanted line.number) (suc n) (λ m. all_wanted line.numbers >>= λ ms. Ok (m ∷ ms))
    (wanted_is line.number (suc n) line.is_number.number)
    ∙ bound (all_wanted line.numbers) xs (λ ms. Ok (suc n ∷ ms)) (all_wanted_is line.numbers xs line.are_coordinates))

share_taken : (instance : PlainInstance) (claim : Claim) (k n : ℕ) (bins places xs : List ℕ) (words : List (List ℕ))
    (t : Bool) → IsNumberedLine (codes "place") k (dims instance) words n xs
    → (length (bins ++ n ∷ []) == box_count instance) ≡ t
    → words_line (Sharing instance claim k bins places) words
    ≡ behind_share instance claim k (bins ++ n ∷ []) (places ++ xs) t
share_taken instance claim k n bins places xs words t line e =
    bound (numbers_line (codes "place") (suc (dims instance)) words) (suc n ∷ xs)
    (λ ns. share_line instance claim k bins places ns)
    (numbered_taken (codes "place") k (dims instance) n words xs line)
    ∙ required (nat_le 1 (suc n) && nat_le (suc n) k) range
    (coordinates xs >>= λ ys. behind_share instance claim k (bins ++ n ∷ []) (places ++ ys)
    (length (bins ++ n ∷ []) == box_count instance))
    (and_from _ _ (le-leb 1 (suc n) (omega arith)) (le-leb (suc n) k line.is_number.most))
    ∙ bound (coordinates xs) xs (λ ys. behind_share instance claim k (bins ++ n ∷ []) (places ++ ys)
    (length (bins ++ n ∷ []) == box_count instance)) (coordinates_are line.numbers xs line.are_coordinates)
    ∙ ap (behind_share instance claim k (bins ++ n ∷ []) (places ++ xs)) e

pub shares_given : (instance : PlainInstance) (claim : Claim) (k : ℕ) (bins places more_bins more : List ℕ)
    (front back : List (List (List ℕ)))
    → AreNumberedLines (codes "place") k (dims instance) front more_bins more
    → length (bins ++ more_bins) ≡ box_count instance → length bins < box_count instance
    → bins_reason instance k (bins ++ more_bins) (places ++ more) ≡ None
    → read_words (Sharing instance claim k bins places) (front ++ back)
    ≡ read_words (placed Answer claim (refutation_goal Answer instance claim)) back
shares_given instance claim k bins places [] more [] back are count low good =
    absurd (let a = ap length (append-nil bins) in omega (arith, a, count, low))
shares_given instance claim k bins places (n ∷ ns) more [] back are count low good = absurd are
shares_given instance claim k bins places [] more (words ∷ front) back are count low good = absurd are
shares_given instance claim k bins places (n ∷ ns) more (words ∷ front) back (xs, rest, e, line, later) count low good =
    let joined : places ++ more ≡ (places ++ xs) ++ rest =
    ap (λ m. places ++ m) e ∙ sym (append_assoc places xs rest) in
    let shared : bins ++ (n ∷ ns) ≡ (bins ++ n ∷ []) ++ ns = sym (append_assoc bins (n ∷ []) ns) in
    let total : length ((bins ++ n ∷ []) ++ ns) ≡ box_count instance = ap length (sym shared) ∙ count in
    let calm : bins_reason instance k ((bins ++ n ∷ []) ++ ns) ((places ++ xs) ++ rest) ≡ None =
    ap₂ (λ b p. bins_reason instance k b p) (sym shared) (sym joined) ∙ good in
    after_share (length (bins ++ n ∷ []) == box_count instance) refl xs rest line ns front later total calm
    (λ l. shares_given instance claim k (bins ++ n ∷ []) (places ++ xs) ns rest front back later total l calm)
  where
    after_share : (t : Bool) → (length (bins ++ n ∷ []) == box_count instance) ≡ t → (xs rest : List ℕ)
        → IsNumberedLine (codes "place") k (dims instance) words n xs
        → (ms : List ℕ) (lines : List (List (List ℕ)))
        → AreNumberedLines (codes "place") k (dims instance) lines ms rest
        → length ((bins ++ n ∷ []) ++ ms) ≡ box_count instance
        → bins_reason instance k ((bins ++ n ∷ []) ++ ms) ((places ++ xs) ++ rest) ≡ None
        → (length (bins ++ n ∷ []) < box_count instance
        → read_words (Sharing instance claim k (bins ++ n ∷ []) (places ++ xs)) (lines ++ back)
        ≡ read_words (placed Answer claim (refutation_goal Answer instance claim)) back)
        → read_words (Sharing instance claim k bins places) (words ∷ (lines ++ back))
        ≡ read_words (placed Answer claim (refutation_goal Answer instance claim)) back
    after_share true t xs rest line [] [] are total calm go_on =
        let quiet : bins_reason instance k (bins ++ n ∷ []) (places ++ xs) ≡ None =
        ap₂ (λ b p. bins_reason instance k b p) (sym (append-nil (bins ++ n ∷ [])))
        (sym (append-nil (places ++ xs)) ∙ ap (λ r. (places ++ xs) ++ r) (sym are)) ∙ calm in
        bound (words_line (Sharing instance claim k bins places) words) (placed Answer claim (refutation_goal Answer instance claim))
        (λ next. read_words next back)
        (share_taken instance claim k n bins places xs words true line t
        ∙ ap (λ o. refused_by o (Ok (placed Answer claim (refutation_goal Answer instance claim)))) quiet)
    after_share true t xs rest line [] (w ∷ ws) are total calm go_on = absurd are
    after_share true t xs rest line (m ∷ ms) [] are total calm go_on = absurd are
    after_share true t xs rest line (m ∷ ms) (w ∷ ws) are total calm go_on =
        absurd (let full = eqb-true (length (bins ++ n ∷ [])) (box_count instance) t in
        let a = length-append (bins ++ n ∷ []) (m ∷ ms) in omega (arith, a, total, full))
    after_share false t xs rest line ms lines are total calm go_on =
        bound (words_line (Sharing instance claim k bins places) words)
        (Sharing instance claim k (bins ++ n ∷ []) (places ++ xs)) (λ next. read_words next (lines ++ back))
        (share_taken instance claim k n bins places xs words false line t)
        ∙ go_on (less (length (bins ++ n ∷ [])) (box_count instance)
        (let a = length-append (bins ++ n ∷ []) ms in omega (arith, a, total)) t)

-- ---- taken boxes

-- the first of rising numbers is below each later one
first_below : (u : ℕ) (us : List ℕ) → IsStrictlyIncreasing (u ∷ us) → (x : ℕ) → IsIn x us → u < x
first_below u [] h x i = absurd i
first_below u (y ∷ us) h x (inl e) = let f : u < y = h 0 (omega arith) in omega (arith, e, f)
first_below u (y ∷ us) h x (inr i) = let f : u < y = h 0 (omega arith) in let g =
    first_below y us (rising_later u (y ∷ us) h) x i in omega (arith, f, g)

in_later : (v : ℕ) (us vs : List ℕ) → IsIn v (us ++ (v ∷ vs))
in_later v [] vs = inl refl
in_later v (u ∷ us) vs = inr (in_later v us vs)

-- each of rising numbers is below those that stand behind it
below_all : (us : List ℕ) (v : ℕ) (vs : List ℕ) → IsStrictlyIncreasing (us ++ (v ∷ vs))
    → list_all (λ u. nat_lt u v) us ≡ true
below_all [] v vs h = refl
below_all (u ∷ us) v vs h =
    and_from _ _ (lt-ltb u v (first_below u (us ++ (v ∷ vs)) h v (in_later v us vs)))
    (below_all us v vs (rising_later u (us ++ (v ∷ vs)) h))

abbrev behind_take : Heading → PlainInstance → Claim → ℕ → List ℕ → List ℕ → List (List ℕ) → Bool → Result Stage Reason
behind_take heading instance claim value taken places words t =
    elim t as (λ x. Result Stage Reason) [
      | true ↦ refused_by (taken_reason instance value taken places)
          (Ok (value_stage heading instance claim))
      | false ↦ numbers_line (codes "take") (suc (dims instance)) words
          >>= λ ns. take_box_line heading instance claim value taken places ns
    ]

take_taken : (heading : Heading) (instance : PlainInstance) (claim : Claim) (value v : ℕ) (taken places xs : List ℕ) (words : List (List ℕ))
    → IsNumberedLine (codes "take") (box_count instance) (dims instance) words v xs
    → list_all (λ u. nat_lt u v) taken ≡ true
    → words_line (Taking heading instance claim value taken places) words
    ≡ Ok (Taking heading instance claim value (taken ++ v ∷ []) (places ++ xs))
take_taken heading instance claim value v taken places xs words line below =
    ap (behind_take heading instance claim value taken places words) (ap (is_word (codes "proof")) line.are)
    ∙ bound (numbers_line (codes "take") (suc (dims instance)) words) (suc v ∷ xs)
    (λ ns. take_box_line heading instance claim value taken places ns)
    (numbered_taken (codes "take") (box_count instance) (dims instance) v words xs line)
    ∙ required (names_box instance (suc v) && list_all (λ u. nat_lt u v) taken) range
    (coordinates xs >>= λ ys. Ok (Taking heading instance claim value (taken ++ v ∷ []) (places ++ ys)))
    (and_from _ _ (and_from _ _ (le-leb 1 (suc v) (omega arith))
    (le-leb (suc v) (box_count instance) line.is_number.most)) below)
    ∙ bound (coordinates xs) xs (λ ys. Ok (Taking heading instance claim value (taken ++ v ∷ []) (places ++ ys)))
    (coordinates_are line.numbers xs line.are_coordinates)

pub takes_given : (heading : Heading) (instance : PlainInstance) (claim : Claim) (value : ℕ) (taken places more_taken more : List ℕ)
    (front back : List (List (List ℕ)))
    → AreNumberedLines (codes "take") (box_count instance) (dims instance) front more_taken more
    → IsStrictlyIncreasing (taken ++ more_taken)
    → taken_reason instance value (taken ++ more_taken) (places ++ more) ≡ None
    → read_words (Taking heading instance claim value taken places) (front ++ (codes "proof" ∷ []) ∷ back)
    ≡ read_words (value_stage heading instance claim) back
takes_given heading instance claim value taken places [] more [] back are rising good =
    let quiet : taken_reason instance value taken places ≡ None =
    ap₂ (λ t p. taken_reason instance value t p) (sym (append-nil taken))
    (sym (append-nil places) ∙ ap (λ r. places ++ r) (sym are)) ∙ good in
    bound (words_line (Taking heading instance claim value taken places) (codes "proof" ∷ []))
    (value_stage heading instance claim) (λ next. read_words next back)
    (ap (behind_take heading instance claim value taken places (codes "proof" ∷ [])) (is_same (codes "proof"))
    ∙ ap (λ o. refused_by o (Ok (value_stage heading instance claim))) quiet)
takes_given heading instance claim value taken places (v ∷ vs) more [] back are rising good = absurd are
takes_given heading instance claim value taken places [] more (words ∷ front) back are rising good = absurd are
takes_given heading instance claim value taken places (v ∷ vs) more (words ∷ front) back (xs, rest, e, line, later)
    rising good =
    let joined : places ++ more ≡ (places ++ xs) ++ rest =
    ap (λ m. places ++ m) e ∙ sym (append_assoc places xs rest) in
    let grown : taken ++ (v ∷ vs) ≡ (taken ++ v ∷ []) ++ vs = sym (append_assoc taken (v ∷ []) vs) in
    bound (words_line (Taking heading instance claim value taken places) words)
    (Taking heading instance claim value (taken ++ v ∷ []) (places ++ xs))
    (λ next. read_words next (front ++ (codes "proof" ∷ []) ∷ back))
    (take_taken heading instance claim value v taken places xs words line (below_all taken v vs rising))
    ∙ takes_given heading instance claim value (taken ++ v ∷ []) (places ++ xs) vs rest front back later
    (subst IsStrictlyIncreasing grown rising)
    (ap₂ (λ t p. taken_reason instance value t p) (sym grown) (sym joined) ∙ good)
