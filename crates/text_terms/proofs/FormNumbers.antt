-- The numbers of a line, and what the words behind the sides of a box give.
use Rattle.std.proofs.Common.{◌≡◌, ℕ, suc, ◌≤◌, Bool, true, false, cond, not, ◌&&◌, List, [], ◌∷◌, drop, length, arith}
use Rattle.std.proofs.Common.{refl, sym, ap, subst, Result, Ok, Err, Option, Some, None, ◌⊎◌, inl, inr, codes}
use Rattle.std.specs.Prelude.{nat_le, ◌==◌}
use Rattle.std.proofs.lemmas.Bool.{leb-true, le-leb, eq-eqb, eqb-true, and_parts, and_from, and_right}
use Rattle.packing_terms.specs.Limits.{max_boxes}
use Rattle.text_terms.specs.Lines.{number_of, same_bytes}
use Rattle.packing_terms.specs.Results.{◌>>=◌}
use Rattle.text_terms.specs.Texts.{Ending, first_word, numbers_of, value_of, times_of, has_times_alone, ending_of}
use Rattle.text_terms.specs.Texts.{ranged_number, in_range, refuse}
use Rattle.text_terms.specs.Form.{AreNumbers, IsNumber, IsValueEnding, IsTimes, IsEnding}
use Rattle.text_terms.proofs.Keys.{same_bytes_Decides}
use Rattle.text_terms.proofs.Good.{bind_ok, refuse_ok}

pub word_is : (word key : List ℕ) → same_bytes word key ≡ true → word ≡ key
word_is word key e = (same_bytes_Decides word key).0 e

is_word : (word key : List ℕ) → word ≡ key → same_bytes word key ≡ true
is_word word key e = (same_bytes_Decides word key).1 e

-- ---- numbers and values

pub range_is : (low high n : ℕ) (word : List ℕ) → ranged_number low high word ≡ Ok n → IsNumber low high word n
range_is low high n word e = by_number (number_of word) refl e
  where
    within : (m : ℕ) (a b : Bool) → number_of word ≡ Some m → nat_le low m ≡ a → nat_le m high ≡ b
        → cond {A = Result ℕ ℕ} (a && b) (Ok m) (Err 4) ≡ Ok n → IsNumber low high word n
    within m true true is p q e = let same : m ≡ n = cc (e) in
        subst (IsNumber low high word) same (record { number = is; least = leb-true low m p; most = leb-true m high q })
    within m true false is p q e = absurd (cc (e))
    within m false b is p q e = absurd (cc (e))

    by_number : (o : Option ℕ) → number_of word ≡ o → in_range low high o ≡ Ok n → IsNumber low high word n
    by_number None is e = absurd (cc (e))
    by_number (Some m) is e = within m (nat_le low m) (nat_le m high) is refl refl e

pub is_range : (low high n : ℕ) (word : List ℕ) → IsNumber low high word n → ranged_number low high word ≡ Ok n
is_range low high n word is = rw (is.number, le-leb low n is.least, le-leb n high is.most) refl

pub numbers_are : (low : ℕ) (highs : List ℕ) (words : List (List ℕ)) (ns : List ℕ) → length words ≡ length highs
    → numbers_of low highs words ≡ Ok ns
    → AreNumbers low highs words ns
numbers_are low [] [] ns count e = let same : [] ≡ ns = cc in rw (← same) tt
numbers_are low [] (word ∷ words) ns count e = absurd (omega (arith, count))
numbers_are low (high ∷ highs) [] ns count e = absurd (omega (arith, count))
numbers_are low (high ∷ highs) (word ∷ words) ns count e =
    let head = bind_ok (ranged_number low high word) (λ n. numbers_of low highs words >>= λ ns. Ok (n ∷ ns)) ns e in
    let tail = bind_ok (numbers_of low highs words) (λ ns. Ok (head.0 ∷ ns)) ns head.2 in
    let same : head.0 ∷ tail.0 ≡ ns = cc (tail.2) in
    rw (← same) (range_is low high head.0 word head.1, numbers_are low highs words tail.0 (omega (arith, count)) tail.1)

pub are_numbers : (low : ℕ) (highs : List ℕ) (words : List (List ℕ)) (ns : List ℕ) → AreNumbers low highs words ns
    → numbers_of low highs words ≡ Ok ns
are_numbers low [] [] [] are = refl
are_numbers low [] [] (n ∷ ns) are = absurd are
are_numbers low [] (word ∷ words) ns are = absurd are
are_numbers low (high ∷ highs) [] ns are = absurd are
are_numbers low (high ∷ highs) (word ∷ words) [] are = absurd are
are_numbers low (high ∷ highs) (word ∷ words) (n ∷ ns) are =
    rw (is_range low high n word are.0, are_numbers low highs words ns are.1) refl

-- there are as many words and numbers as high numbers
pub record AreCounted (highs : List ℕ) (words : List (List ℕ)) (ns : List ℕ) : Type 0 where
  pub words_count : length words ≡ length highs
  pub count : length ns ≡ length highs

pub numbers_count : (low : ℕ) (highs : List ℕ) (words : List (List ℕ)) (ns : List ℕ) → AreNumbers low highs words ns
    → AreCounted highs words ns
numbers_count low [] [] [] are = record { words_count = refl; count = refl }
numbers_count low [] [] (n ∷ ns) are = absurd are
numbers_count low [] (word ∷ words) ns are = absurd are
numbers_count low (high ∷ highs) [] ns are = absurd are
numbers_count low (high ∷ highs) (word ∷ words) [] are = absurd are
numbers_count low (high ∷ highs) (word ∷ words) (n ∷ ns) are =
    let more = numbers_count low highs words ns are.1 in
    record { words_count = ap suc more.words_count; count = ap suc more.count }

value_is : (key number : List ℕ) (words : List (List ℕ)) (value : ℕ) → value_of (key ∷ number ∷ words) ≡ Ok value
    → IsValueEnding key number value
value_is key number words value e = by_key (same_bytes key (codes "value")) refl e
  where
    by_key : (t : Bool) → same_bytes key (codes "value") ≡ t
        → cond {A = Result ℕ ℕ} t (ranged_number 0 1000000000 number) (Err 1) ≡ Ok value → IsValueEnding key number value
    by_key true k e = (word_is key (codes "value") k, range_is 0 1000000000 value number e)
    by_key false k e = absurd (cc (e))

is_value : (key number : List ℕ) (words : List (List ℕ)) (value : ℕ) → IsValueEnding key number value
    → value_of (key ∷ number ∷ words) ≡ Ok value
is_value key number words value is = rw (is_word key (codes "value") is.0) (is_range 0 1000000000 value number is.1)

times_is : (format room : ℕ) (key number : List ℕ) (words : List (List ℕ)) (times : ℕ) → format ≡ 2
    → times_of room (key ∷ number ∷ words) ≡ Ok times
    → IsTimes format key number times
times_is format room key number words times two e = by_key (same_bytes key (codes "times")) refl e
  where
    counted : (ranged_number 1 max_boxes number >>= λ n. refuse (not (nat_le n room)) 9 (Ok n)) ≡ Ok times
        → IsNumber 1 max_boxes number times
    counted e =
        let n = bind_ok (ranged_number 1 max_boxes number) (λ n. refuse (not (nat_le n room)) 9 (Ok n)) times e in
        let f = refuse_ok (not (nat_le n.0 room)) 9 (Ok n.0) times n.2 in
        let same : n.0 ≡ times = cc (f.1) in
        subst (IsNumber 1 max_boxes number) same (range_is 1 max_boxes n.0 number n.1)

    by_key : (t : Bool) → same_bytes key (codes "times") ≡ t
        → cond {A = Result ℕ ℕ} t (ranged_number 1 max_boxes number >>= λ n. refuse (not (nat_le n room)) 9 (Ok n))
        (Err 1) ≡ Ok times → IsTimes format key number times
    by_key true k e = (two, word_is key (codes "times") k, counted e)
    by_key false k e = absurd (cc (e))

is_times : (format room : ℕ) (key number : List ℕ) (words : List (List ℕ)) (times : ℕ) → times ≤ room
    → IsTimes format key number times
    → times_of room (key ∷ number ∷ words) ≡ Ok times
is_times format room key number words times few is =
    rw (is_word key (codes "times") is.1, is_range 1 max_boxes times number is.2, le-leb times room few) refl

-- `value` isn't `times`
value_alone : (format : ℕ) (key number : List ℕ) (words : List (List ℕ)) → key ≡ codes "value"
    → has_times_alone format (key ∷ number ∷ words) ≡ false
unfolding same_bytes
value_alone format key number words e =
    let f : same_bytes key (codes "times") ≡ false = ap (λ w. same_bytes w (codes "times")) e in
    and_right (format == 2) (length (key ∷ number ∷ words) == 2 && same_bytes key (codes "times"))
    (and_right (length (key ∷ number ∷ words) == 2) (same_bytes key (codes "times")) f)

-- what the words after the sides give is what they are
pub is_ending : (format room : ℕ) (words : List (List ℕ)) (value times : ℕ) → times ≤ room
    → IsEnding format words value times
    → ending_of format room words ≡ Ok (record { value = value; times = times })
is_ending format room [] value times few is =
    let t : has_times_alone format [] ≡ false = and_right (format == 2) false refl in
    rw (t, is.0, is.1) refl
is_ending format room (key ∷ []) value times few is = absurd is
is_ending format room (key ∷ number ∷ []) value times few (inl is) =
    rw (value_alone format key number [] is.0.0, is_value key number [] value is.0, is.1) refl
is_ending format room (key ∷ number ∷ []) value times few (inr is) =
    let t : has_times_alone format (key ∷ number ∷ []) ≡ true =
    and_from (format == 2) (same_bytes key (codes "times")) (eq-eqb format 2 is.0.0)
    (is_word key (codes "times") is.0.1) in
    rw (t, is_times format room key number [] times few is.0, is.1) refl
is_ending format room (key ∷ number ∷ next ∷ []) value times few is = absurd is
is_ending format room (key ∷ number ∷ next ∷ count ∷ []) value times few is =
    rw (
      value_alone format key number (next ∷ count ∷ []) is.0.0,
      is_value key number (next ∷ count ∷ []) value is.0,
      is_times format room next count [] times few is.1,
    ) refl
is_ending format room (key ∷ number ∷ next ∷ count ∷ word ∷ words) value times few is = absurd is

-- how many words an ending has
abbrev pub HasLength : ℕ → List (List ℕ) → Type 0
HasLength format words = (length words ≡ 0) ⊎ ((length words ≡ 2) ⊎ ((format ≡ 2) × (length words ≡ 4)))

pub ending_is : (format room : ℕ) (words : List (List ℕ)) (ending : Ending) → HasLength format words
    → ending_of format room words ≡ Ok ending
    → IsEnding format words ending.value ending.times
ending_is format room words ending count e = by_key (has_times_alone format words) refl e
  where
    by_times : (words : List (List ℕ)) → has_times_alone format words ≡ true → (times : ℕ)
        → times_of room words ≡ Ok times → IsEnding format words 1 times
    by_times words alone times e =
        let f = and_parts (format == 2) ((length words == 2) && same_bytes (first_word words) (codes "times")) alone in
        let n = and_parts (length words == 2) (same_bytes (first_word words) (codes "times")) f.1 in
        two words (eqb-true (length words) 2 n.0) e
      where
        two : (ws : List (List ℕ)) → length ws ≡ 2 → times_of room ws ≡ Ok times → IsEnding format ws 1 times
        two [] n e = absurd (omega (arith, n))
        two (key ∷ []) n e = absurd (omega (arith, n))
        two (key ∷ number ∷ []) n e =
            inr (
              times_is format room key number [] times
                  (eqb-true format 2 (and_parts (format == 2)
                  ((length words == 2) && same_bytes (first_word words) (codes "times")) alone).0) e,
              refl,
            )
        two (key ∷ number ∷ next ∷ more) n e = absurd (omega (arith, n))

    by_value : (words : List (List ℕ)) → HasLength format words → (value times : ℕ) → value_of words ≡ Ok value
        → times_of room (drop 2 words) ≡ Ok times
        → IsEnding format words value times
    by_value [] count value times v t = let a : 1 ≡ value = cc (v) in let b : 1 ≡ times = cc (t) in (sym a, sym b)
    by_value (key ∷ []) count value times v t = absurd (odd count)
      where
        odd : HasLength format (key ∷ []) → ⊥
        odd (inl h) = absurd (omega (arith, h))
        odd (inr (inl h)) = absurd (omega (arith, h))
        odd (inr (inr h)) = absurd (omega (arith, h.1))
    by_value (key ∷ number ∷ []) count value times v t = let b : 1 ≡ times = cc (t) in
        inl (value_is key number [] value v, sym b)
    by_value (key ∷ number ∷ next ∷ []) count value times v t = absurd (odd count)
      where
        odd : HasLength format (key ∷ number ∷ next ∷ []) → ⊥
        odd (inl h) = absurd (omega (arith, h))
        odd (inr (inl h)) = absurd (omega (arith, h))
        odd (inr (inr h)) = absurd (omega (arith, h.1))
    by_value (key ∷ number ∷ next ∷ number2 ∷ []) count value times v t =
        (value_is key number (next ∷ number2 ∷ []) value v, times_is format room next number2 [] times (two count) t)
      where
        two : HasLength format (key ∷ number ∷ next ∷ number2 ∷ []) → format ≡ 2
        two (inl h) = absurd (omega (arith, h))
        two (inr (inl h)) = absurd (omega (arith, h))
        two (inr (inr h)) = h.0
    by_value (key ∷ number ∷ next ∷ number2 ∷ word ∷ words) count value times v t = absurd (long count)
      where
        long : HasLength format (key ∷ number ∷ next ∷ number2 ∷ word ∷ words) → ⊥
        long (inl h) = absurd (omega (arith, h))
        long (inr (inl h)) = absurd (omega (arith, h))
        long (inr (inr h)) = absurd (omega (arith, h.1))

    by_key : (t : Bool) → has_times_alone format words ≡ t
        → cond t (times_of room words >>= λ times. Ok (record { value = 1; times = times }))
        (value_of words >>= λ value. times_of room (drop 2 words)
        >>= λ times. Ok (record { value = value; times = times })) ≡ Ok ending
        → IsEnding format words ending.value ending.times
    by_key true k e =
        let t = bind_ok (times_of room words) (λ times. Ok (record { value = 1; times = times })) ending e in
        let same : record { value = 1; times = t.0 } ≡ ending = cc (t.2) in
        subst (λ (x : Ending). IsEnding format words x.value x.times) same (by_times words k t.0 t.1)
    by_key false k e =
        let v = bind_ok (value_of words)
        (λ value. times_of room (drop 2 words) >>= λ times. Ok (record { value = value; times = times })) ending e in
        let t = bind_ok (times_of room (drop 2 words)) (λ times. Ok (record { value = v.0; times = times }))
        ending v.2 in
        let same : record { value = v.0; times = t.0 } ≡ ending = cc (t.2) in
        subst (λ (x : Ending). IsEnding format words x.value x.times) same (by_value words count v.0 t.0 v.1 t.1)

pub ending_length : (format : ℕ) (words : List (List ℕ)) (value times : ℕ) → IsEnding format words value times
    → HasLength format words
ending_length format [] value times is = inl refl
ending_length format (key ∷ []) value times is = absurd is
ending_length format (key ∷ number ∷ []) value times is = inr (inl refl)
ending_length format (key ∷ number ∷ next ∷ []) value times is = absurd is
ending_length format (key ∷ number ∷ next ∷ count ∷ []) value times is = inr (inr (is.1.0, refl))
ending_length format (key ∷ number ∷ next ∷ count ∷ word ∷ words) value times is = absurd is

-- a line stands for one box or more
pub times_some : (format : ℕ) (words : List (List ℕ)) (value times : ℕ) → IsEnding format words value times → 1 ≤ times
times_some format [] value times is = let e = is.1 in omega (arith, e)
times_some format (key ∷ []) value times is = absurd is
times_some format (key ∷ number ∷ []) value times (inl is) = let e = is.1 in omega (arith, e)
times_some format (key ∷ number ∷ []) value times (inr is) = is.0.2.least
times_some format (key ∷ number ∷ next ∷ []) value times is = absurd is
times_some format (key ∷ number ∷ next ∷ count ∷ []) value times is = is.1.2.least
times_some format (key ∷ number ∷ next ∷ count ∷ word ∷ words) value times is = absurd is
