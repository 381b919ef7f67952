-- The tokens of a refutation with priced leaves have lines.
--
-- A priced leaf is replaced by a leaf that is worth too little. That gives a plain refutation for a greater value, and
-- each token of a plain refutation has a line. So only the weights and the tuples of priced leaves are shown here.
use Rattle.std.proofs.Common.{◌≡◌, ℕ, suc, ◌+◌, ◌≤◌, refl, sym, ap, subst, ◌∙◌, arith, false, List, [], ◌∷◌, ◌++◌, map}
use Rattle.std.specs.List.{flat_map}
use Rattle.std.specs.Fmt.{decimal}
use Rattle.packing_terms.specs.declared.ScaleFn.{ScaleFn}
use Rattle.packing_terms.specs.Packing.{PlainInstance, dims, box_count}
use Rattle.packing_terms.specs.Goals.{worth}
use Rattle.packing_terms.specs.Limits.{max_boxes}
use Rattle.packing_terms.specs.Tokens.{PlainToken}
use Rattle.packing_terms.specs.Tokens.PlainToken.{ValueShort}
use Rattle.packing_terms.specs.Tokens.PlainToken.{Scales}
use Rattle.packing_terms.specs.OuterRefutation.{Choice, undecided, RefutesValue}
use Rattle.packing_terms.specs.OuterRefutation as plain
use Rattle.text_terms.specs.Texts.{is_none}
use Rattle.text_terms.proofs.Spelled.{AreWords}
use Rattle.text_terms.proofs.Back.{word_decimal}
use Rattle.text_terms.specs.TokenLines.{function_words, IsWrittenTuple}
use Rattle.text_terms.proofs.TokensPlain.{token_plain}
use Rattle.verdict_terms.specs.BoundedRefutation.{BoundedToken, Plain, PricedOut, Exchange, RefutesBounded}
use Rattle.verdict_terms.specs.BoundedRefutation.{IsBoundedRefutation, none_left, by_value, by_price, by_exchange}
use Rattle.verdict_terms.specs.BoundedRefutation.{by_set, by_box}
use Rattle.verdict_terms.specs.BoundedLines.{bounded_token_words, HasBoundedLine}
use Rattle.verdict_terms.specs.BoundedPaths.{stands_for}
use Rattle.verdict_terms.proofs.BoundedBack.{bounded_tokens_are_read_back}
use Rattle.verdict_terms.specs.Form.{AreBoundedLines}
use Rattle.answer_terms.proofs.Filled.{AreFilled}
use Rattle.answer_terms.proofs.OwnWritten.{HaveLines, IsBounded, tuple_written}
use Rattle.answer_terms.proofs.OuterWritten.{value_written}
use Rattle.answer_terms.specs.BoundedAnswers.{HaveParameters, bounded_token_lines}

-- each token has a line with d dimensions
abbrev pub HaveBoundedLines : ℕ → List BoundedToken → Type 0
HaveBoundedLines d [] = Unit {0}
HaveBoundedLines d (t ∷ ts) = HasBoundedLine d t × HaveBoundedLines d ts

-- ---- their lines

-- the words of a tuple are plain, since those of a line `v` are
tuple_plain : (d : ℕ) (fs : List ScaleFn) → IsWrittenTuple d fs → AreWords (flat_map function_words fs)
tuple_plain d fs h = (token_plain d (Scales fs) h).0.2

-- the words of a token are plain, and there are some
pub bounded_token_plain : (d : ℕ) (t : BoundedToken) → HasBoundedLine d t
    → AreWords (bounded_token_words t) × (is_none (bounded_token_words t) ≡ false)
bounded_token_plain d (Plain t) h = token_plain d t h
bounded_token_plain d (PricedOut q p fs) h =
    let weight = h.0 in
    let share_weight = h.1 in (
      (
        omega arith,
        refl,
        word_decimal q (omega (arith, weight)) (decimal p ∷ flat_map function_words fs)
            (word_decimal p (omega (arith, share_weight)) (flat_map function_words fs) (tuple_plain d fs h.2)),
      ),
      refl,
    )
bounded_token_plain d (Exchange u v) h =
    let first = h.0 in
    let second = h.1 in
    ((omega arith, refl, word_decimal u (omega (arith, first)) (decimal v ∷ []) (word_decimal v (omega (arith, second)) [] tt)), refl)

-- its line is filled, and read back as the token
pub bounded_filled : (d : ℕ) (ts : List BoundedToken) → HaveBoundedLines d ts → AreFilled (bounded_token_lines ts)
bounded_filled d [] h = tt
bounded_filled d (t ∷ ts) h = let p = bounded_token_plain d t h.0 in (p.0, p.1, bounded_filled d ts h.1)

pub bounded_are_lines : (d : ℕ) (ts : List BoundedToken) → HaveBoundedLines d ts
    → AreBoundedLines d (bounded_token_lines ts) ts
bounded_are_lines d [] h = tt
bounded_are_lines d (t ∷ ts) h = (bounded_tokens_are_read_back d t h.0, bounded_are_lines d ts h.1)

-- ---- the tuples of priced leaves

-- each priced leaf has a tuple that can be written
abbrev HaveTuples : ℕ → List BoundedToken → Type 0
HaveTuples d [] = Unit {0}
HaveTuples d (Plain t ∷ ts) = HaveTuples d ts
HaveTuples d (PricedOut q p fs ∷ ts) = IsWrittenTuple d fs × HaveTuples d ts
HaveTuples d (Exchange u v ∷ ts) = HaveTuples d ts

-- plain tokens in front have no tuples
behind_plain : (d : ℕ) (xs : List PlainToken) (ys : List BoundedToken) → HaveTuples d ys
    → HaveTuples d (map (λ t. Plain t) xs ++ ys)
behind_plain d [] ys h = h
behind_plain d (x ∷ xs) ys h = behind_plain d xs ys h

-- the tuple of a priced leaf is legal, so its parameters are small
tuples_written : (instance : PlainInstance) (goal : ℕ) → IsBounded instance → {nodes : List Choice}
    {z : List BoundedToken} → RefutesBounded instance goal nodes z → HaveTuples (dims instance) z
tuples_written instance goal bounded none_left = tt
tuples_written instance goal bounded (by_value short rest) = tuples_written instance goal bounded rest
tuples_written instance goal bounded (by_price {fs = fs} priced rest) =
    (tuple_written instance fs bounded priced.tuple, tuples_written instance goal bounded rest)
tuples_written instance goal bounded (by_exchange open_exchange rest) = tuples_written instance goal bounded rest
tuples_written instance goal bounded (by_set {x = x} {y = y} some refutes e rest) =
    subst (HaveTuples (dims instance)) (sym e)
    (behind_plain (dims instance) x y (tuples_written instance goal bounded rest))
tuples_written instance goal bounded (by_box new rest) = tuples_written instance goal bounded rest

-- ---- as a plain refutation

-- plain tokens stand for themselves
stand_for_plain : (xs : List PlainToken) (ys : List BoundedToken)
    → map stands_for (map (λ t. Plain t) xs ++ ys) ≡ xs ++ map stands_for ys
stand_for_plain [] ys = refl
stand_for_plain (x ∷ xs) ys = ap (λ zs. x ∷ zs) (stand_for_plain xs ys)

-- the tokens refute the nodes for each value from `least` on
record AreRefutedFrom (instance : PlainInstance) (nodes : List Choice) (tokens : List PlainToken) : Type 0 where
  least : ℕ
  refute : (goal : ℕ) → least ≤ goal → RefutesValue instance goal nodes tokens

-- one more than all that is in or undecided is worth
abbrev above : PlainInstance → Choice → ℕ
above instance c = suc (worth instance c.taken + worth instance (undecided instance c))

-- a leaf in front that is worth too little for a goal that is high enough
short_from : (instance : PlainInstance) (c : Choice) {nodes : List Choice} (ts : List PlainToken)
    → AreRefutedFrom instance nodes ts → AreRefutedFrom instance (c ∷ nodes) (ValueShort ∷ ts)
short_from instance c ts from = record {
  least = above instance c + from.least;
  refute = λ n l. plain.by_value (omega (arith, l)) (from.refute n (omega (arith, l)));
}

-- `least` is more than any leaf of these kinds may be worth, so each is worth too little
refuted_from : (instance : PlainInstance) (goal : ℕ) {nodes : List Choice} {z : List BoundedToken}
    → RefutesBounded instance goal nodes z → AreRefutedFrom instance nodes (map stands_for z)
refuted_from instance goal none_left = record { least = 0; refute = λ n l. plain.none_left }
refuted_from instance goal (by_value {c = c} {z = z} short rest) =
    short_from instance c (map stands_for z) (refuted_from instance goal rest)
refuted_from instance goal (by_price {c = c} {z = z} priced rest) =
    short_from instance c (map stands_for z) (refuted_from instance goal rest)
refuted_from instance goal (by_exchange {c = c} {z = z} open_exchange rest) =
    short_from instance c (map stands_for z) (refuted_from instance goal rest)
refuted_from instance goal (by_set {x = x} {y = y} some refutes e rest) =
    let from = refuted_from instance goal rest in
    record {
      least = from.least;
      refute = λ n l. plain.by_set some refutes (ap (map stands_for) e ∙ stand_for_plain x y) (from.refute n l);
    }
refuted_from instance goal (by_box new rest) =
    let from = refuted_from instance goal rest in
    record { least = from.least; refute = λ n l. plain.by_box new (from.refute n l) }

-- ---- refutations

-- a further leaf has a line if its numbers are small and its tuple can be written
lines_of_parts : (d : ℕ) (ts : List BoundedToken) → HaveLines d (map stands_for ts) → HaveParameters ts → HaveTuples d ts
    → HaveBoundedLines d ts
lines_of_parts d [] lines parameters tuples = tt
lines_of_parts d (Plain t ∷ ts) lines parameters tuples = (lines.0, lines_of_parts d ts lines.1 parameters tuples)
lines_of_parts d (PricedOut q p fs ∷ ts) lines parameters tuples =
    ((parameters.0, parameters.1, tuples.0), lines_of_parts d ts lines.1 parameters.2 tuples.1)
lines_of_parts d (Exchange u v ∷ ts) lines parameters tuples =
    ((parameters.0, parameters.1), lines_of_parts d ts lines.1 parameters.2 tuples)

-- each token of a refutation for a value has a line
pub bounded_written : (instance : PlainInstance) → IsBounded instance → box_count instance ≤ max_boxes → (goal : ℕ)
    (z : List BoundedToken) → IsBoundedRefutation instance goal z → HaveParameters z
    → HaveBoundedLines (dims instance) z
bounded_written instance bounded few goal z h parameters =
    let from = refuted_from instance goal h in
    lines_of_parts (dims instance) z
    (value_written instance bounded few from.least (map stands_for z) (from.refute from.least (omega arith)))
    parameters (tuples_written instance goal bounded h)
