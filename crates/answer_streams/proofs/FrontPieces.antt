-- The text of a front in its pieces.
use Rattle.std.proofs.Common.{◌≡◌, ℕ, zero, suc, ◌+◌, ◌-◌, ◌*◌, ◌<◌, ◌≤◌, arith, refl, sym, ap, ◌∙◌, Bool, true, List}
use Rattle.std.proofs.Common.{[], ◌∷◌, ◌++◌, map, length, take, drop, get_or, codes, append_assoc, append-nil}
use Rattle.std.specs.Prelude.{◌==◌, cond}
use Rattle.std.specs.Fmt.{decimal}
use Rattle.std.proofs.lemmas.Bool.{eq-eqb}
use Rattle.std.proofs.lemmas.List.{take_more, length-take-le, length-map}
use Rattle.std.proofs.Math.Seq.{take-length}
use Rattle.packing_terms.specs.Tokens.{PlainToken}
use Rattle.text_terms.specs.Spelling.{spaced}
use Rattle.proof_tree.specs.Lines.{token_line, token_text}
use Rattle.verdict_terms.specs.Lines.{PlainLine, CornerAt, PointAt, PlaceAt, TreeToken}
use Rattle.answer_terms.specs.Walks.{PlainCorner, PlainPoint}
use Rattle.answer_terms.specs.WalkLines.{corner_lines, point_lines, place_lines, step_lines, lines_of}
use Rattle.answer_terms.specs.FrontTexts.{line_words}
use Rattle.size_front.specs.declared.front.Corner.{Corner}
use Rattle.size_front.specs.declared.front.Point.{Point}
use Rattle.size_front.specs.Plain.{plain_corner, plain_point}
use Rattle.answer_streams.specs.FrontTexts.{text_of, pair_text, corner_at, point_at, AreAllPlaced}

pub text_append : (a b : List PlainLine) → text_of (a ++ b) ≡ text_of a ++ text_of b
text_append [] b = refl
text_append (l ∷ a) b = ap (λ t. (spaced (line_words l) ++ 10 ∷ []) ++ t) (text_append a b)
    ∙ sym (append_assoc (spaced (line_words l) ++ 10 ∷ []) (text_of a) (text_of b))

tokens_text : (ts : List PlainToken) → text_of (map TreeToken ts) ≡ token_text ts
tokens_text [] = refl
tokens_text (t ∷ ts) = ap (λ x. token_line t ++ x) (tokens_text ts)

-- ---- lines of two numbers

two_ends : (a b : List ℕ) → (a ++ (32 ∷ (b ++ []))) ++ (10 ∷ []) ≡ a ++ (32 ∷ (b ++ 10 ∷ []))
two_ends a b = append_assoc a (32 ∷ (b ++ [])) (10 ∷ []) ∙ ap (λ x. a ++ (32 ∷ (x ++ 10 ∷ []))) (append-nil b)

corner_pair : (w h : ℕ) (rest : List PlainLine) → text_of (CornerAt w h ∷ rest) ≡ pair_text (codes "corner ") w h
    ++ text_of rest
corner_pair w h rest = ap (λ x. (codes "corner " ++ x) ++ text_of rest) (two_ends (decimal w) (decimal h))

point_pair : (w h : ℕ) (rest : List PlainLine) → text_of (PointAt w h ∷ rest) ≡ pair_text (codes "point ") w h
    ++ text_of rest
point_pair w h rest = ap (λ x. (codes "point " ++ x) ++ text_of rest) (two_ends (decimal w) (decimal h))

place_pair : (x y : ℕ) → text_of (PlaceAt (x ∷ y ∷ []) ∷ []) ≡ pair_text (codes "place ") x y
place_pair x y = ap (λ z. (codes "place " ++ z) ++ []) (two_ends (decimal x) (decimal y))
    ∙ append-nil (pair_text (codes "place ") x y)

pub corner_text : (w h : ℕ) (ts : List PlainToken) → pair_text (codes "corner ") w h ++ token_text ts
    ≡ text_of (CornerAt w h ∷ map TreeToken ts)
corner_text w h ts = sym (corner_pair w h (map TreeToken ts)
    ∙ ap (λ x. pair_text (codes "corner ") w h ++ x) (tokens_text ts))

pub point_text : (w h : ℕ) (places : List ℕ) → pair_text (codes "point ") w h ++ text_of (place_lines places)
    ≡ text_of (PointAt w h ∷ place_lines places)
point_text w h places = sym (point_pair w h (place_lines places))

-- ---- places

even_more : (zs : List ℕ) (j : ℕ) → length zs ≡ 2 * j → (x y : ℕ) → place_lines (zs ++ x ∷ y ∷ []) ≡ place_lines zs
    ++ PlaceAt (x ∷ y ∷ []) ∷ []
even_more [] j e x y = refl
even_more (a ∷ []) j e x y = absurd (omega (arith, e))
even_more (a ∷ b ∷ zs) zero e x y = absurd (omega (arith, e))
even_more (a ∷ b ∷ zs) (suc j) e x y = ap (λ l. PlaceAt (a ∷ b ∷ []) ∷ l) (even_more zs j (omega (arith, e)) x y)

pub places_more : (xs : List ℕ) (k x y m d : ℕ) → 2 * k + 1 < length xs → m ≡ 2 * k → x ≡ get_or xs m d
    → y ≡ get_or xs (m + 1) d
    → text_of (place_lines (take (2 * k) xs)) ++ pair_text (codes "place ") x y
    ≡ text_of (place_lines (take (2 * (k + 1)) xs))
places_more xs k x y m d l n e f =
    ap (λ t. text_of (place_lines (take (2 * k) xs)) ++ t) (sym (place_pair x y))
    ∙ (sym (text_append (place_lines (take (2 * k) xs)) (PlaceAt (x ∷ y ∷ []) ∷ []))
    ∙ (ap text_of (sym (even_more (take (2 * k) xs) k (length-take-le (2 * k) xs (omega (arith, l))) x y))
    ∙ ap (λ zs. text_of (place_lines zs)) (sym taken)))
  where
    first : take (2 * k + 1) xs ≡ take (2 * k) xs ++ x ∷ []
    first = take_more xs (2 * k) d (omega (arith, l))
        ∙ ap (λ z. take (2 * k) xs ++ z ∷ []) (ap (λ i. get_or xs i d) (sym n) ∙ sym e)

    second : take (2 * k + 1 + 1) xs ≡ take (2 * k + 1) xs ++ y ∷ []
    second = take_more xs (2 * k + 1) d (omega (arith, l))
        ∙ ap (λ z. take (2 * k + 1) xs ++ z ∷ []) (ap (λ i. get_or xs (i + 1) d) (sym n) ∙ sym f)

    taken : take (2 * (k + 1)) xs ≡ take (2 * k) xs ++ x ∷ y ∷ []
    taken =
        let same : 2 * (k + 1) ≡ 2 * k + 1 + 1 = omega arith in
        ap (λ i. take i xs) same ∙ (second
        ∙ (ap (λ zs. zs ++ y ∷ []) first ∙ append_assoc (take (2 * k) xs) (x ∷ []) (y ∷ [])))

-- ---- the lines of an index

pub corner_here : (cs : List Corner) (k : ℕ) (d : Corner) → k < length cs
    → corner_at (map plain_corner cs) k ≡ corner_lines (plain_corner (get_or cs k d))
corner_here [] k d l = absurd (omega (arith, l))
corner_here (c ∷ cs) zero d l = refl
corner_here (c ∷ cs) (suc k) d l = corner_here cs k d (omega (arith, l))

pub corner_none : (cs : List Corner) (k : ℕ) → length cs ≤ k → corner_at (map plain_corner cs) k ≡ []
corner_none [] k l = refl
corner_none (c ∷ cs) zero l = absurd (omega (arith, l))
corner_none (c ∷ cs) (suc k) l = corner_none cs k (omega (arith, l))

pub point_here : (ps : List Point) (k : ℕ) (d : Point) → k < length ps
    → point_at (map plain_point ps) k ≡ point_lines (plain_point (get_or ps k d))
point_here [] k d l = absurd (omega (arith, l))
point_here (p ∷ ps) zero d l = refl
point_here (p ∷ ps) (suc k) d l = point_here ps k d (omega (arith, l))

pub point_none : (ps : List Point) (k : ℕ) → length ps ≤ k → point_at (map plain_point ps) k ≡ []
point_none [] k l = refl
point_none (p ∷ ps) zero l = absurd (omega (arith, l))
point_none (p ∷ ps) (suc k) l = point_none ps k (omega (arith, l))

pub placed_here : (boxes : ℕ) (ps : List Point) (k : ℕ) (d : Point) → k < length ps → AreAllPlaced boxes ps
    → length (get_or ps k d).places.items ≡ 2 * boxes
placed_here boxes [] k d l h = absurd (omega (arith, l))
placed_here boxes (p ∷ ps) zero d l h = h.0
placed_here boxes (p ∷ ps) (suc k) d l h = placed_here boxes ps k d (omega (arith, l)) h.1

cond_on : {A : Type 0} (b : Bool) (x y : A) → b ≡ true → cond b x y ≡ x
cond_on b x y e = rw e refl

-- ---- steps

-- at most `k` elements from the beginning
abbrev pub first : {A : Type 0} → ℕ → List A → List A
first k [] = []
first zero (x ∷ xs) = []
first (suc k) (x ∷ xs) = x ∷ first k xs

first_zero : {A : Type 0} (xs : List A) → first 0 xs ≡ []
first_zero [] = refl
first_zero (x ∷ xs) = refl

step_more : (cs : List PlainCorner) (ps : List PlainPoint) (k : ℕ)
    → step_lines (first (suc k) cs) (first (suc k) ps) ≡ step_lines (first k cs) (first k ps)
    ++ (corner_at cs k ++ point_at ps k)
step_more [] [] k = refl
step_more (c ∷ cs) [] zero = ap (λ x. corner_lines c ++ step_lines x []) (first_zero cs)
step_more (c ∷ cs) [] (suc k) =
    ap (λ x. corner_lines c ++ x) (step_more cs [] k)
    ∙ sym (append_assoc (corner_lines c) (step_lines (first k cs) []) (corner_at cs k ++ []))
step_more [] (p ∷ ps) zero = ap (λ x. point_lines p ++ step_lines [] x) (first_zero ps) ∙ append-nil (point_lines p)
step_more [] (p ∷ ps) (suc k) =
    ap (λ x. point_lines p ++ x) (step_more [] ps k)
    ∙ sym (append_assoc (point_lines p) (step_lines [] (first k ps)) (point_at ps k))
step_more (c ∷ cs) (p ∷ ps) zero =
    ap (λ x. corner_lines c ++ (point_lines p ++ step_lines x (first 0 ps))) (first_zero cs)
    ∙ (ap (λ x. corner_lines c ++ (point_lines p ++ step_lines [] x)) (first_zero ps)
    ∙ ap (λ x. corner_lines c ++ x) (append-nil (point_lines p)))
step_more (c ∷ cs) (p ∷ ps) (suc k) =
    ap (λ x. corner_lines c ++ (point_lines p ++ x)) (step_more cs ps k)
    ∙ (ap (λ x. corner_lines c ++ x)
    (sym (append_assoc (point_lines p) (step_lines (first k cs) (first k ps)) (corner_at cs k ++ point_at ps k)))
    ∙ sym (append_assoc (corner_lines c) (point_lines p ++ step_lines (first k cs) (first k ps))
    (corner_at cs k ++ point_at ps k)))

pub steps_none : (cs : List PlainCorner) (ps : List PlainPoint) → text_of (step_lines (first 0 cs) (first 0 ps)) ≡ []
steps_none [] [] = refl
steps_none [] (p ∷ ps) = refl
steps_none (c ∷ cs) [] = refl
steps_none (c ∷ cs) (p ∷ ps) = refl

pub steps_more : (cs : List PlainCorner) (ps : List PlainPoint) (k : ℕ)
    → text_of (step_lines (first k cs) (first k ps)) ++ (text_of (corner_at cs k) ++ text_of (point_at ps k))
    ≡ text_of (step_lines (first (k + 1) cs) (first (k + 1) ps))
steps_more cs ps k =
    let next : k + 1 ≡ suc k = omega arith in
    sym (ap (λ i. text_of (step_lines (first i cs) (first i ps))) next
    ∙ (ap text_of (step_more cs ps k)
    ∙ (text_append (step_lines (first k cs) (first k ps)) (corner_at cs k ++ point_at ps k)
    ∙ ap (λ x. text_of (step_lines (first k cs) (first k ps)) ++ x) (text_append (corner_at cs k) (point_at ps k)))))

first_whole : {A : Type 0} (xs : List A) (k : ℕ) → length xs ≤ k → first k xs ≡ xs
first_whole [] k l = refl
first_whole (x ∷ xs) zero l = absurd (omega (arith, l))
first_whole (x ∷ xs) (suc k) l = ap (λ ys. x ∷ ys) (first_whole xs k (omega (arith, l)))

pub steps_all : (cs : List Corner) (ps : List Point) (k : ℕ) → length cs ≤ k → length ps ≤ k
    → text_of (step_lines (first k (map plain_corner cs)) (first k (map plain_point ps)))
    ≡ text_of (step_lines (map plain_corner cs) (map plain_point ps))
steps_all cs ps k l m =
    let c = length-map cs plain_corner in
    let p = length-map ps plain_point in
    ap (λ x. text_of (step_lines x (first k (map plain_point ps))))
    (first_whole (map plain_corner cs) k (omega (arith, c, l)))
    ∙ ap (λ x. text_of (step_lines (map plain_corner cs) x)) (first_whole (map plain_point ps) k (omega (arith, p, m)))

-- a first point of width 1 has no corner before it
pub first_point : (cs : List PlainCorner) (ps : List Point) (x : Point) → 0 < length ps → x ≡ get_or ps 0 x
    → x.width ≡ 1
    → text_of (point_at (map plain_point ps) 0)
    ++ text_of (step_lines cs (map plain_point (take (length ps - 1) (drop 1 ps))))
    ≡ text_of (lines_of cs (map plain_point ps))
first_point cs [] x l e f = absurd (omega (arith, l))
first_point cs (p ∷ ps) x l e f =
    let one : (p.width == 1) ≡ true = eq-eqb p.width 1 (sym (ap (λ (y : Point). y.width) e) ∙ f) in
    let less : length (p ∷ ps) - 1 ≡ length ps = omega arith in
    ap (λ (qs : List Point). text_of (point_lines (plain_point p)) ++ text_of (step_lines cs (map plain_point qs)))
    (ap (λ n. take n ps) less ∙ take-length ps)
    ∙ sym (ap text_of (cond_on (p.width == 1) (point_lines (plain_point p) ++ step_lines cs (map plain_point ps))
    (step_lines cs (plain_point p ∷ map plain_point ps)) one)
    ∙ text_append (point_lines (plain_point p)) (step_lines cs (map plain_point ps)))

-- all places are there where those of `k` boxes were written
pub places_all : (xs : List ℕ) (k : ℕ) → length xs ≡ 2 * k
    → text_of (place_lines (take (2 * k) xs)) ≡ text_of (place_lines xs)
places_all xs k e = ap (λ n. text_of (place_lines (take n xs))) (sym e)
    ∙ ap (λ ys. text_of (place_lines ys)) (take-length xs)
