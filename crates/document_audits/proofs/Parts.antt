-- The parts of a text between its line feeds, where one text follows another.
use Rattle.std.proofs.Common.{◌≡◌, ℕ, ◌≤◌, ◌∙◌, refl, sym, ap, arith, Bool, true, false, cond, List, [], ◌∷◌, ◌++◌}
use Rattle.std.proofs.Common.{length, append-nil, append_assoc}
use Rattle.std.specs.List.{slice_split, onto_first}
use Rattle.std.proofs.lemmas.List.Splits.{length-slice_split}
use Rattle.text_terms.specs.Lines.{is_line_feed}
use Rattle.document_audits.specs.Openings.{all_but_last}

-- a text has a last part
pub last_part : (parts : List (List ℕ)) → 1 ≤ length parts → (part : List ℕ) × (parts ≡ all_but_last parts ++ part ∷ [])
last_part [] some = absurd (omega (arith, some))
last_part (part ∷ []) some = (part, refl)
last_part (part ∷ next ∷ more) some =
    let rest = last_part (next ∷ more) (omega arith) in
    (rest.0, ap (λ ps. part ∷ ps) rest.1)

pub but_last : (parts : List (List ℕ)) (part : List ℕ) → all_but_last (parts ++ part ∷ []) ≡ parts
but_last [] part = refl
but_last (p ∷ []) part = refl
but_last (p ∷ q ∷ parts) part = ap (λ ps. p ∷ ps) (but_last (q ∷ parts) part)

-- a part goes on with the first of others
abbrev pub joined : List ℕ → List (List ℕ) → List (List ℕ)
joined part [] = part ∷ []
joined part (first ∷ more) = (part ++ first) ∷ more

onto_joined : (x : ℕ) (part : List ℕ) (parts : List (List ℕ)) → onto_first x (joined part parts) ≡ joined (x ∷ part) parts
onto_joined x part [] = refl
onto_joined x part (first ∷ more) = refl

joined_none : (parts : List (List ℕ)) → 1 ≤ length parts → joined [] parts ≡ parts
joined_none [] some = absurd (omega (arith, some))
joined_none (first ∷ more) some = refl

-- the parts of a text and of what follows it
pub parts_on : (text more : List ℕ) (ended : List (List ℕ)) (part : List ℕ)
    → slice_split is_line_feed text ≡ ended ++ part ∷ []
    → slice_split is_line_feed (text ++ more) ≡ ended ++ joined part (slice_split is_line_feed more)
parts_on [] more [] part e =
    let none : [] ≡ part = cc (e) in
    sym (joined_none (slice_split is_line_feed more) (let l = length-slice_split is_line_feed more in omega (arith, l)))
    ∙ ap (λ p. joined p (slice_split is_line_feed more)) none
parts_on [] more (p ∷ []) part e = absurd (cc (e))
parts_on [] more (p ∷ q ∷ ended) part e = absurd (cc (e))
parts_on (x ∷ text) more ended part e =
    go (is_line_feed x) (slice_split is_line_feed text) refl
    (let l = length-slice_split is_line_feed text in omega (arith, l)) ended (λ es p. parts_on text more es p) e
  where
    go : (t : Bool) (parts : List (List ℕ)) → slice_split is_line_feed text ≡ parts → 1 ≤ length parts
        → (ended : List (List ℕ))
        → ((es : List (List ℕ)) (p : List ℕ) → slice_split is_line_feed text ≡ es ++ p ∷ []
        → slice_split is_line_feed (text ++ more) ≡ es ++ joined p (slice_split is_line_feed more))
        → cond t ([] ∷ slice_split is_line_feed text) (onto_first x (slice_split is_line_feed text)) ≡ ended ++ part ∷ []
        → cond t ([] ∷ slice_split is_line_feed (text ++ more)) (onto_first x (slice_split is_line_feed (text ++ more)))
        ≡ ended ++ joined part (slice_split is_line_feed more)
    go true parts is some [] later f = absurd (none parts is some (cc (f)))
      where
        none : (parts : List (List ℕ)) → slice_split is_line_feed text ≡ parts → 1 ≤ length parts
            → slice_split is_line_feed text ≡ [] → ⊥
        none [] is some g = omega (arith, some)
        none (p ∷ ps) is some g = absurd (cc (is, g))
    go true parts is some (e ∷ es) later f =
        let first : [] ≡ e = cc (f) in
        let rest : slice_split is_line_feed text ≡ es ++ part ∷ [] = cc (f) in
        ap (λ ps. [] ∷ ps) (later es part rest) ∙ ap (λ p. p ∷ (es ++ joined part (slice_split is_line_feed more))) first
    go false [] is some ended later f = absurd (omega (arith, some))
    go false (l ∷ ls) is some [] later f =
        let g : (x ∷ l) ∷ ls ≡ part ∷ [] = ap (onto_first x) (sym is) ∙ f in
        let one : x ∷ l ≡ part = cc (g) in
        let none : ls ≡ [] = cc (g) in
        ap (onto_first x) (later [] l (is ∙ ap (λ ps. l ∷ ps) none))
        ∙ (onto_joined x l (slice_split is_line_feed more)
        ∙ ap (λ p. joined p (slice_split is_line_feed more)) one)
    go false (l ∷ ls) is some (e ∷ es) later f =
        let g : (x ∷ l) ∷ ls ≡ e ∷ (es ++ part ∷ []) = ap (onto_first x) (sym is) ∙ f in
        let first : x ∷ l ≡ e = cc (g) in
        let rest : ls ≡ es ++ part ∷ [] = cc (g) in
        ap (onto_first x) (later (l ∷ es) part (is ∙ ap (λ ps. l ∷ ps) rest))
        ∙ ap (λ p. p ∷ (es ++ joined part (slice_split is_line_feed more))) first

-- a line feed ends the last part
pub ended_on : (text : List ℕ) (ended : List (List ℕ)) (part : List ℕ)
    → slice_split is_line_feed text ≡ ended ++ part ∷ []
    → slice_split is_line_feed (text ++ 10 ∷ []) ≡ (ended ++ part ∷ []) ++ [] ∷ []
ended_on text ended part e =
    parts_on text (10 ∷ []) ended part e ∙ ap (λ p. ended ++ p ∷ [] ∷ []) (append-nil part)
    ∙ sym (append_assoc ended (part ∷ []) ([] ∷ []))

-- another byte goes on with it
pub other_on : (text : List ℕ) (b : ℕ) (ended : List (List ℕ)) (part : List ℕ) → is_line_feed b ≡ false
    → slice_split is_line_feed text ≡ ended ++ part ∷ []
    → slice_split is_line_feed (text ++ b ∷ []) ≡ ended ++ (part ++ b ∷ []) ∷ []
other_on text b ended part other e =
    parts_on text (b ∷ []) ended part e
    ∙ ap (λ t. ended ++ joined part (cond t ([] ∷ ([] ∷ [])) (onto_first b ([] ∷ [])))) other
