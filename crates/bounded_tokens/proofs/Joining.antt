-- The numbers of a line of a family, read one by one.
use Rattle.std.proofs.Common.{◌≡◌, ℕ, zero, suc, ◌+◌, ◌<◌, ◌≤◌, refl, sym, ap, ◌∙◌, arith, cond, List, []}
use Rattle.std.proofs.Common.{◌∷◌, ◌++◌, length, drop, get_or, Option, Some, None, append_assoc, append-nil, length-append}
use Rattle.std.proofs.lemmas.Bool.{le-leb}
use Rattle.std.proofs.lemmas.List.{length-drop}
use Rattle.text_terms.specs.TokenLines.{parameter, parameters, in_front}
use Rattle.text_terms.proofs.Cuts.{parameters_many}
use Rattle.verdict_terms.specs.FamilyRefutation.{Family}
use Rattle.verdict_terms.specs.FamilyLines.{most_joining, family_by}
use Rattle.verdict_terms.proofs.FamilyBack.{many_joining}

-- the numbers before, and those of the words that are left
abbrev pub behind : List ℕ → Option (List ℕ) → Option (List ℕ)
behind xs None = None
behind xs (Some ys) = Some (xs ++ ys)

-- the numbers from word `from` on, as far as word k
abbrev pub AreJoined : List (List ℕ) → ℕ → ℕ → List ℕ → Type 0
AreJoined words from k xs = (parameters (drop from words) ≡ behind xs (parameters (drop k words)))
    × (from + length xs ≡ k) × (k ≤ length words)

next_word : (words : List (List ℕ)) (k : ℕ) → k < length words
    → parameters (drop k words) ≡ in_front (parameter (get_or words k [])) (parameters (drop (suc k) words))
next_word [] k l = absurd (omega (arith, l))
next_word (word ∷ words) zero l = refl
next_word (word ∷ words) (suc k) l = next_word words k (omega (arith, l))

no_behind : (xs : List ℕ) (o : Option (List ℕ)) → behind xs (in_front None o) ≡ None
no_behind xs o = refl

one_behind : (xs : List ℕ) (n : ℕ) (o : Option (List ℕ)) → behind xs (in_front (Some n) o) ≡ behind (xs ++ n ∷ []) o
one_behind xs n None = refl
one_behind xs n (Some ys) = ap Some (sym (append_assoc xs (n ∷ []) ys))

pub joined_none : (words : List (List ℕ)) (from : ℕ) → from ≤ length words → AreJoined words from from []
joined_none words from within = (go (parameters (drop from words)), omega arith, within)
  where
    go : (o : Option (List ℕ)) → o ≡ behind [] o
    go None = refl
    go (Some ys) = refl

pub joined_more : (words : List (List ℕ)) (from k : ℕ) (xs : List ℕ) (n : ℕ) → AreJoined words from k xs
    → k < length words → parameter (get_or words k []) ≡ Some n → AreJoined words from (suc k) (xs ++ n ∷ [])
joined_more words from k xs n h l e = (
  h.0
      ∙ ap (behind xs) (next_word words k l ∙ ap (λ x. in_front x (parameters (drop (suc k) words))) e)
      ∙ one_behind xs n (parameters (drop (suc k) words)),
  (let count = h.1 in let more = length-append xs (n ∷ []) in omega (arith, count, more)),
  omega (arith, l),
)

pub joined_bad : (words : List (List ℕ)) (from k : ℕ) (xs : List ℕ) → AreJoined words from k xs → k < length words
    → parameter (get_or words k []) ≡ None → None ≡ parameters (drop from words)
joined_bad words from k xs h l e =
    sym (h.0 ∙ ap (behind xs) (next_word words k l ∙ ap (λ x. in_front x (parameters (drop (suc k) words))) e))

pub joined_all : (words : List (List ℕ)) (from k : ℕ) (xs : List ℕ) → AreJoined words from k xs → k ≡ length words
    → Some xs ≡ parameters (drop from words)
joined_all words from k xs h e = sym (h.0 ∙ ap (λ m. behind xs (parameters (drop m words))) e
    ∙ ap (λ w. behind xs (parameters w)) (drop_all words) ∙ ap Some (append-nil xs))
  where
    drop_all : (ws : List (List ℕ)) → drop (length ws) ws ≡ []
    drop_all [] = refl
    drop_all (w ∷ ws) = drop_all ws

-- ---- the whole line

-- too few words are no line, and too many
pub few_words : (words : List (List ℕ)) → length words ≤ 2 → None ≡ family_by (parameters (drop 1 words))
few_words [] l = refl
few_words (key ∷ []) l = refl
few_words (key ∷ dim ∷ []) l = go (parameter dim)
  where
    go : (o : Option ℕ) → None ≡ family_by (in_front o (Some []))
    go None = refl
    go (Some i) = refl
few_words (key ∷ dim ∷ word ∷ words) l = absurd (omega (arith, l))

pub many_words : (words : List (List ℕ)) → 12 ≤ length words → None ≡ family_by (parameters (drop 1 words))
many_words words l = go (parameters (drop 1 words)) refl
  where
    go : (o : Option (List ℕ)) → parameters (drop 1 words) ≡ o → None ≡ family_by o
    go None e = refl
    go (Some xs) e =
        let m = parameters_many (drop 1 words) xs e in
        let n = length-drop 1 words in
        sym (many_joining xs (omega (arith, m, n, l)))

pub bad_dim : (words : List (List ℕ)) → 1 < length words → parameter (get_or words 1 []) ≡ None
    → None ≡ family_by (parameters (drop 1 words))
bad_dim words l e = sym (ap family_by (next_word words 1 l ∙ ap (λ x. in_front x (parameters (drop 2 words))) e))

in_front_none : (x : Option ℕ) → in_front x None ≡ None
in_front_none None = refl
in_front_none (Some x) = refl

pub bad_boxes : (words : List (List ℕ)) → 1 < length words → parameters (drop 2 words) ≡ None
    → None ≡ family_by (parameters (drop 1 words))
bad_boxes words l e = sym (ap family_by (next_word words 1 l ∙ ap (λ xs. in_front (parameter (get_or words 1 [])) xs) e
    ∙ in_front_none (parameter (get_or words 1 []))))

pub good_line : (words : List (List ℕ)) (i : ℕ) (vs : List ℕ) → 3 ≤ length words → length words ≤ 11
    → parameter (get_or words 1 []) ≡ Some i → parameters (drop 2 words) ≡ Some vs
    → Some (Family i vs) ≡ family_by (parameters (drop 1 words))
good_line words i vs some few d e =
    sym (ap family_by (next_word words 1 (omega (arith, some))
    ∙ ap (λ x. in_front x (parameters (drop 2 words))) d ∙ ap (λ xs. in_front (Some i) xs) e)
    ∙ made vs (parameters_many (drop 2 words) vs e))
  where
    made : (xs : List ℕ) → length xs ≡ length (drop 2 words) → family_by (Some (i ∷ xs)) ≡ Some (Family i xs)
    made [] m = let n = length-drop 2 words in absurd (omega (arith, m, n, some))
    made (v ∷ xs) m =
        let n = length-drop 2 words in
        ap (λ b. cond b (Some (Family i (v ∷ xs))) None)
        (le-leb (length (v ∷ xs)) most_joining (omega (arith, m, n, few)))
