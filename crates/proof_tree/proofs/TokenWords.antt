-- Words that are read as parameters and as functions.
use Rattle.std.proofs.Common.{◌≡◌, ◌≢◌, ℕ, ◌+◌, ◌*◌, ◌<◌, ◌≤◌, min, refl, sym, ap, ◌∙◌, arith, Bool, true, false, cond}
use Rattle.std.proofs.Common.{List, [], ◌∷◌, ◌++◌, length, drop, get_or, Option, Some, None, append_assoc}
use Rattle.std.proofs.Common.{length-append}
use Rattle.std.proofs.lemmas.Bool.{ne_eqb}
use Rattle.std.proofs.lemmas.List.{length-drop}
use Rattle.packing_terms.specs.declared.ScaleFn.{ScaleFn}
use Rattle.packing_terms.specs.Tokens.{PlainToken}
use Rattle.text_terms.specs.Lines.{Line}
use Rattle.text_terms.specs.TokenLines.{parameters, in_front, functions, of_none, set_token, token_of, line_token}
use Rattle.text_terms.proofs.Cuts.{parameters_many, functions_many}
use Rattle.proof_tree.specs.declared.reading.Kind.{Kind}
use Rattle.proof_tree.specs.declared.reading.Kind.TheVariants.{Apart, Order, Rules, TooLarge, Scales, Assign, Choose}
use Rattle.proof_tree.specs.declared.reading.Kind.TheVariants.{SetRefuted, ValueShort, GlobalScales}
use Rattle.proof_tree.specs.Kinds.{kind_of, of_kind, only, two_only, three_only, tuple_only}

-- another number of parameters
pub only_else : (words : List (List ℕ)) → length words ≢ 1 → None ≡ only (parameters words)
only_else words other = go (parameters words) refl
  where
    go : (o : Option (List ℕ)) → parameters words ≡ o → None ≡ only o
    go None e = refl
    go (Some []) e = refl
    go (Some (x ∷ [])) e = absurd (other (sym (parameters_many words (x ∷ []) e)))
    go (Some (x ∷ y ∷ xs)) e = refl

pub two_else : (words : List (List ℕ)) → length words ≢ 2 → None ≡ two_only (parameters words)
two_else words other = go (parameters words) refl
  where
    go : (o : Option (List ℕ)) → parameters words ≡ o → None ≡ two_only o
    go None e = refl
    go (Some []) e = refl
    go (Some (x ∷ [])) e = refl
    go (Some (x ∷ y ∷ [])) e = absurd (other (sym (parameters_many words (x ∷ y ∷ []) e)))
    go (Some (x ∷ y ∷ z ∷ xs)) e = refl

pub three_else : (words : List (List ℕ)) → length words ≢ 3 → None ≡ three_only (parameters words)
three_else words other = go (parameters words) refl
  where
    go : (o : Option (List ℕ)) → parameters words ≡ o → None ≡ three_only o
    go None e = refl
    go (Some []) e = refl
    go (Some (x ∷ [])) e = refl
    go (Some (x ∷ y ∷ [])) e = refl
    go (Some (x ∷ y ∷ z ∷ [])) e = absurd (other (sym (parameters_many words (x ∷ y ∷ z ∷ []) e)))
    go (Some (x ∷ y ∷ z ∷ w ∷ xs)) e = refl

pub none_else : (token : PlainToken) (words : List (List ℕ)) → length words ≢ 0
    → None ≡ of_none token (parameters words)
none_else token words other = go (parameters words) refl
  where
    go : (o : Option (List ℕ)) → parameters words ≡ o → None ≡ of_none token o
    go None e = refl
    go (Some []) e = absurd (other (sym (parameters_many words [] e)))
    go (Some (x ∷ xs)) e = refl

pub set_else : (words : List (List ℕ)) → length words ≢ 0 → None ≡ only (parameters words)
    → None ≡ set_token (parameters words)
set_else words other alone = go (parameters words) refl alone
  where
    go : (o : Option (List ℕ)) → parameters words ≡ o → None ≡ only o → None ≡ set_token o
    go None e f = refl
    go (Some []) e f = absurd (other (sym (parameters_many words [] e)))
    go (Some (x ∷ [])) e f = absurd (cc (f))
    go (Some (x ∷ y ∷ xs)) e f = refl

-- another count of words than one
pub some_behind : (words : List (List ℕ)) (count : ℕ) → 1 ≤ length words → length words ≡ min 12 count → count ≢ 1
    → length (drop 1 words) ≢ 0
some_behind words count some held other e = let m = length-drop 1 words in other (omega (arith, e, m, held, some))

-- the functions before, and those of the words that are left
abbrev pub before : List ScaleFn → Option (List ScaleFn) → Option (List ScaleFn)
before fs None = None
before fs (Some gs) = Some (fs ++ gs)

-- the functions so far, from the words before word k, the first of which is word `from`
pub record AreRead (words : List (List ℕ)) (from k : ℕ) (fs : List ScaleFn) : Type 0 where
  pub all : functions (drop from words) ≡ before fs (functions (drop k words))
  pub within : k ≤ length words
  pub few : k ≤ from + 2 * length fs

one_more : (fs : List ScaleFn) (f : ScaleFn) (o : Option (List ScaleFn))
    → before fs (in_front (Some f) o) ≡ before (fs ++ f ∷ []) o
one_more fs f None = refl
one_more fs f (Some gs) = ap Some (sym (append_assoc fs (f ∷ []) gs))

pub read_more : (words : List (List ℕ)) (from k next : ℕ) (fs : List ScaleFn) (f : ScaleFn)
    → functions (drop k words) ≡ in_front (Some f) (functions (drop next words))
    → next ≤ length words → next ≤ k + 2 → AreRead words from k fs
    → AreRead words from next (fs ++ f ∷ [])
read_more words from k next fs f e l m h = record {
  all = h.all ∙ (ap (before fs) e ∙ one_more fs f (functions (drop next words)));
  within = l;
  few = let n = h.few in let a = length-append fs (f ∷ []) in omega (arith, n, a, m);
}

module _ (d from k : ℕ) (words : List (List ℕ)) (fs : List ScaleFn) (h : AreRead words from k fs) where
  -- word k begins no function
  pub read_other : functions (drop k words) ≡ None → None ≡ tuple_only d (functions (drop from words))
  read_other e = sym (ap (tuple_only d) (h.all ∙ ap (before fs) e))

  -- more words are left than functions are wanted
  pub read_long : k < length words → length fs ≡ d → None ≡ tuple_only d (functions (drop from words))
  read_long l e = go (functions (drop k words)) refl
    where
      go : (o : Option (List ScaleFn)) → functions (drop k words) ≡ o → None ≡ tuple_only d (functions (drop from words))
      go None f = read_other f
      go (Some gs) f =
          let n = functions_many (drop k words) gs f in
          let m = length-drop k words in
          let a = length-append fs gs in
          sym (ap (tuple_only d) (h.all ∙ ap (before fs) f)
          ∙ ap (λ b. cond b (Some (fs ++ gs)) None)
          (ne_eqb (length (fs ++ gs)) d (λ g. omega (arith, a, g, e, n, m, l))))

-- the token of a line, by what its first word says
abbrev pub by_kind : ℕ → List (List ℕ) → Option Kind → Option PlainToken
by_kind d words None = None
by_kind d words (Some kind) = of_kind d kind words

one_kind : (d : ℕ) (words : List (List ℕ)) (b : Bool) (kind : Kind) (rest : Option Kind) (r : Option PlainToken)
    → r ≡ by_kind d words rest
    → cond b (of_kind d kind words) r ≡ by_kind d words (cond b (Some kind) rest)
one_kind d words true kind rest r e = refl
one_kind d words false kind rest r e = e

pub token_by_kind : (d : ℕ) (key : List ℕ) (words : List (List ℕ))
    → token_of d (key ∷ words) ≡ by_kind d words (kind_of key)
unfolding token_of
token_by_kind d key words =
    one_kind d words _ Apart _ _ (one_kind d words _ Order _ _
    (one_kind d words _ Rules _ _ (one_kind d words _ TooLarge _ _ (one_kind d words _ Scales _ _
    (one_kind d words _ Assign _ _
    (one_kind d words _ Choose _ _ (one_kind d words _ SetRefuted _ _ (one_kind d words _ ValueShort _ _
    (one_kind d words _ GlobalScales _ _ refl)))))))))

-- a line without a word, one whose first word says nothing, and one whose first word says a kind
pub empty_line : (d : ℕ) (line : Line) → line.bad ≡ false → length line.words ≡ 0 → None ≡ line_token d line
unfolding token_of
empty_line d line calm none = go line.words none (ap (λ b. cond b None (token_of d line.words)) calm)
  where
    go : (words : List (List ℕ)) → length words ≡ 0 → line_token d line ≡ token_of d words → None ≡ line_token d line
    go [] e f = sym f
    go (word ∷ words) e f = absurd (omega (arith, e))

first_word : (d : ℕ) (words : List (List ℕ)) → 1 ≤ length words
    → token_of d words ≡ by_kind d (drop 1 words) (kind_of (get_or words 0 []))
first_word d [] some = absurd (omega (arith, some))
first_word d (word ∷ words) some = token_by_kind d word words

pub line_by_kind : (d : ℕ) (line : Line) (kind : Option Kind) → line.bad ≡ false → 1 ≤ length line.words
    → kind ≡ kind_of (get_or line.words 0 [])
    → by_kind d (drop 1 line.words) kind ≡ line_token d line
line_by_kind d line kind calm some e =
    ap (by_kind d (drop 1 line.words)) e
    ∙ sym (ap (λ b. cond b None (token_of d line.words)) calm ∙ first_word d line.words some)
