-- Where `clap` reads other items than the definition, it reads a job word or a value that begins
-- with `-`, of which there is no job.
use Rattle.std.proofs.Common.{◌≡◌, ◌==◌, ℕ, List, [], ◌∷◌, Option, Some, None, Bool, true, false, refl, sym, ap}
use Rattle.std.proofs.Common.{if◌then◌else◌, is_some, map, subst, inl, inr, ◌⊎◌}
use Rattle.std.proofs.lemmas.Bool.{eqb-true, or_left, or_right, and_from}
use Rattle.std.specs.Str.{bytes_eq}
use Rattle.std.specs.List.{list_any, list_all}
use Rattle.clap.specs.Lexer.{long_of}
use Rattle.pack_words.specs.Items.{Text, Item, option, word, is_option_name, option_name, option_value}
use Rattle.pack_words.specs.Items.{begins_with_hyphen, before, valued, items_from}
use Rattle.pack_words.proofs.ClapReading.{reads, dashes, is_flag, read_other}
use Rattle.pack_words.proofs.Rows.{is_named}

abbrev pub is_odd : Item → Bool
is_odd (option name value) = begins_with_hyphen value
is_odd (word text) = begins_with_hyphen text

abbrev pub IsOdd : Option (List Item) → Type 0
IsOdd None = Unit {0}
IsOdd (Some items) = list_any is_odd items ≡ true

-- the same items, or none beside items of which one is odd
abbrev pub AreAlike : Option (List Item) → Option (List Item) → Type 0
AreAlike read items = (read ≡ items) ⊎ ((items ≡ None) × IsOdd read)

alike_before : (item : Item) (read items : Option (List Item)) → AreAlike read items
    → AreAlike (before item read) (before item items)
alike_before item read items (inl e) = inl (ap (before item) e)
alike_before item None items (inr o) = inr (ap (before item) o.0, tt)
alike_before item (Some rest) items (inr o) =
    inr (ap (before item) o.0, or_right (is_odd item) (list_any is_odd rest) o.1)

alike_odd : (item : Item) (read : Option (List Item)) → is_odd item ≡ true → AreAlike (before item read) None
alike_odd item None e = inr (refl, tt)
alike_odd item (Some rest) e = inr (refl, or_left (is_odd item) (list_any is_odd rest) e)

alike_valued : (name : Text) (value : Option Text) (read items : Option Text → Option (List Item))
    → ((waits : Option Text) → AreAlike (read waits) (items waits))
    → AreAlike (valued name value read) (valued name value items)
alike_valued name (Some value) read items alike = alike_before (option name value) (read None) (items None) (alike None)
alike_valued name None read items alike = alike (Some name)

-- `-` and then a byte that is no `-`, where an odd item may be read
alike_flag : (flag : Bool) (item : Item) (read : Option (List Item)) → is_odd item ≡ true
    → AreAlike (if flag then None else before item read) None
alike_flag true item read e = inl refl
alike_flag false item read e = alike_odd item read e

-- a word without `-` in front
other_word : (b : ℕ) (bs : Text) (ws : List Text) → (b == 45) ≡ false → AreAlike (reads None ws) (items_from None ws)
    → AreAlike (reads None ((b ∷ bs) ∷ ws)) (items_from None ((b ∷ bs) ∷ ws))
other_word b bs ws e alike = rw e (alike_before (word (b ∷ bs)) (reads None ws) (items_from None ws) alike)

other_value : (name : Text) (b : ℕ) (bs : Text) (ws : List Text) → (b == 45) ≡ false
    → AreAlike (reads None ws) (items_from None ws)
    → AreAlike (reads (Some name) ((b ∷ bs) ∷ ws)) (items_from (Some name) ((b ∷ bs) ∷ ws))
other_value name b bs ws e alike = rw e (alike_before (option name (b ∷ bs)) (reads None ws) (items_from None ws) alike)

-- a word `-x`
flag_word : (c : ℕ) (cs : Text) (ws : List Text) → (c == 45) ≡ false
    → AreAlike (reads None ((45 ∷ c ∷ cs) ∷ ws)) (items_from None ((45 ∷ c ∷ cs) ∷ ws))
flag_word c cs ws e = rw e (alike_flag _ (word (45 ∷ c ∷ cs)) (reads None ws) refl)

flag_value : (name : Text) (c : ℕ) (cs : Text) (ws : List Text) → (c == 45) ≡ false
    → AreAlike (reads (Some name) ((45 ∷ c ∷ cs) ∷ ws)) (items_from (Some name) ((45 ∷ c ∷ cs) ∷ ws))
flag_value name c cs ws e = rw e (alike_flag _ (option name (45 ∷ c ∷ cs)) (reads None ws) refl)

-- a word `--NAME`
long_word : (d : ℕ) (ds : Text) (ws : List Text)
    → ((waits : Option Text) → AreAlike (reads waits ws) (items_from waits ws))
    → AreAlike (reads None ((45 ∷ 45 ∷ d ∷ ds) ∷ ws)) (items_from None ((45 ∷ 45 ∷ d ∷ ds) ∷ ws))
long_word d ds ws alike =
    let w : Text = 45 ∷ 45 ∷ d ∷ ds in
    elim (is_option_name (option_name w)) as
    (λ b. AreAlike (if b then valued (option_name w) (option_value w) (λ waits. reads waits ws) else None)
    (if b then valued (option_name w) (option_value w) (λ waits. items_from waits ws) else None)) [
      | true ↦ alike_valued (option_name w) (option_value w) (λ waits. reads waits ws)
          (λ waits. items_from waits ws) alike
      | false ↦ inl refl
    ]

word_by : (b : ℕ) (bs : Text) (ws : List Text) (t : Bool) → (b == 45) ≡ t
    → ((waits : Option Text) → AreAlike (reads waits ws) (items_from waits ws))
    → AreAlike (reads None ((b ∷ bs) ∷ ws)) (items_from None ((b ∷ bs) ∷ ws))
word_by b bs ws false e alike = other_word b bs ws e (alike None)
word_by b bs ws true e alike =
    subst (λ x. AreAlike (reads None ((x ∷ bs) ∷ ws)) (items_from None ((x ∷ bs) ∷ ws))) (sym (eqb-true b 45 e))
    (hyphen_word bs)
  where
    second : (c : ℕ) (cs : Text) (t : Bool) → (c == 45) ≡ t
        → AreAlike (reads None ((45 ∷ c ∷ cs) ∷ ws)) (items_from None ((45 ∷ c ∷ cs) ∷ ws))
    second c cs false e = flag_word c cs ws e
    second c [] true e = subst (λ x. AreAlike (reads None ((45 ∷ x ∷ []) ∷ ws)) (items_from None ((45 ∷ x ∷ []) ∷ ws)))
        (sym (eqb-true c 45 e)) (inl refl)
    second c (d ∷ ds) true e =
        subst (λ x. AreAlike (reads None ((45 ∷ x ∷ d ∷ ds) ∷ ws)) (items_from None ((45 ∷ x ∷ d ∷ ds) ∷ ws)))
        (sym (eqb-true c 45 e)) (long_word d ds ws alike)

    hyphen_word : (bs : Text) → AreAlike (reads None ((45 ∷ bs) ∷ ws)) (items_from None ((45 ∷ bs) ∷ ws))
    hyphen_word [] = alike_odd (word (45 ∷ [])) (reads None ws) refl
    hyphen_word (c ∷ cs) = second c cs (c == 45) refl

value_by : (name : Text) (b : ℕ) (bs : Text) (ws : List Text) (t : Bool) → (b == 45) ≡ t
    → AreAlike (reads None ws) (items_from None ws)
    → AreAlike (reads (Some name) ((b ∷ bs) ∷ ws)) (items_from (Some name) ((b ∷ bs) ∷ ws))
value_by name b bs ws false e alike = other_value name b bs ws e alike
value_by name b bs ws true e alike =
    subst (λ x. AreAlike (reads (Some name) ((x ∷ bs) ∷ ws)) (items_from (Some name) ((x ∷ bs) ∷ ws)))
    (sym (eqb-true b 45 e)) (hyphen_value bs)
  where
    second : (c : ℕ) (cs : Text) (t : Bool) → (c == 45) ≡ t
        → AreAlike (reads (Some name) ((45 ∷ c ∷ cs) ∷ ws)) (items_from (Some name) ((45 ∷ c ∷ cs) ∷ ws))
    second c cs false e = flag_value name c cs ws e
    second c [] true e = subst (λ x. AreAlike (reads (Some name) ((45 ∷ x ∷ []) ∷ ws))
        (items_from (Some name) ((45 ∷ x ∷ []) ∷ ws))) (sym (eqb-true c 45 e)) (inl refl)
    second c (d ∷ ds) true e = subst
        (λ x. AreAlike (reads (Some name) ((45 ∷ x ∷ d ∷ ds) ∷ ws)) (items_from (Some name) ((45 ∷ x ∷ d ∷ ds) ∷ ws)))
        (sym (eqb-true c 45 e)) (inl refl)

    hyphen_value : (bs : Text) → AreAlike (reads (Some name) ((45 ∷ bs) ∷ ws)) (items_from (Some name) ((45 ∷ bs) ∷ ws))
    hyphen_value [] = alike_odd (option name (45 ∷ [])) (reads None ws) refl
    hyphen_value (c ∷ cs) = second c cs (c == 45) refl

-- the two readings of the words
pub alike : (ws : List Text) (waits : Option Text) → AreAlike (reads waits ws) (items_from waits ws)
alike [] None = inl refl
alike [] (Some name) = inl refl
alike ([] ∷ ws) None = alike_before (word []) (reads None ws) (items_from None ws) (alike ws None)
alike ([] ∷ ws) (Some name) = alike_before (option name []) (reads None ws) (items_from None ws) (alike ws None)
alike ((b ∷ bs) ∷ ws) None = word_by b bs ws (b == 45) refl (alike ws)
alike ((b ∷ bs) ∷ ws) (Some name) = value_by name b bs ws (b == 45) refl (alike ws None)

-- each option that is read has one of the four names
abbrev pub AreNamed : Option (List Item) → Type 0
AreNamed None = Unit {0}
AreNamed (Some items) = list_all is_named items ≡ true

abbrev pub IsNamed : Option Text → Type 0
IsNamed None = Unit {0}
IsNamed (Some name) = is_option_name name ≡ true

named_before : (item : Item) (read : Option (List Item)) → is_named item ≡ true → AreNamed read
    → AreNamed (before item read)
named_before item None e named = tt
named_before item (Some items) e named = and_from (is_named item) (list_all is_named items) e named

named_words : (ws : List Text) → list_all is_named (map word ws) ≡ true
named_words [] = refl
named_words (w ∷ ws) = named_words ws

named_valued : (name : Text) (value : Option Text) (read : Option Text → Option (List Item))
    → is_option_name name ≡ true
    → ((waits : Option Text) → IsNamed waits → AreNamed (read waits)) → AreNamed (valued name value read)
named_valued name (Some value) read e named = named_before (option name value) (read None) e (named None tt)
named_valued name None read e named = named (Some name) e

named_other : (p : Option (Text × Option Text)) (flag : Bool) (w : Text) (read : Option Text → Option (List Item))
    → ((waits : Option Text) → IsNamed waits → AreNamed (read waits)) → AreNamed (read_other p flag w read)
named_other (Some p) flag w read named =
    elim (is_option_name p.0) as (λ b. is_option_name p.0 ≡ b → AreNamed (if b then valued p.0 p.1 read else None)) [
      | true ↦ λ e. named_valued p.0 p.1 read e named
      | false ↦ λ e. tt
    ] refl
named_other None true w read named = tt
named_other None false w read named = named_before (word w) (read None) refl (named None tt)

named_three : (a b c : Bool) (read : Option (List Item)) → AreNamed read
    → AreNamed (if a then None else (if b then None else (if c then None else read)))
named_three true b c read named = tt
named_three false true c read named = tt
named_three false false true read named = tt
named_three false false false read named = named

pub all_named : (ws : List Text) (waits : Option Text) → IsNamed waits → AreNamed (reads waits ws)
all_named [] None e = refl
all_named [] (Some name) e = tt
all_named (w ∷ ws) None e =
    elim (bytes_eq w dashes) as (λ b. AreNamed
    (if b then Some (map word ws) else read_other (long_of w) (is_flag w) w (λ waits. reads waits ws))) [
      | true ↦ named_words ws
      | false ↦ named_other (long_of w) (is_flag w) w (λ waits. reads waits ws) (all_named ws)
    ]
all_named (w ∷ ws) (Some name) e =
    named_three (bytes_eq w dashes) (is_some (long_of w)) (is_flag w) (before (option name w) (reads None ws))
    (named_before (option name w) (reads None ws) e (all_named ws None tt))
