-- The rows that `clap` makes of the items hold the texts of the items.
use Rattle.std.proofs.Common.{◌≡◌, ◌||◌, ◌∙◌, List, [], ◌∷◌, ◌++◌, Option, Some, None, Bool, true, false, refl, sym, ap}
use Rattle.std.proofs.Common.{if◌then◌else◌, codes, is_some, subst, append_assoc, append-nil, find, option_and_then}
use Rattle.std.proofs.Common.{slice_get, inl, inr, ◌⊎◌}
use Rattle.std.proofs.lemmas.Bool.{and_parts}
use Rattle.std.specs.Str.{bytes_eq}
use Rattle.std.specs.List.{list_all}
use Rattle.clap.specs.Walk.{Row, has_row, first_of}
use Rattle.clap.specs.Facts.{explicit_source}
use Rattle.clap.specs.Takes.{is_given}
use Rattle.std.specs.Option.{option_map_or}
use Rattle.std.proofs.lemmas.Slice.Eq.{bytes_eq-Decides}
use Rattle.pack_words.specs.Items.{Text, Item, option, word, is_option_name}
use Rattle.pack_words.specs.Job.{at_most_once}
use Rattle.pack_words.proofs.ClapReading.{row, finish}
use Rattle.pack_words.proofs.Steps.{bytes_same}
use Rattle.pack_words.proofs.Walking.{some_inj, has_row-append}

-- the texts that rows hold for an id
abbrev pub texts_at : Text → List Row → List Text
texts_at id [] = []
texts_at id (r ∷ rows) = if bytes_eq r.id id then r.values ++ texts_at id rows else texts_at id rows

-- the texts that items give for an id, which is that of the job for a job word
abbrev pub said_at : Text → List Item → List Text
said_at id [] = []
said_at id (option name value ∷ items) = if bytes_eq name id then value ∷ said_at id items else said_at id items
said_at id (word text ∷ items) = if bytes_eq (codes "job") id then text ∷ said_at id items else said_at id items

-- a text for the id, where it is this one
abbrev one_if : Bool → Text → List Text
one_if b text = if b then text ∷ [] else []

texts_at-append : (id name value : Text) (rows : List Row)
    → texts_at id (rows ++ row name value ∷ []) ≡ texts_at id rows ++ one_if (bytes_eq name id) value
texts_at-append id name value [] =
    elim (bytes_eq name id) as (λ b. (if b then value ∷ [] else []) ≡ one_if b value) [ true ↦ refl | false ↦ refl ]
texts_at-append id name value (r ∷ rows) =
    elim (bytes_eq r.id id) as (λ b.
    (if b then r.values ++ texts_at id (rows ++ row name value ∷ []) else texts_at id (rows ++ row name value ∷ []))
    ≡ (if b then r.values ++ texts_at id rows else texts_at id rows) ++ one_if (bytes_eq name id) value) [
      | true ↦ ap (λ ts. r.values ++ ts) (texts_at-append id name value rows)
          ∙ sym (append_assoc r.values (texts_at id rows) (one_if (bytes_eq name id) value))
      | false ↦ texts_at-append id name value rows
    ]

first_of-append : (id name value : Text) (rows : List Row)
    → first_of id (rows ++ row name value ∷ [])
    ≡ (if has_row id rows then first_of id rows else (if bytes_eq name id then Some value else None))
first_of-append id name value [] =
    elim (bytes_eq name id) as (λ b. option_and_then (λ (r : Row). slice_get r.values 0)
    (if b then Some (row name value) else None) ≡ (if b then Some value else None)) [ true ↦ refl | false ↦ refl ]
first_of-append id name value (r ∷ rows) =
    elim (bytes_eq r.id id) as (λ b. option_and_then (λ (r : Row). slice_get r.values 0)
    (if b then Some r else find (λ r. bytes_eq r.id id) (rows ++ row name value ∷ []))
    ≡ (if (b || has_row id rows) then option_and_then (λ (r : Row). slice_get r.values 0)
    (if b then Some r else find (λ r. bytes_eq r.id id) rows) else
    (if bytes_eq name id then Some value else None))) [
      | true ↦ refl
      | false ↦ first_of-append id name value rows
    ]

abbrev is_given_by : Option Row → Bool
is_given_by o = option_map_or (λ (r : Row). explicit_source r.source) o false

is_given-append : (id name value : Text) (rows : List Row)
    → is_given id (rows ++ row name value ∷ []) ≡ (if has_row id rows then is_given id rows else bytes_eq name id)
is_given-append id name value [] = given_one (bytes_eq name id)
  where
    given_one : (b : Bool) → is_given_by (if b then Some (row name value) else None) ≡ b
    given_one true = refl
    given_one false = refl
is_given-append id name value (r ∷ rows) =
    elim (bytes_eq r.id id) as (λ b. is_given_by
    (if b then Some r else find (λ r. bytes_eq r.id id) (rows ++ row name value ∷ []))
    ≡ (if (b || has_row id rows) then is_given_by (if b then Some r else find (λ r. bytes_eq r.id id) rows) else
    bytes_eq name id)) [
      | true ↦ refl
      | false ↦ is_given-append id name value rows
    ]

-- no id stands in two rows
pub record AreOnce (rows : List Row) : Type 0 where
  pub once : (id : Text) → at_most_once (texts_at id rows) ≡ Some (first_of id rows)
  pub has : (id : Text) → has_row id rows ≡ is_some (first_of id rows)
  pub given : (id : Text) → is_given id rows ≡ has_row id rows

pub once_none : AreOnce []
once_none = record { once = λ id. refl; has = λ id. refl; given = λ id. refl }

none_first : (o : Option Text) → is_some o ≡ false → o ≡ None
none_first None e = refl
none_first (Some t) e = cc

at_none : (ts : List Text) → at_most_once ts ≡ Some None → ts ≡ []
at_none [] e = refl
at_none (t ∷ []) e = cc
at_none (t ∷ u ∷ ts) e = cc

at_some : (ts : List Text) (t : Text) → at_most_once ts ≡ Some (Some t) → ts ≡ t ∷ []
at_some [] t e = cc
at_some (u ∷ []) t e = ap (λ x. x ∷ []) (some_inj (some_inj e))
at_some (u ∷ v ∷ ts) t e = cc

-- an id without a row has no text
no_text : (rows : List Row) (id : Text) → AreOnce rows → has_row id rows ≡ false → texts_at id rows ≡ []
no_text rows id are none = at_none (texts_at id rows)
    (are.once id ∙ ap Some (none_first (first_of id rows) (sym (are.has id) ∙ none)))

kept : (h : Bool) (o : Option Text) → h ≡ is_some o → (if h then o else None) ≡ o
kept true o e = refl
kept false None e = refl
kept false (Some t) e = cc

once_more : (rows : List Row) (name value : Text) → AreOnce rows → has_row name rows ≡ false
    → AreOnce (rows ++ row name value ∷ [])
once_more rows name value are none = record {
  once = λ id. ap at_most_once (texts_at-append id name value rows) ∙ once_at id
      ∙ ap Some (sym (first_of-append id name value rows));
  has = λ id. has_row-append id rows (row name value) ∙ has_by (has_row id rows) (bytes_eq name id) (first_of id rows)
      (are.has id) ∙ ap is_some (sym (first_of-append id name value rows));
  given = λ id. is_given-append id name value rows ∙ given_by (has_row id rows) (bytes_eq name id) (is_given id rows)
      (are.given id) ∙ sym (has_row-append id rows (row name value));
}
  where
    has_by : (h e : Bool) (o : Option Text) → h ≡ is_some o
        → (h || e) ≡ is_some (if h then o else (if e then Some value else None))
    has_by true e o is = is
    has_by false true o is = refl
    has_by false false o is = refl

    given_by : (h e g : Bool) → g ≡ h → (if h then g else e) ≡ (h || e)
    given_by true e g is = is
    given_by false e g is = refl

    once_by : (id : Text) (b : Bool) → bytes_eq name id ≡ b
        → at_most_once (texts_at id rows ++ one_if b value)
        ≡ Some (if has_row id rows then first_of id rows else (if b then Some value else None))
    once_by id true e =
        let same : name ≡ id = bytes_same name id e in
        let free : has_row id rows ≡ false = subst (λ x. has_row x rows ≡ false) same none in
        rw (no_text rows id are free, free) refl
    once_by id false e =
        ap at_most_once (append-nil (texts_at id rows)) ∙ are.once id
        ∙ ap Some (sym (kept (has_row id rows) (first_of id rows) (are.has id)))

    once_at : (id : Text) → at_most_once (texts_at id rows ++ one_if (bytes_eq name id) value)
        ≡ Some (if has_row id rows then first_of id rows else (if bytes_eq name id then Some value else None))
    once_at id = once_by id (bytes_eq name id) refl

one_more : (b : Bool) (ts us : List Text) (value : Text)
    → (ts ++ one_if b value) ++ us ≡ ts ++ (if b then value ∷ us else us)
one_more true ts us value = append_assoc ts (value ∷ []) us
one_more false ts us value = ap (λ xs. xs ++ us) (append-nil ts)

-- one more row holds one more text
text_more : (id name value : Text) (rows : List Row) (us : List Text)
    → texts_at id (rows ++ row name value ∷ []) ++ us ≡ texts_at id rows
    ++ (if bytes_eq name id then value ∷ us else us)
text_more id name value rows us =
    ap (λ ts. ts ++ us) (texts_at-append id name value rows) ∙ one_more (bytes_eq name id) (texts_at id rows) us value

-- what holds of the rows at the end
pub record Ended (rows : List Row) (items : List Item) (end : List Row) : Type 0 where
  pub once : AreOnce end
  pub texts : (id : Text) → texts_at id end ≡ texts_at id rows ++ said_at id items

pub finish_once : (items : List Item) (rows end : List Row) → AreOnce rows → finish rows items ≡ Some end
    → Ended rows items end
finish_once [] rows end are e =
    elim (is_given (codes "job") rows) as (λ b. (if b then Some rows else None) ≡ Some end → Ended rows [] end) [
      | true ↦ λ h. subst (λ rs. Ended rows [] rs) (some_inj h)
          (record { once = are; texts = λ id. sym (append-nil (texts_at id rows)) })
      | false ↦ λ h. cc
    ] e
finish_once (option name value ∷ items) rows end are e =
    elim (has_row name rows) as (λ b. has_row name rows ≡ b
    → option_and_then (λ rs. finish rs items) (if b then None else Some (rows ++ row name value ∷ [])) ≡ Some end
    → Ended rows (option name value ∷ items) end) [
      | true ↦ λ _ h. cc
      | false ↦ λ new h.
          let later = finish_once items (rows ++ row name value ∷ []) end (once_more rows name value are new) h in
          record { once = later.once; texts = λ id. later.texts id ∙ text_more id name value rows (said_at id items) }
    ] refl e
finish_once (word text ∷ items) rows end are e =
    elim (has_row (codes "job") rows) as
    (λ b. has_row (codes "job") rows ≡ b
    → option_and_then (λ rs. finish rs items) (if b then None else Some (rows ++ row (codes "job") text ∷ []))
    ≡ Some end → Ended rows (word text ∷ items) end) [
      | true ↦ λ _ h. cc
      | false ↦ λ new h.
          let later = finish_once items (rows ++ row (codes "job") text ∷ []) end
          (once_more rows (codes "job") text are new) h in
          record {
            once = later.once;
            texts = λ id. later.texts id
                ∙ text_more id (codes "job") text rows (said_at id items);
          }
    ] refl e

abbrev pub is_named : Item → Bool
is_named (option name value) = is_option_name name
is_named (word text) = true

-- why items give no rows: the job word or an option stands twice, or there is no job word
pub data Fails (rows : List Row) (items : List Item) : Type 0 where
  twice : (id : Text) → (id ≡ codes "job") ⊎ (is_option_name id ≡ true)
      → at_most_once (texts_at id rows ++ said_at id items) ≡ None → Fails rows items
  no_job : texts_at (codes "job") rows ++ said_at (codes "job") items ≡ [] → Fails rows items

-- an id that has a row already
at_twice : (rows : List Row) (id value : Text) (us : List Text) → AreOnce rows → has_row id rows ≡ true
    → at_most_once (texts_at id rows ++ (if bytes_eq id id then value ∷ us else us)) ≡ None
at_twice rows id value us are old =
    let same : bytes_eq id id ≡ true = (bytes_eq-Decides id id).1 refl in
    elim (first_of id rows) as (λ o. first_of id rows ≡ o
    → at_most_once (texts_at id rows ++ (if bytes_eq id id then value ∷ us else us)) ≡ None) [
      | None ↦ λ e. let h : true ≡ false = sym old ∙ are.has id ∙ ap is_some e in cc
      | Some t ↦ λ e. let one : texts_at id rows ≡ t ∷ [] = at_some (texts_at id rows) t (are.once id ∙ ap Some e) in
          rw (one, same) refl
    ] refl

fails_later : (rows : List Row) (items : List Item) (name value : Text) (all : List Item)
    → ((id : Text) → said_at id all ≡ (if bytes_eq name id then value ∷ said_at id items else said_at id items))
    → Fails (rows ++ row name value ∷ []) items → Fails rows all
fails_later rows items name value all is (twice id which e) =
    twice id which (ap (λ us. at_most_once (texts_at id rows ++ us)) (is id)
    ∙ ap at_most_once (sym (text_more id name value rows (said_at id items))) ∙ e)
fails_later rows items name value all is (no_job e) =
    no_job (ap (λ us. texts_at (codes "job") rows ++ us) (is (codes "job"))
    ∙ sym (text_more (codes "job") name value rows (said_at (codes "job") items)) ∙ e)

pub finish_fails : (items : List Item) (rows : List Row) → list_all is_named items ≡ true → AreOnce rows
    → finish rows items ≡ None → Fails rows items
finish_fails [] rows named are e =
    elim (is_given (codes "job") rows) as
    (λ b. is_given (codes "job") rows ≡ b → (if b then Some rows else None) ≡ None → Fails rows []) [
      | true ↦ λ _ h. cc
      | false ↦ λ g h. no_job (append-nil (texts_at (codes "job") rows)
          ∙ no_text rows (codes "job") are (sym (are.given (codes "job")) ∙ g))
    ] refl e
finish_fails (option name value ∷ items) rows named are e =
    let p = and_parts (is_option_name name) (list_all is_named items) named in
    elim (has_row name rows) as (λ b. has_row name rows ≡ b
    → option_and_then (λ rs. finish rs items) (if b then None else Some (rows ++ row name value ∷ [])) ≡ None
    → Fails rows (option name value ∷ items)) [
      | true ↦ λ old _. twice name (inr p.0) (at_twice rows name value (said_at name items) are old)
      | false ↦ λ new h.
          fails_later rows items name value (option name value ∷ items) (λ id. refl)
          (finish_fails items (rows ++ row name value ∷ []) p.1 (once_more rows name value are new) h)
    ] refl e
finish_fails (word text ∷ items) rows named are e =
    elim (has_row (codes "job") rows) as
    (λ b. has_row (codes "job") rows ≡ b
    → option_and_then (λ rs. finish rs items) (if b then None else Some (rows ++ row (codes "job") text ∷ []))
    ≡ None → Fails rows (word text ∷ items)) [
      | true ↦ λ old _. twice (codes "job") (inl refl)
          (at_twice rows (codes "job") text (said_at (codes "job") items) are old)
      | false ↦ λ new h.
          fails_later rows items (codes "job") text (word text ∷ items) (λ id. refl)
          (finish_fails items (rows ++ row (codes "job") text ∷ []) named
          (once_more rows (codes "job") text are new) h)
    ] refl e
