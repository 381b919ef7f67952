-- The job of the items is the job of the texts that are found in the rows.
use Rattle.std.proofs.Common.{◌≡◌, ◌∙◌, ℕ, List, [], ◌∷◌, Option, Some, None, Bool, true, false, refl, sym, ap}
use Rattle.std.proofs.Common.{if◌then◌else◌, codes, subst, inl, inr, arith}
use Rattle.std.proofs.lemmas.Bool.{eqb-true, or_left, or_right, and_parts, or_cases}
use Rattle.std.specs.Str.{bytes_eq}
use Rattle.std.specs.List.{list_any, list_all}
use Rattle.std.proofs.lemmas.Slice.Eq.{bytes_eq-Decides}
use Rattle.clap.specs.Walk.{Row, first_of}
use Rattle.text_terms.proofs.Numbers.{no_number_at}
use Rattle.pack_words.specs.declared.job.Job.{Job}
use Rattle.pack_words.specs.declared.job.JobWords.{JobWords}
use Rattle.pack_words.specs.Items.{Text, Item, option, word, is_option_name, begins_with_hyphen, items_from}
use Rattle.pack_words.specs.Job.{Texts, ◌>>=◌, values_of, job_words, at_most_once, texts_of, job_of_name, are_taken}
use Rattle.pack_words.specs.Job.{kept_in_range, number_or, scales_in, asked_in, settings_of, job_of_texts, job_of_words}
use Rattle.pack_words.proofs.ClapReading.{finish, rows_said, reads, expect}
use Rattle.pack_words.proofs.Steps.{bytes_same}
use Rattle.pack_words.proofs.Walked.{option_is_no_job}
use Rattle.pack_words.proofs.Rows.{said_at, is_named, Ended, Fails, twice, no_job, once_none, finish_once, finish_fails}
use Rattle.pack_words.proofs.Alike.{is_odd, AreAlike, AreNamed, alike, all_named}

-- ---- chains of options

bind_none : {A B : Type 0} (o : Option A) (f : A → Option B) → ((x : A) → f x ≡ None) → (o >>= f) ≡ None
bind_none None f e = refl
bind_none (Some x) f e = e x

if_none : {A : Type 0} (b : Bool) (o : Option A) → o ≡ None → (if b then o else None) ≡ None
if_none true o e = e
if_none false o e = refl

-- the job of what stands at most once, or stands twice
abbrev judged : (job workers budget scales number proposals facts bounds : Option (Option Text)) → Option JobWords
judged job workers budget scales number proposals facts bounds =
    (job >>= λ j. workers >>= λ w. budget >>= λ b. scales >>= λ s. number >>= λ n. proposals >>= λ p. facts >>= λ f.
    bounds >>= λ u.
    Some (record { job = j; workers = w; budget = b; scales = s; number = n; proposals = p; facts = f; bounds = u }))
    >>= λ texts. job_of_texts texts

abbrev judge : List Item → Option JobWords
judge items = texts_of items >>= λ texts. job_of_texts texts

-- the value that an option is given, where it stands at most once
abbrev once : Text → List Item → Option (Option Text)
once name items = at_most_once (values_of name items)

judged_none : (j w b s n p f u : Option (Option Text))
    → ((job workers budget scales number proposals facts bounds : Option Text) → j ≡ Some job → w ≡ Some workers
    → b ≡ Some budget → s ≡ Some scales → n ≡ Some number
    → p ≡ Some proposals → f ≡ Some facts → u ≡ Some bounds
    → job_of_texts (record {
      job = job;
      workers = workers;
      budget = budget;
      scales = scales;
      number = number;
      proposals = proposals;
      facts = facts;
      bounds = bounds;
    }) ≡ None)
    → judged j w b s n p f u ≡ None
judged_none None w b s n p f u e = refl
judged_none (Some j) None b s n p f u e = refl
judged_none (Some j) (Some w) None s n p f u e = refl
judged_none (Some j) (Some w) (Some b) None n p f u e = refl
judged_none (Some j) (Some w) (Some b) (Some s) None p f u e = refl
judged_none (Some j) (Some w) (Some b) (Some s) (Some n) None f u e = refl
judged_none (Some j) (Some w) (Some b) (Some s) (Some n) (Some p) None u e = refl
judged_none (Some j) (Some w) (Some b) (Some s) (Some n) (Some p) (Some f) None e = refl
judged_none (Some j) (Some w) (Some b) (Some s) (Some n) (Some p) (Some f) (Some u) e =
    e j w b s n p f u refl refl refl refl refl refl refl refl

abbrev pub texts_like : (job workers budget scales number proposals facts bounds : Option Text) → Texts
texts_like j w b s n p f u = record {
  job = j;
  workers = w;
  budget = b;
  scales = s;
  number = n;
  proposals = p;
  facts = f;
  bounds = u;
}

judge_none : (items : List Item)
    → ((j w b s n p f u : Option Text) → at_most_once (job_words items) ≡ Some j → once (codes "workers") items ≡ Some w
    → once (codes "budget") items ≡ Some b → once (codes "scales") items ≡ Some s → once (codes "number") items ≡ Some n
    → once (codes "proposals") items ≡ Some p → once (codes "facts") items ≡ Some f
    → once (codes "bounds") items ≡ Some u
    → job_of_texts (texts_like j w b s n p f u) ≡ None)
    → judge items ≡ None
judge_none items =
    judged_none (at_most_once (job_words items)) (once (codes "workers") items) (once (codes "budget") items)
    (once (codes "scales") items) (once (codes "number") items)
    (once (codes "proposals") items) (once (codes "facts") items) (once (codes "bounds") items)

-- a text that stands twice, or that the test refuses
abbrev IsBad : {A : Type 0} → (Option Text → Option A) → Option (Option Text) → Type 0
IsBad test None = Unit {0}
IsBad test (Some o) = test o ≡ None

bad_text : {A : Type 0} (test : Option Text → Option A) (o : Option (Option Text)) (t : Option Text) → IsBad test o
    → o ≡ Some t → test t ≡ None
bad_text test o t bad e = subst (IsBad test) e bad

abbrev job_in : Option Text → Option Job
job_in o = o >>= λ text. job_of_name text

no_job_text : (texts : Texts) → job_in texts.job ≡ None → job_of_texts texts ≡ None
no_job_text texts e = no_job_by texts.job (λ job. if are_taken job texts then settings_of job texts else None) e
  where
    no_job_by : (o : Option Text) (f : Job → Option JobWords) → (o >>= λ text. job_of_name text) ≡ None
        → (o >>= λ text. job_of_name text >>= λ job. f job) ≡ None
    no_job_by None f e = refl
    no_job_by (Some text) f e = ap (λ r. r >>= f) e

no_settings : (texts : Texts) → ((job : Job) → settings_of job texts ≡ None) → job_of_texts texts ≡ None
no_settings texts e =
    bind_none texts.job _ (λ text. bind_none (job_of_name text) _
    (λ job. if_none (are_taken job texts) (settings_of job texts) (e job)))

bad_job : (items : List Item) → IsBad job_in (at_most_once (job_words items)) → judge items ≡ None
bad_job items bad = judge_none items
    (λ j w b s n p f u ej ew eb es en ep ef eu. no_job_text (texts_like j w b s n p f u)
    (bad_text job_in (at_most_once (job_words items)) j bad ej))

bad_workers : (items : List Item) → IsBad (number_or 1 64 1) (once (codes "workers") items) → judge items ≡ None
bad_workers items bad = judge_none items (λ j w b s n p f u ej ew eb es en ep ef eu.
    no_settings (texts_like j w b s n p f u)
    (λ job. let e : number_or 1 64 1 w ≡ None = bad_text (number_or 1 64 1) (once (codes "workers") items) w bad
    ew in rw e refl))

bad_budget : (items : List Item) → IsBad (number_or 0 10000000 1000000) (once (codes "budget") items)
    → judge items ≡ None
bad_budget items bad = judge_none items (λ j w b s n p f u ej ew eb es en ep ef eu.
    no_settings (texts_like j w b s n p f u) (λ job. bind_none (number_or 1 64 1 w) _ (λ x.
    let e : number_or 0 10000000 1000000 b ≡ None =
    bad_text (number_or 0 10000000 1000000) (once (codes "budget") items) b bad eb in rw e refl)))

bad_scales : (items : List Item) → IsBad scales_in (once (codes "scales") items) → judge items ≡ None
bad_scales items bad = judge_none items (λ j w b s n p f u ej ew eb es en ep ef eu.
    no_settings (texts_like j w b s n p f u)
    (λ job. bind_none (number_or 1 64 1 w) _ (λ x. bind_none (number_or 0 10000000 1000000 b) _ (λ y.
    let e : scales_in s ≡ None = bad_text scales_in (once (codes "scales") items) s bad es in rw e refl))))

bad_number : (items : List Item) → IsBad (number_or 0 2147483647 0) (once (codes "number") items) → judge items ≡ None
bad_number items bad = judge_none items (λ j w b s n p f u ej ew eb es en ep ef eu.
    no_settings (texts_like j w b s n p f u)
    (λ job. bind_none (number_or 1 64 1 w) _
    (λ x. bind_none (number_or 0 10000000 1000000 b) _ (λ y. bind_none (scales_in s) _ (λ z.
    let e : number_or 0 2147483647 0 n ≡ None =
    bad_text (number_or 0 2147483647 0) (once (codes "number") items) n bad en in rw e refl)))))

bad_proposals : (items : List Item) → IsBad asked_in (once (codes "proposals") items) → judge items ≡ None
bad_proposals items bad = judge_none items (λ j w b s n p f u ej ew eb es en ep ef eu.
    no_settings (texts_like j w b s n p f u)
    (λ job. bind_none (number_or 1 64 1 w) _
    (λ x. bind_none (number_or 0 10000000 1000000 b) _ (λ y. bind_none (scales_in s) _ (λ z.
    bind_none (number_or 0 2147483647 0 n) _ (λ q.
    let e : asked_in p ≡ None = bad_text asked_in (once (codes "proposals") items) p bad ep in rw e refl))))))

bad_facts : (items : List Item) → IsBad asked_in (once (codes "facts") items) → judge items ≡ None
bad_facts items bad = judge_none items (λ j w b s n p f u ej ew eb es en ep ef eu.
    no_settings (texts_like j w b s n p f u)
    (λ job. bind_none (number_or 1 64 1 w) _
    (λ x. bind_none (number_or 0 10000000 1000000 b) _ (λ y. bind_none (scales_in s) _ (λ z.
    bind_none (number_or 0 2147483647 0 n) _ (λ q. bind_none (asked_in p) _ (λ r.
    let e : asked_in f ≡ None = bad_text asked_in (once (codes "facts") items) f bad ef in rw e refl)))))))

bad_bounds : (items : List Item) → IsBad asked_in (once (codes "bounds") items) → judge items ≡ None
bad_bounds items bad = judge_none items (λ j w b s n p f u ej ew eb es en ep ef eu.
    no_settings (texts_like j w b s n p f u)
    (λ job. bind_none (number_or 1 64 1 w) _
    (λ x. bind_none (number_or 0 10000000 1000000 b) _ (λ y. bind_none (scales_in s) _ (λ z.
    bind_none (number_or 0 2147483647 0 n) _ (λ q. bind_none (asked_in p) _ (λ r. bind_none (asked_in f) _ (λ v.
    let e : asked_in u ≡ None = bad_text asked_in (once (codes "bounds") items) u bad eu in rw e refl))))))))

-- ---- a text that begins with `-`

abbrev IsOddOnce : Option (Option Text) → Type 0
IsOddOnce None = Unit {0}
IsOddOnce (Some None) = ⊥
IsOddOnce (Some (Some text)) = begins_with_hyphen text ≡ true

odd_once : (texts : List Text) → list_any begins_with_hyphen texts ≡ true → IsOddOnce (at_most_once texts)
odd_once [] e = cc
odd_once (text ∷ []) e = elim (or_cases (begins_with_hyphen text) false e) [ inl h ↦ h | inr h ↦ cc ]
odd_once (text ∷ other ∷ texts) e = tt

odd_bad : {A : Type 0} (test : Option Text → Option A)
    → ((text : Text) → begins_with_hyphen text ≡ true → test (Some text) ≡ None)
    → (o : Option (Option Text)) → IsOddOnce o → IsBad test o
odd_bad test fails None odd = tt
odd_bad test fails (Some None) odd = absurd odd
odd_bad test fails (Some (Some text)) odd = fails text odd

hyphen_job : (text : Text) → begins_with_hyphen text ≡ true → job_in (Some text) ≡ None
hyphen_job [] e = cc
hyphen_job (b ∷ bs) e = subst (λ x. job_of_name (x ∷ bs) ≡ None) (sym (eqb-true b 45 e)) refl

hyphen_number : (low high default : ℕ) (text : Text) → begins_with_hyphen text ≡ true
    → number_or low high default (Some text) ≡ None
hyphen_number low high default [] e = cc
hyphen_number low high default (b ∷ bs) e =
    subst (λ x. number_or low high default (Some (x ∷ bs)) ≡ None) (sym (eqb-true b 45 e))
    (ap (kept_in_range low high) (sym (no_number_at (45 ∷ bs) 0 (omega arith) refl)))

hyphen_scales : (text : Text) → begins_with_hyphen text ≡ true → scales_in (Some text) ≡ None
hyphen_scales [] e = cc
hyphen_scales (b ∷ bs) e = subst (λ x. scales_in (Some (x ∷ bs)) ≡ None) (sym (eqb-true b 45 e)) refl

hyphen_asked : (text : Text) → begins_with_hyphen text ≡ true → asked_in (Some text) ≡ None
hyphen_asked [] e = cc
hyphen_asked (b ∷ bs) e = subst (λ x. asked_in (Some (x ∷ bs)) ≡ None) (sym (eqb-true b 45 e)) refl

-- one of the seven options
pub data OptionName (name : Text) : Type 0 where
  is_workers : name ≡ codes "workers" → OptionName name
  is_budget : name ≡ codes "budget" → OptionName name
  is_scales : name ≡ codes "scales" → OptionName name
  is_number : name ≡ codes "number" → OptionName name
  is_proposals : name ≡ codes "proposals" → OptionName name
  is_facts : name ≡ codes "facts" → OptionName name
  is_bounds : name ≡ codes "bounds" → OptionName name

which_option : (name : Text) → is_option_name name ≡ true → OptionName name
which_option name e =
    elim (or_cases (bytes_eq (codes "workers") name) _ e) [
      | inl h ↦ is_workers (sym (bytes_same (codes "workers") name h))
      | inr h ↦ elim (or_cases (bytes_eq (codes "budget") name) _ h) [
        | inl h ↦ is_budget (sym (bytes_same (codes "budget") name h))
        | inr h ↦ elim (or_cases (bytes_eq (codes "scales") name) _ h) [
          | inl h ↦ is_scales (sym (bytes_same (codes "scales") name h))
          | inr h ↦ elim (or_cases (bytes_eq (codes "number") name) _ h) [
            | inl h ↦ is_number (sym (bytes_same (codes "number") name h))
            | inr h ↦ elim (or_cases (bytes_eq (codes "proposals") name) _ h) [
              | inl h ↦ is_proposals (sym (bytes_same (codes "proposals") name h))
              | inr h ↦ elim (or_cases (bytes_eq (codes "facts") name) _ h) [
                | inl h ↦ is_facts (sym (bytes_same (codes "facts") name h))
                | inr h ↦ elim (or_cases (bytes_eq (codes "bounds") name) false h) [
                  | inl h ↦ is_bounds (sym (bytes_same (codes "bounds") name h))
                  | inr h ↦ cc
                ]
              ]
            ]
          ]
        ]
      ]
    ]

-- where an odd item stands
pub data OddAt (items : List Item) : Type 0 where
  at_job : list_any begins_with_hyphen (job_words items) ≡ true → OddAt items
  at_option : (name : Text) → is_option_name name ≡ true → list_any begins_with_hyphen (values_of name items) ≡ true
      → OddAt items

value_later : (b : Bool) (value : Text) (values : List Text) → list_any begins_with_hyphen values ≡ true
    → list_any begins_with_hyphen (if b then value ∷ values else values) ≡ true
value_later true value values e = or_right (begins_with_hyphen value) (list_any begins_with_hyphen values) e
value_later false value values e = e

odd_at : (items : List Item) → list_all is_named items ≡ true → list_any is_odd items ≡ true → OddAt items
odd_at [] named odd = cc
odd_at (option name value ∷ items) named odd =
    let p = and_parts (is_option_name name) (list_all is_named items) named in
    elim (or_cases (begins_with_hyphen value) (list_any is_odd items) odd) [
      | inl h ↦
          let same : bytes_eq name name ≡ true = (bytes_eq-Decides name name).1 refl in
          at_option name p.0 (rw same (or_left (begins_with_hyphen value)
          (list_any begins_with_hyphen (values_of name items)) h))
      | inr h ↦ elim (odd_at items p.1 h) [
        | at_job e ↦ at_job e
        | at_option other is e ↦ at_option other is (value_later (bytes_eq name other) value (values_of other items) e)
      ]
    ]
odd_at (word text ∷ items) named odd =
    elim (or_cases (begins_with_hyphen text) (list_any is_odd items) odd) [
      | inl h ↦ at_job (or_left (begins_with_hyphen text) (list_any begins_with_hyphen (job_words items)) h)
      | inr h ↦ elim (odd_at items named h) [
        | at_job e ↦ at_job (or_right (begins_with_hyphen text) (list_any begins_with_hyphen (job_words items)) e)
        | at_option other is e ↦ at_option other is e
      ]
    ]

odd_option : (items : List Item) (name : Text) → OptionName name → list_any begins_with_hyphen (values_of name items)
    ≡ true → judge items ≡ None
odd_option items name (is_workers is) e =
    bad_workers items (odd_bad (number_or 1 64 1) (hyphen_number 1 64 1) (once (codes "workers") items)
    (odd_once (values_of (codes "workers") items)
    (subst (λ m. list_any begins_with_hyphen (values_of m items) ≡ true) is e)))
odd_option items name (is_budget is) e =
    bad_budget items (odd_bad (number_or 0 10000000 1000000) (hyphen_number 0 10000000 1000000)
    (once (codes "budget") items) (odd_once (values_of (codes "budget") items)
    (subst (λ m. list_any begins_with_hyphen (values_of m items) ≡ true) is e)))
odd_option items name (is_scales is) e =
    bad_scales items (odd_bad scales_in hyphen_scales (once (codes "scales") items)
    (odd_once (values_of (codes "scales") items)
    (subst (λ m. list_any begins_with_hyphen (values_of m items) ≡ true) is e)))
odd_option items name (is_number is) e =
    bad_number items (odd_bad (number_or 0 2147483647 0) (hyphen_number 0 2147483647 0) (once (codes "number") items)
    (odd_once (values_of (codes "number") items)
    (subst (λ m. list_any begins_with_hyphen (values_of m items) ≡ true) is e)))
odd_option items name (is_proposals is) e =
    bad_proposals items (odd_bad asked_in hyphen_asked (once (codes "proposals") items)
    (odd_once (values_of (codes "proposals") items)
    (subst (λ m. list_any begins_with_hyphen (values_of m items) ≡ true) is e)))
odd_option items name (is_facts is) e =
    bad_facts items (odd_bad asked_in hyphen_asked (once (codes "facts") items)
    (odd_once (values_of (codes "facts") items)
    (subst (λ m. list_any begins_with_hyphen (values_of m items) ≡ true) is e)))
odd_option items name (is_bounds is) e =
    bad_bounds items (odd_bad asked_in hyphen_asked (once (codes "bounds") items)
    (odd_once (values_of (codes "bounds") items)
    (subst (λ m. list_any begins_with_hyphen (values_of m items) ≡ true) is e)))

-- odd items name no job
odd_items : (items : List Item) → list_all is_named items ≡ true → list_any is_odd items ≡ true → judge items ≡ None
odd_items items named odd =
    elim (odd_at items named odd) [
      | at_job e ↦ bad_job items (odd_bad job_in hyphen_job (at_most_once (job_words items))
          (odd_once (job_words items) e))
      | at_option name is e ↦ odd_option items name (which_option name is) e
    ]

-- ---- the rows and the items

said_option : (name : Text) → bytes_eq (codes "job") name ≡ false → (items : List Item)
    → said_at name items ≡ values_of name items
said_option name none [] = refl
said_option name none (option other value ∷ items) =
    ap (λ vs. if bytes_eq other name then value ∷ vs else vs) (said_option name none items)
said_option name none (word text ∷ items) = rw none (said_option name none items)

said_job : (items : List Item) → list_all is_named items ≡ true → said_at (codes "job") items ≡ job_words items
said_job [] named = refl
said_job (option name value ∷ items) named =
    let p = and_parts (is_option_name name) (list_all is_named items) named in
    rw (option_is_no_job name p.0) (said_job items p.1)
said_job (word text ∷ items) named = ap (λ ts. text ∷ ts) (said_job items named)

-- the texts that the rows hold
abbrev pub texts_of_rows : List Row → Texts
texts_of_rows rows = record {
  job = first_of (codes "job") rows;
  workers = first_of (codes "workers") rows;
  budget = first_of (codes "budget") rows;
  scales = first_of (codes "scales") rows;
  number = first_of (codes "number") rows;
  proposals = first_of (codes "proposals") rows;
  facts = first_of (codes "facts") rows;
  bounds = first_of (codes "bounds") rows;
}

once_said : (items : List Item) (rows : List Row) → Ended [] items rows → (id : Text) (texts : List Text)
    → said_at id items ≡ texts
    → at_most_once texts ≡ Some (first_of id rows)
once_said items rows ended id texts e = ap at_most_once (sym e ∙ sym (ended.texts id)) ∙ ended.once.once id

texts_are : (items : List Item) (rows : List Row) → list_all is_named items ≡ true → finish [] items ≡ Some rows
    → texts_of items ≡ Some (texts_of_rows rows)
texts_are items rows named e =
    let ended = finish_once items [] rows once_none e in
    let j : at_most_once (job_words items) ≡ Some (first_of (codes "job") rows) =
    once_said items rows ended (codes "job") _ (said_job items named) in
    let w : at_most_once (values_of (codes "workers") items) ≡ Some (first_of (codes "workers") rows) =
    once_said items rows ended (codes "workers") _ (said_option (codes "workers") refl items) in
    let b : at_most_once (values_of (codes "budget") items) ≡ Some (first_of (codes "budget") rows) =
    once_said items rows ended (codes "budget") _ (said_option (codes "budget") refl items) in
    let s : at_most_once (values_of (codes "scales") items) ≡ Some (first_of (codes "scales") rows) =
    once_said items rows ended (codes "scales") _ (said_option (codes "scales") refl items) in
    let n : at_most_once (values_of (codes "number") items) ≡ Some (first_of (codes "number") rows) =
    once_said items rows ended (codes "number") _ (said_option (codes "number") refl items) in
    let p : at_most_once (values_of (codes "proposals") items) ≡ Some (first_of (codes "proposals") rows) =
    once_said items rows ended (codes "proposals") _ (said_option (codes "proposals") refl items) in
    let f : at_most_once (values_of (codes "facts") items) ≡ Some (first_of (codes "facts") rows) =
    once_said items rows ended (codes "facts") _ (said_option (codes "facts") refl items) in
    let u : at_most_once (values_of (codes "bounds") items) ≡ Some (first_of (codes "bounds") rows) =
    once_said items rows ended (codes "bounds") _ (said_option (codes "bounds") refl items) in
    rw (j, w, b, s, n, p, f, u) refl

once_bad : {A : Type 0} (test : Option Text → Option A) (o : Option (Option Text)) → o ≡ None → IsBad test o
once_bad test o e = subst (IsBad test) (sym e) tt

option_twice : (items : List Item) (name : Text) → OptionName name → at_most_once (said_at name items) ≡ None
    → judge items ≡ None
option_twice items name (is_workers is) e =
    bad_workers items (once_bad (number_or 1 64 1) (once (codes "workers") items)
    (ap at_most_once (sym (said_option (codes "workers") refl items))
    ∙ subst (λ m. at_most_once (said_at m items) ≡ None) is e))
option_twice items name (is_budget is) e =
    bad_budget items (once_bad (number_or 0 10000000 1000000) (once (codes "budget") items)
    (ap at_most_once (sym (said_option (codes "budget") refl items))
    ∙ subst (λ m. at_most_once (said_at m items) ≡ None) is e))
option_twice items name (is_scales is) e =
    bad_scales items (once_bad scales_in (once (codes "scales") items)
    (ap at_most_once (sym (said_option (codes "scales") refl items))
    ∙ subst (λ m. at_most_once (said_at m items) ≡ None) is e))
option_twice items name (is_number is) e =
    bad_number items (once_bad (number_or 0 2147483647 0) (once (codes "number") items)
    (ap at_most_once (sym (said_option (codes "number") refl items))
    ∙ subst (λ m. at_most_once (said_at m items) ≡ None) is e))
option_twice items name (is_proposals is) e =
    bad_proposals items (once_bad asked_in (once (codes "proposals") items)
    (ap at_most_once (sym (said_option (codes "proposals") refl items))
    ∙ subst (λ m. at_most_once (said_at m items) ≡ None) is e))
option_twice items name (is_facts is) e =
    bad_facts items (once_bad asked_in (once (codes "facts") items)
    (ap at_most_once (sym (said_option (codes "facts") refl items))
    ∙ subst (λ m. at_most_once (said_at m items) ≡ None) is e))
option_twice items name (is_bounds is) e =
    bad_bounds items (once_bad asked_in (once (codes "bounds") items)
    (ap at_most_once (sym (said_option (codes "bounds") refl items))
    ∙ subst (λ m. at_most_once (said_at m items) ≡ None) is e))

job_twice : (items : List Item) → list_all is_named items ≡ true → at_most_once (said_at (codes "job") items) ≡ None
    → judge items ≡ None
job_twice items named e = bad_job items
    (once_bad job_in (at_most_once (job_words items)) (ap at_most_once (sym (said_job items named)) ∙ e))

job_missing : (items : List Item) → list_all is_named items ≡ true → said_at (codes "job") items ≡ []
    → judge items ≡ None
job_missing items named e =
    let none : at_most_once (job_words items) ≡ Some None = ap at_most_once (sym (said_job items named) ∙ e) in
    bad_job items (subst (IsBad job_in) (sym none) nothing)
  where
    nothing : job_in None ≡ None
    nothing = refl

-- items that give no rows name no job
no_rows : (items : List Item) → list_all is_named items ≡ true → finish [] items ≡ None → judge items ≡ None
no_rows items named e = why (finish_fails items [] named once_none e)
  where
    why : Fails [] items → judge items ≡ None
    why (twice id (inl is) e) = job_twice items named (subst (λ i. at_most_once (said_at i items) ≡ None) is e)
    why (twice id (inr is) e) = option_twice items id (which_option id is) e
    why (no_job e) = job_missing items named e

-- ---- the words

job_when : (read items : Option (List Item)) (rows : List Row) → AreAlike read items
    → ((all : List Item) → read ≡ Some all → list_all is_named all ≡ true) → expect (Some []) read ≡ Some rows
    → (items >>= λ all. judge all) ≡ job_of_texts (texts_of_rows rows)
job_when None items rows same named e = cc
job_when (Some all) items rows (inl is) named e =
    ap (λ o. o >>= λ all. judge all) (sym is)
    ∙ ap (λ o. o >>= λ texts. job_of_texts texts) (texts_are all rows (named all refl) e)
job_when (Some all) items rows (inr odd) named e =
    ap (λ o. o >>= λ all. judge all) odd.0 ∙ sym (odd_items all (named all refl) odd.1)
    ∙ ap (λ o. o >>= λ texts. job_of_texts texts) (texts_are all rows (named all refl) e)

none_when : (read items : Option (List Item)) → AreAlike read items
    → ((all : List Item) → read ≡ Some all → list_all is_named all ≡ true) → expect (Some []) read ≡ None
    → (items >>= λ all. judge all) ≡ None
none_when read items (inr odd) named e = ap (λ o. o >>= λ all. judge all) odd.0
none_when None items (inl is) named e = ap (λ o. o >>= λ all. judge all) (sym is)
none_when (Some all) items (inl is) named e = ap (λ o. o >>= λ all. judge all) (sym is) ∙ no_rows all (named all refl) e

named_items : (words : List Text) (all : List Item) → reads None words ≡ Some all → list_all is_named all ≡ true
named_items words all e = by (reads None words) e (all_named words None tt)
  where
    by : (read : Option (List Item)) → read ≡ Some all → AreNamed read → list_all is_named all ≡ true
    by read e named = subst AreNamed e named

-- the job of words whose rows are these
pub job_of_rows : (words : List Text) (rows : List Row) → rows_said words ≡ Some rows
    → job_of_words words ≡ job_of_texts (texts_of_rows rows)
unfolding job_of_words
job_of_rows words rows e = job_when (reads None words) (items_from None words) rows (alike words None)
    (named_items words) e

-- words that have no rows name no job
pub no_job_of_rows : (words : List Text) → rows_said words ≡ None → job_of_words words ≡ None
unfolding job_of_words
no_job_of_rows words e = none_when (reads None words) (items_from None words) (alike words None) (named_items words) e

-- the texts that are found
pub texts_same : (job workers budget scales number proposals facts bounds : Option Text) (rows : List Row)
    → job ≡ first_of (codes "job") rows → workers ≡ first_of (codes "workers") rows
    → budget ≡ first_of (codes "budget") rows
    → scales ≡ first_of (codes "scales") rows → number ≡ first_of (codes "number") rows
    → proposals ≡ first_of (codes "proposals") rows
    → facts ≡ first_of (codes "facts") rows → bounds ≡ first_of (codes "bounds") rows
    → texts_like job workers budget scales number proposals facts bounds ≡ texts_of_rows rows
texts_same job workers budget scales number proposals facts bounds rows j w b s n p f u =
    rw (j, w, b, s, n, p, f, u) refl
