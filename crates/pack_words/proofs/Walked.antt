-- All words: what `clap` finds in the words of the command line is what they say.
use Rattle.std.proofs.Common.{◌≡◌, ◌||◌, ◌&&◌, ◌∙◌, ℕ, List, [], ◌∷◌, ◌++◌, Option, Some, None, Bool, true, false, not}
use Rattle.std.proofs.Common.{refl, sym, ap, ap₂, if◌then◌else◌, codes, is_some, subst, map}
use Rattle.std.proofs.Math.Bool.{or-false}
use Rattle.std.specs.Str.{bytes_eq, chars}
use Rattle.clap.specs.Walk.{Text, Row, Held, Walk, idle, option, has_row, settled, finished, nothing_held}
use Rattle.clap.specs.Faults.{walk_fault, settle_fault, defaults_fault, check_fault, fault_of}
use Rattle.clap.specs.Simple.{matches_of, built, entered}
use Rattle.clap.specs.Faults.{entered_fault, level_fault}
use Rattle.clap.specs.Lexer.{long_of, short_of}
use Rattle.clap.specs.Kinds.{HasKind, Kinds, or_else}
use Rattle.clap.specs.Values.{kind_of as error_kind}
use Rattle.clap.specs.declared.error.Error.{Error}
use Rattle.std.proofs.Common.{inl, inr}
use Rattle.clap.specs.declared.error.kind.ErrorKind.TheVariants as kind
use Rattle.pack_words.specs.Command.{pack_app}
use Rattle.pack_words.specs.Items.{Item, is_option_name, option_names, before, valued}
use Rattle.pack_words.specs.Items as item
use Rattle.pack_words.proofs.ClapReading.{place, dashes, first_flag, is_flag, reads, expect, rows_said, row}
use Rattle.pack_words.proofs.Steps.{top, rules, known_option, known_job, bytes_same}
use Rattle.std.specs.List.{list_any, list_all}
use Rattle.clap.specs.Walk as walk
use Rattle.pack_words.proofs.Walking.{some_inj, Pend, sim_goes, sim_stops, sim_end, job_goes, job_stops, stray_stops}
use Rattle.pack_words.proofs.Walking.{has_row-append, names_placed, tails, dashes_go, unknown_stops, option_stops}
use Rattle.pack_words.proofs.Walking.{option_goes, option_repeats, option_waits, flag_stops, Plain, plain_idle}
use Rattle.pack_words.proofs.Walking.{value_goes, waiting_of, state, KnownPend, settle_to, obs, ended, last, sim}
use Rattle.pack_words.proofs.Walking.{Names_job, nothing, full, wants, bare, dashed}

-- ---- how `clap` reads the words

pub data Kind (x : Text) : Type 0 where
  dash : bytes_eq x dashes ≡ true → Kind x
  long : bytes_eq x dashes ≡ false → (name : Text) → (v : Option Text) → long_of x ≡ Some (name, v) → Kind x
  flag : bytes_eq x dashes ≡ false → long_of x ≡ None → (y : ℕ) → (ys : Text) → (c : ℕ) → short_of x ≡ Some (y ∷ ys)
      → first_flag (y ∷ ys) ≡ Some c → is_flag x ≡ true → Kind x
  other : bytes_eq x dashes ≡ false → long_of x ≡ None → Plain x → is_flag x ≡ false → Kind x

pub no_chars : first_flag [] ≡ None
unfolding chars
no_chars = refl

pub kind_short : (x : Text) → bytes_eq x dashes ≡ false → long_of x ≡ None → (o : Option Text) → short_of x ≡ o → Kind x
kind_short x plain none None is = other plain none (bare is) (rw is refl)
kind_short x plain none (Some []) is = other plain none (dashed [] is no_chars) (rw (is, no_chars) refl)
kind_short x plain none (Some (y ∷ ys)) is =
    elim (first_flag (y ∷ ys)) as (λ o. first_flag (y ∷ ys) ≡ o → Kind x) [
      | None ↦ λ n. other plain none (dashed (y ∷ ys) is n) (rw (is, n) refl)
      | Some c ↦ λ n. flag plain none y ys c is n (rw (is, n) refl)
    ] refl

pub kind_long : (x : Text) → bytes_eq x dashes ≡ false → (o : Option (Text × Option Text)) → long_of x ≡ o → Kind x
kind_long x plain None is = kind_short x plain is (short_of x) refl
kind_long x plain (Some p) is = long plain p.0 p.1 is

pub kind_of : (x : Text) → Kind x
kind_of x =
    elim (bytes_eq x dashes) as (λ b. bytes_eq x dashes ≡ b → Kind x) [
      | true ↦ λ is. dash is
      | false ↦ λ is. kind_long x is (long_of x) refl
    ] refl

-- ---- the whole walk is what is read

abbrev pub wanted_of : Pend → Option Text
wanted_of nothing = None
wanted_of (full id v) = None
wanted_of (wants name) = Some name

abbrev pub ready : Pend → Pend
ready nothing = nothing
ready (full id v) = full id v
ready (wants name) = nothing

pub expect-none : (r : Option (List Item)) → expect None r ≡ None
expect-none None = refl
expect-none (Some items) = refl

pub expect-more_option : (rs : List Row) (name v : Text) (r : Option (List Item))
    → expect (Some rs) (before (item.option name v) r) ≡ expect (place rs name v) r
expect-more_option rs name v None = refl
expect-more_option rs name v (Some items) = refl

pub expect-more_word : (rs : List Row) (x : Text) (r : Option (List Item))
    → expect (Some rs) (before (item.word x) r) ≡ expect (place rs (codes "job") x) r
expect-more_word rs x None = refl
expect-more_word rs x (Some items) = refl

pub not_true : (a b : Bool) → (not a && b) ≡ true → a ≡ false
not_true true b is = cc
not_true false b is = refl

pub and_rest : (a b : Bool) → (not a && b) ≡ true → b ≡ true
and_rest true b is = cc
and_rest false b is = is

pub not_job : (name : Text) (ns : List Text) → list_all (λ n. not (bytes_eq n (codes "job"))) ns ≡ true
    → list_any (λ n. bytes_eq n name) ns ≡ true → bytes_eq name (codes "job") ≡ false
not_job name [] all any = cc
not_job name (n ∷ ns) all any =
    elim (bytes_eq n name) as (λ b. bytes_eq n name ≡ b → (b || list_any (λ m. bytes_eq m name) ns) ≡ true
    → bytes_eq name (codes "job") ≡ false) [
      | true ↦ λ same _. subst (λ m. bytes_eq m (codes "job") ≡ false) (bytes_same n name same)
          (not_true (bytes_eq n (codes "job")) (list_all (λ m. not (bytes_eq m (codes "job"))) ns) all)
      | false ↦ λ _ h. not_job name ns
          (and_rest (bytes_eq n (codes "job")) (list_all (λ m. not (bytes_eq m (codes "job"))) ns) all) h
    ] refl any

pub option_is_no_job : (name : Text) → is_option_name name ≡ true → bytes_eq name (codes "job") ≡ false
option_is_no_job name is = not_job name option_names refl is

pub names_option : (rs : List Row) (name v : Text) (named : Bool) → is_option_name name ≡ true
    → has_row (codes "job") rs ≡ named → has_row (codes "job") (rs ++ row name v ∷ []) ≡ named
names_option rs name v named known is =
    has_row-append (codes "job") rs (row name v) ∙ (ap₂ (λ a b. a || b) is (option_is_no_job name known) ∙ or-false named)

pub names_full : (rs : List Row) (name v : Text) (named : Bool) → is_option_name name ≡ true
    → has_row (codes "job") rs ≡ named → Names_job rs (full name v) named
names_full rs name v named known is more h =
    elim (has_row name rs) as (λ b. (if b then None else Some (rs ++ row name v ∷ [])) ≡ Some more
    → has_row (codes "job") more ≡ named) [
      | true ↦ λ e. cc
      | false ↦ λ e. subst (λ q. has_row (codes "job") q ≡ named) (some_inj e) (names_option rs name v named known is)
    ] h

pub reads_dash : (x : Text) (ws : List Text) → bytes_eq x dashes ≡ true → reads None (x ∷ ws) ≡ Some (map item.word ws)
reads_dash x ws is = rw is refl

pub reads_long : (x : Text) (ws : List Text) (name : Text) (v : Option Text) → bytes_eq x dashes ≡ false
    → long_of x ≡ Some (name, v) → reads None (x ∷ ws)
    ≡ (if is_option_name name then valued name v (λ wanted. reads wanted ws) else None)
reads_long x ws name v plain is = rw (plain, is) refl

pub reads_flag : (x : Text) (ws : List Text) → bytes_eq x dashes ≡ false → long_of x ≡ None → is_flag x ≡ true
    → reads None (x ∷ ws) ≡ None
reads_flag x ws plain none is = rw (plain, none, is) refl

pub reads_other : (x : Text) (ws : List Text) → bytes_eq x dashes ≡ false → long_of x ≡ None → is_flag x ≡ false
    → reads None (x ∷ ws) ≡ before (item.word x) (reads None ws)
reads_other x ws plain none is = rw (plain, none, is) refl

pub wanted_long : (x : Text) (ws : List Text) (name : Text) → bytes_eq x dashes ≡ false → is_some (long_of x) ≡ true
    → reads (Some name) (x ∷ ws) ≡ None
wanted_long x ws name plain is = rw (plain, is) refl

pub wanted_flag : (x : Text) (ws : List Text) (name : Text) → bytes_eq x dashes ≡ false → is_some (long_of x) ≡ false
    → is_flag x ≡ true → reads (Some name) (x ∷ ws) ≡ None
wanted_flag x ws name plain none is = rw (plain, none, is) refl

pub wanted_other : (x : Text) (ws : List Text) (name : Text) → bytes_eq x dashes ≡ false → is_some (long_of x) ≡ false
    → is_flag x ≡ false → reads (Some name) (x ∷ ws) ≡ before (item.option name x) (reads None ws)
wanted_other x ws name plain none is = rw (plain, none, is) refl

-- what the rest of the words is shown to give
abbrev pub Rest : List Text → Type 0
Rest ws = (rows : List Row) (pend : Pend) (named : Bool) → KnownPend pend → Names_job rows (ready pend) named
    → sim (state rows pend named false) ws ≡ expect (settle_to rows (ready pend)) (reads (wanted_of pend) ws)

pub long_step : (x : Text) (ws : List Text) (rows : List Row) (pend : Pend) (named : Bool) (name : Text)
    (v : Option Text) → KnownPend pend → Names_job rows pend named → Rest ws
    → bytes_eq x dashes ≡ false → long_of x ≡ Some (name, v) → is_option_name name ≡ true → (o : Option (List Row))
    → settle_to rows pend ≡ o
    → sim (state rows pend named false) (x ∷ ws) ≡ expect o (valued name v (λ wanted. reads wanted ws))
long_step x ws rows pend named name v known j rest plain is known_name None settled_is =
    sim_stops (state rows pend named false) x ws
    (option_stops rows pend named x name v plain is known_name known settled_is)
    ∙ sym (expect-none (valued name v (λ wanted. reads wanted ws)))
long_step x ws rows pend named name None known j rest plain is known_name (Some rs) settled_is =
    sim_goes (state rows pend named false) (state rs (wants name) named false) x ws
    (option_waits rows pend rs named x name plain is known_name known settled_is)
    ∙ rest rs (wants name) named known_name
    (λ q e. subst (λ r. has_row (codes "job") r ≡ named) (some_inj e) (j rs settled_is))
long_step x ws rows pend named name (Some val) known j rest plain is known_name (Some rs) settled_is =
    elim (has_row name rs) as (λ b. has_row name rs ≡ b
    → sim (state rows pend named false) (x ∷ ws) ≡ expect (if b then None else Some (rs ++ row name val ∷ []))
    (reads None ws)) [
      | true ↦ λ old. sim_stops (state rows pend named false) x ws
          (option_repeats rows pend rs named x name val plain is known_name known settled_is old)
          ∙ sym (expect-none (reads None ws))
      | false ↦ λ new.
          sim_goes (state rows pend named false) (state (rs ++ row name val ∷ []) nothing named false) x ws
          (option_goes rows pend rs named x name val plain is known_name known settled_is new)
          ∙ rest (rs ++ row name val ∷ []) nothing named tt
          (λ q e. subst (λ r. has_row (codes "job") r ≡ named) (some_inj e)
          (names_option rs name val named known_name (j rs settled_is)))
    ] refl
    ∙ sym (expect-more_option rs name val (reads None ws))

pub other_step : (x : Text) (ws : List Text) (rows : List Row) (pend : Pend) (named : Bool) → waiting_of pend ≡ idle
    → KnownPend pend → Names_job rows pend named → Rest ws
    → bytes_eq x dashes ≡ false → long_of x ≡ None → Plain x → (o : Option (List Row)) → settle_to rows pend ≡ o
    → sim (state rows pend named false) (x ∷ ws) ≡ expect o (before (item.word x) (reads None ws))
other_step x ws rows pend true waits known j rest plain is p None settled_is =
    sim_stops (state rows pend true false) x ws
    (stray_stops rows pend false x (plain_idle rows pend 2 x waits plain is p))
    ∙ sym (expect-none (before (item.word x) (reads None ws)))
other_step x ws rows pend true waits known j rest plain is p (Some rs) settled_is =
    sim_stops (state rows pend true false) x ws
    (stray_stops rows pend false x (plain_idle rows pend 2 x waits plain is p))
    ∙ (sym (expect-none (reads None ws))
    ∙ (ap (λ b. expect (if b then None else Some (rs ++ row (codes "job") x ∷ [])) (reads None ws))
    (sym (j rs settled_is)) ∙ sym (expect-more_word rs x (reads None ws))))
other_step x ws rows pend false waits known j rest plain is p None settled_is =
    sim_stops (state rows pend false false) x ws
    (job_stops rows pend false x known settled_is (plain_idle rows pend 1 x waits plain is p))
    ∙ sym (expect-none (before (item.word x) (reads None ws)))
other_step x ws rows pend false waits known j rest plain is p (Some rs) settled_is =
    sim_goes (state rows pend false false) (state rs (full (codes "job") x) true false) x ws
    (job_goes rows pend rs false x known settled_is (plain_idle rows pend 1 x waits plain is p))
    ∙ (rest rs (full (codes "job") x) true known_job (names_placed rs x) ∙ sym (expect-more_word rs x (reads None ws)))

pub idle_step : (x : Text) (ws : List Text) (rows : List Row) (pend : Pend) (named : Bool) → waiting_of pend ≡ idle
    → KnownPend pend → Names_job rows pend named → Rest ws → Kind x
    → sim (state rows pend named false) (x ∷ ws) ≡ expect (settle_to rows pend) (reads None (x ∷ ws))
idle_step x ws rows pend named waits known j rest (dash is) =
    sim_goes (state rows pend named false) (state rows pend named true) x ws (dashes_go rows pend named x is)
    ∙ (tails ws rows pend named known j ∙ sym (ap (expect (settle_to rows pend)) (reads_dash x ws is)))
idle_step x ws rows pend named waits known j rest (long plain name v is) =
    elim (is_option_name name) as (λ b. is_option_name name ≡ b
    → sim (state rows pend named false) (x ∷ ws)
    ≡ expect (settle_to rows pend) (if b then valued name v (λ wanted. reads wanted ws) else None)) [
      | true ↦ λ known_name. long_step x ws rows pend named name v known j rest plain is known_name
          (settle_to rows pend) refl
      | false ↦ λ unknown. sim_stops (state rows pend named false) x ws
          (unknown_stops rows pend named x name v plain is unknown)
    ] refl
    ∙ sym (ap (expect (settle_to rows pend)) (reads_long x ws name v plain is))
idle_step x ws rows pend named waits known j rest (flag plain none y ys c short first flagged) =
    sim_stops (state rows pend named false) x ws (flag_stops rows pend named x y ys c plain none short first)
    ∙ sym (ap (expect (settle_to rows pend)) (reads_flag x ws plain none flagged))
idle_step x ws rows pend named waits known j rest (other plain none p unflagged) =
    other_step x ws rows pend named waits known j rest plain none p (settle_to rows pend) refl
    ∙ sym (ap (expect (settle_to rows pend)) (reads_other x ws plain none unflagged))

pub wants_step : (x : Text) (ws : List Text) (rows : List Row) (name : Text) (named : Bool) → is_option_name name ≡ true
    → Names_job rows nothing named → Rest ws → Kind x
    → sim (state rows (wants name) named false) (x ∷ ws) ≡ expect (Some rows) (reads (Some name) (x ∷ ws))
wants_step x ws rows name named known j rest (dash is) =
    sim_goes (state rows (wants name) named false) (state rows (wants name) named true) x ws
    (dashes_go rows (wants name) named x is)
    ∙ (tails ws rows (wants name) named known (λ rs e. cc)
    ∙ sym (ap (λ b. expect (Some rows)
    (if b then None else (if is_some (long_of x) then None else
    (if is_flag x then None else before (item.option name x) (reads None ws))))) is))
wants_step x ws rows name named known j rest (long plain other_name v is) =
    elim (is_option_name other_name) as
    (λ b. is_option_name other_name ≡ b → sim (state rows (wants name) named false) (x ∷ ws) ≡ None) [
      | true ↦ λ known_name. sim_stops (state rows (wants name) named false) x ws
          (option_stops rows (wants name) named x other_name v plain is known_name known refl)
      | false ↦ λ unknown. sim_stops (state rows (wants name) named false) x ws
          (unknown_stops rows (wants name) named x other_name v plain is unknown)
    ] refl
    ∙ sym (ap (expect (Some rows)) (wanted_long x ws name plain (ap is_some is)))
wants_step x ws rows name named known j rest (flag plain none y ys c short first flagged) =
    sim_stops (state rows (wants name) named false) x ws
    (flag_stops rows (wants name) named x y ys c plain none short first)
    ∙ sym (ap (expect (Some rows)) (wanted_flag x ws name plain (ap is_some none) flagged))
wants_step x ws rows name named known j rest (other plain none p unflagged) =
    sim_goes (state rows (wants name) named false) (state rows (full name x) named false) x ws
    (value_goes rows name named x known plain none p)
    ∙ (rest rows (full name x) named (known_option name known) (names_full rows name x named known (j rows refl))
    ∙ (sym (expect-more_option rows name x (reads None ws))
    ∙ sym (ap (expect (Some rows)) (wanted_other x ws name plain (ap is_some none) unflagged))))

pub all_read : (ws : List Text) → Rest ws
all_read [] rows nothing named known j = sim_end rows nothing named false known
all_read [] rows (full id v) named known j = sim_end rows (full id v) named false known
all_read [] rows (wants name) named known j = sim_end rows (wants name) named false known
all_read (x ∷ ws) rows nothing named known j = idle_step x ws rows nothing named refl known j (all_read ws) (kind_of x)
all_read (x ∷ ws) rows (full id v) named known j =
    idle_step x ws rows (full id v) named refl known j (all_read ws) (kind_of x)
all_read (x ∷ ws) rows (wants name) named known j = wants_step x ws rows name named known j (all_read ws) (kind_of x)

-- ---- the parse

abbrev pub start : Walk
start = state [] nothing false false

pub no_stop : (stop : Option (Text × List Text)) → (is_some (entered (built pack_app) stop) ≡ false)
    × (entered_fault (built pack_app) stop ≡ [])
no_stop None = (refl, refl)
no_stop (Some p) = (refl, refl)

pub ended_obs : (ks : Kinds) (h : Held)
    → ended ks h ≡ obs (or_else ks
    (or_else [] (or_else (settle_fault rules false h)
    (or_else (defaults_fault (settled rules h).rows rules) (check_fault top (finished rules h) false)))))
    (finished rules h)
ended_obs [] h = refl
ended_obs (k ∷ ks) h = refl

-- where a parse of `pack` fails, and what it finds
pub parsed : (words : List Text) → obs (fault_of pack_app words) (matches_of pack_app words) ≡ rows_said words
parsed words =
    let stop = no_stop (walk.walk rules [] nothing_held words).stopped in
    ap₂ (λ b ks. obs (level_fault top [] nothing_held words b ks) (matches_of pack_app words)) stop.0 stop.1
    ∙ (sym (ended_obs (walk_fault top [] start words) (last start words))
    ∙ all_read words [] nothing false tt (λ rs e. subst (λ r. has_row (codes "job") r ≡ false) (some_inj e) refl))

pub ok_rows : (words : List Text) → fault_of pack_app words ≡ [] → rows_said words ≡ Some (matches_of pack_app words)
ok_rows words is = sym (parsed words) ∙ ap (λ k. obs k (matches_of pack_app words)) is

pub none_said : (words : List Text) (ks : Kinds) (e : Error) → fault_of pack_app words ≡ ks → HasKind ks e
    → (error_kind e ≡ kind.OutOfMemory → ⊥) → rows_said words ≡ None
none_said words [] e is (inl h) not_memory = absurd (not_memory h)
none_said words [] e is (inr h) not_memory = absurd h
none_said words (k ∷ ks) e is has not_memory = sym (parsed words) ∙ ap (λ q. obs q (matches_of pack_app words)) is
