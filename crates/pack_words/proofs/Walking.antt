-- What `clap` makes of the words of the command line, word by word.
use Rattle.std.proofs.Common.{◌≡◌, ◌||◌, ◌∙◌, ℕ, List, [], ◌∷◌, ◌++◌, Option, Some, None, Bool, true, false, not, refl}
use Rattle.std.proofs.Common.{ap, ap₂, if◌then◌else◌, codes, subst, map, fold, option_and_then, length}
use Rattle.std.proofs.Math.Bool.{or-true, and-false, or-false}
use Rattle.std.specs.Str.{bytes_eq}
use Rattle.clap.specs.Walk.{Text, Row, Held, Walk, Waiting, idle, option, value, walked, arg_by_long, has_row, word_met}
use Rattle.clap.specs.Walk.{settled, settled_rows, subcommand_met, with_default}
use Rattle.clap.specs.Faults.{walk_fault, turn_fault, word_fault, settle_fault, defaults_fault, check_fault}
use Rattle.clap.specs.Takes.{is_given}
use Rattle.clap.specs.Lexer.{long_of, short_of}
use Rattle.clap.specs.Kinds.{Kinds, or_else}
use Rattle.clap.specs.declared.error.kind.ErrorKind.{ErrorKind}
use Rattle.clap.specs.declared.error.kind.ErrorKind.TheVariants as kind
use Rattle.pack_words.specs.Items.{is_option_name, before}
use Rattle.pack_words.specs.Items as item
use Rattle.pack_words.proofs.ClapReading.{place, finish, dashes, first_flag, row}
use Rattle.pack_words.proofs.Steps.{top, rules, opt, Known, known_option, known_job, by_long, by_id, used-new}
use Rattle.clap.specs.Walk as walk
use Rattle.std.proofs.lemmas.Slice.Eq.{bytes_eq-Decides}
use Rattle.clap.specs.Faults.{flags_fault}
use Rattle.clap.specs.Walk.{bundle_met}
use Rattle.std.proofs.Common.{zero, suc}

pub some_inj : {X : Type 0} {x y : X} → Some x ≡ Some y → x ≡ y
some_inj {X} {x} {y} e = let f : Option X → X = λ o. elim o [ None ↦ x | Some z ↦ z ] in ap f e

-- what waits to be used: nothing, an argument with its value, or an option that wants one
pub data Pend : Type 0 where
  nothing : Pend
  full : (id : Text) → (value : Text) → Pend
  wants : (name : Text) → Pend

abbrev pub pending_of : Pend → Option (Text × List Text)
pending_of nothing = None
pending_of (full id v) = Some (id, v ∷ [])
pending_of (wants name) = Some (name, [])

abbrev pub waiting_of : Pend → Waiting
waiting_of nothing = idle
waiting_of (full id v) = idle
waiting_of (wants name) = option name

abbrev pub held : List Row → Option (Text × List Text) → Held
held rows pending = record { rows = rows; pending = pending; skip = 0 }

abbrev pub state : List Row → Pend → Bool → Bool → Walk
state rows pend named trailing = record {
  held = held rows (pending_of pend);
  waiting = waiting_of pend;
  position = if named then 2 else 1;
  is_trailing = trailing;
  stopped = None;
}

abbrev pub KnownPend : Pend → Type 0
KnownPend nothing = Unit {0}
KnownPend (full id v) = Known id
KnownPend (wants name) = is_option_name name ≡ true

abbrev pub settle_to : List Row → Pend → Option (List Row)
settle_to rows nothing = Some rows
settle_to rows (full id v) = place rows id v
settle_to rows (wants name) = None

pub record Settles (rows : List Row) (pend : Pend) (rs : List Row) : Type 0 where
  pub fault : settle_fault rules false (held rows (pending_of pend)) ≡ []
  pub rows_is : settled_rows rules (pending_of pend) rows ≡ rs
  pub held_is : settled rules (held rows (pending_of pend)) ≡ held rs None

pub settles : (rows : List Row) (pend : Pend) (rs : List Row) → KnownPend pend → settle_to rows pend ≡ Some rs
    → Settles rows pend rs
settles rows nothing rs known is =
    record { fault = refl; rows_is = some_inj is; held_is = ap (λ r. held r None) (some_inj is) }
settles rows (full id v) rs known is =
    elim (has_row id rows) as (λ b. has_row id rows ≡ b → (if b then None else Some (rows ++ row id v ∷ [])) ≡ Some rs
    → Settles rows (full id v) rs) [
      | true ↦ λ _ h. cc
      | false ↦ λ new h. record {
        fault = rw (known.found, known.fault v rows, new) refl;
        rows_is = rw known.found (known.use_new v rows new ∙ some_inj h);
        held_is = rw known.found (ap (λ r. held r None) (known.use_new v rows new ∙ some_inj h));
      }
    ] refl is
settles rows (wants name) rs known is = cc

-- some fault
pub record Some_of (ks : Kinds) : Type 0 where
  pub first : ErrorKind
  pub rest : Kinds
  pub is : ks ≡ first ∷ rest

pub fails : (rows : List Row) (pend : Pend) → KnownPend pend → settle_to rows pend ≡ None
    → Some_of (settle_fault rules false (held rows (pending_of pend)))
fails rows nothing known is = cc
fails rows (full id v) known is =
    elim (has_row id rows) as (λ b. has_row id rows ≡ b → (if b then None else Some (rows ++ row id v ∷ [])) ≡ None
    → Some_of (settle_fault rules false (held rows (pending_of (full id v))))) [
      | true ↦ λ old _. record {
        first = kind.ArgumentConflict;
        rest = [];
        is = rw (known.found, known.fault v rows, old) refl;
      }
      | false ↦ λ _ h. cc
    ] refl is
fails rows (wants name) known is =
    record {
      first = kind.InvalidValue;
      rest = [];
      is = let k = known_option name known in
          rw (k.found, k.empty rows) refl;
    }

-- ---- the whole walk

abbrev pub obs : Kinds → List Row → Option (List Row)
obs [] rows = Some rows
obs (k ∷ ks) rows = None

-- the end of the walk, by the fault of what is pending and what is held once that is used
abbrev pub end_by : Kinds → Held → Option (List Row)
end_by fault h = obs (or_else fault
    (or_else (defaults_fault h.rows rules) (check_fault top (fold with_default h.rows rules) false)))
    (fold with_default h.rows rules)

abbrev pub ended : Kinds → Held → Option (List Row)
ended [] h = end_by (settle_fault rules false h) (settled rules h)
ended (k ∷ ks) h = None

abbrev pub last : Walk → List Text → Held
last w ws = (fold (walked rules []) w ws).held

-- the rows that the rest of the words gives, where it has no fault
abbrev pub sim : Walk → List Text → Option (List Row)
sim w ws = ended (walk_fault top [] w ws) (last w ws)

pub record Goes (w : Walk) (x : Text) (after : Walk) : Type 0 where
  pub fault : turn_fault top [] w x ≡ []
  pub after_is : walked rules [] w x ≡ after

pub sim_goes : (w after : Walk) (x : Text) (ws : List Text) → Goes w x after → sim w (x ∷ ws) ≡ sim after ws
unfolding walk_fault
sim_goes w after x ws goes =
    ap₂ ended (ap (λ k. or_else k (walk_fault top [] (walked rules [] w x) ws)) goes.fault
    ∙ ap (λ v. walk_fault top [] v ws) goes.after_is) (ap (λ v. last v ws) goes.after_is)

pub sim_stops : (w : Walk) (x : Text) (ws : List Text) → Some_of (turn_fault top [] w x) → sim w (x ∷ ws) ≡ None
unfolding walk_fault
sim_stops w x ws stops = ap (λ k. ended (or_else k (walk_fault top [] (walked rules [] w x) ws))
    (last w (x ∷ ws))) stops.is

pub if_same : {X : Type 0} (b : Bool) (x : X) → (if b then x else x) ≡ x
if_same true x = refl
if_same false x = refl

-- no argument has a default
pub finished_is : (rows : List Row) → fold with_default rows rules ≡ rows
finished_is rows = rw (if_same, if_same, if_same, if_same, if_same, if_same, if_same, if_same) refl

pub no_default_fault : (rows : List Row) → defaults_fault rows rules ≡ []
unfolding defaults_fault
no_default_fault rows = rw (or-true, or-true, or-true, or-true, or-true, or-true, or-true, or-true) refl

pub check_end : (rs : List Row) → obs (check_fault top rs false) rs ≡ finish rs []
check_end rs = elim (is_given (codes "job") rs) as
    (λ b. obs (if (not b || false) then kind.MissingRequiredArgument ∷ [] else []) rs ≡ (if b then Some rs else None))
    [ true ↦ refl | false ↦ refl ]

pub sim_end : (rows : List Row) (pend : Pend) (named trailing : Bool) → KnownPend pend
    → sim (state rows pend named trailing) [] ≡ option_and_then (λ rs. finish rs []) (settle_to rows pend)
unfolding walk_fault
sim_end rows pend named trailing known =
    elim (settle_to rows pend) as (λ o. settle_to rows pend ≡ o
    → end_by (settle_fault rules false (held rows (pending_of pend))) (settled rules (held rows (pending_of pend)))
    ≡ option_and_then (λ rs. finish rs []) o) [
      | None ↦ λ is. ap (λ k. end_by k (settled rules (held rows (pending_of pend)))) (fails rows pend known is).is
      | Some rs ↦ λ is.
          let s = settles rows pend rs known is in
          ap₂ end_by s.fault s.held_is ∙ (ap₂ (λ d f. obs (or_else d (check_fault top f false)) f) (no_default_fault rs)
          (finished_is rs) ∙ check_end rs)
    ] refl

-- ---- the words after `--`

abbrev pub is_plain : Bool → Pend → List Row → ℕ → Text → Type 0
is_plain trailing pend rows position x =
    (word_met rules [] trailing (waiting_of pend) position x (held rows (pending_of pend))
    ≡ (held rows (pending_of pend), value))
    × (word_fault top [] trailing (waiting_of pend) x (held rows (pending_of pend)) ≡ [])

-- a plain word is the job, where none was named
pub job_goes : (rows : List Row) (pend : Pend) (rs : List Row) (trailing : Bool) (x : Text) → KnownPend pend
    → settle_to rows pend ≡ Some rs → is_plain trailing pend rows 1 x
    → Goes (state rows pend false trailing) x (state rs (full (codes "job") x) true trailing)
unfolding walked
job_goes rows pend rs trailing x known is plain =
    let s = settles rows pend rs known is in
    record {
      fault = rw (plain.1, plain.0, and-false, s.fault) refl;
      after_is = rw (plain.0, and-false, s.rows_is, or-false) refl;
    }

pub job_stops : (rows : List Row) (pend : Pend) (trailing : Bool) (x : Text) → KnownPend pend
    → settle_to rows pend ≡ None → is_plain trailing pend rows 1 x
    → Some_of (turn_fault top [] (state rows pend false trailing) x)
job_stops rows pend trailing x known is plain =
    let f = fails rows pend known is in
    record { first = f.first; rest = f.rest; is = rw (plain.1, plain.0, and-false) f.is }

-- a second plain word is one too many
pub stray_stops : (rows : List Row) (pend : Pend) (trailing : Bool) (x : Text) → is_plain trailing pend rows 2 x
    → Some_of (turn_fault top [] (state rows pend true trailing) x)
stray_stops rows pend trailing x plain =
    record { first = kind.UnknownArgument; rest = []; is = rw (plain.1, plain.0) refl }

-- ---- what the rows have

pub has_row-append : (id : Text) (xs : List Row) (r : Row)
    → has_row id (xs ++ r ∷ []) ≡ (has_row id xs || bytes_eq r.id id)
has_row-append id [] r = or-false (bytes_eq r.id id)
has_row-append id (x ∷ xs) r =
    elim (bytes_eq x.id id) as (λ b. (b || has_row id (xs ++ r ∷ [])) ≡ ((b || has_row id xs) || bytes_eq r.id id))
    [ true ↦ refl | false ↦ has_row-append id xs r ]

-- the job was named where a row of it stands, once all is settled
abbrev pub Names_job : List Row → Pend → Bool → Type 0
Names_job rows pend named = (rs : List Row) → settle_to rows pend ≡ Some rs → has_row (codes "job") rs ≡ named

pub names_placed : (rs : List Row) (x : Text) → Names_job rs (full (codes "job") x) true
names_placed rs x more is =
    elim (has_row (codes "job") rs) as
    (λ b. (if b then None else Some (rs ++ row (codes "job") x ∷ [])) ≡ Some more
    → has_row (codes "job") more ≡ true) [
      | true ↦ λ h. cc
      | false ↦ λ h. subst (λ q. has_row (codes "job") q ≡ true) (some_inj h)
          (has_row-append (codes "job") rs (row (codes "job") x) ∙ or-true (has_row (codes "job") rs))
    ] is

-- after `--` each word is a job word
pub tails : (ws : List Text) (rows : List Row) (pend : Pend) (named : Bool) → KnownPend pend → Names_job rows pend named
    → sim (state rows pend named true) ws ≡ option_and_then (λ rs. finish rs (map item.word ws)) (settle_to rows pend)
tails [] rows pend named known j = sim_end rows pend named true known
tails (x ∷ ws) rows pend true known j =
    sim_stops (state rows pend true true) x ws (stray_stops rows pend true x (refl, refl))
    ∙ elim (settle_to rows pend) as
    (λ o. settle_to rows pend ≡ o → None ≡ option_and_then (λ rs. finish rs (item.word x ∷ map item.word ws)) o) [
      | None ↦ λ is. refl
      | Some rs ↦ λ is. rw (j rs is) refl
    ] refl
tails (x ∷ ws) rows pend false known j =
    elim (settle_to rows pend) as (λ o. settle_to rows pend ≡ o
    → sim (state rows pend false true) (x ∷ ws)
    ≡ option_and_then (λ rs. finish rs (item.word x ∷ map item.word ws)) o) [
      | None ↦ λ is. sim_stops (state rows pend false true) x ws (job_stops rows pend true x known is (refl, refl))
      | Some rs ↦ λ is.
          sim_goes (state rows pend false true) (state rs (full (codes "job") x) true true) x ws
          (job_goes rows pend rs true x known is (refl, refl))
          ∙ tails ws rs (full (codes "job") x) true known_job (names_placed rs x)
    ] refl

-- ---- one word before `--`

pub no_sub : (pend : Pend) (x : Text) → subcommand_met [] (waiting_of pend) x ≡ None
no_sub nothing x = refl
no_sub (full id v) x = refl
no_sub (wants name) x = refl

pub dashes_go : (rows : List Row) (pend : Pend) (named : Bool) (x : Text) → bytes_eq x dashes ≡ true
    → Goes (state rows pend named false) x (state rows pend named true)
unfolding walked
dashes_go rows pend named x is = record { fault = rw (no_sub pend x, is) refl; after_is = rw (no_sub pend x, is) refl }

-- an option that isn't known
pub unknown_stops : (rows : List Row) (pend : Pend) (named : Bool) (x name : Text) (v : Option Text)
    → bytes_eq x dashes ≡ false → long_of x ≡ Some (name, v) → is_option_name name ≡ false
    → Some_of (turn_fault top [] (state rows pend named false) x)
unknown_stops rows pend named x name v plain long known =
    let none : arg_by_long rules name ≡ None = by_long name ∙ ap (λ b. if b then Some (opt name) else None) known in
    record { first = kind.UnknownArgument; rest = []; is = rw (no_sub pend x, plain, long, none) refl }

pub option_stops : (rows : List Row) (pend : Pend) (named : Bool) (x name : Text) (v : Option Text)
    → bytes_eq x dashes ≡ false → long_of x ≡ Some (name, v) → is_option_name name ≡ true
    → KnownPend pend → settle_to rows pend ≡ None → Some_of (turn_fault top [] (state rows pend named false) x)
option_stops rows pend named x name (Some v) plain long named_so known is =
    let found : arg_by_long rules name ≡ Some (opt name) =
    by_long name ∙ ap (λ b. if b then Some (opt name) else None) named_so in
    let f = fails rows pend known is in
    record { first = f.first; rest = f.rest; is = rw (no_sub pend x, plain, long, found, f.is) refl }
option_stops rows pend named x name None plain long named_so known is =
    let found : arg_by_long rules name ≡ Some (opt name) =
    by_long name ∙ ap (λ b. if b then Some (opt name) else None) named_so in
    let f = fails rows pend known is in
    record { first = f.first; rest = f.rest; is = rw (no_sub pend x, plain, long, found, f.is) refl }

pub option_goes : (rows : List Row) (pend : Pend) (rs : List Row) (named : Bool) (x name v : Text)
    → bytes_eq x dashes ≡ false → long_of x ≡ Some (name, Some v) → is_option_name name ≡ true
    → KnownPend pend → settle_to rows pend ≡ Some rs → has_row name rs ≡ false
    → Goes (state rows pend named false) x (state (rs ++ row name v ∷ []) nothing named false)
unfolding walked
option_goes rows pend rs named x name v plain long named_so known is new =
    let found : arg_by_long rules name ≡ Some (opt name) =
    by_long name ∙ ap (λ b. if b then Some (opt name) else None) named_so in
    let s = settles rows pend rs known is in
    let k = known_option name named_so in
    record {
      fault = rw (no_sub pend x, plain, long, found, s.fault, s.rows_is, new) refl;
      after_is = rw (no_sub pend x, plain, long, found, s.rows_is)
          (ap (λ q. state q nothing named false) (used-new name v rs new));
    }

pub option_repeats : (rows : List Row) (pend : Pend) (rs : List Row) (named : Bool) (x name v : Text)
    → bytes_eq x dashes ≡ false → long_of x ≡ Some (name, Some v) → is_option_name name ≡ true
    → KnownPend pend → settle_to rows pend ≡ Some rs → has_row name rs ≡ true
    → Some_of (turn_fault top [] (state rows pend named false) x)
option_repeats rows pend rs named x name v plain long named_so known is old =
    let found : arg_by_long rules name ≡ Some (opt name) =
    by_long name ∙ ap (λ b. if b then Some (opt name) else None) named_so in
    let s = settles rows pend rs known is in
    record {
      first = kind.ArgumentConflict;
      rest = [];
      is = rw (no_sub pend x, plain, long, found, s.fault, s.rows_is, old) refl;
    }

pub option_waits : (rows : List Row) (pend : Pend) (rs : List Row) (named : Bool) (x name : Text)
    → bytes_eq x dashes ≡ false → long_of x ≡ Some (name, None) → is_option_name name ≡ true
    → KnownPend pend → settle_to rows pend ≡ Some rs
    → Goes (state rows pend named false) x (state rs (wants name) named false)
unfolding walked
option_waits rows pend rs named x name plain long named_so known is =
    let found : arg_by_long rules name ≡ Some (opt name) =
    by_long name ∙ ap (λ b. if b then Some (opt name) else None) named_so in
    let s = settles rows pend rs known is in
    record {
      fault = rw (no_sub pend x, plain, long, found, s.fault) refl;
      after_is = rw (no_sub pend x, plain, long, found, s.rows_is) refl;
    }

pub flags_stop : (n : ℕ) (flags : Text) (c : ℕ) (h : Held) → first_flag flags ≡ Some c
    → Some_of (flags_fault rules false (suc n) flags 0 h)
unfolding flags_fault
flags_stop n flags c h is = record { first = kind.UnknownArgument; rest = []; is = rw is refl }

pub no_flags : (n : ℕ) (flags : Text) (h : Held) → first_flag flags ≡ None → flags_fault rules false n flags 0 h ≡ []
unfolding flags_fault
no_flags zero flags h is = refl
no_flags (suc n) flags h is = rw is refl

pub no_bundle : (n : ℕ) (flags : Text) (h : Held) → first_flag flags ≡ None
    → bundle_met rules n flags 0 walk.plain h ≡ (h, walk.plain)
unfolding bundle_met
no_bundle zero flags h is = refl
no_bundle (suc n) flags h is = rw is refl

pub flag_stops : (rows : List Row) (pend : Pend) (named : Bool) (x : Text) (y : ℕ) (ys : Text) (c : ℕ)
    → bytes_eq x dashes ≡ false → long_of x ≡ None → short_of x ≡ Some (y ∷ ys) → first_flag (y ∷ ys) ≡ Some c
    → Some_of (turn_fault top [] (state rows pend named false) x)
flag_stops rows pend named x y ys c plain long short is =
    let f = flags_stop (length ys) (y ∷ ys) c (held rows (pending_of pend)) is in
    record { first = f.first; rest = f.rest; is = rw (no_sub pend x, plain, long, short, f.is) refl }

-- a word that is no flag
pub data Plain (x : Text) : Type 0 where
  bare : short_of x ≡ None → Plain x
  dashed : (flags : Text) → short_of x ≡ Some flags → first_flag flags ≡ None → Plain x

pub plain_idle : (rows : List Row) (pend : Pend) (position : ℕ) (x : Text) → waiting_of pend ≡ idle
    → bytes_eq x dashes ≡ false → long_of x ≡ None → Plain x → is_plain false pend rows position x
plain_idle rows pend position x waits plain long (bare short) =
    (rw (waits, plain, long, short) refl, rw (waits, plain, long, short) refl)
plain_idle rows pend position x waits plain long (dashed flags short is) = (
  rw (waits, plain, long, short, no_bundle (length flags) flags (held rows (pending_of pend)) is) refl,
  rw (waits, plain, long, short, no_flags (length flags) flags (held rows (pending_of pend)) is) refl,
)

pub value_goes : (rows : List Row) (name : Text) (named : Bool) (x : Text) → is_option_name name ≡ true
    → bytes_eq x dashes ≡ false → long_of x ≡ None → Plain x
    → Goes (state rows (wants name) named false) x (state rows (full name x) named false)
unfolding walked
value_goes rows name named x known plain long (bare short) =
    let same : bytes_eq name name ≡ true = (bytes_eq-Decides name name).1 refl in
    record { fault = rw (plain, long, short) refl; after_is = rw (plain, long, short, by_id name known, same) refl }
value_goes rows name named x known plain long (dashed flags short is) =
    let same : bytes_eq name name ≡ true = (bytes_eq-Decides name name).1 refl in
    let none = no_bundle (length flags) flags (held rows (Some (name, []))) is in
    record {
      fault = rw (plain, long, short, none, no_flags (length flags) flags (held rows (Some (name, []))) is) refl;
      after_is = rw (plain, long, short, none, by_id name known, same) refl;
    }
