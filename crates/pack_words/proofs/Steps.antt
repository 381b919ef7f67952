-- One step of `clap`'s walk over the words of the command line.
use Rattle.std.proofs.Common.{◌≡◌, ◌||◌, ◌&&◌, ◌∙◌, ℕ, List, [], ◌∷◌, ◌++◌, Some, None, Bool, true, false, not, refl}
use Rattle.std.proofs.Common.{ap, if◌then◌else◌, codes, is_some, append-nil}
use Rattle.std.specs.Str.{bytes_eq}
use Rattle.clap.specs.Walk.{Text, Rule, Row, arg_by_long, arg_by_id, has_row, without, at_row, used}
use Rattle.clap.specs.Simple.{Shape, built, new_rule}
use Rattle.clap.specs.Kinds.{or_else}
use Rattle.clap.specs.declared.parser.matches.ValueSource.TheVariants.{CommandLine}
use Rattle.clap.specs.declared.builder.value_parser.ValueParser.TheVariants as vp
use Rattle.clap.specs.declared.builder.action.ArgAction.TheVariants.{Set}
use Rattle.std.proofs.lemmas.Slice.Eq.{bytes_eq-Decides}
use Rattle.pack_words.specs.Command.{pack_app}
use Rattle.pack_words.proofs.ClapReading.{row}
use Rattle.pack_words.specs.Items.{is_option_name, option_names}
use Rattle.std.proofs.Common.{find, map}
use Rattle.std.specs.List.{list_any}
use Rattle.clap.specs.Walk.{more_values, has_long, takes_several}
use Rattle.clap.specs.Faults.{use_fault}
use Rattle.clap.specs.declared.error.kind.ErrorKind.TheVariants as kind

pub bytes_same : (xs ys : List ℕ) → bytes_eq xs ys ≡ true → xs ≡ ys
bytes_same xs ys is = (bytes_eq-Decides xs ys).0 is

abbrev pub top : Shape
top = (built pack_app).top

abbrev pub rules : List Rule
rules = (built pack_app).top.rules

-- an option once the command is built
abbrev pub opt : Text → Rule
opt name = record (new_rule name) {
  long = Some name;
  action = Some Set;
  parser = Some vp.String;
  range = Some (record { start_inclusive = 1; end_inclusive = 1 });
}

abbrev pub job : Rule
job = record (new_rule (codes "job")) {
  required = true;
  index = Some 1;
  action = Some Set;
  parser = Some vp.String;
  range = Some (record { start_inclusive = 1; end_inclusive = 1 });
}

pub at_row-new : (id : Text) (change : Row → List Row) (missing rows : List Row) → has_row id rows ≡ false
    → at_row id change missing rows ≡ rows ++ missing
at_row-new id change missing [] is = refl
at_row-new id change missing (r ∷ rs) is =
    elim (bytes_eq r.id id) as (λ b. (b || has_row id rs) ≡ false
    → (if b then change r ++ rs else r ∷ at_row id change missing rs) ≡ r ∷ (rs ++ missing)) [
      | true ↦ λ h. cc
      | false ↦ λ h. ap (λ xs. r ∷ xs) (at_row-new id change missing rs h)
    ] is

-- a first use of an option adds its row
pub used-new : (name value : Text) (rows : List Row) → has_row name rows ≡ false
    → used (opt name) (value ∷ []) rows ≡ rows ++ row name value ∷ []
used-new name value rows is =
    let same : without name rows ≡ rows = at_row-new name (λ _. []) [] rows is ∙ append-nil rows in
    rw same (at_row-new name (more_values CommandLine (value ∷ [])) (row name value ∷ []) rows is)

pub job_used-new : (value : Text) (rows : List Row) → has_row (codes "job") rows ≡ false
    → used job (value ∷ []) rows ≡ rows ++ row (codes "job") value ∷ []
job_used-new value rows is =
    let same : without (codes "job") rows ≡ rows = at_row-new (codes "job") (λ _. []) [] rows is ∙ append-nil rows in
    rw same (at_row-new (codes "job") (more_values CommandLine (value ∷ [])) (row (codes "job") value ∷ []) rows is)

-- which option a name names
abbrev pub named_by : Text → Rule → Bool
named_by name a = not (is_some a.index) && has_long a name

pub chain : (name : Text) (ns : List Text)
    → find (named_by name) (map opt ns ++ job ∷ [])
    ≡ (if list_any (λ n. bytes_eq n name) ns then Some (opt name) else None)
chain name [] = refl
chain name (n ∷ ns) =
    elim (bytes_eq n name) as (λ b. bytes_eq n name ≡ b
    → (if (b || false) then Some (opt n) else find (named_by name) (map opt ns ++ job ∷ []))
    ≡ (if (b || list_any (λ m. bytes_eq m name) ns) then Some (opt name) else None)) [
      | true ↦ λ is. ap (λ m. Some (opt m)) (bytes_same n name is)
      | false ↦ λ is. chain name ns
    ] refl

pub by_long : (name : Text) → arg_by_long rules name ≡ (if is_option_name name then Some (opt name) else None)
by_long name = chain name option_names

pub chain_id : (name : Text) (ns : List Text) → list_any (λ n. bytes_eq n name) ns ≡ true
    → find (λ a. bytes_eq a.id name) (map opt ns ++ job ∷ []) ≡ Some (opt name)
chain_id name [] is = cc
chain_id name (n ∷ ns) is =
    elim (bytes_eq n name) as (λ b. bytes_eq n name ≡ b → (b || list_any (λ m. bytes_eq m name) ns) ≡ true
    → (if b then Some (opt n) else find (λ a. bytes_eq a.id name) (map opt ns ++ job ∷ [])) ≡ Some (opt name)) [
      | true ↦ λ same _. ap (λ m. Some (opt m)) (bytes_same n name same)
      | false ↦ λ _ h. chain_id name ns h
    ] refl is

pub by_id : (name : Text) → is_option_name name ≡ true → arg_by_id rules name ≡ Some (opt name)
by_id name is = chain_id name option_names is

-- what is known of an argument that may wait to be used
pub record Known (id : Text) : Type 0 where
  pub rule : Rule
  pub found : arg_by_id rules id ≡ Some rule
  pub use_new : (value : Text) (rows : List Row) → has_row id rows ≡ false
      → used rule (value ∷ []) rows ≡ rows ++ row id value ∷ []
  pub fault : (value : Text) (rows : List Row)
      → use_fault false rule (value ∷ []) rows ≡ (if has_row id rows then kind.ArgumentConflict ∷ [] else [])
  pub empty : (rows : List Row) → use_fault false rule [] rows ≡ kind.InvalidValue ∷ []
  pub single : takes_several rule ≡ false

pub repeated : (id : Text) (rows : List Row)
    → or_else (if (has_row id rows && true) then kind.ArgumentConflict ∷ [] else []) []
    ≡ (if has_row id rows then kind.ArgumentConflict ∷ [] else [])
repeated id rows = elim (has_row id rows) as
    (λ b. or_else (if (b && true) then kind.ArgumentConflict ∷ [] else []) []
    ≡ (if b then kind.ArgumentConflict ∷ [] else [])) [ true ↦ refl | false ↦ refl ]

pub known_option : (name : Text) → is_option_name name ≡ true → Known name
known_option name is = record {
  rule = opt name;
  found = by_id name is;
  use_new = used-new name;
  fault = λ value rows. repeated name rows;
  empty = λ rows. refl;
  single = refl;
}

pub known_job : Known (codes "job")
known_job = record {
  rule = job;
  found = refl;
  use_new = job_used-new;
  fault = λ value rows. repeated (codes "job") rows;
  empty = λ rows. refl;
  single = refl;
}
