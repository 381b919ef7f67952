-- Numbers on the lines of a document, and the limits of documents.
use Rattle.std.specs.Prelude.{ℕ, ◌&&◌, ◌==◌, cond, Bool, List, [], ◌∷◌, length, Option, Some, None, Result, Ok, Err}
use Rattle.std.specs.Prelude.{nat_le}
use Rattle.std.specs.List.{list_all}
use Rattle.text_terms.specs.Lines.{number_of, same_bytes}
use Rattle.packing_terms.specs.Results.{◌>>=◌}
use Rattle.verdict_terms.specs.declared.reason.Reason.{Reason}
use Rattle.verdict_terms.specs.Reasons.{form, range}

-- the most that a coordinate is
abbrev pub max_coordinate : ℕ
max_coordinate = 4294967295

-- refused with the reason unless the test holds, else what follows
abbrev pub require : {A : Type 0} → Bool → Reason → Result A Reason → Result A Reason
require test reason rest = cond test rest (Err reason)

-- a word that has to be a number
abbrev pub wanted_by : Option ℕ → Result ℕ Reason
wanted_by (Some n) = Ok n
wanted_by None = Err form

abbrev pub wanted : List ℕ → Result ℕ Reason
wanted word = wanted_by (number_of word)

-- words that all have to be numbers
abbrev pub all_wanted : List (List ℕ) → Result (List ℕ) Reason
all_wanted [] = Ok []
all_wanted (word ∷ words) = wanted word >>= λ n. all_wanted words >>= λ ns. Ok (n ∷ ns)

-- a line of the first word `key`, with `count` numbers behind it
abbrev pub numbers_line : List ℕ → ℕ → List (List ℕ) → Result (List ℕ) Reason
numbers_line key count [] = Err form
numbers_line key count (word ∷ words) =
    cond (same_bytes word key && (length words == count)) (all_wanted words) (Err form)

-- the coordinates that numbers are
abbrev pub are_coordinates : List ℕ → Bool
are_coordinates ns = list_all (λ n. nat_le n max_coordinate) ns

abbrev pub coordinates : List ℕ → Result (List ℕ) Reason
coordinates ns = require (are_coordinates ns) range (Ok ns)
