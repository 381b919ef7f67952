-- What parts of the work of a refuter find.
use Rattle.std.specs.Prelude.{ℕ, Bool, true, ◌==◌, Option, Some, None}
use Rattle.verdict_terms.specs.declared.check_answers.RefuseCode.{RefuseCode}
use Rattle.verdict_terms.specs.declared.check_answers.FeedVerdict.{FeedVerdict}
use Rattle.verdict_terms.specs.declared.check_answers.FeedVerdict.TheVariants.{More, Done, Refused}

-- the refusal that an answer states
abbrev pub refusal_in : FeedVerdict → Option RefuseCode
refusal_in (Refused code) = Some code
refusal_in More = None
refusal_in Done = None

-- whether no family is begun, or one of this dimension
abbrev pub is_begun_in : Option ℕ → ℕ → Bool
is_begun_in None i = true
is_begun_in (Some j) i = j == i
