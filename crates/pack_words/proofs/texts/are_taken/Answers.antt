use Rattle.std.proofs.Common.{rules, ◌≡◌, Bool, true, false, not, Option, Some, None, option_map, is_some, refl}
use Rattle.pack_words.specs.Job.{takes_settings, takes_number, takes_proposals, takes_facts, takes_bounds}
use Rattle.pack_words.specs.Said.{plain_found}
use Rattle.pack_words.proofs.texts.are_taken.Goals as goal

-- an option is not given exactly where none was found
none_given : {A B : Type 0} (f : A → B) (found : Option A) (is_none : Bool) → is_some found ≡ not is_none
    → not (is_some (option_map f found)) ≡ is_none
none_given f None true e = refl
none_given f None false e = cc
none_given f (Some x) true e = cc
none_given f (Some x) false e = refl

-- the other jobs take settings alone
pub returns-in_default : goal.returns-in_default
returns-in_default c =
    let found = plain_found c.args.found in
    let settings : takes_settings c.args.job ≡ true = search rules in
    let number : takes_number c.args.job ≡ false = search rules in
    let proposals : takes_proposals c.args.job ≡ false = search rules in
    let facts : takes_facts c.args.job ≡ false = search rules in
    let bounds : takes_bounds c.args.job ≡ false = search rules in
    let no_number : not (is_some found.number) ≡ c.is_none-in_default.result =
    none_given _ c.args.found.number c.is_none-in_default.result c.is_none-in_default.ensures in
    let no_proposals : not (is_some found.proposals) ≡ c.is_none.result =
    none_given _ c.args.found.proposals c.is_none.result c.is_none.ensures in
    let no_facts : not (is_some found.facts) ≡ c.is_none-factless.result =
    none_given _ c.args.found.facts c.is_none-factless.result c.is_none-factless.ensures in
    let no_bounds : not (is_some found.bounds) ≡ c.is_none-boundless.result =
    none_given _ c.args.found.bounds c.is_none-boundless.result c.is_none-boundless.ensures in
    rw (settings, number, proposals, facts, bounds, no_number, no_proposals, no_facts, no_bounds) refl
